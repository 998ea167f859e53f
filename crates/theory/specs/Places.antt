-- Places: what one shows, what it refuses, and which runs it lets through. Assumes nothing.
use Rattle.std.specs.Prelude.{◌≡◌, ℕ, ◌+◌, ◌*◌, ◌%◌, ◌<◌, List, length, take, Some, None, Option, slice_index, slice_index_or}
use Rattle.theory.specs.Positions.{position}
use Rattle.theory.specs.Sums.{sum}

-- what a place holds for one style: the wanted value if the style is tested, and the turn
pub record Cell : Type 0 where
  pub wanted : Option ℕ
  pub turn : ℕ

-- a start value, and a cell for each style
pub record Place : Type 0 where
  pub start : ℕ
  pub cells : List Cell

-- the cell of a style; a style past the last is not tested, and turns nothing
abbrev pub cell : Place → ℕ → Cell
cell p style = slice_index_or p.cells style (record { wanted = None; turn = 0 })

-- what a place shows at a position x: its start value plus each style's count times its turn, modulo k
abbrev pub shows : ℕ → Place → (ℕ → ℕ) → ℕ
shows k p x = (p.start + sum (length p.cells) (λ style. x style * (cell p style).turn)) % k

-- the value v is not the wanted one; where none is wanted, that is never so
abbrev pub Unwanted : Option ℕ → ℕ → Type 0
Unwanted None v = ⊥
Unwanted (Some w) v = v ≡ w → ⊥

-- a place refuses a style that it tests where it shows another value than the wanted one
abbrev pub Refuses : ℕ → Place → ℕ → (ℕ → ℕ) → Type 0
Refuses k p style x = Unwanted (cell p style).wanted (shows k p x)

-- a place lets a run through if it refuses no step of it; a step's position is that of the styles before it
abbrev pub LetsThrough : ℕ → Place → List ℕ → Type 0
LetsThrough k p run = (j : ℕ) → j < length run → Refuses k p (slice_index run j) (position k (take j run)) → ⊥

-- the cell's values are below k
pub record CellOn (k : ℕ) (c : Cell) : Type 0 where
  pub turn_below : c.turn < k
  pub wanted_below : (w : ℕ) → c.wanted ≡ Some w → w < k

-- a place for a wheel of order k and n styles: its values are below k, and it has one cell for each style
pub record PlaceOn (k n : ℕ) (p : Place) : Type 0 where
  pub one_cell_each : length p.cells ≡ n
  pub start_below : p.start < k
  pub cells_below : (style : ℕ) → style < n → CellOn k (cell p style)
