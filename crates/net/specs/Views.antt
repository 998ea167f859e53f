-- What cells and nets of the code stand for: each value by the number that the wheel gives it. Assumes nothing.
use Rattle.std.specs.Prelude.{◌≡◌, ℕ, ◌+◌, ◌*◌, ◌<◌, List, map, length, replicate, None, vec_items, vec_len, slice_index, slice_index_or}
use Rattle.std.specs.List.{range_with_len}
use Rattle.std.specs.Option.{option_map}
use Rattle.theory.specs.Nets as N
use Rattle.theory.specs.Places as P
use Rattle.wheel.specs.declared.turning.Wheel.{Ghosts}
use Rattle.net.specs.declared.cells.Cell.{Cell}
use Rattle.net.specs.declared.nets.Net.{Net}

-- a cell that tests nothing and turns nothing
abbrev pub idle : P.Cell
idle = record { wanted = None; turn = 0 }

-- how many places a net has, as the code counts them
abbrev pub place_count : {W : Type 0} {w : Ghosts W} → Net W w → ℕ
place_count net = vec_len net.starts

module _ {W : Type 0} (w : Ghosts W) where
  abbrev pub cell_of : Cell W → P.Cell
  cell_of c = record { wanted = option_map w.number c.wanted; turn = w.number c.turn }

  -- the cell of place i for a style: cells lie by style, with one for each place
  abbrev pub cell_at : List W → List (Cell W) → ℕ → ℕ → P.Cell
  cell_at starts cells i style = slice_index_or (map cell_of cells) (style * length starts + i) idle

  abbrev pub place_at : ℕ → List W → List (Cell W) → ℕ → P.Place
  place_at styles starts cells i = record { start = slice_index (map w.number starts) i; cells = map (cell_at starts cells i) (range_with_len 0 styles) }

  -- the net of a number of styles, a start value for each place, and cells that lie by style
  abbrev pub laid_out : ℕ → List W → List (Cell W) → N.Net
  laid_out styles starts cells = record { order = w.K; styles = styles; places = map (place_at styles starts cells) (range_with_len 0 (length starts)) }

  abbrev pub view : Net W w → N.Net
  view net = laid_out net.styles (vec_items net.starts) (vec_items net.cells)

  -- these are the cells of all places for one style
  pub record CellsFor (net : Net W w) (style : ℕ) (cells : List (Cell W)) : Type 0 where
    pub known : style < net.styles
    pub row : map cell_of cells ≡ map (λ p. P.cell p style) (view net).places
    pub count : length cells ≡ place_count net

  -- a net whose places all start at 0, test nothing and turn nothing
  abbrev pub idle_net : ℕ → ℕ → N.Net
  idle_net styles places = record { order = w.K; styles = styles; places = replicate places (record { start = 0; cells = replicate styles idle }) }
