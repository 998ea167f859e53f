-- The net of the example. Assumes nothing.
use Rattle.std.specs.Prelude.{ℕ, List, [], ◌∷◌, Some, None}
use Rattle.theory.specs.Nets as N
use Rattle.theory.specs.Places as P

abbrev tested : ℕ → ℕ → P.Cell
tested w t = record { wanted = Some w; turn = t }

abbrev untested : ℕ → P.Cell
untested t = record { wanted = None; turn = t }

abbrev from_zero : List P.Cell → P.Place
from_zero cells = record { start = 0; cells = cells }

-- head fills place 0 and body empties it; head and body test place 1 for 0 and quote complements it; quote tests place 2 for 1
abbrev pub sample : N.Net
sample = record {
  order = 2;
  styles = 3;
  places =
      from_zero (tested 0 1 ∷ tested 1 1 ∷ untested 0 ∷ [])
      ∷ from_zero (tested 0 0 ∷ tested 0 0 ∷ untested 1 ∷ [])
      ∷ from_zero (untested 0 ∷ untested 0 ∷ tested 1 0 ∷ [])
      ∷ [];
}
