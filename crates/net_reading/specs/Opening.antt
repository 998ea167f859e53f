-- What the bytes of a place's line open with. Assumes nothing.
use Rattle.std.specs.Prelude.{◌≡◌, ℕ, ◌<◌, List, ◌∷◌, ◌++◌, map, Some, Option, ◌≢◌}
use Rattle.std.specs.List.{flat_map}
use Rattle.theory.specs.Places as P
use Rattle.texts.specs.Lines.{line_feed}
use Rattle.texts.specs.NetText.{digit, wanted_byte, cell_bytes, place_line}
use Rattle.wheel.specs.declared.turning.Wheel.{Ghosts}
use Rattle.net.specs.Views.{cell_of}
use Rattle.net.specs.declared.cells.Cell.{Cell}

-- the byte is no digit below k
abbrev pub NoDigit : ℕ → ℕ → Type 0
NoDigit k byte = (d : ℕ) → d < k → byte ≢ digit d

-- the byte is neither a full stop nor a digit below k
abbrev pub NoWanted : ℕ → ℕ → Type 0
NoWanted k byte = (o : Option ℕ) → ((w : ℕ) → o ≡ Some w → w < k) → byte ≢ wanted_byte o

-- the bytes open with no cell whose values are below k
abbrev pub NoCell : ℕ → List ℕ → Type 0
NoCell k bytes = (c : P.Cell) (rest : List ℕ) → P.CellOn k c → bytes ≢ cell_bytes c ++ rest

-- the bytes open with no n cells whose values are below k
abbrev pub NoCells : ℕ → ℕ → List ℕ → Type 0
NoCells k n bytes = (place : P.Place) (rest : List ℕ) → P.PlaceOn k n place → bytes ≢ flat_map cell_bytes place.cells ++ rest

-- the bytes open with no line of a place for n styles on the wheel of order k
abbrev pub NoPlace : ℕ → ℕ → List ℕ → Type 0
NoPlace k n bytes = (place : P.Place) (rest : List ℕ) → P.PlaceOn k n place → bytes ≢ place_line place ++ (line_feed ∷ rest)

-- the place of a start value and cells
abbrev pub place_of : {W : Type 0} → Ghosts W → W → List (Cell W) → P.Place
place_of w start cells = record { start = w.number start; cells = map (cell_of w) cells }
