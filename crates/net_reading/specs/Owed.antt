-- What the parts of a reader of net texts owe. Assumes nothing.
use Rattle.std.specs.Prelude.{◌≡◌, ℕ, suc, ◌+◌, ◌<◌, List, [], ◌++◌, map, length, Ok, Err, Result, slice_index_or}
use Rattle.std.specs.Borrow.{Bor}
use Rattle.theory.specs.Nets as N
use Rattle.theory.specs.Places as P
use Rattle.lines.specs.declared.faults.Cause.TheVariants.{Form}
use Rattle.lines.specs.declared.faults.LineFault.{LineFault}
use Rattle.texts.specs.Lines.{text_of}
use Rattle.texts.specs.NetText.{place_line}
use Rattle.net_reading.specs.Opening.{NoPlace}

-- the bytes open with the lines of these places, on the wheel of order k and for n styles
pub record PlacesOpen (k n : ℕ) (bytes : List ℕ) (places : List P.Place) (rest : List ℕ) : Type 0 where
  pub good : (i : ℕ) → i < length places → P.PlaceOn k n (slice_index_or places i (record { start = 0; cells = [] }))
  pub opens : bytes ≡ text_of (map place_line places) ++ rest

-- the lines of fewer than p places, and then none of a place; with n style lines, five lines stand before the first place
pub record PlacesBreak (k n p : ℕ) (bytes : List ℕ) (fault : LineFault) : Type 0 where
  pub places : List P.Place
  pub rest : List ℕ
  pub opens : PlacesOpen k n bytes places rest
  pub few : length places < p
  pub none : NoPlace k n rest
  pub cause : fault.cause ≡ Form
  pub line : fault.line ≡ suc (4 + n + length places)

-- a net of n styles and p places, whose lines the bytes open with, or the line where they break off
abbrev pub PlacesOwe : ℕ → ℕ → ℕ → List ℕ → N.Net → Result (Bor (List ℕ)) LineFault → Type 0
PlacesOwe k n p bytes N (Ok rest) = (N.styles ≡ n) × (length N.places ≡ p) × PlacesOpen k n bytes N.places rest.now
PlacesOwe k n p bytes N (Err fault) = PlacesBreak k n p bytes fault
