-- What the makers of nets owe. Assumes nothing.
use Rattle.std.specs.Prelude.{◌≡◌, ℕ, ◌<◌, ◌≤◌, List, map, length, Ok, Err, Result, ◌≢◌, slice_set}
use Rattle.theory.specs.Limits.{style_limit, place_limit}
use Rattle.theory.specs.Nets as N
use Rattle.theory.specs.Places as P
use Rattle.wheel.specs.declared.turning.Wheel.{Ghosts}
use Rattle.net.specs.Views.{view, cell_of, idle_net}
use Rattle.net.specs.declared.cells.Cell.{Cell}
use Rattle.net.specs.declared.nets.Net.{Net}
use Rattle.net.specs.declared.nets.errors.NetError.{NetError}
use Rattle.net.specs.declared.nets.errors.NetError.TheVariants.{StyleCount, PlaceCount, OutOfMemory}
use Rattle.net.specs.declared.nets.errors.PlaceError.{PlaceError}
use Rattle.net.specs.declared.nets.errors.PlaceError.TheVariants.{NoSuchPlace, CellCount}

-- a number of styles that a net can have
pub record StyleCountGood (styles : ℕ) : Type 0 where
  pub some : 1 ≤ styles
  pub few : styles ≤ style_limit

-- the net with place number i replaced
abbrev pub with_place : N.Net → ℕ → P.Place → N.Net
with_place M i p = record { order = M.order; styles = M.styles; places = slice_set M.places i p }

module _ {W : Type 0} (w : Ghosts W) where
  -- the number of styles is tested first, then the number of places, and then memory is asked for
  abbrev pub IdleOwes : ℕ → ℕ → Result (Net W w) NetError → Type 0
  IdleOwes styles places (Ok net) = StyleCountGood styles × (places ≤ place_limit) × (view w net ≡ idle_net w styles places)
  IdleOwes styles places (Err (StyleCount s)) = (s ≡ styles) × (StyleCountGood styles → ⊥)
  IdleOwes styles places (Err (PlaceCount p)) = (p ≡ places) × StyleCountGood styles × (place_limit < places)
  IdleOwes styles places (Err OutOfMemory) = StyleCountGood styles × (places ≤ place_limit)

  -- the number of the place is tested first, then the number of cells
  abbrev pub PutOwes : Net W w → ℕ → W → List (Cell W) → Net W w → {E : Type 0} → Result E PlaceError → Type 0
  PutOwes before i start cells after (Ok _) =
      (i < length (view w before).places) × (length cells ≡ (view w before).styles)
      × (view w after ≡ with_place (view w before) i (record { start = w.number start; cells = map (cell_of w) cells }))
  PutOwes before i start cells after (Err NoSuchPlace) = length (view w before).places ≤ i
  PutOwes before i start cells after (Err CellCount) = (i < length (view w before).places) × (length cells ≢ (view w before).styles)
