-- Nets: places for one wheel and one number of styles. Assumes nothing.
use Rattle.std.specs.Prelude.{ℕ, ◌<◌, ◌≤◌, List, [], length, slice_index_or}
use Rattle.theory.specs.Limits.{style_limit, place_limit}
use Rattle.theory.specs.Places.{Place, PlaceOn, LetsThrough}

-- two nets are the same if these are equal: k, the number of styles and, place by place, start values and cells
pub record Net : Type 0 where
  pub order : ℕ
  pub styles : ℕ
  pub places : List Place

-- place number i
abbrev pub place : Net → ℕ → Place
place N i = slice_index_or N.places i (record { start = 0; cells = [] })

-- a net lets a run through if all its places do
abbrev pub NetLetsThrough : Net → List ℕ → Type 0
NetLetsThrough N run = (i : ℕ) → i < length N.places → LetsThrough N.order (place N i) run

-- the limits of every net: a wheel of 2 to 9 positions, 1 to 16 styles, at most 256 places, and each place made for that wheel and those styles
pub record Proper (N : Net) : Type 0 where
  pub order_from_two : 2 ≤ N.order
  pub order_to_nine : N.order ≤ 9
  pub some_style : 1 ≤ N.styles
  pub few_styles : N.styles ≤ style_limit
  pub few_places : length N.places ≤ place_limit
  pub each_place : (i : ℕ) → i < length N.places → PlaceOn N.order N.styles (place N i)
