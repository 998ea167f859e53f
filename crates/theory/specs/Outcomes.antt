-- What the calls on a galley owe, by the causes of their refusals. Assumes nothing.
use Rattle.std.specs.Prelude.{◌≡◌, ℕ, ◌<◌, ◌≤◌, List, [], ◌∷◌, length, Some, slice_index}
use Rattle.theory.specs.Limits.{run_limit}
use Rattle.theory.specs.Nets.{Net, place}
use Rattle.theory.specs.Places.{cell, shows}
use Rattle.theory.specs.Playing.{Accepts, FirstRefusing, Longest}
use Rattle.theory.specs.Positions.{position, Below}

-- what a call answers: a value, or a refusal by its number and the values that come with it
pub data Outcome (A : Type 0) : Type 0 where
  done : A → Outcome A
  refused : ℕ → List ℕ → Outcome A

-- what Set owes for a style, on a galley that has set the run
pub data SetOwes (N : Net) (run : List ℕ) (style : ℕ) : Outcome (Unit {0}) → Type 0 where
  -- a style not below the style count is refused by 3 with 0
  unknown_style : N.styles ≤ style → SetOwes N run style (refused 3 (0 ∷ []))
  -- else a style that a place refuses, by 7 with the first such place, what it shows and what it wants
  place_refuses : {i w : ℕ} → style < N.styles → FirstRefusing N run style i → (cell (place N i) style).wanted ≡ Some w → SetOwes N run style (refused 7 (i ∷ shows N.order (place N i) (position N.order run) ∷ w ∷ []))
  accepted : Accepts N run style → SetOwes N run style (done tt)

-- step j is the first whose style is not below n
pub record FirstUnknown (n : ℕ) (run : List ℕ) (j : ℕ) : Type 0 where
  pub within : j < length run
  pub unknown : n ≤ slice_index run j
  pub known_before : (i : ℕ) → i < j → slice_index run i < n

-- what Try owes for a run, on a galley that has set the styles before it
pub data TryOwes (N : Net) (before run : List ℕ) : Outcome ℕ → Type 0 where
  -- a run of more than 4,096 styles is refused by 2 with its length
  too_long : run_limit < length run → TryOwes N before run (refused 2 (length run ∷ []))
  -- else one with a style not below the style count, by 3 with the first such step
  unknown_style : {j : ℕ} → length run ≤ run_limit → FirstUnknown N.styles run j → TryOwes N before run (refused 3 (j ∷ []))
  -- else it answers how many styles were accepted
  set_so_far : {c : ℕ} → length run ≤ run_limit → Below N.styles run → Longest N before run c → TryOwes N before run (done c)
