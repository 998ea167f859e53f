-- Runs that are accepted one style after the other. Assumes nothing.
use Rattle.std.proofs.Common.{◌≡◌, ℕ, List, [], ◌∷◌, ◌++◌, length, sym, subst₂, ⊎_elim, arith}
use Rattle.std.proofs.lemmas.List.{take-append-le, take_at, get_or_append_left, get_or_at, length_push}
use Rattle.std.proofs.lemmas.Bool.{cases_lt}
use Rattle.theory.specs.Nets.{Net}
use Rattle.theory.specs.Playing.{Accepts, Accepted, AcceptedAreLetThrough}

pub accepted_none : (N : Net) → Accepted N []
accepted_none N j h = absurd (omega arith)

module _ (N : Net) (run : List ℕ) (style : ℕ) where
  -- what an accepted run that is one style longer says of its steps
  pub accepted_more : Accepted N run → Accepts N run style → Accepted N (run ++ style ∷ [])
  accepted_more before here j h =
      let long = length_push run style in
      ⊎_elim
      (λ below. subst₂ (Accepts N) (sym (take-append-le j run (style ∷ []) (omega arith))) (sym (get_or_append_left run (style ∷ []) 0 j below)) (before j below))
      (λ past.
      let last : length run ≡ j = omega arith in
      subst₂ (Accepts N) (sym (take_at run (style ∷ []) j last)) (sym (get_or_at run style [] 0 j last)) here)
      (cases_lt j (length run))

  pub accepted_last : Accepted N (run ++ style ∷ []) → Accepts N run style
  accepted_last all =
      let long = length_push run style in
      subst₂ (Accepts N) (take_at run (style ∷ []) (length run) mathlib.Core.Path.refl) (get_or_at run style [] 0 (length run) mathlib.Core.Path.refl) (all (length run) (omega arith))

pub accepted_are_let_through : AcceptedAreLetThrough
accepted_are_let_through N run = (
  λ all. (λ j h. (all j h).known, λ i within j h refuses. (all j h).free i within refuses),
  λ good j h. record { known = good.0 j h; free = λ i within refuses. good.1 i within j h refuses },
)
