-- What Write owes, told by numbers. Assumes nothing.
use Rattle.std.proofs.Common.{ℕ, ◌<◌, ◌≤◌, List, [], ◌∷◌, length, Ok, Err, Result, sym, subst, ap₂}
use Rattle.theory.specs.Nets.{Net}
use Rattle.theory.specs.Outcomes.{done, refused}
use Rattle.net_writing.specs.Refusals.{Answers, counts_differ, too_short, written, write_outcome}
use Rattle.net_writing.specs.Writing.{WriteOwes}
use Rattle.net_writing.specs.declared.refusals.WriteRefusal.{WriteRefusal}
use Rattle.net_writing.specs.declared.refusals.WriteRefusal.TheVariants.{StyleCounts, BufferTooShort}

pub answered : (N : Net) (names : List (List ℕ)) (before after : List ℕ) (r : Result ℕ WriteRefusal) → WriteOwes N names before after r → Answers N names (length before) (write_outcome r)
answered N names before after (Ok len) (count, is, room, text) =
    subst (λ l. Answers N names (length before) (done l)) (sym is) (written count (subst (λ l. l ≤ length before) is room))
answered N names before after (Err (StyleCounts sheet net)) (s, n, differ, same) =
    subst (λ o. Answers N names (length before) o) (ap₂ (λ a b. refused 13 (a ∷ b ∷ [])) (sym s) (sym n)) (counts_differ differ)
answered N names before after (Err (BufferTooShort needed)) (count, is, short, same) =
    subst (λ l. Answers N names (length before) (refused 6 (l ∷ []))) (sym is) (too_short count (subst (λ l. length before < l) is short))
