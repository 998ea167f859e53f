-- The number of each refusal, and the values that come with it. Assumes nothing.
use Rattle.std.specs.Prelude.{◌≡◌, ℕ, ◌<◌, ◌≤◌, List, [], ◌∷◌, length, Ok, Err, Result, ◌≢◌}
use Rattle.theory.specs.Nets.{Net}
use Rattle.theory.specs.Outcomes.{Outcome, done, refused}
use Rattle.texts.specs.NetText.{net_text}
use Rattle.net_writing.specs.declared.refusals.WriteRefusal.{WriteRefusal}
use Rattle.net_writing.specs.declared.refusals.WriteRefusal.TheVariants.{StyleCounts, BufferTooShort}

abbrev pub write_outcome : Result ℕ WriteRefusal → Outcome ℕ
write_outcome (Ok len) = done len
write_outcome (Err (StyleCounts sheet net)) = refused 13 (sheet ∷ net ∷ [])
write_outcome (Err (BufferTooShort needed)) = refused 6 (needed ∷ [])

-- what Write answers for a net, names and a buffer of so many bytes: the number of names is tested first, then the length of the buffer
pub data Answers (N : Net) (names : List (List ℕ)) (room : ℕ) : Outcome ℕ → Type 0 where
  counts_differ : (length names ≢ N.styles) → Answers N names room (refused 13 (length names ∷ N.styles ∷ []))
  too_short : length names ≡ N.styles → room < length (net_text N names) → Answers N names room (refused 6 (length (net_text N names) ∷ []))
  written : length names ≡ N.styles → length (net_text N names) ≤ room → Answers N names room (done (length (net_text N names)))
