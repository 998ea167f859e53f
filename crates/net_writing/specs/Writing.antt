-- What Write owes. Assumes nothing.
use Rattle.std.specs.Prelude.{◌≡◌, ℕ, ◌<◌, ◌≤◌, List, ◌++◌, length, drop, Ok, Err, Result, ◌≢◌}
use Rattle.theory.specs.Nets.{Net}
use Rattle.texts.specs.NetText.{net_text}
use Rattle.net_writing.specs.declared.refusals.WriteRefusal.{WriteRefusal}
use Rattle.net_writing.specs.declared.refusals.WriteRefusal.TheVariants.{StyleCounts, BufferTooShort}

-- what Write owes for a net, the names of a sheet and a buffer, by what the buffer holds before and after: the number of names is tested first, then the length of the buffer
abbrev pub WriteOwes : Net → List (List ℕ) → List ℕ → List ℕ → Result ℕ WriteRefusal → Type 0
WriteOwes N names before after (Ok len) =
    (length names ≡ N.styles) × (len ≡ length (net_text N names)) × (len ≤ length before) × (after ≡ net_text N names ++ drop len before)
WriteOwes N names before after (Err (StyleCounts sheet net)) =
    (sheet ≡ length names) × (net ≡ N.styles) × (length names ≢ N.styles) × (after ≡ before)
WriteOwes N names before after (Err (BufferTooShort needed)) =
    (length names ≡ N.styles) × (needed ≡ length (net_text N names)) × (length before < needed) × (after ≡ before)
