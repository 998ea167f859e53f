-- What copying by a text owes: writing and reading back, and reading and writing again. Assumes nothing.
use Rattle.std.specs.Prelude.{◌≡◌, ℕ, ◌<◌, ◌≤◌, List, ◌++◌, length, drop, Ok, Err, Result}
use Rattle.theory.specs.Nets as N
use Rattle.lines.specs.declared.faults.TextFault.TheVariants.{OutOfMemory}
use Rattle.texts.specs.NetText.{net_text}
use Rattle.net_reading.specs.Reading.{Faulty}
use Rattle.net_writing.specs.Writing.{WriteOwes}
use Rattle.net_writing.specs.declared.refusals.WriteRefusal.TheVariants.{StyleCounts, BufferTooShort}
use Rattle.net_text.specs.declared.refusals.CopyRefusal.{CopyRefusal}
use Rattle.net_text.specs.declared.refusals.CopyRefusal.TheVariants.{Write, Read}

-- written and read back, a net and its names are restored; only Write refuses, unless memory is wanting
abbrev pub RestoredOwes : N.Net → List (List ℕ) → List ℕ → List ℕ → N.Net → List (List ℕ) → Result ℕ CopyRefusal → Type 0
RestoredOwes N names before after M others (Ok len) = WriteOwes N names before after (Ok len) × (M ≡ N) × (others ≡ names)
RestoredOwes N names before after M others (Err (Write refusal)) = WriteOwes N names before after (Err refusal)
RestoredOwes N names before after M others (Err (Read fault)) = WriteOwes N names before after (Ok (length (net_text N names))) × (fault ≡ OutOfMemory)

-- the net and the names are those of the text
abbrev pub HoldsText : List ℕ → N.Net → List (List ℕ) → Type 0
HoldsText text N names = (length names ≡ N.styles) × (text ≡ net_text N names)

-- read and written again, a text comes out as it went in; Write refuses only a buffer that is shorter than the text, and then the net and the names have been read
abbrev pub RewrittenOwes : ℕ → List ℕ → List ℕ → List ℕ → N.Net → List (List ℕ) → Result ℕ CopyRefusal → Type 0
RewrittenOwes k text before after N names (Ok len) = HoldsText text N names × (len ≡ length text) × (len ≤ length before) × (after ≡ text ++ drop len before)
RewrittenOwes k text before after N names (Err (Write (StyleCounts sheet net))) = ⊥
RewrittenOwes k text before after N names (Err (Write (BufferTooShort needed))) = HoldsText text N names × (needed ≡ length text) × (length before < needed) × (after ≡ before)
RewrittenOwes k text before after N names (Err (Read fault)) = Faulty k text fault × (after ≡ before)
