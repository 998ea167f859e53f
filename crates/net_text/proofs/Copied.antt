-- A net that is written and read back. Assumes nothing.
use Rattle.std.proofs.Common.{◌≡◌, ℕ, List, ◌++◌, length, take, drop, IfSome, sym, refl, ◌∙◌, ap}
use Rattle.std.proofs.lemmas.List.{take_at}
use Rattle.lines.specs.Numbers.{fault_of}
use Rattle.lines.specs.declared.faults.TextFault.{TextFault}
use Rattle.lines.specs.declared.faults.TextFault.TheVariants.{Line, TooLong, OtherWheel, OutOfMemory}
use Rattle.texts.proofs.Restored.{restored}
use Rattle.texts.specs.NetText.{IsNetText, net_text}
use Rattle.wheel.specs.Laws.{WheelLaws}
use Rattle.wheel.specs.declared.turning.Wheel.{Ghosts}
use Rattle.net_reading.proofs.Exactly.{named}
use Rattle.net.specs.Views.{view}
use Rattle.net.specs.declared.nets.Net.{Net}
use Rattle.sheet.specs.Views.{names_of}
use Rattle.sheet.specs.declared.sheets.Sheet.{Sheet}

-- the front of the buffer is the text
pub front : (buffer text before : List ℕ) (len : ℕ) → len ≡ length text → buffer ≡ text ++ drop len before → take len buffer ≡ text
front buffer text before len count is = ap (take len) is ∙ take_at text (drop len before) len (sym count)

-- where the text is a net text, only memory can be wanting
pub out_of_memory : (k : ℕ) (text : List ℕ) (fault : TextFault) → IsNetText k text → IfSome (fault_of fault) (λ _. IsNetText k text → ⊥) → fault ≡ OutOfMemory
out_of_memory k text (Line fault) is never = absurd (never is)
out_of_memory k text (TooLong bytes) is never = absurd (never is)
out_of_memory k text (OtherWheel wheel) is never = absurd (never is)
out_of_memory k text OutOfMemory is never = refl

module _ {W : Type 0} (w : Ghosts W) (laws : WheelLaws w.K w.number) where
  pub same_net : (net other : Net W w) (sheet others : Sheet) → length (names_of sheet) ≡ (view w net).styles → length (names_of others) ≡ (view w other).styles → net_text (view w other) (names_of others) ≡ net_text (view w net) (names_of sheet) → (view w other ≡ view w net) × (names_of others ≡ names_of sheet)
  same_net net other sheet others count count' e = restored (view w other) (view w net) (names_of others) (names_of sheet) (named w laws other others count') (named w laws net sheet count) e
