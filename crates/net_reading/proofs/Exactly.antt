-- A text is refused exactly where it is no net text. Assumes nothing.
use Rattle.std.proofs.Common.{◌≡◌, ℕ, List, length, IfSome, Err, refl}
use Rattle.lines.specs.Numbers.{at_line, fault_of}
use Rattle.lines.specs.declared.faults.TextFault.{TextFault}
use Rattle.lines.specs.declared.faults.TextFault.TheVariants.{Line, TooLong, OtherWheel, OutOfMemory}
use Rattle.texts.specs.Faults as F
use Rattle.texts.specs.NetText.{IsNetText, net_text, Named}
use Rattle.texts.proofs.OneFault.{not_both}
use Rattle.wheel.specs.Laws.{WheelLaws}
use Rattle.wheel.specs.declared.turning.Wheel.{Ghosts}
use Rattle.net.proofs.Proper.{proper}
use Rattle.net.specs.Views.{view}
use Rattle.net.specs.declared.nets.Net.{Net}
use Rattle.sheet.proofs.Proper.{names_formed}
use Rattle.sheet.specs.Views.{names_of}
use Rattle.sheet.specs.declared.sheets.Sheet.{Sheet}
use Rattle.net_reading.specs.Reading.{Faulty, Answers, faulty, memory_wanting, read_outcome}

pub refused_exactly : (k : ℕ) (text : List ℕ) (fault : TextFault) → Faulty k text fault → IfSome (fault_of fault) (λ _. IsNetText k text → ⊥)
refused_exactly k text (Line fault) first = λ is. not_both k text (at_line fault.line fault.cause) is first
refused_exactly k text (TooLong bytes) first = λ is. not_both k text (F.over_long bytes) is first
refused_exactly k text (OtherWheel wheel) first = λ is. not_both k text (F.other_wheel wheel) is first
refused_exactly k text OutOfMemory first = tt

-- a net and as many names make a net text
pub named : {W : Type 0} (w : Ghosts W) → WheelLaws w.K w.number → (net : Net W w) (sheet : Sheet) → length (names_of sheet) ≡ (view w net).styles → Named (view w net) (names_of sheet)
named w laws net sheet count = record { proper = proper w laws net; sheet = names_formed sheet; one_name_each = count }

pub accepted_exactly : {W : Type 0} (w : Ghosts W) → WheelLaws w.K w.number → (text : List ℕ) (net : Net W w) (sheet : Sheet) → length (names_of sheet) ≡ (view w net).styles → text ≡ net_text (view w net) (names_of sheet) → IsNetText w.K text
accepted_exactly w laws text net sheet count is = (
  view w net,
  names_of sheet,
  named w laws net sheet count,
  refl,
  is,
)

-- the number and the values that the code's fault stands for are those of the first fault
pub refused_by : (k : ℕ) (text : List ℕ) {A : Type 0} (fault : TextFault) → Faulty k text fault → Answers k text {A = A} (read_outcome (Err fault))
refused_by k text (Line fault) first = faulty (at_line fault.line fault.cause) first
refused_by k text (TooLong bytes) first = faulty (F.over_long bytes) first
refused_by k text (OtherWheel wheel) first = faulty (F.other_wheel wheel) first
refused_by k text OutOfMemory first = memory_wanting
