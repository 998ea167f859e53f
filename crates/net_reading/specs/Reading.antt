-- What Read owes. Assumes nothing.
use Rattle.std.specs.Prelude.{◌≡◌, ℕ, suc, ◌≤◌, List, [], ◌∷◌, ◌++◌, length, IfSome, Ok, Err, Result, OnSome, ◌≢◌}
use Rattle.std.specs.Borrow.{Bor}
use Rattle.theory.specs.Nets as N
use Rattle.theory.specs.Outcomes.{Outcome, done, refused}
use Rattle.wheel.specs.declared.turning.Wheel.{Ghosts}
use Rattle.net.specs.Views.{view}
use Rattle.net.specs.declared.nets.Net.{Net}
use Rattle.sheet.specs.Views.{names_of}
use Rattle.sheet.specs.declared.sheets.Sheet.{Sheet as Names}
use Rattle.lines.specs.Numbers.{fault_of, number_of, values_of, out_of_memory}
use Rattle.lines.specs.declared.faults.Cause.TheVariants.{Form}
use Rattle.lines.specs.declared.faults.LineFault.{LineFault}
use Rattle.lines.specs.declared.faults.TextFault.{TextFault}
use Rattle.texts.specs.Faults.{Fault, number, values}
use Rattle.texts.specs.Forms.{StylesGood, wheel_line, styles_line}
use Rattle.texts.specs.Limits.{text_limit}
use Rattle.texts.specs.Lines.{line_feed, text_of}
use Rattle.texts.specs.NetFaults.{FirstFault}
use Rattle.texts.specs.NetText.{net_opening, net_end, net_text, IsNetText}

-- the fault is the text's first on the wheel of order k; want of memory says nothing of the text
abbrev pub Faulty : ℕ → List ℕ → TextFault → Type 0
Faulty k text fault = IfSome (fault_of fault) (FirstFault k text)

-- the number of styles and the rest, where the first three lines are in order on the wheel of order k
abbrev pub HeadOwes : ℕ → List ℕ → Result (ℕ × Bor (List ℕ)) TextFault → Type 0
HeadOwes k text (Ok (n, rest)) = StylesGood n × (length text ≤ text_limit) × (text ≡ text_of (net_opening ∷ wheel_line k ∷ styles_line n ∷ []) ++ rest.now)
HeadOwes k text (Err fault) = Faulty k text fault

-- the bytes are the end line and nothing else, or one of its two faults
pub data NoEnd (line : ℕ) (bytes : List ℕ) (fault : LineFault) : Type 0 where
  missing : fault ≡ record { line = line; cause = Form } → ((rest : List ℕ) → bytes ≢ net_end ++ (line_feed ∷ rest)) → NoEnd line bytes fault
  extra : {rest : List ℕ} → fault ≡ record { line = suc line; cause = Form } → bytes ≡ net_end ++ (line_feed ∷ rest) → (rest ≢ []) → NoEnd line bytes fault

abbrev pub EndOwes : {A : Type 0} → ℕ → List ℕ → Result A LineFault → Type 0
EndOwes line bytes (Ok x) = bytes ≡ net_end ++ (line_feed ∷ [])
EndOwes line bytes (Err fault) = NoEnd line bytes fault

-- a net and names for its styles whose text this is, or the text's first fault
abbrev pub ReadOwes : {A : Type 0} → ℕ → List ℕ → N.Net → List (List ℕ) → Result A TextFault → Type 0
ReadOwes k text N names (Ok x) = (length names ≡ N.styles) × (text ≡ net_text N names)
ReadOwes k text N names (Err fault) = Faulty k text fault

-- refused where the text is no net text on the wheel of order k, and only there; want of memory says nothing
abbrev pub RefusedExactly : {A : Type 0} → ℕ → List ℕ → Result A TextFault → Type 0
RefusedExactly k text (Ok x) = IsNetText k text
RefusedExactly k text (Err fault) = OnSome (fault_of fault) (IsNetText k text → ⊥)

-- a net and a sheet whose text this is, or the text's first fault
abbrev pub Parsed : {W : Type 0} → (w : Ghosts W) → List ℕ → Result (Net W w × Names) TextFault → Type 0
Parsed w text (Ok (net, sheet)) = (length (names_of sheet) ≡ (view w net).styles) × (text ≡ net_text (view w net) (names_of sheet))
Parsed w text (Err fault) = Faulty w.K text fault

-- what Read answers: a refusal by its number and its values
abbrev pub read_outcome : {A : Type 0} → Result A TextFault → Outcome A
read_outcome (Ok x) = done x
read_outcome (Err fault) = refused (number_of fault) (values_of fault)

-- a net text on the wheel of order k is taken, and any other text is refused by the number and the values of its first fault; or memory is wanting
pub data Answers (k : ℕ) (text : List ℕ) {A : Type 0} : Outcome A → Type 0 where
  taken : {x : A} → IsNetText k text → Answers k text (done x)
  faulty : (f : Fault) → FirstFault k text f → Answers k text (refused (number f) (values f))
  memory_wanting : Answers k text (refused out_of_memory [])
