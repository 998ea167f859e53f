-- Which texts are refused as net texts on a wheel, and by what. Assumes nothing.
use Rattle.std.specs.Prelude.{◌≡◌, ℕ, suc, ◌<◌, ◌≤◌, ◌⊎◌, List, length}
use Rattle.theory.specs.Limits.{place_limit}
use Rattle.theory.specs.Places.{Place, PlaceOn}
use Rattle.texts.specs.Faults as F
use Rattle.texts.specs.Forms.{WheelGood, Formed, DifferentTo, wheel_line}
use Rattle.texts.specs.Limits.{text_limit}
use Rattle.texts.specs.Lines.{line}
use Rattle.texts.specs.NetText.{IsNetText, net_opening, net_end, place_line, places_line}

-- line number s of a net text's body: the number of places, a line for each place, and the end
pub data NetBody (k n p s : ℕ) (l : List ℕ) : Type 0 where
  counts_places : s ≡ 0 → l ≡ places_line p → NetBody k n p s l
  is_place : {i : ℕ} {place : Place} → s ≡ suc i → i < p → PlaceOn k n place → l ≡ place_line place → NetBody k n p s l
  ends : s ≡ suc p → l ≡ net_end → NetBody k n p s l

-- the first j lines are of the form of a net text's, on the wheel of order k with n styles and p places
pub record NetFormed (k n p : ℕ) (text : List ℕ) (j : ℕ) : Type 0 where
  pub few_places : p ≤ place_limit
  pub formed : Formed net_opening (NetBody k n p) k n text j

-- the first j lines are those of a net text on some wheel, but that names may repeat
abbrev pub InForm : List ℕ → ℕ → Type 0
InForm text j = (k n p : ℕ) × NetFormed k n p text j

-- the first j lines are in order for a net text on the wheel of order k
abbrev pub InOrder : ℕ → List ℕ → ℕ → Type 0
InOrder k text j = (n p : ℕ) × NetFormed k n p text j × DifferentTo n text j

-- the second line is the first out of order: it names another wheel
pub record WheelFault (k : ℕ) (text : List ℕ) (wheel : ℕ) : Type 0 where
  pub in_order : InOrder k text 1
  pub in_form : InForm text 2
  pub here : line text 1 ≡ wheel_line wheel
  pub good : WheelGood wheel
  pub other : wheel ≡ k → ⊥

-- the fault is that of the first line that is out of order: at each line the form, then the wheel, then the name; before any line, the length of the text
abbrev pub FirstFault : ℕ → List ℕ → F.Fault → Type 0
FirstFault k text (F.form line) = (length text ≤ text_limit) × F.FormFault (InOrder k text) (InForm text) (IsNetText k text) line
FirstFault k text (F.name line byte) = (length text ≤ text_limit) × F.RepeatedFault (InOrder k text) (InForm text) text line byte
FirstFault k text (F.over_long bytes) = (bytes ≡ length text) × (text_limit < length text)
FirstFault k text (F.other_wheel wheel) = (length text ≤ text_limit) × WheelFault k text wheel

-- on every wheel a text is a net text or has a first fault, never both, and never two
pub record OneAnswer : Type 0 where
  pub either : (k : ℕ) → WheelGood k → (text : List ℕ) → IsNetText k text ⊎ ((f : F.Fault) × FirstFault k text f)
  pub not_both : (k : ℕ) (text : List ℕ) (f : F.Fault) → IsNetText k text → FirstFault k text f → ⊥
  pub only_one : (k : ℕ) (text : List ℕ) (f g : F.Fault) → FirstFault k text f → FirstFault k text g → f ≡ g
