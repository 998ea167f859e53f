-- Which texts are refused as case texts, and by what. Assumes nothing.
use Rattle.std.specs.Prelude.{◌≡◌, ℕ, suc, ◌+◌, ◌<◌, ◌≤◌, ◌⊎◌, List, [], ◌∷◌, ◌++◌, length, take, codes, slice_index_or}
use Rattle.std.specs.List.{flat_map}
use Rattle.texts.specs.CaseText.{IsCaseText, case_opening, case_end, run_line}
use Rattle.texts.specs.Faults as F
use Rattle.texts.specs.Forms.{Formed, DifferentTo, styles_line, style_line}
use Rattle.texts.specs.Limits.{text_limit}
use Rattle.texts.specs.Lines.{line}
use Rattle.texts.specs.Names.{NamesFormed}

-- line number s of a case text's body: a line for each of r runs, and the end
pub data CaseBody (r s : ℕ) (l : List ℕ) : Type 0 where
  is_run : (run : List (List ℕ)) → s < r → NamesFormed run → l ≡ run_line run → CaseBody r s l
  ends : s ≡ r → l ≡ case_end → CaseBody r s l

-- the first j lines are those of a case text, but that names may repeat and runs may have other names
abbrev pub InForm : List ℕ → ℕ → Type 0
InForm text j = (k n r : ℕ) × Formed case_opening (CaseBody r) k n text j

-- one of the n style lines has the name
abbrev pub HasStyle : ℕ → List ℕ → List ℕ → Type 0
HasStyle n text name = (a : ℕ) × (a < n) × (line text (3 + a) ≡ style_line name)

-- the run lines among the first j lines have names of style lines only
abbrev pub KnownTo : ℕ → List ℕ → ℕ → Type 0
KnownTo n text j = (i : ℕ) (run : List (List ℕ)) (s : ℕ) → 3 + n ≤ i → i < j → NamesFormed run → line text i ≡ run_line run → s < length run → HasStyle n text (slice_index_or run s [])

-- the first j lines are in order for a case text
abbrev pub InOrder : List ℕ → ℕ → Type 0
InOrder text j = (k n r : ℕ) × Formed case_opening (CaseBody r) k n text j × DifferentTo n text j × KnownTo n text j

-- a run line is the first line out of order: it is of its form, and no style line has one of its names; the first such is told by its byte in the line
pub record UnknownFault (text : List ℕ) (number byte : ℕ) : Type 0 where
  pub before : ℕ
  pub counted : number ≡ suc before
  pub in_order : InOrder text before
  pub in_form : InForm text (suc before)
  pub styles : ℕ
  pub counted_styles : line text 2 ≡ styles_line styles
  pub run : List (List ℕ)
  pub named : NamesFormed run
  pub here : line text before ≡ run_line run
  pub first : ℕ
  pub within : first < length run
  pub unknown : HasStyle styles text (slice_index_or run first []) → ⊥
  pub known_before : (s : ℕ) → s < first → HasStyle styles text (slice_index_or run s [])
  pub at_the_name : byte ≡ length (codes "run=" ++ flat_map (λ name. name ++ (32 ∷ [])) (take first run))

-- the fault is that of the first line that is out of order: at each line the form, then the names; before any line, the length of the text
abbrev pub FirstFault : List ℕ → F.Fault → Type 0
FirstFault text (F.form line) = (length text ≤ text_limit) × F.FormFault (InOrder text) (InForm text) (IsCaseText text) line
FirstFault text (F.name line byte) = (length text ≤ text_limit) × (F.RepeatedFault (InOrder text) (InForm text) text line byte ⊎ UnknownFault text line byte)
FirstFault text (F.over_long bytes) = (bytes ≡ length text) × (text_limit < length text)
FirstFault text (F.other_wheel wheel) = ⊥

-- a text of at most 65,536 bytes is a case text or has a first fault, as every longer one has; never both, and never two
pub record OneAnswer : Type 0 where
  pub either : (text : List ℕ) → ((length text ≤ text_limit) × IsCaseText text) ⊎ ((f : F.Fault) × FirstFault text f)
  pub not_both : (text : List ℕ) (f : F.Fault) → length text ≤ text_limit → IsCaseText text → FirstFault text f → ⊥
  pub only_one : (text : List ℕ) (f g : F.Fault) → FirstFault text f → FirstFault text g → f ≡ g
