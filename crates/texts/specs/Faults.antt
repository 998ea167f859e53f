-- What can be wrong with a text, and the numbers by which it is refused. Assumes nothing.
use Rattle.std.specs.Prelude.{◌≡◌, ℕ, suc, ◌<◌, List, [], ◌∷◌, length, codes}
use Rattle.texts.specs.Forms.{style_line}
use Rattle.texts.specs.Lines.{line}

pub data Fault : Type 0 where
  -- a line that is not of its form, missing or extra; lines count from 1
  form : (line : ℕ) → Fault
  -- a name of a line that is repeated or unknown, and its byte in the line
  name : (line byte : ℕ) → Fault
  -- more bytes than a text may have
  over_long : (bytes : ℕ) → Fault
  -- a wheel that is not the one wanted
  other_wheel : (wheel : ℕ) → Fault

abbrev pub number : Fault → ℕ
number (form line) = 8
number (name line byte) = 9
number (over_long bytes) = 11
number (other_wheel wheel) = 12

abbrev pub values : Fault → List ℕ
values (form line) = line ∷ []
values (name line byte) = line ∷ byte ∷ []
values (over_long bytes) = bytes ∷ []
values (other_wheel wheel) = wheel ∷ []

-- a line is the first out of order and not of its form: the lines before it are in order, it does not go on in form, and the text does not end before it as a whole text does
pub record FormFault (InOrder InForm : ℕ → Type 0) (Whole : Type 0) (number : ℕ) : Type 0 where
  pub before : ℕ
  pub counted : number ≡ suc before
  pub in_order : InOrder before
  pub out_of_form : InForm (suc before) → ⊥
  pub not_whole : Whole → ⊥

-- a style line is the first line out of order: it is of its form, and an earlier line has its name
pub record RepeatedFault (InOrder InForm : ℕ → Type 0) (text : List ℕ) (number byte : ℕ) : Type 0 where
  pub before : ℕ
  pub counted : number ≡ suc before
  pub in_order : InOrder before
  pub in_form : InForm (suc before)
  pub name : List ℕ
  pub here : line text before ≡ style_line name
  pub earlier : ℕ
  pub is_earlier : earlier < before
  pub there : line text earlier ≡ style_line name
  pub at_the_name : byte ≡ length (codes "style=")
