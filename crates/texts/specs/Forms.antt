-- The lines that both texts open with, and the form of every line. Assumes nothing.
use Rattle.std.specs.Prelude.{◌≡◌, ℕ, ◌+◌, ◌<◌, ◌≤◌, List, ◌++◌, length, codes, decimal, ◌≢◌}
use Rattle.theory.specs.Limits.{style_limit}
use Rattle.texts.specs.Lines.{lines, line}
use Rattle.texts.specs.Names.{NameForm}

abbrev pub wheel_line : ℕ → List ℕ
wheel_line k = codes "wheel=" ++ decimal k

abbrev pub styles_line : ℕ → List ℕ
styles_line n = codes "styles=" ++ decimal n

abbrev pub style_line : List ℕ → List ℕ
style_line name = codes "style=" ++ name

-- a wheel that a text may name
pub record WheelGood (k : ℕ) : Type 0 where
  pub from_two : 2 ≤ k
  pub to_nine : k ≤ 9

-- a number of styles that a text may name
pub record StylesGood (n : ℕ) : Type 0 where
  pub some : 1 ≤ n
  pub few : n ≤ style_limit

-- what line number i, counted from 0, of a text is, on the wheel of order k and with n styles: an opening line, the wheel, the number of styles, a line for each style, and then the lines of the body
pub data LineOf (opening : List ℕ) (Body : ℕ → List ℕ → Type 0) (k n i : ℕ) (l : List ℕ) : Type 0 where
  opens : i ≡ 0 → l ≡ opening → LineOf opening Body k n i l
  names_wheel : i ≡ 1 → l ≡ wheel_line k → LineOf opening Body k n i l
  counts_styles : i ≡ 2 → l ≡ styles_line n → LineOf opening Body k n i l
  names_style : {s : ℕ} {name : List ℕ} → i ≡ 3 + s → s < n → NameForm name → l ≡ style_line name → LineOf opening Body k n i l
  in_body : {s : ℕ} → i ≡ 3 + n + s → Body s l → LineOf opening Body k n i l

-- the text has j lines, and these are of their form
pub record Formed (opening : List ℕ) (Body : ℕ → List ℕ → Type 0) (k n : ℕ) (text : List ℕ) (j : ℕ) : Type 0 where
  pub wheel_good : WheelGood k
  pub styles_good : StylesGood n
  pub there : j ≤ length (lines text)
  pub each : (i : ℕ) → i < j → LineOf opening Body k n i (line text i)

-- no two of the style lines among the first j lines are equal
abbrev pub DifferentTo : ℕ → List ℕ → ℕ → Type 0
DifferentTo n text j = (a b : ℕ) → a < b → b < n → 3 + b < j → line text (3 + a) ≢ line text (3 + b)
