-- What stands at each line of a text in form, read off the table of lines. Assumes nothing.
use Rattle.std.proofs.Common.{◌≡◌, ℕ, suc, ◌+◌, ◌<◌, List, [], ◌∷◌, ◌++◌, length, get_or, sym, refl, ap, ◌∙◌, subst, arith}
use Rattle.std.specs.List.{AllByRecursion as All}
use Rattle.std.proofs.ByRecursion.{All-push}
use Rattle.std.proofs.lemmas.List.{append_assoc, get_or_append_left, get_or-append_right, length-append, nil_from_length}
use Rattle.texts.specs.Forms.{wheel_line, styles_line, style_line, LineOf, opens, names_wheel, counts_styles, names_style, in_body, Formed}
use Rattle.texts.specs.Lines.{line_feed, ended, text_of, lines, line}
use Rattle.texts.specs.Names.{NameForm}
use Rattle.texts.proofs.Lines.{Free, lines_text_of, text_of_append, ended_rest, first_line}

module _ (opening : List ℕ) (Body : ℕ → List ℕ → Type 0) (k n i : ℕ) (l : List ℕ) where
  pub at_opening : i ≡ 0 → LineOf opening Body k n i l → l ≡ opening
  at_opening at (opens e is) = is
  at_opening at (names_wheel e is) = absurd (omega arith)
  at_opening at (counts_styles e is) = absurd (omega arith)
  at_opening at (names_style e h form is) = absurd (omega arith)
  at_opening at (in_body e body) = absurd (omega arith)

  pub at_wheel : i ≡ 1 → LineOf opening Body k n i l → l ≡ wheel_line k
  at_wheel at (opens e is) = absurd (omega arith)
  at_wheel at (names_wheel e is) = is
  at_wheel at (counts_styles e is) = absurd (omega arith)
  at_wheel at (names_style e h form is) = absurd (omega arith)
  at_wheel at (in_body e body) = absurd (omega arith)

  pub at_styles : i ≡ 2 → LineOf opening Body k n i l → l ≡ styles_line n
  at_styles at (opens e is) = absurd (omega arith)
  at_styles at (names_wheel e is) = absurd (omega arith)
  at_styles at (counts_styles e is) = is
  at_styles at (names_style e h form is) = absurd (omega arith)
  at_styles at (in_body e body) = absurd (omega arith)

  pub at_style : (s : ℕ) → i ≡ 3 + s → s < n → LineOf opening Body k n i l → (name : List ℕ) × NameForm name × (l ≡ style_line name)
  at_style s at h (opens e is) = absurd (omega arith)
  at_style s at h (names_wheel e is) = absurd (omega arith)
  at_style s at h (counts_styles e is) = absurd (omega arith)
  at_style s at h (names_style {name = name} e below form is) = (name, form, is)
  at_style s at h (in_body e body) = absurd (omega arith)

  pub at_body : (s : ℕ) → i ≡ 3 + n + s → LineOf opening Body k n i l → Body s l
  at_body s at (opens e is) = absurd (omega arith)
  at_body s at (names_wheel e is) = absurd (omega arith)
  at_body s at (counts_styles e is) = absurd (omega arith)
  at_body s at (names_style e below form is) = absurd (omega arith)
  at_body s at (in_body {s = t} e body) = let same : t ≡ s = omega arith in subst (λ z. Body z l) same body

-- the text begins with these lines, and the rest comes after them
pub record Done (text : List ℕ) (ls : List (List ℕ)) (rest : List ℕ) : Type 0 where
  pub is : text ≡ text_of ls ++ rest
  pub free : All Free ls

module _ {text : List ℕ} {ls : List (List ℕ)} {rest : List ℕ} (done : Done text ls rest) where
  pub done_lines : lines text ≡ ls ++ lines rest
  done_lines = ap lines done.is ∙ lines_text_of ls rest done.free

  pub done_count : length (lines text) ≡ length ls + length (lines rest)
  done_count = ap length done_lines ∙ length-append ls (lines rest)

  pub done_line : (i : ℕ) → i < length ls → line text i ≡ get_or ls i []
  done_line i h = ap (λ m. get_or m i []) done_lines ∙ get_or_append_left ls (lines rest) [] i h

  -- the line after them
  pub next_line : line text (length ls) ≡ get_or (lines rest) 0 []
  next_line =
      ap (λ m. get_or m (length ls) []) done_lines ∙ get_or-append_right ls (lines rest) (length ls) (length ls) [] refl (omega arith) ∙ ap (λ i. get_or (lines rest) i []) (omega arith)

  pub done_more : (l after : List ℕ) → rest ≡ l ++ (line_feed ∷ after) → Free l → Done text (ls ++ (l ∷ [])) after
  done_more l after e free = record {
    is =
        done.is ∙ ap (λ r. text_of ls ++ r) (e ∙ sym (ended_rest l after))
        ∙ sym (append_assoc (text_of ls) (ended l) after)
        ∙ ap (λ t. t ++ after) (ap (λ t. text_of ls ++ t) (sym (Rattle.std.proofs.lemmas.List.append-nil (ended l))) ∙ sym (text_of_append ls (l ∷ [])));
    free = All-push Free ls l done.free free;
  }

-- the first line of a rest that has one
pub record Next (rest l : List ℕ) : Type 0 where
  pub after : List ℕ
  pub is : rest ≡ l ++ (line_feed ∷ after)

first_of : (rest : List ℕ) (ms : List (List ℕ)) → lines rest ≡ ms → 0 < length ms → Next rest (get_or ms 0 [])
first_of rest [] e h = absurd (omega arith)
first_of rest (m ∷ ms) e h = let one = first_line rest m ms e in record { after = one.rest; is = one.is }

-- where the text has one more line in form, that line opens the rest
pub goes_on : {opening : List ℕ} {Body : ℕ → List ℕ → Type 0} {k n : ℕ} {text : List ℕ} {ls : List (List ℕ)} {rest : List ℕ} → Done text ls rest → Formed opening Body k n text (suc (length ls)) → Next rest (line text (length ls))
goes_on {text = text} {ls = ls} {rest = rest} done formed =
    subst (Next rest) (sym (next_line done)) (first_of rest (lines rest) refl (omega (arith, formed.there, done_count done)))
