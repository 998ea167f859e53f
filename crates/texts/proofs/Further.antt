-- Fewer lines of a text in form, and one line further: what has been read, and what is in form, with one line more. Assumes nothing.
use Rattle.std.proofs.Common.{◌≡◌, ℕ, suc, ◌+◌, ◌<◌, ◌≤◌, List, [], ◌∷◌, ◌++◌, length, sym, refl, ap, ◌∙◌, subst, inl, inr, arith}
use Rattle.std.proofs.lemmas.List.{append_cancel_left, append-nil, get_or_push, length_push, nil_from_length}
use Rattle.std.proofs.lemmas.Bool.{cases_lt}
use Rattle.texts.specs.Forms.{style_line, LineOf, names_style, Formed}
use Rattle.texts.specs.Lines.{line_feed, text_of, lines, line}
use Rattle.texts.specs.Names.{NameForm}
use Rattle.texts.proofs.Bytes.{free_style_line}
use Rattle.texts.proofs.Forms.{Done, done_lines, done_line, done_count, done_more}
use Rattle.texts.proofs.Heads.{HeadRead, formed_head, head_count}
use Rattle.texts.proofs.Lines.{Free}

-- fewer lines of a text in form are in form too
pub lines_formed_less : {opening : List ℕ} {Body : ℕ → List ℕ → Type 0} {k n : ℕ} {text : List ℕ} {i j : ℕ} → Formed opening Body k n text j → i ≤ j → Formed opening Body k n text i
lines_formed_less formed less = record {
  wheel_good = formed.wheel_good;
  styles_good = formed.styles_good;
  there = omega (arith, formed.there);
  each = λ a h. formed.each a (omega arith);
}

-- one line more is in form
pub formed_more : {opening : List ℕ} {Body : ℕ → List ℕ → Type 0} {k n : ℕ} {text : List ℕ} {j : ℕ} → Formed opening Body k n text j → suc j ≤ length (lines text) → LineOf opening Body k n j (line text j) → Formed opening Body k n text (suc j)
formed_more {opening} {Body} {k} {n} {text} {j} formed there here = record {
  wheel_good = formed.wheel_good;
  styles_good = formed.styles_good;
  there = there;
  each = λ i h.
      elim (cases_lt i j) [
        | inl below ↦ formed.each i below
        | inr past ↦ let last : j ≡ i = omega arith in subst (λ z. LineOf opening Body k n z (line text z)) last here
      ];
}

-- the line that opens the rest is the next one of the text
pub record Further (text : List ℕ) (j : ℕ) (l : List ℕ) : Type 0 where
  pub there : suc j ≤ length (lines text)
  pub here : line text j ≡ l

pub further : {text : List ℕ} {ls : List (List ℕ)} {rest : List ℕ} (j : ℕ) (l after : List ℕ) → Done text ls rest → length ls ≡ j → rest ≡ l ++ (line_feed ∷ after) → Free l → Further text j l
further {text} {ls} {rest} j l after before count is free =
    let done = done_more before l after is free in
    let long : length (ls ++ (l ∷ [])) ≡ suc j = omega (arith, length_push ls l) in
    record {
      there = omega (arith, done_count done);
      here = done_line done j (omega (arith, long)) ∙ get_or_push ls l [] j count;
    }

-- a text that is no more than the lines which have been read has nothing after them
pub nothing_left : {text : List ℕ} {ls : List (List ℕ)} {rest : List ℕ} → Done text ls rest → length (lines text) ≡ length ls → text ≡ text_of (lines text) → rest ≡ []
nothing_left {text} {ls} {rest} done count ends =
    let none : lines rest ≡ [] = nil_from_length (lines rest) (omega (arith, done_count done)) in
    let all_lines : lines text ≡ ls = done_lines done ∙ ap (λ m. ls ++ m) none ∙ append-nil ls in
    append_cancel_left (text_of ls) rest [] (sym done.is ∙ ends ∙ ap text_of all_lines ∙ sym (append-nil (text_of ls)))

module _ {opening : List ℕ} {k n : ℕ} {names : List (List ℕ)} {text rest : List ℕ} (head : HeadRead opening k n names text rest) (name after : List ℕ) (more : length names < n) (form : NameForm name) (is : rest ≡ style_line name ++ (line_feed ∷ after)) where
  -- a further style line, whatever its name
  pub style_further : (Body : ℕ → List ℕ → Type 0) → Further text (3 + length names) (style_line name)
  style_further Body = further (3 + length names) (style_line name) after head.done (head_count opening Body head) is (free_style_line name form)

  pub style_formed : (Body : ℕ → List ℕ → Type 0) → Formed opening Body k n text (suc (3 + length names))
  style_formed Body =
      let next = style_further Body in
      formed_more (formed_head opening Body head) next.there (names_style {s = length names} {name = name} refl more form next.here)
