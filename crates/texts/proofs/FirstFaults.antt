-- A text has one first line that is out of order, and a repeated name is no line in order. Assumes nothing.
use Rattle.std.proofs.Common.{◌≡◌, ℕ, suc, ◌+◌, ◌<◌, ◌≤◌, List, get_or, sym, ap, ◌∙◌, subst, inl, inr, arith}
use Rattle.std.proofs.lemmas.Bool.{cases_order}
use Rattle.texts.specs.Faults as F
use Rattle.texts.specs.Forms.{style_line, LineOf, opens, names_wheel, counts_styles, names_style, in_body, Formed, DifferentTo}
use Rattle.texts.specs.Lines.{line}

-- a line is the first that is out of order, and it is of its form
pub record Stop (InOrder InForm : ℕ → Type 0) (before : ℕ) : Type 0 where
  pub in_order : InOrder before
  pub in_form : InForm (suc before)
  pub no_further : (j : ℕ) → InOrder j → before < j → ⊥

-- of lines in order, so many are in form
module _ (InOrder InForm : ℕ → Type 0) (fewer : (i j : ℕ) → InOrder j → i ≤ j → InForm i) where
  pub two_forms : (Whole : Type 0) (a b : ℕ) → F.FormFault InOrder InForm Whole a → F.FormFault InOrder InForm Whole b → a ≡ b
  two_forms Whole a b f g =
      elim (cases_order f.before g.before) [
        | inl same ↦ omega (arith, f.counted, g.counted)
        | inr (inl less) ↦ absurd (f.out_of_form (fewer (suc f.before) g.before g.in_order (omega arith)))
        | inr (inr more) ↦ absurd (g.out_of_form (fewer (suc g.before) f.before f.in_order (omega arith)))
      ]

  pub form_and_stop : (Whole : Type 0) (a before : ℕ) → F.FormFault InOrder InForm Whole a → Stop InOrder InForm before → ⊥
  form_and_stop Whole a before f stop =
      elim (cases_order f.before before) [
        | inl same ↦ f.out_of_form (subst (λ i. InForm (suc i)) (sym same) stop.in_form)
        | inr (inl less) ↦ f.out_of_form (fewer (suc f.before) before stop.in_order (omega arith))
        | inr (inr more) ↦ stop.no_further f.before f.in_order more
      ]

  pub two_stops : (a b : ℕ) → Stop InOrder InForm a → Stop InOrder InForm b → a ≡ b
  two_stops a b f g =
      elim (cases_order a b) [
        | inl same ↦ same
        | inr (inl less) ↦ absurd (f.no_further b g.in_order less)
        | inr (inr more) ↦ absurd (g.no_further a f.in_order more)
      ]

-- where neither the opening line nor a line of the body is a style line
module _ (opening : List ℕ) (Body : ℕ → List ℕ → Type 0) (not_opening : (name : List ℕ) → opening ≡ style_line name → ⊥) (not_body : (s : ℕ) (l name : List ℕ) → Body s l → l ≡ style_line name → ⊥) where
  -- a style line of a text in form is that of one of its styles
  pub style_index : (k n i : ℕ) (l name : List ℕ) → l ≡ style_line name → LineOf opening Body k n i l → (s : ℕ) × (i ≡ 3 + s) × (s < n)
  style_index k n i l name here (opens e is) = absurd (not_opening name (sym is ∙ here))
  style_index k n i l name here (names_wheel e is) = let byte : ◌≡◌ {A = ℕ} 119 115 = ap (λ m. get_or m 0 0) (sym is ∙ here) in absurd (omega arith)
  style_index k n i l name here (counts_styles e is) = let byte : ◌≡◌ {A = ℕ} 115 61 = ap (λ m. get_or m 5 0) (sym is ∙ here) in absurd (omega arith)
  style_index k n i l name here (names_style {s = s} e below form is) = (s, e, below)
  style_index k n i l name here (in_body {s = s} e body) = absurd (not_body s l name body here)

  -- no two lines in order are the same style line
  pub no_repeat : (k n : ℕ) (text : List ℕ) (j : ℕ) → Formed opening Body k n text j → DifferentTo n text j → (name : List ℕ) (a b : ℕ) → a < b → b < j → line text a ≡ style_line name → line text b ≡ style_line name → ⊥
  no_repeat k n text j formed different name a b less below at_a at_b =
      let s = style_index k n a (line text a) name at_a (formed.each a (omega arith)) in
      let t = style_index k n b (line text b) name at_b (formed.each b below) in
      different s.0 t.0 (omega (arith, s.1, t.1)) t.2 (omega (arith, t.1)) (ap (line text) (sym s.1) ∙ at_a ∙ sym at_b ∙ ap (line text) t.1)
