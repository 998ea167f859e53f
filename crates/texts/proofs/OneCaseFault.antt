-- A text has at most one first fault as a case text, and a case text has none. Assumes nothing.
use Rattle.std.proofs.Common.{◌≡◌, ℕ, suc, ◌+◌, ◌<◌, ◌≤◌, List, [], length, get_or, sym, refl, ap, ◌∙◌, subst, inl, inr, arith}
use Rattle.std.proofs.lemmas.Bool.{cases_order}
use Rattle.texts.specs.CaseFaults.{CaseBody, is_run, ends, FirstFault, HasStyle, InForm, InOrder, UnknownFault}
use Rattle.texts.specs.CaseText.{IsCaseText, case_opening, run_line}
use Rattle.texts.specs.Faults as F
use Rattle.texts.specs.Forms.{style_line, LineOf, opens, names_wheel, counts_styles, names_style, in_body, Formed}
use Rattle.texts.specs.Limits.{text_limit}
use Rattle.texts.specs.Lines.{lines, line}
use Rattle.texts.proofs.CaseWhole.{CaseWhole, case_whole}
use Rattle.texts.proofs.FewDigits.{same_styles_good}
use Rattle.texts.proofs.FirstFaults as A
use Rattle.texts.proofs.FirstFaults.{Stop}
use Rattle.texts.proofs.Forms.{at_styles}
use Rattle.texts.proofs.Further.{lines_formed_less}
use Rattle.texts.proofs.Runs.{same_run}

not_opening : (name : List ℕ) → case_opening ≡ style_line name → ⊥
not_opening name e = let byte : ◌≡◌ {A = ℕ} 99 115 = ap (λ l. get_or l 0 0) e in omega arith

not_body : (r s : ℕ) (l name : List ℕ) → CaseBody r s l → l ≡ style_line name → ⊥
not_body r s l name (is_run run h formed is) here = let byte : ◌≡◌ {A = ℕ} 114 115 = ap (λ m. get_or m 0 0) (sym is ∙ here) in omega arith
not_body r s l name (ends e is) here = let byte : ◌≡◌ {A = ℕ} 101 115 = ap (λ m. get_or m 0 0) (sym is ∙ here) in omega arith

-- a run line of a text in form comes after its style lines
run_index : (k n r i : ℕ) (l : List ℕ) (run : List (List ℕ)) → l ≡ run_line run → LineOf case_opening (CaseBody r) k n i l → 3 + n ≤ i
run_index k n r i l run here (opens e is) = let byte : ◌≡◌ {A = ℕ} 99 114 = ap (λ m. get_or m 0 0) (sym is ∙ here) in absurd (omega arith)
run_index k n r i l run here (names_wheel e is) = let byte : ◌≡◌ {A = ℕ} 119 114 = ap (λ m. get_or m 0 0) (sym is ∙ here) in absurd (omega arith)
run_index k n r i l run here (counts_styles e is) = let byte : ◌≡◌ {A = ℕ} 115 114 = ap (λ m. get_or m 0 0) (sym is ∙ here) in absurd (omega arith)
run_index k n r i l run here (names_style e below form is) = let byte : ◌≡◌ {A = ℕ} 115 114 = ap (λ m. get_or m 0 0) (sym is ∙ here) in absurd (omega arith)
run_index k n r i l run here (in_body e body) = omega arith

there : (text : List ℕ) (j : ℕ) → InForm text j → j ≤ length (lines text)
there text j (k, n, r, formed) = formed.there

-- of lines in order, so many are in form
fewer : (text : List ℕ) (i j : ℕ) → InOrder text j → i ≤ j → InForm text i
fewer text i j (k, n, r, formed, different, known) less = (k, n, r, lines_formed_less formed less)

-- the lines of a whole text are in order
whole_in_order : {text : List ℕ} (w : CaseWhole text) → InOrder text (4 + w.n + w.r)
whole_in_order w = (w.k, w.n, w.r, w.formed, w.different, w.known)

module _ {text : List ℕ} where
  -- the styles of an unknown name's fault are those of the text
  styles_are : {number byte : ℕ} (u : UnknownFault text number byte) (k n r j : ℕ) → Formed case_opening (CaseBody r) k n text j → u.before < j → u.styles ≡ n
  styles_are u k n r j formed h =
      let late = run_index k n r u.before (line text u.before) u.run u.here (formed.each u.before h) in
      same_styles_good u.styles n formed.styles_good (sym u.counted_styles ∙ at_styles case_opening (CaseBody r) k n 2 (line text 2) refl (formed.each 2 (omega arith)))

  no_unknown : {number byte : ℕ} (u : UnknownFault text number byte) (j : ℕ) → InOrder text j → u.before < j → ⊥
  no_unknown u j (k, n, r, formed, different, known) h =
      let late = run_index k n r u.before (line text u.before) u.run u.here (formed.each u.before h) in
      let has = known u.before u.run u.first late h u.named u.here u.within in
      u.unknown (subst (λ m. HasStyle m text (get_or u.run u.first [])) (sym (styles_are u k n r j formed h)) has)

  no_repeated : {number byte : ℕ} (f : F.RepeatedFault (InOrder text) (InForm text) text number byte) (j : ℕ) → InOrder text j → f.before < j → ⊥
  no_repeated f j (k, n, r, formed, different, known) h =
      A.no_repeat case_opening (CaseBody r) not_opening (not_body r) k n text j formed different f.name f.earlier f.before f.is_earlier h f.there f.here

  stop_unknown : {number byte : ℕ} (u : UnknownFault text number byte) → Stop (InOrder text) (InForm text) u.before
  stop_unknown u = record { in_order = u.in_order; in_form = u.in_form; no_further = no_unknown u }

  stop_repeated : {number byte : ℕ} (f : F.RepeatedFault (InOrder text) (InForm text) text number byte) → Stop (InOrder text) (InForm text) f.before
  stop_repeated f = record { in_order = f.in_order; in_form = f.in_form; no_further = no_repeated f }

pub not_both : (text : List ℕ) (f : F.Fault) → length text ≤ text_limit → IsCaseText text → FirstFault text f → ⊥
not_both text (F.form number) short is (few, fault) = fault.not_whole is
not_both text (F.name number byte) short is (few, inl fault) =
    let w = case_whole text is in
    no_repeated fault (4 + w.n + w.r) (whole_in_order w) (omega (arith, w.count, there text (suc fault.before) fault.in_form))
not_both text (F.name number byte) short is (few, inr fault) =
    let w = case_whole text is in
    no_unknown fault (4 + w.n + w.r) (whole_in_order w) (omega (arith, w.count, there text (suc fault.before) fault.in_form))
not_both text (F.over_long bytes) short is (count, long) = omega arith
not_both text (F.other_wheel wheel) short is never = never

module _ (text : List ℕ) where
  abbrev Repeated : ℕ → ℕ → Type 0
  Repeated number byte = F.RepeatedFault (InOrder text) (InForm text) text number byte

  form_and_stop : (a before : ℕ) → F.FormFault (InOrder text) (InForm text) (IsCaseText text) a → Stop (InOrder text) (InForm text) before → ⊥
  form_and_stop = A.form_and_stop (InOrder text) (InForm text) (fewer text) (IsCaseText text)

  two_stops : (a b : ℕ) → Stop (InOrder text) (InForm text) a → Stop (InOrder text) (InForm text) b → a ≡ b
  two_stops = A.two_stops (InOrder text) (InForm text) (fewer text)

  two_repeated : (a b byte byte' : ℕ) → Repeated a byte → Repeated b byte' → (a ≡ b) × (byte ≡ byte')
  two_repeated a b byte byte' f g =
      let same = two_stops f.before g.before (stop_repeated f) (stop_repeated g) in
      (omega (arith, f.counted, g.counted), f.at_the_name ∙ sym g.at_the_name)

  repeated_and_unknown : (a b byte byte' : ℕ) → Repeated a byte → UnknownFault text b byte' → ⊥
  repeated_and_unknown a b byte byte' f g =
      let same = two_stops f.before g.before (stop_repeated f) (stop_unknown g) in
      let byte_is : ◌≡◌ {A = ℕ} 115 114 = ap (λ l. get_or l 0 0) (sym f.here ∙ ap (line text) same ∙ g.here) in
      omega arith

  two_unknown : (a b byte byte' : ℕ) → UnknownFault text a byte → UnknownFault text b byte' → (a ≡ b) × (byte ≡ byte')
  two_unknown a b byte byte' f g =
      let same = two_stops f.before g.before (stop_unknown f) (stop_unknown g) in
      let run_is : f.run ≡ g.run = same_run f.run g.run f.named g.named (sym f.here ∙ ap (line text) same ∙ g.here) in
      let styles_is : f.styles ≡ g.styles = same_number f.in_form same in
      let first_is : f.first ≡ g.first = same_first run_is styles_is in
      (omega (arith, f.counted, g.counted), cc (f.at_the_name, g.at_the_name))
    where
      same_number : InForm text (suc f.before) → f.before ≡ g.before → f.styles ≡ g.styles
      same_number (k, n, r, formed) same = styles_are f k n r (suc f.before) formed (omega arith) ∙ sym (styles_are g k n r (suc f.before) formed (omega arith))

      same_first : f.run ≡ g.run → f.styles ≡ g.styles → f.first ≡ g.first
      same_first run_is styles_is =
          elim (cases_order f.first g.first) [
            | inl is ↦ is
            | inr (inl less) ↦ absurd (f.unknown (there_too f.first (g.known_before f.first less)))
            | inr (inr more) ↦ absurd (g.unknown (there_before g.first (f.known_before g.first more)))
          ]
        where
          there_too : (s : ℕ) → HasStyle g.styles text (get_or g.run s []) → HasStyle f.styles text (get_or f.run s [])
          there_too s has = subst (λ m. HasStyle m text (get_or f.run s [])) (sym styles_is) (subst (λ r. HasStyle g.styles text (get_or r s [])) (sym run_is) has)

          there_before : (s : ℕ) → HasStyle f.styles text (get_or f.run s []) → HasStyle g.styles text (get_or g.run s [])
          there_before s has = subst (λ m. HasStyle m text (get_or g.run s [])) styles_is (subst (λ r. HasStyle f.styles text (get_or r s [])) run_is has)

pub only_one : (text : List ℕ) (f g : F.Fault) → FirstFault text f → FirstFault text g → f ≡ g
only_one text (F.form a) (F.form b) (few, f) (few', g) = ap F.form (A.two_forms (InOrder text) (InForm text) (fewer text) (IsCaseText text) a b f g)
only_one text (F.form a) (F.name b byte) (few, f) (few', inl g) = absurd (form_and_stop text a g.before f (stop_repeated g))
only_one text (F.form a) (F.name b byte) (few, f) (few', inr g) = absurd (form_and_stop text a g.before f (stop_unknown g))
only_one text (F.form a) (F.over_long bytes) (few, f) (count, long) = absurd (omega arith)
only_one text (F.name a byte) (F.form b) (few, inl f) (few', g) = absurd (form_and_stop text b f.before g (stop_repeated f))
only_one text (F.name a byte) (F.form b) (few, inr f) (few', g) = absurd (form_and_stop text b f.before g (stop_unknown f))
only_one text (F.name a byte) (F.name b byte') (few, inl f) (few', inl g) = let same = two_repeated text a b byte byte' f g in cc
only_one text (F.name a byte) (F.name b byte') (few, inl f) (few', inr g) = absurd (repeated_and_unknown text a b byte byte' f g)
only_one text (F.name a byte) (F.name b byte') (few, inr f) (few', inl g) = absurd (repeated_and_unknown text b a byte' byte g f)
only_one text (F.name a byte) (F.name b byte') (few, inr f) (few', inr g) = let same = two_unknown text a b byte byte' f g in cc
only_one text (F.name a byte) (F.over_long bytes) (few, f) (count, long) = absurd (omega arith)
only_one text (F.over_long bytes) (F.form b) (count, long) (few, g) = absurd (omega arith)
only_one text (F.over_long bytes) (F.name b byte) (count, long) (few, g) = absurd (omega arith)
only_one text (F.over_long bytes) (F.over_long bytes') (count, long) (count', long') = ap F.over_long (count ∙ sym count')
only_one text (F.form a) (F.other_wheel wheel) f never = absurd never
only_one text (F.name a byte) (F.other_wheel wheel) f never = absurd never
only_one text (F.over_long bytes) (F.other_wheel wheel) f never = absurd never
only_one text (F.other_wheel wheel) g never fault = absurd never
