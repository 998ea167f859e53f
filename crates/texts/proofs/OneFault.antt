-- A text has at most one first fault on a wheel, and a net text on it has none. Assumes nothing.
use Rattle.std.proofs.Common.{◌≡◌, ℕ, suc, ◌+◌, ◌<◌, ◌≤◌, List, length, get_or, sym, refl, ap, ◌∙◌, arith}
use Rattle.texts.specs.Faults as F
use Rattle.texts.specs.Forms.{style_line, wheel_line}
use Rattle.texts.specs.Lines.{lines, line}
use Rattle.texts.specs.NetFaults.{NetBody, counts_places, is_place, ends, InForm, InOrder, WheelFault, FirstFault}
use Rattle.texts.specs.NetText.{net_opening, IsNetText}
use Rattle.texts.proofs.Bytes.{same_wheel}
use Rattle.texts.proofs.FirstFaults as A
use Rattle.texts.proofs.FirstFaults.{Stop}
use Rattle.texts.proofs.Forms.{at_wheel}
use Rattle.texts.proofs.Whole.{Whole, whole, short, formed_less}

not_opening : (name : List ℕ) → net_opening ≡ style_line name → ⊥
not_opening name e = let byte : ◌≡◌ {A = ℕ} 110 115 = ap (λ l. get_or l 0 0) e in omega arith

not_body : (k n p s : ℕ) (l name : List ℕ) → NetBody k n p s l → l ≡ style_line name → ⊥
not_body k n p s l name (counts_places e is) here = let byte : ◌≡◌ {A = ℕ} 112 115 = ap (λ m. get_or m 0 0) (sym is ∙ here) in omega arith
not_body k n p s l name (is_place e h on is) here = let byte : ◌≡◌ {A = ℕ} 112 115 = ap (λ m. get_or m 0 0) (sym is ∙ here) in omega arith
not_body k n p s l name (ends e is) here = let byte : ◌≡◌ {A = ℕ} 101 115 = ap (λ m. get_or m 0 0) (sym is ∙ here) in omega arith

there : (text : List ℕ) (j : ℕ) → InForm text j → j ≤ length (lines text)
there text j (k, n, p, formed) = formed.formed.there

-- of lines in order, so many are in form
fewer : (k : ℕ) (text : List ℕ) (i j : ℕ) → InOrder k text j → i ≤ j → InForm text i
fewer k text i j (n, p, formed, different) less = (k, n, p, formed_less formed less)

-- the lines of a whole text are in order
whole_in_order : {k : ℕ} {text : List ℕ} (w : Whole k text) → InOrder k text (5 + w.n + w.p)
whole_in_order w = (w.n, w.p, w.formed, w.different)

module _ {k : ℕ} {text : List ℕ} where
  no_wheel : {wheel : ℕ} → WheelFault k text wheel → (j : ℕ) → InOrder k text j → 1 < j → ⊥
  no_wheel {wheel} w j (n, p, formed, different) h =
      let is : line text 1 ≡ wheel_line k = at_wheel net_opening (NetBody k n p) k n 1 (line text 1) refl (formed.formed.each 1 h) in
      w.other (same_wheel wheel k (omega (arith, w.good.to_nine)) (omega (arith, formed.formed.wheel_good.to_nine)) (sym w.here ∙ is))

  no_repeated : {number byte : ℕ} (f : F.RepeatedFault (InOrder k text) (InForm text) text number byte) (j : ℕ) → InOrder k text j → f.before < j → ⊥
  no_repeated f j (n, p, formed, different) h =
      A.no_repeat net_opening (NetBody k n p) not_opening (not_body k n p) k n text j formed.formed different f.name f.earlier f.before f.is_earlier h f.there f.here

  stop_wheel : {wheel : ℕ} → WheelFault k text wheel → Stop (InOrder k text) (InForm text) 1
  stop_wheel w = record { in_order = w.in_order; in_form = w.in_form; no_further = no_wheel w }

  stop_repeated : {number byte : ℕ} (f : F.RepeatedFault (InOrder k text) (InForm text) text number byte) → Stop (InOrder k text) (InForm text) f.before
  stop_repeated f = record { in_order = f.in_order; in_form = f.in_form; no_further = no_repeated f }

pub not_both : (k : ℕ) (text : List ℕ) (f : F.Fault) → IsNetText k text → FirstFault k text f → ⊥
not_both k text (F.form number) is (few, fault) = fault.not_whole is
not_both k text (F.name number byte) is (few, fault) =
    let w = whole k text is in
    no_repeated fault (5 + w.n + w.p) (whole_in_order w) (omega (arith, w.count, there text (suc fault.before) fault.in_form))
not_both k text (F.over_long bytes) (N, names, named, order, is) (count, long) = omega (arith, ap length is, short N names named)
not_both k text (F.other_wheel wheel) is (few, fault) = let w = whole k text is in no_wheel fault (5 + w.n + w.p) (whole_in_order w) (omega arith)

module _ (k : ℕ) (text : List ℕ) where
  abbrev Form : ℕ → Type 0
  Form number = F.FormFault (InOrder k text) (InForm text) (IsNetText k text) number

  abbrev Repeated : ℕ → ℕ → Type 0
  Repeated number byte = F.RepeatedFault (InOrder k text) (InForm text) text number byte

  two_forms : (a b : ℕ) → Form a → Form b → a ≡ b
  two_forms = A.two_forms (InOrder k text) (InForm text) (fewer k text) (IsNetText k text)

  form_and_stop : (a before : ℕ) → Form a → Stop (InOrder k text) (InForm text) before → ⊥
  form_and_stop = A.form_and_stop (InOrder k text) (InForm text) (fewer k text) (IsNetText k text)

  two_stops : (a b : ℕ) → Stop (InOrder k text) (InForm text) a → Stop (InOrder k text) (InForm text) b → a ≡ b
  two_stops = A.two_stops (InOrder k text) (InForm text) (fewer k text)

  -- a repeated name is after the first three lines
  repeated_and_wheel : (a byte wheel : ℕ) → Repeated a byte → WheelFault k text wheel → ⊥
  repeated_and_wheel a byte wheel f g = after_three f.in_form
    where
      after_three : InForm text (suc f.before) → ⊥
      after_three (k', n, p, formed) =
          let s = A.style_index net_opening (NetBody k' n p) not_opening (not_body k' n p) k' n f.before (line text f.before) f.name f.here (formed.formed.each f.before (omega arith)) in
          omega (arith, s.1, two_stops f.before 1 (stop_repeated f) (stop_wheel g))

  two_repeated : (a b byte byte' : ℕ) → Repeated a byte → Repeated b byte' → (a ≡ b) × (byte ≡ byte')
  two_repeated a b byte byte' f g =
      let same = two_stops f.before g.before (stop_repeated f) (stop_repeated g) in
      (omega (arith, f.counted, g.counted), f.at_the_name ∙ sym g.at_the_name)

  two_wheels : (a b : ℕ) → WheelFault k text a → WheelFault k text b → a ≡ b
  two_wheels a b f g = same_wheel a b (omega (arith, f.good.to_nine)) (omega (arith, g.good.to_nine)) (sym f.here ∙ g.here)

pub only_one : (k : ℕ) (text : List ℕ) (f g : F.Fault) → FirstFault k text f → FirstFault k text g → f ≡ g
only_one k text (F.form a) (F.form b) (few, f) (few', g) = ap F.form (two_forms k text a b f g)
only_one k text (F.form a) (F.name b byte) (few, f) (few', g) = absurd (form_and_stop k text a g.before f (stop_repeated g))
only_one k text (F.form a) (F.over_long bytes) (few, f) (count, long) = absurd (omega arith)
only_one k text (F.form a) (F.other_wheel wheel) (few, f) (few', g) = absurd (form_and_stop k text a 1 f (stop_wheel g))
only_one k text (F.name a byte) (F.form b) (few, f) (few', g) = absurd (form_and_stop k text b f.before g (stop_repeated f))
only_one k text (F.name a byte) (F.name b byte') (few, f) (few', g) = let same = two_repeated k text a b byte byte' f g in cc
only_one k text (F.name a byte) (F.over_long bytes) (few, f) (count, long) = absurd (omega arith)
only_one k text (F.name a byte) (F.other_wheel wheel) (few, f) (few', g) = absurd (repeated_and_wheel k text a byte wheel f g)
only_one k text (F.over_long bytes) (F.form b) (count, long) (few, g) = absurd (omega arith)
only_one k text (F.over_long bytes) (F.name b byte) (count, long) (few, g) = absurd (omega arith)
only_one k text (F.over_long bytes) (F.over_long bytes') (count, long) (count', long') = ap F.over_long (count ∙ sym count')
only_one k text (F.over_long bytes) (F.other_wheel wheel) (count, long) (few, g) = absurd (omega arith)
only_one k text (F.other_wheel wheel) (F.form b) (few, f) (few', g) = absurd (form_and_stop k text b 1 g (stop_wheel f))
only_one k text (F.other_wheel wheel) (F.name b byte) (few, f) (few', g) = absurd (repeated_and_wheel k text b byte wheel g f)
only_one k text (F.other_wheel wheel) (F.over_long bytes) (few, f) (count, long) = absurd (omega arith)
only_one k text (F.other_wheel wheel) (F.other_wheel wheel') (few, f) (few', g) = ap F.other_wheel (two_wheels k text wheel wheel' f g)
