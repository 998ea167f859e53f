-- A text is a case text or has a first fault: the text read line by line. Assumes nothing.
use Rattle.std.proofs.Common.{◌≡◌, ℕ, zero, suc, ◌+◌, ◌<◌, ◌≤◌, ◌⊎◌, List, [], ◌∷◌, ◌++◌, length, get_or, codes, refl, ap, ◌∙◌, subst, inl, inr, arith}
use Rattle.std.specs.List.{ContainsAt as Has}
use Rattle.std.proofs.lemmas.List.{get_or_default, length-append, length_push}
use Rattle.std.proofs.lemmas.Bool.{cases_lt}
use Rattle.theory.specs.Limits.{style_limit}
use Rattle.texts.specs.CaseFaults.{FirstFault, OneAnswer}
use Rattle.texts.specs.CaseText.{IsCaseText, case_end, case_opening, run_line}
use Rattle.texts.specs.Faults as F
use Rattle.texts.specs.Forms.{wheel_line, styles_line, WheelGood, StylesGood}
use Rattle.texts.specs.Limits.{text_limit}
use Rattle.texts.specs.Lines.{line_feed}
use Rattle.texts.proofs.Bytes.{free_styles_line, free_tested, free_wheel_line}
use Rattle.texts.proofs.CaseEnds.{whole_read, fault_extra}
use Rattle.texts.proofs.CaseStages.{CaseRead, byte_of, case_start, case_more, fault_opening, fault_wheel_line, fault_styles_line, fault_style_line, fault_repeated, fault_run_line, fault_unknown}
use Rattle.texts.proofs.Decided.{Decided, decide_bytes, decide_same, opens_number, opens_style, opens_with}
use Rattle.texts.proofs.DecidedPlaces.{decide_among}
use Rattle.texts.proofs.Forms.{Done, done_more}
use Rattle.texts.proofs.Heads.{HeadRead, none_done, styles_fit, wheel_fits}
use Rattle.texts.proofs.OneCaseFault.{not_both, only_one}
use Rattle.texts.proofs.Runs.{opens_run}
use Rattle.texts.proofs.Steps.{head_start, head_more}

decide_has : (names : List (List ℕ)) (name : List ℕ) → Decided (Has names name)
decide_has names name =
    decide_same {P = (a : ℕ) × (a < length names) × (get_or names a [] ≡ name)}
    (λ one. (one.0, one.1, λ d. get_or_default names one.0 d [] one.1 ∙ one.2))
    (λ has. (has.0, has.1, has.2 []))
    (decide_among names name)

-- each number below n has the property, or there is a first that has not
first_without : (P : ℕ → Type 0) → ((s : ℕ) → Decided (P s)) → (n : ℕ) → ((s : ℕ) → s < n → P s) ⊎ ((first : ℕ) × (first < n) × (P first → ⊥) × ((s : ℕ) → s < first → P s))
first_without P each zero = inl (λ s h. absurd (omega arith))
first_without P each (suc n) =
    elim (first_without P each n) [
      | inl all ↦ elim (each n) [
        | inl here ↦ inl (λ s h. elim (cases_lt s n) [ inl below ↦ all s below | inr past ↦ let last : n ≡ s = omega arith in subst P last here ])
        | inr other ↦ inr (n, omega arith, other, all)
      ]
      | inr (first, below, other, before) ↦ inr (first, omega arith, other, before)
    ]

module _ (text : List ℕ) (short : length text ≤ text_limit) where
  abbrev Answer : Type 0
  Answer = ((length text ≤ text_limit) × IsCaseText text) ⊎ ((f : F.Fault) × FirstFault text f)

  from_end : {k n : ℕ} {names : List (List ℕ)} {runs : List (List (List ℕ))} {rest : List ℕ} → CaseRead k n names runs text rest → (after : List ℕ) → rest ≡ case_end ++ (line_feed ∷ after) → Answer
  from_end {n = n} {runs = runs} read after is =
      elim (decide_bytes after []) [
        | inl none ↦ inl (short, whole_read read after is none)
        | inr some ↦ inr (F.form (suc (4 + n + length runs)), fault_extra read after is short some)
      ]

  from_runs : (steps : ℕ) {k n : ℕ} {names : List (List ℕ)} {runs : List (List (List ℕ))} {rest : List ℕ} → CaseRead k n names runs text rest → length rest < steps → Answer
  from_runs zero read few = absurd (omega arith)
  from_runs (suc steps) {n = n} {names = names} {runs = runs} {rest = rest} read few =
      elim (opens_run rest) [
        | inl (run, after, formed, is) ↦ elim (first_without (λ s. Has names (get_or run s [])) (λ s. decide_has names (get_or run s [])) (length run)) [
          | inl known ↦ from_runs steps (case_more read run after formed known is) (omega (arith, ap length is, length-append (run_line run) (line_feed ∷ after)))
          | inr (first, within, unknown, known) ↦ inr (F.name (suc (3 + n + length runs)) (byte_of run first), fault_unknown read short run after first formed is within unknown known)
        ]
        | inr no_run ↦ elim (opens_with case_end rest) [
          | inl (after, is) ↦ from_end read after is
          | inr no_end ↦ inr (F.form (suc (3 + n + length runs)), fault_run_line read short no_run no_end)
        ]
      ]

  -- with so many style lines left to read
  from_style_lines : (left : ℕ) {k n : ℕ} {names : List (List ℕ)} {rest : List ℕ} → HeadRead case_opening k n names text rest → length names + left ≡ n → Answer
  from_style_lines zero {rest = rest} head all = from_runs (suc (length rest)) (case_start head (omega arith)) (omega arith)
  from_style_lines (suc left) {names = names} {rest = rest} head some =
      elim (opens_style rest) [
        | inl (name, after, form, is) ↦ elim (decide_among names name) [
          | inl (a, within, same) ↦ inr (F.name (suc (3 + length names)) 6, fault_repeated short head name after a (omega arith) form is within same)
          | inr new ↦ from_style_lines left (head_more head name after (omega arith) form (λ a within same. new (a, within, same)) is) (omega (arith, length_push names name))
        ]
        | inr none ↦ inr (F.form (suc (3 + length names)), fault_style_line short head (omega arith) none)
      ]

  from_styles : (k : ℕ) (rest : List ℕ) → WheelGood k → Done text (case_opening ∷ wheel_line k ∷ []) rest → Answer
  from_styles k rest kg done =
      elim (opens_number (codes "styles=") 1 style_limit rest) [
        | inl (n, after, low, high, is) ↦
            let ng : StylesGood n = record { some = low; few = high } in
            from_style_lines n (head_start case_opening k n text after kg ng (done_more done (styles_line n) after is (free_styles_line n (styles_fit n ng)))) (omega arith)
        | inr none ↦ inr (F.form 3, fault_styles_line short k rest kg done (λ m after good is. none m after good.some good.few is))
      ]

  from_wheel : (rest : List ℕ) → Done text (case_opening ∷ []) rest → Answer
  from_wheel rest done =
      elim (opens_number (codes "wheel=") 2 9 rest) [
        | inl (k, after, low, high, is) ↦
            let kg : WheelGood k = record { from_two = low; to_nine = high } in
            from_styles k after kg (done_more done (wheel_line k) after is (free_wheel_line k (wheel_fits k kg)))
        | inr none ↦ inr (F.form 2, fault_wheel_line short rest done (λ w after good is. none w after good.from_two good.to_nine is))
      ]

  from_opening : Answer
  from_opening =
      elim (opens_with case_opening text) [
        | inl (after, is) ↦ from_wheel after (done_more (none_done text) case_opening after is (free_tested case_opening refl))
        | inr none ↦ inr (F.form 1, fault_opening short none)
      ]

pub either : (text : List ℕ) → ((length text ≤ text_limit) × IsCaseText text) ⊎ ((f : F.Fault) × FirstFault text f)
either text =
    elim (cases_lt text_limit (length text)) [
      | inl long ↦ inr (F.over_long (length text), (refl, long))
      | inr short ↦ from_opening text short
    ]

pub one_answer : OneAnswer
one_answer = record { either = either; not_both = not_both; only_one = only_one }
