-- The names of the run lines of a case text are those of its style lines. Assumes nothing.
use Rattle.std.proofs.Common.{◌≡◌, ℕ, suc, ◌+◌, ◌-◌, ◌<◌, List, [], length, get_or, sym, ap, ◌∙◌, subst, inl, inr, arith}
use Rattle.std.specs.List.{ContainsAt as Has}
use Rattle.std.proofs.ByRecursion.{All-from_get_or, all-has}
use Rattle.std.proofs.lemmas.List.{get_or_default}
use Rattle.std.proofs.lemmas.Bool.{cases_lt}
use Rattle.texts.specs.CaseFaults.{HasStyle, KnownTo}
use Rattle.texts.specs.CaseText.{RunsOf, case_end, run_line}
use Rattle.texts.specs.Forms.{style_line}
use Rattle.texts.specs.Lines.{line}
use Rattle.texts.specs.Names.{NameForm, NamesFormed}
use Rattle.texts.proofs.Bytes.{same_style}
use Rattle.texts.proofs.Runs.{same_run}

-- each of the runs is made of style names
abbrev pub RunsFormed : List (List (List ℕ)) → Type 0
RunsFormed runs = (i : ℕ) → i < length runs → NamesFormed (get_or runs i [])

pub runs_formed : (names : List (List ℕ)) (runs : List (List (List ℕ))) → NamesFormed names → RunsOf names runs → RunsFormed runs
runs_formed names runs formed known i h s within = all-has NameForm names (get_or (get_or runs i []) s []) (All-from_get_or NameForm names [] formed) (known i s h within)

pub no_end_run : (run : List (List ℕ)) → case_end ≡ run_line run → ⊥
no_end_run run e = let byte : ◌≡◌ {A = ℕ} 101 114 = ap (λ l. get_or l 0 0) e in omega arith

-- the style lines are those of the names
abbrev pub StyleLines : List ℕ → List (List ℕ) → Type 0
StyleLines text names = (s : ℕ) → s < length names → line text (3 + s) ≡ style_line (get_or names s [])

module _ (text : List ℕ) (names : List (List ℕ)) (styles : StyleLines text names) where
  pub has_style : (name : List ℕ) → Has names name → HasStyle (length names) text name
  has_style name (a, within, is) = (a, within, styles a within ∙ ap style_line (is []))

  pub style_has : (name : List ℕ) → HasStyle (length names) text name → Has names name
  style_has name (a, within, is) = (a, within, λ d. get_or_default names a d [] within ∙ same_style (get_or names a []) name (sym (styles a within) ∙ is))

  pub known_runs : (runs : List (List (List ℕ))) → RunsFormed runs → RunsOf names runs → ((t : ℕ) → t < length runs → line text (3 + length names + t) ≡ run_line (get_or runs t [])) → KnownTo (length names) text (3 + length names + length runs)
  known_runs runs formed known lines_are i run s low high run-formed here within =
      let t = i - (3 + length names) in
      let at : 3 + length names + t ≡ i = omega arith in
      let below : t < length runs = omega arith in
      let same : get_or runs t [] ≡ run = same_run (get_or runs t []) run (formed t below) run-formed (sym (lines_are t below) ∙ ap (line text) at ∙ here) in
      let in_run : s < length (get_or runs t []) = subst (λ r. s < length r) (sym same) within in
      subst (λ r. HasStyle (length names) text (get_or r s [])) same (has_style (get_or (get_or runs t []) s []) (known t s below in_run))

-- the end line is no run line
pub known_end : (n : ℕ) (text : List ℕ) (j : ℕ) → KnownTo n text j → line text j ≡ case_end → KnownTo n text (suc j)
known_end n text j known end i run s low high run-formed here within =
    elim (cases_lt i j) [
      | inl below ↦ known i run s low below run-formed here within
      | inr past ↦ let last : j ≡ i = omega arith in absurd (no_end_run run (sym end ∙ ap (line text) last ∙ here))
    ]
