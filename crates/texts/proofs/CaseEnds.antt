-- The end of a text that is read as a case text: nothing after it, or an extra line. Assumes nothing.
use Rattle.std.proofs.Common.{◌≡◌, ℕ, suc, ◌+◌, ◌<◌, ◌≤◌, List, [], ◌∷◌, ◌++◌, map, length, sym, refl, ap, ◌∙◌, subst, arith}
use Rattle.std.proofs.lemmas.List.{append_assoc, append-nil, length_push}
use Rattle.texts.specs.CaseFaults.{CaseBody, is_run, ends, FirstFault, InOrder}
use Rattle.texts.specs.CaseText.{Case, IsCaseText, case_end, case_lines, case_opening, case_text, run_line}
use Rattle.texts.specs.Faults as F
use Rattle.texts.specs.Forms.{Formed, StylesGood, in_body}
use Rattle.texts.specs.Limits.{text_limit}
use Rattle.texts.specs.Lines.{line_feed, lines, text_of}
use Rattle.texts.proofs.Bytes.{free_tested}
use Rattle.texts.proofs.CaseStages.{CaseRead, runs_done, runs_count, formed_runs, different_runs, known_to, body_line, runs_within, styles_is}
use Rattle.texts.proofs.CaseWhole.{CaseWhole, case_whole}
use Rattle.texts.proofs.Forms.{Done, done_more}
use Rattle.texts.proofs.Further.{Further, further, formed_more, nothing_left}
use Rattle.texts.proofs.Heads.{head_lines}
use Rattle.texts.proofs.Known.{known_end, no_end_run}

module _ {k n : ℕ} {names : List (List ℕ)} {runs : List (List (List ℕ))} {text rest : List ℕ} (read : CaseRead k n names runs text rest) where
  pub case_read : Case k names runs
  case_read = record {
    wheel_good = read.head.wheel_good;
    styles_good = subst StylesGood (sym read.all_names) read.head.styles_good;
    sheet = record { formed = read.head.named; different = read.head.different };
    known = read.known;
  }

  abbrev lines_read : List (List ℕ)
  lines_read = head_lines case_opening k n names ++ map run_line runs

  -- with the end line, these are the lines of the case text
  lines_are : lines_read ++ (case_end ∷ []) ≡ case_lines k names runs
  lines_are =
      append_assoc (head_lines case_opening k n names) (map run_line runs) (case_end ∷ [])
      ∙ ap (λ m. head_lines case_opening k m names ++ (map run_line runs ++ (case_end ∷ []))) (sym read.all_names)

  module _ (after : List ℕ) (end : rest ≡ case_end ++ (line_feed ∷ after)) where
    end_done : Done text (lines_read ++ (case_end ∷ [])) after
    end_done = done_more (runs_done read) case_end after end (free_tested case_end refl)

    pub whole_text : after ≡ [] → text ≡ case_text k names runs
    whole_text none = end_done.is ∙ ap (λ r. text_of (lines_read ++ (case_end ∷ [])) ++ r) none ∙ append-nil (text_of (lines_read ++ (case_end ∷ []))) ∙ ap text_of lines_are

    pub whole_read : after ≡ [] → IsCaseText text
    whole_read none = (k, names, runs, case_read, whole_text none)

    end_further : Further text (3 + n + length runs) case_end
    end_further = further (3 + n + length runs) case_end after (runs_done read) (runs_count read) end (free_tested case_end refl)

    in_order_end : InOrder text (suc (3 + n + length runs))
    in_order_end =
        let j = 3 + n + length runs in (
          k,
          n,
          length runs,
          formed_more (formed_runs read (length runs) (omega arith)) end_further.there (in_body {s = length runs} refl (ends refl end_further.here)),
          different_runs read (suc j),
          known_end n text j (known_to read) end_further.here,
        )

    -- what else is in form up to there has as many runs
    runs_are : (k' n' r' j : ℕ) → Formed case_opening (CaseBody r') k' n' text j → 3 + n + length runs < j → r' ≡ length runs
    runs_are k' n' r' j formed far = at_end (body_line read k' n' r' j (length runs) formed far) end_further.here
      where
        at_end : {r : ℕ} {l : List ℕ} → CaseBody r (length runs) l → l ≡ case_end → r ≡ length runs
        at_end (is_run run h formed is) here = absurd (no_end_run run (sym here ∙ is))
        at_end (ends e is) here = sym e

    pub fault_extra : length text ≤ text_limit → (after ≡ [] → ⊥) → FirstFault text (F.form (suc (4 + n + length runs)))
    fault_extra short some = (
      short,
      record {
        before = 4 + n + length runs;
        counted = refl;
        in_order = subst (InOrder text) (omega arith) in_order_end;
        out_of_form = λ f.
            let formed = f.3 in
            let same = runs_are f.0 f.1 f.2 (suc (4 + n + length runs)) formed (omega arith) in
            past_the_end same (body_line read f.0 f.1 f.2 (suc (4 + n + length runs)) (suc (length runs)) formed (omega arith));
        not_whole = λ is.
            let w = case_whole text is in
            some (nothing_left end_done (counts w) w.ends);
      },
    )
      where
        past_the_end : {r : ℕ} {l : List ℕ} → r ≡ length runs → CaseBody r (suc (length runs)) l → ⊥
        past_the_end same (is_run run h formed is) = omega arith
        past_the_end same (ends e is) = omega arith

        counts : (w : CaseWhole text) → length (lines text) ≡ length (lines_read ++ (case_end ∷ []))
        counts w =
            let styles = styles_is read w.k w.n w.r (4 + w.n + w.r) w.formed (omega arith) in
            let same = runs_are w.k w.n w.r (4 + w.n + w.r) w.formed (omega (arith, runs_within read w)) in
            omega (arith, w.count, length_push lines_read case_end, runs_count read)
