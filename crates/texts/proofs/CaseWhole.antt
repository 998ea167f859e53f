-- A case text as a whole: its lines, each of its form, no two style lines equal, and the names of the runs those of the styles. Assumes nothing.
use Rattle.std.proofs.Common.{◌≡◌, ℕ, suc, ◌+◌, ◌<◌, List, [], ◌∷◌, ◌++◌, map, length, get_or, sym, refl, ◌∙◌, subst, inl, inr, arith}
use Rattle.std.specs.List.{AllByRecursion as All}
use Rattle.std.proofs.ByRecursion.{All-append, All-from_get_or, All-map}
use Rattle.std.proofs.lemmas.List.{get_or_append_left, get_or_at, get_or-map, length-append, length-map}
use Rattle.std.proofs.lemmas.Bool.{cases_lt}
use Rattle.texts.specs.CaseFaults.{CaseBody, is_run, ends, KnownTo}
use Rattle.texts.specs.CaseText.{Case, IsCaseText, case_end, case_opening, case_text, run_line}
use Rattle.texts.specs.Forms.{Formed, DifferentTo}
use Rattle.texts.specs.Lines.{lines, text_of}
use Rattle.texts.proofs.Bytes.{free_tested}
use Rattle.texts.proofs.Known.{RunsFormed, runs_formed, known_runs, known_end}
use Rattle.texts.proofs.Lines.{Free}
use Rattle.texts.proofs.Made.{Made, made_text}
use Rattle.texts.proofs.Runs.{free_run_line}

-- the lines after those of the styles
abbrev pub case_body : List (List (List ℕ)) → List (List ℕ)
case_body runs = map run_line runs ++ (case_end ∷ [])

pub free_run_lines : (runs : List (List (List ℕ))) → RunsFormed runs → All Free (map run_line runs)
free_run_lines runs formed = All-map Free run_line runs (All-from_get_or (λ run. Free (run_line run)) runs [] (λ i h. free_run_line (get_or runs i []) (formed i h)))

run_at : (runs : List (List (List ℕ))) (t : ℕ) → t < length runs → get_or (case_body runs) t [] ≡ run_line (get_or runs t [])
run_at runs t h = get_or_append_left (map run_line runs) (case_end ∷ []) [] t (simp length-map h) ∙ get_or-map run_line runs t [] [] h

end_at : (runs : List (List (List ℕ))) → get_or (case_body runs) (length runs) [] ≡ case_end
end_at runs = get_or_at (map run_line runs) case_end [] [] (length runs) (length-map runs run_line)

body_count : (runs : List (List (List ℕ))) → length (case_body runs) ≡ suc (length runs)
body_count runs = simp (length-append, length-map) (omega arith)

body_each : (runs : List (List (List ℕ))) → RunsFormed runs → (s : ℕ) → s < length (case_body runs) → CaseBody (length runs) s (get_or (case_body runs) s [])
body_each runs formed s h =
    elim (cases_lt s (length runs)) [
      | inl below ↦ is_run (get_or runs s []) below (formed s below) (run_at runs s below)
      | inr past ↦ let last : length runs ≡ s = omega (arith, body_count runs) in subst (λ t. CaseBody (length runs) t (get_or (case_body runs) t [])) last (ends refl (end_at runs))
    ]

module _ (k : ℕ) (names : List (List ℕ)) (runs : List (List (List ℕ))) (of : Case k names runs) where
  pub case_runs_formed : RunsFormed runs
  case_runs_formed = runs_formed names runs of.sheet.formed of.known

  pub case_made : Made case_opening (CaseBody (length runs)) k (length names) names (case_body runs)
  case_made = record {
    wheel_good = of.wheel_good;
    styles_good = of.styles_good;
    sheet = of.sheet;
    one_name_each = refl;
    free_opening = free_tested case_opening refl;
    free_body = All-append Free (map run_line runs) (case_end ∷ []) (free_run_lines runs case_runs_formed) (free_tested case_end refl, tt);
    each = body_each runs case_runs_formed;
  }

-- what the reader of a case text knows at its end
pub record CaseWhole (text : List ℕ) : Type 0 where
  pub k : ℕ
  pub n : ℕ
  pub r : ℕ
  pub formed : Formed case_opening (CaseBody r) k n text (4 + n + r)
  pub different : DifferentTo n text (4 + n + r)
  pub known : KnownTo n text (4 + n + r)
  pub count : length (lines text) ≡ 4 + n + r
  pub ends : text ≡ text_of (lines text)

whole_of : (k : ℕ) (names : List (List ℕ)) (runs : List (List (List ℕ))) → Case k names runs → CaseWhole (case_text k names runs)
whole_of k names runs of =
    let n = length names in
    let r = length runs in
    let text = case_text k names runs in
    let made = made_text (case_made k names runs of) in
    let total : 3 + n + length (case_body runs) ≡ 4 + n + r = omega (arith, body_count runs) in
    let known = known_runs text names made.style_at runs (case_runs_formed k names runs of) of.known (λ t h. made.body_at t ∙ run_at runs t h) in
    record {
      k = k;
      n = n;
      r = r;
      formed = subst (Formed case_opening (CaseBody r) k n text) total made.formed;
      different = subst (DifferentTo n text) total made.different;
      known = subst (KnownTo n text) (omega arith) (known_end n text (3 + n + r) known (made.body_at r ∙ end_at runs));
      count = made.count ∙ total;
      ends = made.ends;
    }

pub case_whole : (text : List ℕ) → IsCaseText text → CaseWhole text
case_whole text (k, names, runs, of, is) = subst CaseWhole (sym is) (whole_of k names runs of)
