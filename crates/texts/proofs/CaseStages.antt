-- The first fault of a text that is read as a case text, at each line where the reading can stop. Assumes nothing.
use Rattle.std.proofs.Common.{◌≡◌, ℕ, suc, ◌+◌, ◌-◌, ◌<◌, ◌≤◌, List, [], ◌∷◌, ◌++◌, map, length, get_or, take, codes, sym, refl, ap, ◌∙◌, subst, inl, inr, arith}
use Rattle.std.specs.List.{flat_map, ContainsAt as Has}
use Rattle.std.proofs.ByRecursion.{All-from_get_or, All-get_or, All-push}
use Rattle.std.proofs.lemmas.List.{get_or-append_right, get_or-map, length-append, length-map, map_push}
use Rattle.std.proofs.lemmas.Bool.{cases_lt}
use Rattle.texts.specs.CaseFaults.{CaseBody, is_run, ends, FirstFault, InForm, InOrder, KnownTo}
use Rattle.texts.specs.CaseText.{RunsOf, case_end, case_opening, run_line}
use Rattle.texts.specs.Faults as F
use Rattle.texts.specs.Forms.{wheel_line, styles_line, style_line, WheelGood, StylesGood, LineOf, in_body, Formed, DifferentTo}
use Rattle.texts.specs.Limits.{text_limit}
use Rattle.texts.specs.Lines.{line_feed, text_of, line}
use Rattle.texts.specs.Names.{NameForm, NamesFormed}
use Rattle.texts.proofs.CaseWhole.{CaseWhole, case_whole, free_run_lines}
use Rattle.texts.proofs.Forms.{at_body, Done, done_line, done_count, done_more, Next, goes_on}
use Rattle.texts.proofs.Further.{formed_more, further, lines_formed_less, style_formed, style_further}
use Rattle.texts.proofs.Heads.{head_lines, HeadRead, formed_none, formed_opening, formed_wheel, head_count, head_style, formed_head, different_head, same_head_styles, no_opening, no_wheel, no_styles, no_style}
use Rattle.texts.proofs.Known.{RunsFormed, StyleLines, has_style, style_has, known_runs, no_end_run}
use Rattle.texts.proofs.Runs.{free_run_line}
use Rattle.texts.proofs.Steps.{done_all}

some_wheel : WheelGood 2
some_wheel = record { from_two = omega arith; to_nine = omega arith }

one_style : StylesGood 1
one_style = record { some = omega arith; few = omega arith }

-- a whole text has as many lines in form as it has lines
whole_in_form : {text : List ℕ} (w : CaseWhole text) (j : ℕ) → j ≤ 4 + w.n + w.r → InForm text j
whole_in_form w j less = (w.k, w.n, w.r, lines_formed_less w.formed less)

module _ {text : List ℕ} (short : length text ≤ text_limit) where
  form_fault : (j : ℕ) → InOrder text j → (InForm text (suc j) → ⊥) → ((w : CaseWhole text) → suc j ≤ 4 + w.n + w.r) → FirstFault text (F.form (suc j))
  form_fault j in_order none further = (
    short,
    record {
      before = j;
      counted = refl;
      in_order = in_order;
      out_of_form = none;
      not_whole = λ is. let w = case_whole text is in none (whole_in_form w (suc j) (further w));
    },
  )

  pub fault_opening : ((after : List ℕ) → text ≡ case_opening ++ (line_feed ∷ after) → ⊥) → FirstFault text (F.form 1)
  fault_opening none =
      form_fault 0
      (2, 1, 0, formed_none case_opening (CaseBody 0) 2 1 text some_wheel one_style, (λ a b less below within e. omega arith), λ i run s low high formed here within. absurd (omega arith))
      (λ f. no_opening case_opening (CaseBody f.2) text none f.0 f.1 f.3)
      (λ w. omega arith)

  pub fault_wheel_line : (rest : List ℕ) → Done text (case_opening ∷ []) rest → ((w : ℕ) (after : List ℕ) → WheelGood w → rest ≡ wheel_line w ++ (line_feed ∷ after) → ⊥) → FirstFault text (F.form 2)
  fault_wheel_line rest done none =
      form_fault 1
      (2, 1, 0, formed_opening case_opening (CaseBody 0) 2 1 text rest some_wheel one_style done, (λ a b less below within e. omega arith), λ i run s low high formed here within. absurd (omega arith))
      (λ f. no_wheel case_opening (CaseBody f.2) text rest done none f.0 f.1 f.3)
      (λ w. omega arith)

  pub fault_styles_line : (k : ℕ) (rest : List ℕ) → WheelGood k → Done text (case_opening ∷ wheel_line k ∷ []) rest → ((m : ℕ) (after : List ℕ) → StylesGood m → rest ≡ styles_line m ++ (line_feed ∷ after) → ⊥) → FirstFault text (F.form 3)
  fault_styles_line k rest kg done none =
      form_fault 2
      (k, 1, 0, formed_wheel case_opening (CaseBody 0) k 1 text rest kg one_style done, (λ a b less below within e. omega arith), λ i run s low high formed here within. absurd (omega arith))
      (λ f. no_styles case_opening (CaseBody f.2) k text rest done none f.0 f.1 f.3)
      (λ w. omega arith)

  module _ {k n : ℕ} {names : List (List ℕ)} {rest : List ℕ} (head : HeadRead case_opening k n names text rest) where
    in_order_head : InOrder text (3 + length names)
    in_order_head = (k, n, 0, formed_head case_opening (CaseBody 0) head, different_head case_opening (CaseBody 0) head, λ i run s low high formed here within. absurd (omega (arith, head.few)))

    -- a whole text of these lines has as many styles
    whole_styles : (w : CaseWhole text) → w.n ≡ n
    whole_styles w = same_head_styles case_opening (CaseBody w.r) head w.k w.n (4 + w.n + w.r) w.formed (omega arith)

    pub fault_style_line : length names < n → ((name after : List ℕ) → NameForm name → rest ≡ style_line name ++ (line_feed ∷ after) → ⊥) → FirstFault text (F.form (suc (3 + length names)))
    fault_style_line more none =
        form_fault (3 + length names) in_order_head
        (λ f. no_style case_opening (CaseBody f.2) head more none f.0 f.1 f.3)
        (λ w. omega (arith, whole_styles w))

    pub fault_repeated : (name after : List ℕ) (a : ℕ) → length names < n → NameForm name → rest ≡ style_line name ++ (line_feed ∷ after) → a < length names → get_or names a [] ≡ name → FirstFault text (F.name (suc (3 + length names)) 6)
    fault_repeated name after a more form is within same = (
      short,
      inl (record {
        before = 3 + length names;
        counted = refl;
        in_order = in_order_head;
        in_form = (k, n, 0, style_formed head name after more form is (CaseBody 0));
        name = name;
        here = (style_further head name after more form is (CaseBody 0)).here;
        earlier = 3 + a;
        is_earlier = omega arith;
        there = head_style case_opening (CaseBody 0) head a within ∙ ap style_line same;
        at_the_name = refl;
      }),
    )

-- the byte of a run line at which a name of it begins
abbrev pub byte_of : List (List ℕ) → ℕ → ℕ
byte_of run s = length (codes "run=" ++ flat_map (λ name. name ++ (32 ∷ [])) (take s run))

-- all style lines and some run lines have been read, and are in order
pub record CaseRead (k n : ℕ) (names : List (List ℕ)) (runs : List (List (List ℕ))) (text rest : List ℕ) : Type 0 where
  pub middle : List ℕ
  pub head : HeadRead case_opening k n names text middle
  pub all_names : length names ≡ n
  pub formed : RunsFormed runs
  pub known : RunsOf names runs
  pub is : middle ≡ text_of (map run_line runs) ++ rest

-- before the first run line
pub case_start : {k n : ℕ} {names : List (List ℕ)} {text rest : List ℕ} → HeadRead case_opening k n names text rest → length names ≡ n → CaseRead k n names [] text rest
case_start {rest = rest} head all = record {
  middle = rest;
  head = head;
  all_names = all;
  formed = λ i h. absurd (omega arith);
  known = λ i s h. absurd (omega arith);
  is = refl;
}

module _ {k n : ℕ} {names : List (List ℕ)} {runs : List (List (List ℕ))} {text rest : List ℕ} (read : CaseRead k n names runs text rest) where
  abbrev heads : List (List ℕ)
  heads = head_lines case_opening k n names

  pub runs_done : Done text (heads ++ map run_line runs) rest
  runs_done = done_all read.head.done (map run_line runs) rest read.is (free_run_lines runs read.formed)

  heads_count : length heads ≡ 3 + n
  heads_count = omega (arith, head_count case_opening (CaseBody 0) read.head, read.all_names)

  pub runs_count : length (heads ++ map run_line runs) ≡ 3 + n + length runs
  runs_count = omega (arith, length-append heads (map run_line runs), heads_count, length-map runs run_line)

  -- a run line that has been read
  pub run_line_at : (t : ℕ) → t < length runs → line text (3 + n + t) ≡ run_line (get_or runs t [])
  run_line_at t h =
      done_line runs_done (3 + n + t) (omega (arith, runs_count))
      ∙ get_or-append_right heads (map run_line runs) (3 + n) (3 + n + t) [] heads_count (omega arith)
      ∙ ap (λ i. get_or (map run_line runs) i []) (omega arith)
      ∙ get_or-map run_line runs t [] [] h

  pub formed_runs : (r : ℕ) → length runs ≤ r → Formed case_opening (CaseBody r) k n text (3 + n + length runs)
  formed_runs r enough =
      let head = formed_head case_opening (CaseBody r) read.head in
      record {
        wheel_good = head.wheel_good;
        styles_good = head.styles_good;
        there = omega (arith, done_count runs_done, runs_count);
        each = λ i h.
            elim (cases_lt i (3 + length names)) [
              | inl below ↦ head.each i below
              | inr past ↦
                  let t = i - (3 + n) in
                  let at : 3 + n + t ≡ i = omega (arith, read.all_names) in
                  let below : t < length runs = omega (arith, read.all_names) in
                  subst (λ j. LineOf case_opening (CaseBody r) k n j (line text j)) at (in_body {s = t} refl (is_run (get_or runs t []) (omega arith) (read.formed t below) (run_line_at t below)))
            ];
      }

  pub different_runs : (j : ℕ) → DifferentTo n text j
  different_runs j a b less below within e = different_head case_opening (CaseBody 0) read.head a b less below (omega (arith, read.all_names)) e

  style_lines : StyleLines text names
  style_lines = head_style case_opening (CaseBody 0) read.head

  pub known_to : KnownTo n text (3 + n + length runs)
  known_to =
      subst (λ m. KnownTo m text (3 + m + length runs)) read.all_names
      (known_runs text names style_lines runs read.formed read.known (λ t h. ap (λ m. line text (3 + m + t)) read.all_names ∙ run_line_at t h))

  in_order_runs : InOrder text (3 + n + length runs)
  in_order_runs = (k, n, length runs, formed_runs (length runs) (omega arith), different_runs (3 + n + length runs), known_to)

  -- what else is in form has as many styles
  pub styles_is : (k' n' r' j : ℕ) → Formed case_opening (CaseBody r') k' n' text j → 3 ≤ j → n' ≡ n
  styles_is k' n' r' j formed far = same_head_styles case_opening (CaseBody r') read.head k' n' j formed far

  -- line number t of the body, where the text is in form further than that
  pub body_line : (k' n' r' j t : ℕ) → Formed case_opening (CaseBody r') k' n' text j → 3 + n + t < j → CaseBody r' t (line text (3 + n + t))
  body_line k' n' r' j t formed far =
      at_body case_opening (CaseBody r') k' n' (3 + n + t) (line text (3 + n + t)) t (omega (arith, styles_is k' n' r' j formed (omega arith))) (formed.each (3 + n + t) far)

  -- a whole text has at least the runs that have been read
  pub runs_within : (w : CaseWhole text) → length runs ≤ w.r
  runs_within w =
      elim (cases_lt w.r (length runs)) [
        | inl less ↦
            let styles = styles_is w.k w.n w.r (4 + w.n + w.r) w.formed (omega arith) in
            absurd (no_end (get_or runs w.r []) (body_line w.k w.n w.r (4 + w.n + w.r) w.r w.formed (omega arith)) (run_line_at w.r less))
        | inr enough ↦ enough
      ]
    where
      no_end : {r : ℕ} {l : List ℕ} (run : List (List ℕ)) → CaseBody r r l → l ≡ run_line run → ⊥
      no_end run (is_run other h formed is) here = omega arith
      no_end run (ends e is) here = no_end_run run (sym is ∙ here)

  -- the next line, where the text goes on in form, is that of its number in the body
  after_runs : (k' n' r' : ℕ) → Formed case_opening (CaseBody r') k' n' text (suc (3 + n + length runs)) → Next rest (line text (3 + n + length runs)) × CaseBody r' (length runs) (line text (3 + n + length runs))
  after_runs k' n' r' formed = (
    subst (λ i. Next rest (line text i)) runs_count (goes_on runs_done (subst (Formed case_opening (CaseBody r') k' n' text) (ap suc (sym runs_count)) formed)),
    body_line k' n' r' (suc (3 + n + length runs)) (length runs) formed (omega arith),
  )

  module _ (short : length text ≤ text_limit) where
    pub fault_run_line : ((run : List (List ℕ)) (after : List ℕ) → NamesFormed run → rest ≡ run_line run ++ (line_feed ∷ after) → ⊥) → ((after : List ℕ) → rest ≡ case_end ++ (line_feed ∷ after) → ⊥) → FirstFault text (F.form (suc (3 + n + length runs)))
    fault_run_line no_run no_end =
        form_fault short (3 + n + length runs) in_order_runs
        (λ f. let next = after_runs f.0 f.1 f.2 f.3 in neither next.0 next.1)
        (λ w. omega (arith, runs_within w, styles_is w.k w.n w.r (4 + w.n + w.r) w.formed (omega arith)))
      where
        neither : {r : ℕ} {l : List ℕ} → Next rest l → CaseBody r (length runs) l → ⊥
        neither next (is_run run h formed is) = no_run run next.after formed (next.is ∙ ap (λ l. l ++ (line_feed ∷ next.after)) is)
        neither next (ends e is) = no_end next.after (next.is ∙ ap (λ l. l ++ (line_feed ∷ next.after)) is)

    -- the rest opens with a run line, and no style has one of its names
    pub fault_unknown : (run : List (List ℕ)) (after : List ℕ) (first : ℕ) → NamesFormed run → rest ≡ run_line run ++ (line_feed ∷ after) → first < length run → (Has names (get_or run first []) → ⊥) → ((s : ℕ) → s < first → Has names (get_or run s [])) → FirstFault text (F.name (suc (3 + n + length runs)) (byte_of run first))
    fault_unknown run after first formed is within unknown known = (
      short,
      let next = further (3 + n + length runs) (run_line run) after runs_done runs_count is (free_run_line run formed) in
          inr (record {
            before = 3 + n + length runs;
            counted = refl;
            in_order = in_order_runs;
            in_form = (k, n, suc (length runs), formed_more (formed_runs (suc (length runs)) (omega arith)) next.there (in_body {s = length runs} refl (is_run run (omega arith) formed next.here)));
            styles = length names;
            counted_styles = done_line read.head.done 2 (omega arith) ∙ ap styles_line (sym read.all_names);
            run = run;
            named = formed;
            here = next.here;
            first = first;
            within = within;
            unknown = λ has. unknown (style_has text names style_lines (get_or run first []) has);
            known_before = λ s h. has_style text names style_lines (get_or run s []) (known s h);
            at_the_name = refl;
          }),
    )

  -- one run line more
  pub case_more : (run : List (List ℕ)) (after : List ℕ) → NamesFormed run → ((s : ℕ) → s < length run → Has names (get_or run s [])) → rest ≡ run_line run ++ (line_feed ∷ after) → CaseRead k n names (runs ++ (run ∷ [])) text after
  case_more run after formed known is = record {
    middle = read.middle;
    head = read.head;
    all_names = read.all_names;
    formed = each NamesFormed read.formed formed;
    known = λ i s h. each (λ r. s < length r → Has names (get_or r s [])) (λ j within. read.known j s within) (known s) i h;
    is = (done_more body_done (run_line run) after is (free_run_line run formed)).is ∙ ap (λ ls. text_of ls ++ after) (sym (map_push run_line runs run));
  }
    where
      body_done : Done read.middle (map run_line runs) rest
      body_done = record { is = read.is; free = free_run_lines runs read.formed }

      each : (P : List (List ℕ) → Type 0) → ((i : ℕ) → i < length runs → P (get_or runs i [])) → P run → (i : ℕ) → i < length (runs ++ (run ∷ [])) → P (get_or (runs ++ (run ∷ [])) i [])
      each P before last i h = All-get_or P (runs ++ (run ∷ [])) i [] h (All-push P runs run (All-from_get_or P runs [] before) last)
