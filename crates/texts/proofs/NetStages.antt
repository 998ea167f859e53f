-- The first fault of a text that is read as a net text, at each line where the reading can stop. Assumes nothing.
use Rattle.std.proofs.Common.{◌≡◌, ℕ, zero, suc, ◌+◌, ◌-◌, ◌<◌, ◌≤◌, List, [], ◌∷◌, ◌++◌, map, length, get_or, sym, refl, ap, ◌∙◌, subst, inl, inr, arith}
use Rattle.std.proofs.ByRecursion.{All-append}
use Rattle.std.proofs.lemmas.List.{append_assoc, get_or-append_right, get_or-map, length-append, length-map}
use Rattle.std.proofs.lemmas.Bool.{cases_lt}
use Rattle.theory.specs.Limits.{place_limit}
use Rattle.theory.specs.Places.{Place, PlaceOn}
use Rattle.texts.specs.Faults as F
use Rattle.texts.specs.Forms.{wheel_line, styles_line, style_line, WheelGood, StylesGood, LineOf, in_body, Formed, DifferentTo}
use Rattle.texts.specs.Limits.{text_limit}
use Rattle.texts.specs.Lines.{line_feed, text_of, line}
use Rattle.texts.specs.Names.{NameForm}
use Rattle.texts.specs.NetFaults.{NetBody, counts_places, is_place, ends, NetFormed, InForm, InOrder, FirstFault}
use Rattle.texts.specs.NetText.{net_opening, net_end, places_line, place_line}
use Rattle.texts.proofs.Bytes.{free_places_line, free_place_lines, same_places}
use Rattle.texts.proofs.Forms.{at_body, Done, done_line, done_count, Next, goes_on}
use Rattle.texts.proofs.Further.{style_formed, style_further}
use Rattle.texts.proofs.Heads.{first_done, head_lines, HeadRead, formed_none, formed_opening, formed_wheel, head_count, head_style, formed_head, different_head, same_head_wheel, same_head_styles, no_opening, no_wheel, no_styles, head_next, no_style}
use Rattle.texts.proofs.Lines.{Free, text_of_append}
use Rattle.texts.proofs.Whole.{Whole, whole, formed_less}

one_style : StylesGood 1
one_style = record { some = omega arith; few = omega arith }

-- a whole text has as many lines in form as it has lines
whole_in_form : {k : ℕ} {text : List ℕ} (w : Whole k text) (j : ℕ) → j ≤ 5 + w.n + w.p → InForm text j
whole_in_form {k} w j less = (k, w.n, w.p, formed_less w.formed less)

module _ {k : ℕ} {text : List ℕ} (short : length text ≤ text_limit) where
  form_fault : (j : ℕ) → InOrder k text j → (InForm text (suc j) → ⊥) → ((w : Whole k text) → suc j ≤ 5 + w.n + w.p) → FirstFault k text (F.form (suc j))
  form_fault j in_order none further = (
    short,
    record {
      before = j;
      counted = refl;
      in_order = in_order;
      out_of_form = none;
      not_whole = λ is. let w = whole k text is in none (whole_in_form w (suc j) (further w));
    },
  )

  pub fault_opening : WheelGood k → ((after : List ℕ) → text ≡ net_opening ++ (line_feed ∷ after) → ⊥) → FirstFault k text (F.form 1)
  fault_opening kg none =
      form_fault 0
      (1, 0, record { few_places = omega arith; formed = formed_none net_opening (NetBody k 1 0) k 1 text kg one_style }, λ a b less below within e. omega arith)
      (λ f. no_opening net_opening (NetBody f.0 f.1 f.2) text none f.0 f.1 f.3.formed)
      (λ w. omega arith)

  in_order_1 : (rest : List ℕ) → WheelGood k → Done text (net_opening ∷ []) rest → InOrder k text 1
  in_order_1 rest kg done =
      (1, 0, record { few_places = omega arith; formed = formed_opening net_opening (NetBody k 1 0) k 1 text rest kg one_style done }, λ a b less below within e. omega arith)

  pub fault_wheel_line : (rest : List ℕ) → WheelGood k → Done text (net_opening ∷ []) rest → ((w : ℕ) (after : List ℕ) → WheelGood w → rest ≡ wheel_line w ++ (line_feed ∷ after) → ⊥) → FirstFault k text (F.form 2)
  fault_wheel_line rest kg done none =
      form_fault 1 (in_order_1 rest kg done) (λ f. no_wheel net_opening (NetBody f.0 f.1 f.2) text rest done none f.0 f.1 f.3.formed) (λ w. omega arith)

  pub fault_other_wheel : (w : ℕ) (rest : List ℕ) → WheelGood k → Done text (net_opening ∷ wheel_line w ∷ []) rest → WheelGood w → (w ≡ k → ⊥) → FirstFault k text (F.other_wheel w)
  fault_other_wheel w rest kg done wg other = (
    short,
    record {
      in_order = in_order_1 (wheel_line w ++ (line_feed ∷ rest)) kg (first_done net_opening w text rest done);
      in_form = (w, 1, 0, record { few_places = omega arith; formed = formed_wheel net_opening (NetBody w 1 0) w 1 text rest wg one_style done });
      here = done_line done 1 (omega arith);
      good = wg;
      other = other;
    },
  )

  pub fault_styles_line : (rest : List ℕ) → WheelGood k → Done text (net_opening ∷ wheel_line k ∷ []) rest → ((m : ℕ) (after : List ℕ) → StylesGood m → rest ≡ styles_line m ++ (line_feed ∷ after) → ⊥) → FirstFault k text (F.form 3)
  fault_styles_line rest kg done none =
      form_fault 2
      (1, 0, record { few_places = omega arith; formed = formed_wheel net_opening (NetBody k 1 0) k 1 text rest kg one_style done }, λ a b less below within e. omega arith)
      (λ f. no_styles net_opening (NetBody f.0 f.1 f.2) k text rest done none f.0 f.1 f.3.formed)
      (λ w. omega arith)

  module _ {n : ℕ} {names : List (List ℕ)} {rest : List ℕ} (head : HeadRead net_opening k n names text rest) where
    in_order_head : InOrder k text (3 + length names)
    in_order_head =
        (n, 0, record { few_places = omega arith; formed = formed_head net_opening (NetBody k n 0) head }, different_head net_opening (NetBody k n 0) head)

    -- a whole text of these lines has as many styles
    whole_styles : (w : Whole k text) → w.n ≡ n
    whole_styles w = same_head_styles net_opening (NetBody k w.n w.p) head k w.n (5 + w.n + w.p) w.formed.formed (omega arith)

    pub fault_style_line : length names < n → ((name after : List ℕ) → NameForm name → rest ≡ style_line name ++ (line_feed ∷ after) → ⊥) → FirstFault k text (F.form (suc (3 + length names)))
    fault_style_line more none =
        form_fault (3 + length names) in_order_head
        (λ f. no_style net_opening (NetBody f.0 f.1 f.2) head more none f.0 f.1 f.3.formed)
        (λ w. omega (arith, whole_styles w))

    pub fault_repeated : (name after : List ℕ) (a : ℕ) → length names < n → NameForm name → rest ≡ style_line name ++ (line_feed ∷ after) → a < length names → get_or names a [] ≡ name → FirstFault k text (F.name (suc (3 + length names)) 6)
    fault_repeated name after a more form is within same = (
      short,
      record {
        before = 3 + length names;
        counted = refl;
        in_order = in_order_head;
        in_form = (k, n, 0, record { few_places = omega arith; formed = style_formed head name after more form is (NetBody k n 0) });
        name = name;
        here = (style_further head name after more form is (NetBody k n 0)).here;
        earlier = 3 + a;
        is_earlier = omega arith;
        there = head_style net_opening (NetBody k n 0) head a within ∙ ap style_line same;
        at_the_name = refl;
      },
    )

    pub fault_places_line : length names ≡ n → ((p : ℕ) (after : List ℕ) → p ≤ place_limit → rest ≡ places_line p ++ (line_feed ∷ after) → ⊥) → FirstFault k text (F.form (suc (3 + length names)))
    fault_places_line all none =
        form_fault (3 + length names) in_order_head
        (λ f.
        let formed = f.3.formed in
        let next = head_next net_opening (NetBody f.0 f.1 f.2) head f.0 f.1 formed in
        let n_is = same_head_styles net_opening (NetBody f.0 f.1 f.2) head f.0 f.1 (suc (3 + length names)) formed (omega arith) in
        let body = at_body net_opening (NetBody f.0 f.1 f.2) f.0 f.1 (3 + length names) (line text (3 + length names)) 0 (omega (arith, n_is, all)) (formed.each (3 + length names) (omega arith)) in
        none f.2 next.after f.3.few_places (next.is ∙ ap (λ l. l ++ (line_feed ∷ next.after)) (body_first body)))
        (λ w. omega (arith, whole_styles w, all))
      where
        body_first : {k' n' p' : ℕ} {l : List ℕ} → NetBody k' n' p' 0 l → l ≡ places_line p'
        body_first (counts_places e is) = is
        body_first (is_place e h on is) = absurd (omega arith)
        body_first (ends e is) = absurd (omega arith)

-- the place that a list has past its end
abbrev no_place : Place
no_place = record { start = 0; cells = [] }

-- the lines up to some of the place lines have been read, and are in order
pub record PlacesRead (k n p : ℕ) (names : List (List ℕ)) (places : List Place) (text rest : List ℕ) : Type 0 where
  pub middle : List ℕ
  pub head : HeadRead net_opening k n names text middle
  pub all_names : length names ≡ n
  pub few_places : p ≤ place_limit
  pub good : (i : ℕ) → i < length places → PlaceOn k n (get_or places i no_place)
  pub few : length places ≤ p
  pub is : middle ≡ text_of (places_line p ∷ map place_line places) ++ rest

-- the same wheel, as many styles and as many places
pub record Same (k n p k' n' p' : ℕ) : Type 0 where
  pub wheel_is : k' ≡ k
  pub styles_is : n' ≡ n
  pub places_is : p' ≡ p

module _ {k n p : ℕ} {names : List (List ℕ)} {places : List Place} {text rest : List ℕ} (read : PlacesRead k n p names places text rest) where
  abbrev body_read : List (List ℕ)
  body_read = places_line p ∷ map place_line places

  abbrev all_read : List (List ℕ)
  all_read = head_lines net_opening k n names ++ body_read

  pub places_done : Done text all_read rest
  places_done = record {
    is =
        read.head.done.is ∙ ap (λ r. text_of (head_lines net_opening k n names) ++ r) read.is
        ∙ sym (append_assoc (text_of (head_lines net_opening k n names)) (text_of body_read) rest)
        ∙ ap (λ t. t ++ rest) (sym (text_of_append (head_lines net_opening k n names) body_read));
    free = All-append Free (head_lines net_opening k n names) body_read read.head.done.free (free_places_line p (omega (arith, read.few_places)), free_place_lines places);
  }

  pub places_count : length all_read ≡ 4 + n + length places
  places_count = simp (length-append, length-map) (omega (arith, read.all_names))

  -- a line of the body that has been read
  body_line : (s : ℕ) → s < suc (length places) → line text (3 + n + s) ≡ get_or body_read s []
  body_line s h =
      done_line places_done (3 + n + s) (omega (arith, places_count))
      ∙ get_or-append_right (head_lines net_opening k n names) body_read (3 + n) (3 + n + s) [] (omega (arith, head_count net_opening (NetBody k n p) read.head, read.all_names)) (omega arith)
      ∙ ap (λ i. get_or body_read i []) (omega arith)

  body_formed : (s : ℕ) → s < suc (length places) → NetBody k n p s (line text (3 + n + s))
  body_formed zero h = counts_places refl (body_line 0 h)
  body_formed (suc i) h =
      let within : i < length places = omega arith in
      is_place {i = i} {place = get_or places i no_place} refl (omega (arith, read.few)) (read.good i within) (body_line (suc i) h ∙ get_or-map place_line places i no_place [] within)

  pub formed_places : NetFormed k n p text (4 + n + length places)
  formed_places = record {
    few_places = read.few_places;
    formed =
        let head = formed_head net_opening (NetBody k n p) read.head in
        record {
          wheel_good = head.wheel_good;
          styles_good = head.styles_good;
          there = omega (arith, done_count places_done, places_count);
          each = λ i h.
              elim (cases_lt i (3 + length names)) [
                | inl below ↦ head.each i below
                | inr past ↦
                    let s = i - (3 + n) in
                    let at : 3 + n + s ≡ i = omega (arith, read.all_names) in
                    subst (λ j. LineOf net_opening (NetBody k n p) k n j (line text j)) at (in_body {s = s} refl (body_formed s (omega (arith, read.all_names))))
              ];
        };
  }

  pub different_places : DifferentTo n text (4 + n + length places)
  different_places a b less below within e = different_head net_opening (NetBody k n p) read.head a b less below (omega (arith, read.all_names)) e

  in_order_places : InOrder k text (4 + n + length places)
  in_order_places = (n, p, formed_places, different_places)

  first_body : {k' n' p' s : ℕ} {l : List ℕ} → s ≡ 0 → NetBody k' n' p' s l → l ≡ places_line p'
  first_body at (counts_places e is) = is
  first_body at (is_place e h on is) = absurd (omega arith)
  first_body at (ends e is) = absurd (omega arith)

  -- what else is in form up to there tells the same numbers
  pub same : (k' n' p' j : ℕ) → NetFormed k' n' p' text j → 4 + n ≤ j → Same k n p k' n' p'
  same k' n' p' j formed far =
      let styles_is = same_head_styles net_opening (NetBody k' n' p') read.head k' n' j formed.formed (omega arith) in
      let body = at_body net_opening (NetBody k' n' p') k' n' (3 + n + 0) (line text (3 + n + 0)) 0 (omega (arith, styles_is)) (formed.formed.each (3 + n + 0) (omega arith)) in
      record {
        wheel_is = same_head_wheel net_opening (NetBody k' n' p') read.head k' n' j formed.formed (omega arith);
        styles_is = styles_is;
        places_is = same_places p' p (omega (arith, formed.few_places)) (omega (arith, read.few_places)) (sym (first_body refl body) ∙ body_line 0 (omega arith));
      }

  -- the next line, where the text goes on in form, is that of its number in the body
  after_places : (k' n' p' : ℕ) → NetFormed k' n' p' text (suc (4 + n + length places)) → Next rest (line text (4 + n + length places)) × NetBody k n p (suc (length places)) (line text (4 + n + length places))
  after_places k' n' p' formed =
      let j = 4 + n + length places in
      let is = same k' n' p' (suc j) formed (omega arith) in
      let body = at_body net_opening (NetBody k' n' p') k' n' j (line text j) (suc (length places)) (omega (arith, is.styles_is)) (formed.formed.each j (omega arith)) in (
        subst (λ i. Next rest (line text i)) places_count (goes_on places_done (subst (Formed net_opening (NetBody k' n' p') k' n' text) (ap suc (sym places_count)) formed.formed)),
        subst (λ z. NetBody z n p (suc (length places)) (line text j)) is.wheel_is (subst (λ z. NetBody k' z p (suc (length places)) (line text j)) is.styles_is (subst (λ z. NetBody k' n' z (suc (length places)) (line text j)) is.places_is body)),
      )

  pub whole_same : (w : Whole k text) → Same k n p k w.n w.p
  whole_same w = same k w.n w.p (5 + w.n + w.p) w.formed (omega (arith, whole_is_long w))
    where
      whole_is_long : (w : Whole k text) → w.n ≡ n
      whole_is_long w = same_head_styles net_opening (NetBody k w.n w.p) read.head k w.n (5 + w.n + w.p) w.formed.formed (omega arith)

  module _ (short : length text ≤ text_limit) where
    pub fault_place_line : length places < p → ((place : Place) (after : List ℕ) → PlaceOn k n place → rest ≡ place_line place ++ (line_feed ∷ after) → ⊥) → FirstFault k text (F.form (suc (4 + n + length places)))
    fault_place_line more none =
        form_fault short (4 + n + length places) in_order_places
        (λ f. let next = after_places f.0 f.1 f.2 f.3 in no_place_line next.0 next.1)
        (λ w. let is = whole_same w in omega (arith, is.styles_is, is.places_is))
      where
        no_place_line : {l : List ℕ} → Next rest l → NetBody k n p (suc (length places)) l → ⊥
        no_place_line next (counts_places e is) = omega arith
        no_place_line next (is_place {place = place} e h on is) = none place next.after on (next.is ∙ ap (λ l. l ++ (line_feed ∷ next.after)) is)
        no_place_line next (ends e is) = omega arith

    pub fault_end_line : length places ≡ p → ((after : List ℕ) → rest ≡ net_end ++ (line_feed ∷ after) → ⊥) → FirstFault k text (F.form (suc (4 + n + length places)))
    fault_end_line all none =
        form_fault short (4 + n + length places) in_order_places
        (λ f. let next = after_places f.0 f.1 f.2 f.3 in no_end next.0 next.1)
        (λ w. let is = whole_same w in omega (arith, is.styles_is, is.places_is, all))
      where
        no_end : {l : List ℕ} → Next rest l → NetBody k n p (suc (length places)) l → ⊥
        no_end next (counts_places e is) = omega arith
        no_end next (is_place e h on is) = omega (arith, all)
        no_end next (ends e is) = none next.after (next.is ∙ ap (λ l. l ++ (line_feed ∷ next.after)) is)
