-- How the reading of a text goes on from line to line. Assumes nothing.
use Rattle.std.proofs.Common.{◌≡◌, ℕ, ◌<◌, ◌≤◌, List, [], ◌∷◌, ◌++◌, map, length, get_or, sym, refl, ap, ◌∙◌, subst, inl, inr, arith}
use Rattle.std.specs.List.{AllByRecursion as All}
use Rattle.std.proofs.ByRecursion.{All-append}
use Rattle.std.proofs.lemmas.List.{append_assoc, get_or_append_left, get_or_push, length_push, map_push}
use Rattle.std.proofs.lemmas.Bool.{cases_lt}
use Rattle.theory.specs.Limits.{place_limit}
use Rattle.theory.specs.Places.{Place, PlaceOn}
use Rattle.texts.specs.Forms.{wheel_line, styles_line, style_line, WheelGood, StylesGood}
use Rattle.texts.specs.Lines.{line_feed, text_of}
use Rattle.texts.specs.Names.{NameForm, Sheet}
use Rattle.texts.specs.NetText.{net_opening, places_line, place_line}
use Rattle.texts.proofs.Bytes.{free_wheel_line, free_styles_line, free_style_line, free_style_lines, free_places_line, free_place_line, free_place_lines}
use Rattle.texts.proofs.Forms.{Done, done_more}
use Rattle.texts.proofs.Heads.{wheel_fits, styles_fit, none_done, HeadRead}
use Rattle.texts.proofs.Lines.{Free, text_of_append, text_of_rest}
use Rattle.texts.proofs.NetStages.{PlacesRead}

-- many lines more
pub done_all : {text : List ℕ} {ls : List (List ℕ)} {middle : List ℕ} → Done text ls middle → (ms : List (List ℕ)) (rest : List ℕ) → middle ≡ text_of ms ++ rest → All Free ms → Done text (ls ++ ms) rest
done_all {ls = ls} done ms rest e free = record {
  is =
      done.is ∙ ap (λ r. text_of ls ++ r) e
      ∙ sym (append_assoc (text_of ls) (text_of ms) rest)
      ∙ ap (λ t. t ++ rest) (sym (text_of_append ls ms));
  free = All-append Free ls ms done.free free;
}

-- the first three lines
pub three_done : (opening : List ℕ) (k n : ℕ) (text r1 r2 r3 : List ℕ) → text ≡ opening ++ (line_feed ∷ r1) → r1 ≡ wheel_line k ++ (line_feed ∷ r2) → r2 ≡ styles_line n ++ (line_feed ∷ r3) → WheelGood k → StylesGood n → Free opening → Done text (opening ∷ wheel_line k ∷ styles_line n ∷ []) r3
three_done opening k n text r1 r2 r3 e1 e2 e3 kg ng free =
    done_more (done_more (done_more (none_done text) opening r1 e1 free) (wheel_line k) r2 e2 (free_wheel_line k (wheel_fits k kg))) (styles_line n) r3 e3 (free_styles_line n (styles_fit n ng))

-- the lines of a head, joined
pub head_from : (opening : List ℕ) (k n : ℕ) (names : List (List ℕ)) (text r1 r2 r3 rest : List ℕ) → text ≡ opening ++ (line_feed ∷ r1) → r1 ≡ wheel_line k ++ (line_feed ∷ r2) → r2 ≡ styles_line n ++ (line_feed ∷ r3) → r3 ≡ text_of (map style_line names) ++ rest → Sheet names → length names ≤ n → WheelGood k → StylesGood n → Free opening → HeadRead opening k n names text rest
head_from opening k n names text r1 r2 r3 rest e1 e2 e3 e4 sheet few kg ng free = record {
  wheel_good = kg;
  styles_good = ng;
  named = sheet.formed;
  different = sheet.different;
  few = few;
  done = done_all (three_done opening k n text r1 r2 r3 e1 e2 e3 kg ng free) (map style_line names) rest e4 (free_style_lines names sheet.formed);
}

-- the lines of the places, joined
pub places_from : (k n p : ℕ) (names : List (List ℕ)) (places : List Place) (text r4 r5 rest : List ℕ) → HeadRead net_opening k n names text r4 → length names ≡ n → p ≤ place_limit → r4 ≡ places_line p ++ (line_feed ∷ r5) → r5 ≡ text_of (map place_line places) ++ rest → ((i : ℕ) → i < length places → PlaceOn k n (get_or places i (record { start = 0; cells = [] }))) → length places ≤ p → PlacesRead k n p names places text rest
places_from k n p names places text r4 r5 rest head all few_places e4 e5 good few = record {
  middle = r4;
  head = head;
  all_names = all;
  few_places = few_places;
  good = good;
  few = few;
  is = e4 ∙ ap (λ r. places_line p ++ (line_feed ∷ r)) e5 ∙ sym (text_of_rest (places_line p) (map place_line places) rest);
}

-- a reading of the head with no name yet
pub head_start : (opening : List ℕ) (k n : ℕ) (text rest : List ℕ) → WheelGood k → StylesGood n → Done text (opening ∷ wheel_line k ∷ styles_line n ∷ []) rest → HeadRead opening k n [] text rest
head_start opening k n text rest kg ng done = record {
  wheel_good = kg;
  styles_good = ng;
  named = λ i h. absurd (omega arith);
  different = λ i j less h e. omega arith;
  few = omega arith;
  done = done;
}

-- a list with one more element has the elements of the list, and then that one
at_push : {X : Type 0} (P : X → Type 0) (xs : List X) (x d : X) → ((i : ℕ) → i < length xs → P (get_or xs i d)) → P x → (i : ℕ) → i < length (xs ++ (x ∷ [])) → P (get_or (xs ++ (x ∷ [])) i d)
at_push P xs x d each last i h =
    elim (cases_lt i (length xs)) [
      | inl below ↦ subst P (sym (get_or_append_left xs (x ∷ []) d i below)) (each i below)
      | inr past ↦ subst P (sym (get_or_push xs x d i (omega (arith, length_push xs x)))) last
    ]

-- one name more
pub head_more : {opening : List ℕ} {k n : ℕ} {names : List (List ℕ)} {text rest : List ℕ} → HeadRead opening k n names text rest → (name after : List ℕ) → length names < n → NameForm name → ((a : ℕ) → a < length names → get_or names a [] ≡ name → ⊥) → rest ≡ style_line name ++ (line_feed ∷ after) → HeadRead opening k n (names ++ (name ∷ [])) text after
head_more {opening} {k} {n} {names} {text} {rest} head name after more form new e = record {
  wheel_good = head.wheel_good;
  styles_good = head.styles_good;
  named = at_push NameForm names name [] head.named form;
  different = λ i j less h same.
      let before : i < length names = omega (arith, length_push names name) in
      let there : get_or (names ++ (name ∷ [])) i [] ≡ get_or names i [] = get_or_append_left names (name ∷ []) [] i before in
      elim (cases_lt j (length names)) [
        | inl below ↦ head.different i j less below (sym there ∙ same ∙ get_or_append_left names (name ∷ []) [] j below)
        | inr past ↦ new i before (sym there ∙ same ∙ get_or_push names name [] j (omega (arith, length_push names name)))
      ];
  few = omega (arith, length_push names name);
  done = subst (λ ls. Done text (opening ∷ wheel_line k ∷ styles_line n ∷ ls) after) (sym (map_push style_line names name)) (done_more head.done (style_line name) after e (free_style_line name form));
}

-- a reading of the places with no place yet
pub places_start : {k n : ℕ} {names : List (List ℕ)} {text rest : List ℕ} → HeadRead net_opening k n names text rest → (p : ℕ) (after : List ℕ) → length names ≡ n → p ≤ place_limit → rest ≡ places_line p ++ (line_feed ∷ after) → PlacesRead k n p names [] text after
places_start {k} {n} {names} {text} {rest} head p after all few e = places_from k n p names [] text rest after after head all few e refl (λ i h. absurd (omega arith)) (omega arith)

-- one place more
pub places_more : {k n p : ℕ} {names : List (List ℕ)} {places : List Place} {text rest : List ℕ} → PlacesRead k n p names places text rest → (place : Place) (after : List ℕ) → length places < p → PlaceOn k n place → rest ≡ place_line place ++ (line_feed ∷ after) → PlacesRead k n p names (places ++ (place ∷ [])) text after
places_more {k} {n} {p} {names} {places} {text} {rest} read place after more on e = record {
  middle = read.middle;
  head = read.head;
  all_names = read.all_names;
  few_places = read.few_places;
  good = at_push (PlaceOn k n) places place (record { start = 0; cells = [] }) read.good on;
  few = omega (arith, length_push places place);
  is =
      let body : Done read.middle (places_line p ∷ map place_line places) rest = record { is = read.is; free = (free_places_line p (omega (arith, read.few_places)), free_place_lines places) } in
      (done_more body (place_line place) after e (free_place_line place)).is ∙ ap (λ ls. text_of (places_line p ∷ ls) ++ after) (sym (map_push place_line places place));
}
