-- Every text is a net text on a wheel, or has a first fault. Assumes nothing.
use Rattle.std.proofs.Common.{◌≡◌, ℕ, zero, suc, ◌+◌, ◌≤◌, ◌⊎◌, List, [], ◌∷◌, length, codes, refl, subst, inl, inr, arith}
use Rattle.std.proofs.lemmas.List.{length_push}
use Rattle.std.proofs.lemmas.Bool.{cases_eq, cases_lt}
use Rattle.theory.specs.Limits.{style_limit, place_limit}
use Rattle.theory.specs.Places.{Place}
use Rattle.texts.specs.Faults as F
use Rattle.texts.specs.Forms.{wheel_line, styles_line, WheelGood, StylesGood}
use Rattle.texts.specs.Limits.{text_limit}
use Rattle.texts.specs.NetFaults.{FirstFault, OneAnswer}
use Rattle.texts.specs.NetText.{net_opening, net_end, IsNetText}
use Rattle.texts.proofs.Bytes.{free_tested, free_wheel_line, free_styles_line}
use Rattle.texts.proofs.Decided.{decide_bytes, opens_with, opens_number, opens_style}
use Rattle.texts.proofs.DecidedPlaces.{decide_among, opens_place}
use Rattle.texts.proofs.Forms.{Done, done_more}
use Rattle.texts.proofs.Heads.{wheel_fits, styles_fit, none_done, HeadRead}
use Rattle.texts.proofs.NetEnds.{net_read, named_read, whole_read, fault_extra}
use Rattle.texts.proofs.NetStages.{fault_opening, fault_wheel_line, fault_other_wheel, fault_styles_line, fault_style_line, fault_repeated, fault_places_line, PlacesRead, fault_place_line, fault_end_line}
use Rattle.texts.proofs.OneFault.{not_both, only_one}
use Rattle.texts.proofs.Steps.{head_start, head_more, places_start, places_more}

abbrev Answer : ℕ → List ℕ → Type 0
Answer k text = IsNetText k text ⊎ ((f : F.Fault) × FirstFault k text f)

-- what is told after each line that has been read, from the last to the first
module _ {k : ℕ} {text : List ℕ} (short : length text ≤ text_limit) where
  after_places : {n p : ℕ} {names : List (List ℕ)} {places : List Place} {rest : List ℕ} → PlacesRead k n p names places text rest → length places ≡ p → Answer k text
  after_places {n} {p} {names} {places} {rest} read all =
      elim (opens_with net_end rest) [
        | inl (after, is) ↦ elim (decide_bytes after []) [
          | inl none ↦ inl (net_read k n places, names, named_read read all, refl, whole_read read all is none)
          | inr some ↦ inr (F.form (suc (5 + n + p)), fault_extra read all is short some)
        ]
        | inr none ↦ inr (F.form (suc (4 + n + length places)), fault_end_line read short all none)
      ]

  -- m places are left
  among_places : (m : ℕ) {n p : ℕ} {names : List (List ℕ)} {places : List Place} {rest : List ℕ} → PlacesRead k n p names places text rest → length places + m ≡ p → Answer k text
  among_places zero read left = after_places read (omega arith)
  among_places (suc m) {n} {p} {names} {places} {rest} read left =
      elim (opens_place k n rest) [
        | inl (place, after, on, is) ↦ among_places m (places_more read place after (omega arith) on is) (omega (arith, length_push places place))
        | inr none ↦ inr (F.form (suc (4 + n + length places)), fault_place_line read short (omega arith) none)
      ]

  after_names : {n : ℕ} {names : List (List ℕ)} {rest : List ℕ} → HeadRead net_opening k n names text rest → length names ≡ n → Answer k text
  after_names {n} {names} {rest} head all =
      elim (opens_number (codes "places=") 0 place_limit rest) [
        | inl (p, after, from, few, is) ↦ among_places p (places_start head p after all few is) (omega arith)
        | inr none ↦ inr (F.form (suc (3 + length names)), fault_places_line short head all (λ p after few is. none p after (omega arith) few is))
      ]

  -- m names are left
  among_names : (m : ℕ) {n : ℕ} {names : List (List ℕ)} {rest : List ℕ} → HeadRead net_opening k n names text rest → length names + m ≡ n → Answer k text
  among_names zero head left = after_names head (omega arith)
  among_names (suc m) {n} {names} {rest} head left =
      elim (opens_style rest) [
        | inl (name, after, form, is) ↦ elim (decide_among names name) [
          | inl (a, within, same) ↦ inr (F.name (suc (3 + length names)) 6, fault_repeated short head name after a (omega arith) form is within same)
          | inr new ↦ among_names m (head_more head name after (omega arith) form (λ a within same. new (a, within, same)) is) (omega (arith, length_push names name))
        ]
        | inr none ↦ inr (F.form (suc (3 + length names)), fault_style_line short head (omega arith) none)
      ]

  module _ (good : WheelGood k) where
    after_wheel : (rest : List ℕ) → Done text (net_opening ∷ wheel_line k ∷ []) rest → Answer k text
    after_wheel rest done =
        elim (opens_number (codes "styles=") 1 style_limit rest) [
          | inl (n, after, some, few, is) ↦
              let styles_good : StylesGood n = record { some = some; few = few } in
              among_names n (head_start net_opening k n text after good styles_good (done_more done (styles_line n) after is (free_styles_line n (styles_fit n styles_good)))) (omega arith)
          | inr none ↦ inr (F.form 3, fault_styles_line short rest good done (λ n after styles_good is. none n after styles_good.some styles_good.few is))
        ]

    after_opening : (rest : List ℕ) → Done text (net_opening ∷ []) rest → Answer k text
    after_opening rest done =
        elim (opens_number (codes "wheel=") 2 9 rest) [
          | inl (w, after, from_two, to_nine, is) ↦
              let wheel_good : WheelGood w = record { from_two = from_two; to_nine = to_nine } in
              let next = done_more done (wheel_line w) after is (free_wheel_line w (wheel_fits w wheel_good)) in
              elim (cases_eq w k) [
                | inl same ↦ after_wheel after (subst (λ v. Done text (net_opening ∷ wheel_line v ∷ []) after) same next)
                | inr other ↦ inr (F.other_wheel w, fault_other_wheel short w after good next wheel_good other)
              ]
          | inr none ↦ inr (F.form 2, fault_wheel_line short rest good done (λ w after wheel_good is. none w after wheel_good.from_two wheel_good.to_nine is))
        ]

    before_opening : Answer k text
    before_opening =
        elim (opens_with net_opening text) [
          | inl (after, is) ↦ after_opening after (done_more (none_done text) net_opening after is (free_tested net_opening refl))
          | inr none ↦ inr (F.form 1, fault_opening short good none)
        ]

pub either : (k : ℕ) → WheelGood k → (text : List ℕ) → IsNetText k text ⊎ ((f : F.Fault) × FirstFault k text f)
either k good text =
    elim (cases_lt text_limit (length text)) [
      | inl long ↦ inr (F.over_long (length text), (refl, long))
      | inr short ↦ before_opening short good
    ]

pub one_answer : OneAnswer
one_answer = record { either = either; not_both = not_both; only_one = only_one }
