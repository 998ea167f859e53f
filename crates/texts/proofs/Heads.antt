-- Reading the lines that both texts open with, and the style lines. Assumes nothing.
use Rattle.std.proofs.Common.{◌≡◌, ℕ, zero, suc, ◌+◌, ◌^◌, ◌<◌, ◌≤◌, List, [], ◌∷◌, ◌++◌, map, length, get_or, sym, refl, ap, ◌∙◌, subst, arith}
use Rattle.std.proofs.lemmas.List.{get_or-map, length-map}
use Rattle.texts.specs.Forms.{wheel_line, styles_line, style_line, WheelGood, StylesGood, LineOf, opens, names_wheel, counts_styles, names_style, Formed, DifferentTo}
use Rattle.texts.specs.Lines.{line_feed, line}
use Rattle.texts.specs.Names.{NameForm, NamesFormed, Different}
use Rattle.texts.proofs.Bytes.{same_wheel, same_styles, same_style}
use Rattle.texts.proofs.Forms.{at_opening, at_wheel, at_styles, at_style, Done, done_line, done_count, Next, goes_on}
use Rattle.texts.proofs.Lines.{text_of_rest}

pub wheel_fits : (k : ℕ) → WheelGood k → k < 2 ^ 64
wheel_fits k good = omega (arith, good.to_nine)

pub styles_fit : (n : ℕ) → StylesGood n → n < 2 ^ 64
styles_fit n good = omega (arith, good.few)

-- a text, before any line of it is read
pub none_done : (text : List ℕ) → Done text [] text
none_done text = record { is = refl; free = tt }

-- the first line is done where the first two are
pub first_done : (opening : List ℕ) (w : ℕ) (text rest : List ℕ) → Done text (opening ∷ wheel_line w ∷ []) rest → Done text (opening ∷ []) (wheel_line w ++ (line_feed ∷ rest))
first_done opening w text rest done = record {
  is =
      done.is ∙ text_of_rest opening (wheel_line w ∷ []) rest
      ∙ ap (λ r. opening ++ (line_feed ∷ r)) (text_of_rest (wheel_line w) [] rest)
      ∙ sym (text_of_rest opening [] (wheel_line w ++ (line_feed ∷ rest)));
  free = (done.free.0, tt);
}

module _ (opening : List ℕ) where
  abbrev pub head_lines : ℕ → ℕ → List (List ℕ) → List (List ℕ)
  head_lines k n names = opening ∷ wheel_line k ∷ styles_line n ∷ map style_line names

  -- the lines up to some of the style lines have been read, and are in order
  pub record HeadRead (k n : ℕ) (names : List (List ℕ)) (text rest : List ℕ) : Type 0 where
    pub wheel_good : WheelGood k
    pub styles_good : StylesGood n
    pub named : NamesFormed names
    pub different : Different names
    pub few : length names ≤ n
    pub done : Done text (head_lines k n names) rest

  module _ (Body : ℕ → List ℕ → Type 0) where
    -- nothing need be in form before the first line
    pub formed_none : (k n : ℕ) (text : List ℕ) → WheelGood k → StylesGood n → Formed opening Body k n text 0
    formed_none k n text kg ng = record { wheel_good = kg; styles_good = ng; there = omega arith; each = λ i h. absurd (omega arith) }

    pub formed_opening : (k n : ℕ) (text rest : List ℕ) → WheelGood k → StylesGood n → Done text (opening ∷ []) rest → Formed opening Body k n text 1
    formed_opening k n text rest kg ng done = record {
      wheel_good = kg;
      styles_good = ng;
      there = omega (arith, done_count done);
      each = λ i h. let first : 0 ≡ i = omega arith in subst (λ j. LineOf opening Body k n j (line text j)) first (opens refl (done_line done 0 (omega arith)));
    }

    pub formed_wheel : (k n : ℕ) (text rest : List ℕ) → WheelGood k → StylesGood n → Done text (opening ∷ wheel_line k ∷ []) rest → Formed opening Body k n text 2
    formed_wheel k n text rest kg ng done = record { wheel_good = kg; styles_good = ng; there = omega (arith, done_count done); each = each }
      where
        each : (i : ℕ) → i < 2 → LineOf opening Body k n i (line text i)
        each zero h = opens refl (done_line done 0 (omega arith))
        each (suc zero) h = names_wheel refl (done_line done 1 (omega arith))
        each (suc (suc i)) h = absurd (omega arith)

    module _ {k n : ℕ} {names : List (List ℕ)} {text rest : List ℕ} (head : HeadRead k n names text rest) where
      pub head_count : length (head_lines k n names) ≡ 3 + length names
      head_count = omega (arith, length-map names style_line)

      -- the style line of a name that has been read
      pub head_style : (s : ℕ) → s < length names → line text (3 + s) ≡ style_line (get_or names s [])
      head_style s h =
          ap (line text) (omega arith) ∙ done_line head.done (suc (suc (suc s))) (omega (arith, length-map names style_line)) ∙ get_or-map style_line names s [] [] h

      pub formed_head : Formed opening Body k n text (3 + length names)
      formed_head = record {
        wheel_good = head.wheel_good;
        styles_good = head.styles_good;
        there = omega (arith, done_count head.done, head_count);
        each = each;
      }
        where
          each : (i : ℕ) → i < 3 + length names → LineOf opening Body k n i (line text i)
          each zero h = opens refl (done_line head.done 0 (omega (arith, head_count)))
          each (suc zero) h = names_wheel refl (done_line head.done 1 (omega (arith, head_count)))
          each (suc (suc zero)) h = counts_styles refl (done_line head.done 2 (omega (arith, head_count)))
          each (suc (suc (suc s))) h =
              let within : s < length names = omega arith in
              names_style {s = s} {name = get_or names s []} (omega arith) (omega (arith, head.few)) (head.named s within) (ap (line text) (omega arith) ∙ head_style s within)

      pub different_head : DifferentTo n text (3 + length names)
      different_head a b less below within e =
          let hb : b < length names = omega arith in
          head.different a b less hb (same_style (get_or names a []) (get_or names b []) (sym (head_style a (omega arith)) ∙ e ∙ head_style b hb))

      -- what else is in form has the same wheel and as many styles
      pub same_head_wheel : (k' n' j : ℕ) → Formed opening Body k' n' text j → 2 ≤ j → k' ≡ k
      same_head_wheel k' n' j formed h =
          same_wheel k' k (wheel_fits k' formed.wheel_good) (wheel_fits k head.wheel_good)
          (sym (at_wheel opening Body k' n' 1 (line text 1) refl (formed.each 1 (omega arith))) ∙ done_line head.done 1 (omega (arith, head_count)))

      pub same_head_styles : (k' n' j : ℕ) → Formed opening Body k' n' text j → 3 ≤ j → n' ≡ n
      same_head_styles k' n' j formed h =
          same_styles n' n (styles_fit n' formed.styles_good) (styles_fit n head.styles_good)
          (sym (at_styles opening Body k' n' 2 (line text 2) refl (formed.each 2 (omega arith))) ∙ done_line head.done 2 (omega (arith, head_count)))

    -- where the next line is not there, the lines are not in form up to it
    pub no_opening : (text : List ℕ) → ((after : List ℕ) → text ≡ opening ++ (line_feed ∷ after) → ⊥) → (k n : ℕ) → Formed opening Body k n text 1 → ⊥
    no_opening text none k n formed =
        let next = goes_on (none_done text) formed in
        none next.after (next.is ∙ ap (λ l. l ++ (line_feed ∷ next.after)) (at_opening opening Body k n 0 (line text 0) refl (formed.each 0 (omega arith))))

    pub no_wheel : (text rest : List ℕ) → Done text (opening ∷ []) rest → ((w : ℕ) (after : List ℕ) → WheelGood w → rest ≡ wheel_line w ++ (line_feed ∷ after) → ⊥) → (k n : ℕ) → Formed opening Body k n text 2 → ⊥
    no_wheel text rest done none k n formed =
        let next = goes_on done formed in
        none k next.after formed.wheel_good (next.is ∙ ap (λ l. l ++ (line_feed ∷ next.after)) (at_wheel opening Body k n 1 (line text 1) refl (formed.each 1 (omega arith))))

    pub no_styles : (w : ℕ) (text rest : List ℕ) → Done text (opening ∷ wheel_line w ∷ []) rest → ((m : ℕ) (after : List ℕ) → StylesGood m → rest ≡ styles_line m ++ (line_feed ∷ after) → ⊥) → (k n : ℕ) → Formed opening Body k n text 3 → ⊥
    no_styles w text rest done none k n formed =
        let next = goes_on done formed in
        none n next.after formed.styles_good (next.is ∙ ap (λ l. l ++ (line_feed ∷ next.after)) (at_styles opening Body k n 2 (line text 2) refl (formed.each 2 (omega arith))))

    module _ {k n : ℕ} {names : List (List ℕ)} {text rest : List ℕ} (head : HeadRead k n names text rest) where
      -- the line after those that have been read
      pub head_next : (k' n' : ℕ) → Formed opening Body k' n' text (suc (3 + length names)) → Next rest (line text (3 + length names))
      head_next k' n' formed =
          let count : length (head_lines k n names) ≡ 3 + length names = head_count head in
          subst (λ j. Next rest (line text j)) count (goes_on head.done (subst (Formed opening Body k' n' text) (ap suc (sym count)) formed))

      pub no_style : length names < n → ((name after : List ℕ) → NameForm name → rest ≡ style_line name ++ (line_feed ∷ after) → ⊥) → (k' n' : ℕ) → Formed opening Body k' n' text (suc (3 + length names)) → ⊥
      no_style more none k' n' formed =
          let next = head_next k' n' formed in
          let n_is = same_head_styles head k' n' (suc (3 + length names)) formed (omega arith) in
          let one = at_style opening Body k' n' (3 + length names) (line text (3 + length names)) (length names) refl (omega (arith, n_is)) (formed.each (3 + length names) (omega arith)) in
          none one.0 next.after one.1 (next.is ∙ ap (λ l. l ++ (line_feed ∷ next.after)) one.2)
