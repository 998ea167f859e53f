-- Texts made of an opening line, a wheel, the names of styles and the lines of a body: their lines, each of its form, and that they tell what they are made of. Assumes nothing.
use Rattle.std.proofs.Common.{◌≡◌, ℕ, zero, suc, ◌+◌, ◌-◌, ◌<◌, List, [], ◌∷◌, ◌++◌, map, length, get_or, take, drop, sym, refl, ap, ◌∙◌, subst, inl, inr, arith}
use Rattle.std.specs.List.{AllByRecursion as All}
use Rattle.std.proofs.ByRecursion.{All-append}
use Rattle.std.proofs.lemmas.List.{append-nil, drop_at, get_or-append-add, get_or_append_left, get_or-append_right, get_or-map, length-append, length-map, take_at}
use Rattle.std.proofs.lemmas.Bool.{cases_lt}
use Rattle.texts.specs.Forms.{wheel_line, styles_line, style_line, WheelGood, StylesGood, LineOf, opens, names_wheel, counts_styles, names_style, in_body, Formed, DifferentTo}
use Rattle.texts.specs.Lines.{text_of, lines, line}
use Rattle.texts.specs.Names.{Sheet}
use Rattle.texts.proofs.Bytes.{free_wheel_line, free_styles_line, free_style_lines, same_wheel, same_styles, same_style}
use Rattle.texts.proofs.Heads.{wheel_fits, styles_fit}
use Rattle.texts.proofs.Lines.{Free, lines_text_of}

abbrev pub made_lines : List ℕ → ℕ → ℕ → List (List ℕ) → List (List ℕ) → List (List ℕ)
made_lines opening k n names body = opening ∷ wheel_line k ∷ styles_line n ∷ (map style_line names ++ body)

-- what such a text is made of is good
pub record Made (opening : List ℕ) (Body : ℕ → List ℕ → Type 0) (k n : ℕ) (names body : List (List ℕ)) : Type 0 where
  pub wheel_good : WheelGood k
  pub styles_good : StylesGood n
  pub sheet : Sheet names
  pub one_name_each : length names ≡ n
  pub free_opening : Free opening
  pub free_body : All Free body
  pub each : (s : ℕ) → s < length body → Body s (get_or body s [])

-- what holds of its lines
pub record MadeText (opening : List ℕ) (Body : ℕ → List ℕ → Type 0) (k n : ℕ) (names body : List (List ℕ)) (text : List ℕ) : Type 0 where
  pub lines_are : lines text ≡ made_lines opening k n names body
  pub formed : Formed opening Body k n text (3 + n + length body)
  pub different : DifferentTo n text (3 + n + length body)
  pub count : length (lines text) ≡ 3 + n + length body
  pub ends : text ≡ text_of (lines text)
  pub style_at : (s : ℕ) → s < n → line text (3 + s) ≡ style_line (get_or names s [])
  pub body_at : (s : ℕ) → line text (3 + n + s) ≡ get_or body s []

module _ {opening : List ℕ} {Body : ℕ → List ℕ → Type 0} {k n : ℕ} {names body : List (List ℕ)} (made : Made opening Body k n names body) where
  abbrev ls : List (List ℕ)
  ls = made_lines opening k n names body

  made_free : All Free ls
  made_free = (
    made.free_opening,
    (
      free_wheel_line k (wheel_fits k made.wheel_good),
      (
        free_styles_line n (styles_fit n made.styles_good),
        All-append Free (map style_line names) body (free_style_lines names made.sheet.formed) made.free_body,
      ),
    ),
  )

  pub made_lines_are : lines (text_of ls) ≡ ls
  made_lines_are = ap lines (sym (append-nil (text_of ls))) ∙ lines_text_of ls [] made_free ∙ append-nil ls

  made_count : length ls ≡ 3 + n + length body
  made_count = simp (length-append, length-map) (omega (arith, made.one_name_each))

  -- after the first three lines come those of the styles, and then those of the body
  after_three : (i : ℕ) → get_or ls (3 + i) [] ≡ get_or (map style_line names ++ body) i []
  after_three i = get_or-append-add (opening ∷ wheel_line k ∷ styles_line n ∷ []) (map style_line names ++ body) i []

  made_style : (s : ℕ) → s < n → get_or ls (3 + s) [] ≡ style_line (get_or names s [])
  made_style s h =
      let within : s < length names = omega (arith, made.one_name_each) in
      after_three s ∙ get_or_append_left (map style_line names) body [] s (simp length-map within) ∙ get_or-map style_line names s [] [] within

  made_body : (s : ℕ) → get_or ls (3 + n + s) [] ≡ get_or body s []
  made_body s =
      let grouped : 3 + n + s ≡ 3 + (n + s) = omega arith in
      ap (λ i. get_or ls i []) grouped
      ∙ after_three (n + s)
      ∙ get_or-append_right (map style_line names) body n (n + s) [] (length-map names style_line ∙ made.one_name_each) (omega arith)
      ∙ ap (λ i. get_or body i []) (omega arith)

  made_late : (i : ℕ) → i < n + length body → LineOf opening Body k n (3 + i) (get_or ls (3 + i) [])
  made_late i h =
      elim (cases_lt i n) [
        | inl below ↦ names_style refl below (made.sheet.formed i (omega (arith, made.one_name_each))) (made_style i below)
        | inr past ↦
            let s = i - n in
            let at : 3 + n + s ≡ 3 + i = omega arith in
            in_body {s = s} (sym at) (subst (Body s) (sym (made_body s) ∙ ap (λ j. get_or ls j []) at) (made.each s (omega arith)))
      ]

  made_each : (i : ℕ) → i < 3 + n + length body → LineOf opening Body k n i (get_or ls i [])
  made_each zero h = opens refl refl
  made_each (suc zero) h = names_wheel refl refl
  made_each (suc (suc zero)) h = counts_styles refl refl
  made_each (suc (suc (suc i))) h = subst (λ j. LineOf opening Body k n j (get_or ls j [])) (omega arith) (made_late i (omega arith))

  read : (i : ℕ) → line (text_of ls) i ≡ get_or ls i []
  read i = ap (λ ms. get_or ms i []) made_lines_are

  made_different : DifferentTo n (text_of ls) (3 + n + length body)
  made_different a b less below h same =
      made.sheet.different a b less (omega (arith, made.one_name_each))
      (same_style (get_or names a []) (get_or names b []) (sym (made_style a (omega arith)) ∙ sym (read (3 + a)) ∙ same ∙ read (3 + b) ∙ made_style b below))

  pub made_text : MadeText opening Body k n names body (text_of ls)
  made_text = record {
    lines_are = made_lines_are;
    formed = record {
      wheel_good = made.wheel_good;
      styles_good = made.styles_good;
      there = omega (arith, ap length made_lines_are, made_count);
      each = λ i h. subst (λ l. LineOf opening Body k n i l) (sym (read i)) (made_each i h);
    };
    different = made_different;
    count = ap length made_lines_are ∙ made_count;
    ends = ap text_of (sym made_lines_are);
    style_at = λ s h. read (3 + s) ∙ made_style s h;
    body_at = λ s. read (3 + n + s) ∙ made_body s;
  }

-- a function that tells good elements apart tells lists of them by what it makes of each
pub same_from_map : {X Y : Type 0} (f : X → Y) (Good : X → Type 0) → ((x y : X) → Good x → Good y → f x ≡ f y → x ≡ y) → (xs ys : List X) → All Good xs → All Good ys → map f xs ≡ map f ys → xs ≡ ys
same_from_map f Good one [] [] gx gy e = refl
same_from_map f Good one [] (y ∷ ys) gx gy e = let never : ◌≡◌ {A = ℕ} 0 1 = cc in absurd (omega arith)
same_from_map f Good one (x ∷ xs) [] gx gy e = let never : ◌≡◌ {A = ℕ} 0 1 = cc in absurd (omega arith)
same_from_map f Good one (x ∷ xs) (y ∷ ys) gx gy e =
    let head : f x ≡ f y = cc in
    let tail : map f xs ≡ map f ys = cc in
    let same = one x y gx.0 gy.0 head in
    let others = same_from_map f Good one xs ys gx.1 gy.1 tail in
    cc

-- what is always so is so of each element
pub always : {X : Type 0} (xs : List X) → All (λ x. Unit {0}) xs
always [] = tt
always (x ∷ xs) = (tt, always xs)

-- two lists that fall into parts, the first ones of the same length
same_parts : {X : Type 0} (xs ys us vs : List X) → length xs ≡ length ys → xs ++ us ≡ ys ++ vs → (xs ≡ ys) × (us ≡ vs)
same_parts xs ys us vs long e = (
  sym (take_at xs us (length ys) long) ∙ ap (take (length ys)) e ∙ take_at ys vs (length ys) refl,
  sym (drop_at xs us (length ys) long) ∙ ap (drop (length ys)) e ∙ drop_at ys vs (length ys) refl,
)

-- the wheel, the names and the lines of the body of a text
pub same_made : {opening opening' : List ℕ} {Body Body' : ℕ → List ℕ → Type 0} {k n k' n' : ℕ} {names names' body body' : List (List ℕ)} → Made opening Body k n names body → Made opening' Body' k' n' names' body' → text_of (made_lines opening k n names body) ≡ text_of (made_lines opening' k' n' names' body') → (k ≡ k') × (names ≡ names') × (body ≡ body')
same_made {opening} {opening'} {k = k} {n = n} {k' = k'} {n' = n'} {names = names} {names' = names'} {body = body} {body' = body'} made made' e =
    let same : made_lines opening k n names body ≡ made_lines opening' k' n' names' body' = sym (made_lines_are made) ∙ ap lines e ∙ made_lines_are made' in
    let wheel = same_wheel k k' (wheel_fits k made.wheel_good) (wheel_fits k' made'.wheel_good) (ap (λ ms. get_or ms 1 []) same) in
    let styles : n ≡ n' = same_styles n n' (styles_fit n made.styles_good) (styles_fit n' made'.styles_good) (ap (λ ms. get_or ms 2 []) same) in
    let counts : length (map style_line names) ≡ length (map style_line names') = simp length-map (omega (arith, made.one_name_each, made'.one_name_each)) in
    let parts = same_parts (map style_line names) (map style_line names') body body' counts (ap (drop 3) same) in
    (wheel, same_from_map style_line (λ name. Unit {0}) (λ a b ga gb. same_style a b) names names' (always names) (always names') parts.0, parts.1)
