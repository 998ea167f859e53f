-- Whether bytes open with a line of some form: for each form there is such a line, or there is none. Assumes nothing.
use Rattle.std.proofs.Common.{◌≡◌, ℕ, zero, suc, ◌<◌, ◌≤◌, true, false, eqb, ◌⊎◌, List, [], ◌∷◌, ◌++◌, length, codes, decimal, sym, refl, ap, ◌∙◌, subst, inl, inr, arith}
use Rattle.std.specs.List.{AllByRecursion as All}
use Rattle.std.proofs.ByRecursion.{All-from_get_or, All-get_or}
use Rattle.std.proofs.lemmas.List.{append_cancel_left}
use Rattle.std.proofs.lemmas.Bool.{both_ways, cases_Bool, cases_eq, cases_lt, eqb-false, eqb-true}
use Rattle.texts.specs.Forms.{style_line}
use Rattle.texts.specs.Limits.{name_limit}
use Rattle.texts.specs.Lines.{line_feed, ended}
use Rattle.texts.specs.Names.{name_byte, NameForm}
use Rattle.texts.proofs.Bytes.{free_append, free_name, free_tested}
use Rattle.texts.proofs.Lines.{Free, ended_rest}

-- whether it is so
abbrev pub Decided : Type 0 → Type 0
Decided P = P ⊎ (P → ⊥)

pub decide_both : {P Q : Type 0} → Decided P → Decided Q → Decided (P × Q)
decide_both (inl p) (inl q) = inl (p, q)
decide_both (inl p) (inr never) = inr (λ both. never both.1)
decide_both (inr never) q = inr (λ both. never both.0)

pub decide_same : {P Q : Type 0} → (P → Q) → (Q → P) → Decided P → Decided Q
decide_same to from (inl p) = inl (to p)
decide_same to from (inr never) = inr (λ q. never (from q))

pub decide_le : (m n : ℕ) → Decided (m ≤ n)
decide_le m n = elim (cases_lt n m) [ inl past ↦ inr (λ h. omega arith) | inr below ↦ inl below ]

pub decide_all : {X : Type 0} (P : X → Type 0) → ((x : X) → Decided (P x)) → (xs : List X) → Decided (All P xs)
decide_all P each [] = inl tt
decide_all P each (x ∷ xs) = decide_both (each x) (decide_all P each xs)

pub decide_bytes : (a b : List ℕ) → Decided (a ≡ b)
decide_bytes [] [] = inl refl
decide_bytes [] (y ∷ ys) = inr (λ e. let never : ◌≡◌ {A = ℕ} 0 1 = cc in omega arith)
decide_bytes (x ∷ xs) [] = inr (λ e. let never : ◌≡◌ {A = ℕ} 0 1 = cc in omega arith)
decide_bytes (x ∷ xs) (y ∷ ys) =
    decide_same {P = (x ≡ y) × (xs ≡ ys)} (λ parts. let head = parts.0 in let tail = parts.1 in cc) (λ e. (cc, cc)) (decide_both (cases_eq x y) (decide_bytes xs ys))

-- one of the numbers below n, or none
pub decide_below : (P : ℕ → Type 0) → ((v : ℕ) → Decided (P v)) → (n : ℕ) → Decided ((v : ℕ) × (v < n) × P v)
decide_below P each zero = inr (λ one. let h = one.1 in omega arith)
decide_below P each (suc n) =
    elim (each n) [
      | inl here ↦ inl (n, omega arith, here)
      | inr never ↦
          decide_same {P = (v : ℕ) × (v < n) × P v}
          (λ one. let h = one.1 in (one.0, omega arith, one.2))
          (λ one. elim (cases_lt one.0 n) [
            | inl below ↦ (one.0, below, one.2)
            | inr past ↦ let h = one.1 in let last : one.0 ≡ n = omega arith in absurd (never (subst P last one.2))
          ])
          (decide_below P each n)
    ]

-- whether bytes begin with a key
pub begins_with : (key bytes : List ℕ) → Decided ((rest : List ℕ) × (bytes ≡ key ++ rest))
begins_with [] bytes = inl (bytes, refl)
begins_with (c ∷ key) [] = inr (λ one. let e = one.1 in let never : ◌≡◌ {A = ℕ} 0 1 = cc in omega arith)
begins_with (c ∷ key) (b ∷ bytes) =
    decide_same {P = (b ≡ c) × ((rest : List ℕ) × (bytes ≡ key ++ rest))}
    (λ both. let head = both.0 in let tail = both.1.1 in (both.1.0, cc))
    (λ one. let e = one.1 in (cc, (one.0, cc)))
    (decide_both (cases_eq b c) (begins_with key bytes))

-- a line written out
pub opens_with : (key bytes : List ℕ) → ((after : List ℕ) × (bytes ≡ key ++ (line_feed ∷ after))) ⊎ ((after : List ℕ) → bytes ≡ key ++ (line_feed ∷ after) → ⊥)
opens_with key bytes =
    elim (begins_with (ended key) bytes) [
      | inl (after, is) ↦ inl (after, is ∙ ended_rest key after)
      | inr none ↦ inr (λ after is. none (after, is ∙ sym (ended_rest key after)))
    ]

-- the key and a number from low to high in decimal
pub opens_number : (key : List ℕ) (low high : ℕ) (bytes : List ℕ) → ((v : ℕ) × (after : List ℕ) × (low ≤ v) × (v ≤ high) × (bytes ≡ (key ++ decimal v) ++ (line_feed ∷ after))) ⊎ ((v : ℕ) (after : List ℕ) → low ≤ v → v ≤ high → bytes ≡ (key ++ decimal v) ++ (line_feed ∷ after) → ⊥)
opens_number key low high bytes =
    elim (decide_below (λ v. (low ≤ v) × ((after : List ℕ) × (bytes ≡ (key ++ decimal v) ++ (line_feed ∷ after)))) (λ v. decide_both (decide_le low v) (one_or_none v)) (suc high)) [
      | inl (v, below, (from, (after, is))) ↦ inl (v, after, from, omega arith, is)
      | inr none ↦ inr (λ v after from to is. none (v, omega arith, (from, (after, is))))
    ]
  where
    one_or_none : (v : ℕ) → Decided ((after : List ℕ) × (bytes ≡ (key ++ decimal v) ++ (line_feed ∷ after)))
    one_or_none v = elim (opens_with (key ++ decimal v) bytes) [ inl one ↦ inl one | inr none ↦ inr (λ one. none one.0 one.1) ]

-- bytes with no line feed and a line feed after them are so in one way only
pub same_cut : (a b after after' : List ℕ) → Free a → Free b → a ++ (line_feed ∷ after) ≡ b ++ (line_feed ∷ after') → (a ≡ b) × (after ≡ after')
same_cut [] [] after after' free free' e = (refl, cc)
same_cut [] (y ∷ b) after after' free free' e = let feed : line_feed ≡ y = cc in absurd (both_ways (eqb line_feed line_feed) (subst (λ z. eqb z line_feed ≡ false) (sym feed) free'.0) refl)
same_cut (x ∷ a) [] after after' free free' e = let feed : x ≡ line_feed = cc in absurd (both_ways (eqb line_feed line_feed) (subst (λ z. eqb z line_feed ≡ false) feed free.0) refl)
same_cut (x ∷ a) (y ∷ b) after after' free free' e =
    let heads : x ≡ y = cc in
    let rests = same_cut a b after after' free.1 free'.1 (cc) in
    let tails = rests.0 in
    (cc, rests.1)

-- what stands before the first line feed, or no line feed
pub cut : (bytes : List ℕ) → ((l after : List ℕ) × Free l × (bytes ≡ l ++ (line_feed ∷ after))) ⊎ ((l after : List ℕ) → bytes ≡ l ++ (line_feed ∷ after) → ⊥)
cut [] = inr none
  where
    none : (l after : List ℕ) → [] ≡ l ++ (line_feed ∷ after) → ⊥
    none [] after e = let never : ◌≡◌ {A = ℕ} 0 1 = cc in omega arith
    none (x ∷ l) after e = let never : ◌≡◌ {A = ℕ} 0 1 = cc in omega arith
cut (b ∷ bytes) =
    elim (cases_Bool (eqb b line_feed)) [
      | inl feed ↦ inl ([], bytes, tt, ap (λ c. c ∷ bytes) (eqb-true b line_feed feed))
      | inr other ↦ elim (cut bytes) [
        | inl (l, after, free, is) ↦ inl (b ∷ l, after, (other, free), ap (λ bs. b ∷ bs) is)
        | inr none ↦ inr (later other none)
      ]
    ]
  where
    later : eqb b line_feed ≡ false → ((l after : List ℕ) → bytes ≡ l ++ (line_feed ∷ after) → ⊥) → (l after : List ℕ) → b ∷ bytes ≡ l ++ (line_feed ∷ after) → ⊥
    later other none [] after e = let feed : b ≡ line_feed = cc in eqb-false b line_feed other feed
    later other none (x ∷ l) after e = none l after (cc)

-- the key and bytes of a form that can be told, where these have no line feed in them
pub opens_form : (key : List ℕ) (Form : List ℕ → Type 0) → Free key → ((v : List ℕ) → Form v → Free v) → ((v : List ℕ) → Decided (Form v)) → (bytes : List ℕ) → ((v after : List ℕ) × Form v × (bytes ≡ (key ++ v) ++ (line_feed ∷ after))) ⊎ ((v after : List ℕ) → Form v → bytes ≡ (key ++ v) ++ (line_feed ∷ after) → ⊥)
opens_form key Form free-key free-form decide bytes =
    elim (cut bytes) [
      | inl (l, after, free, is) ↦ elim (begins_with key l) [
        | inl (v, key-is) ↦ elim (decide v) [
          | inl form ↦ inl (v, after, form, is ∙ ap (λ m. m ++ (line_feed ∷ after)) key-is)
          | inr other ↦ inr (λ v' after' form e. other (subst Form (append_cancel_left key v' v (line_is l after free is v' after' form e ∙ key-is)) form))
        ]
        | inr none ↦ inr (λ v' after' form e. none (v', sym (line_is l after free is v' after' form e)))
      ]
      | inr none ↦ inr (λ v after form is. none (key ++ v) after is)
    ]
  where
    line_is : (l after : List ℕ) → Free l → bytes ≡ l ++ (line_feed ∷ after) → (v' after' : List ℕ) → Form v' → bytes ≡ (key ++ v') ++ (line_feed ∷ after') → key ++ v' ≡ l
    line_is l after free is v' after' form e = (same_cut (key ++ v') l after' after (free_append key v' free-key (free-form v' form)) free (sym e ∙ is)).0

pub decide_name : (name : List ℕ) → Decided (NameForm name)
decide_name name =
    decide_same {P = ((1 ≤ length name) × (length name ≤ name_limit)) × All (λ b. name_byte b ≡ true) name}
    (λ parts. record { some = parts.0.0; few = parts.0.1; bytes = λ i h. All-get_or (λ b. name_byte b ≡ true) name i 0 h parts.1 })
    (λ form. ((form.some, form.few), All-from_get_or (λ b. name_byte b ≡ true) name 0 form.bytes))
    (decide_both (decide_both (decide_le 1 (length name)) (decide_le (length name) name_limit)) (decide_all (λ b. name_byte b ≡ true) decide_byte name))
  where
    decide_byte : (b : ℕ) → Decided (name_byte b ≡ true)
    decide_byte b = elim (cases_Bool (name_byte b)) [ inl is ↦ inl is | inr other ↦ inr (λ is. both_ways (name_byte b) other is) ]

-- a style line
pub opens_style : (bytes : List ℕ) → ((name : List ℕ) × (after : List ℕ) × NameForm name × (bytes ≡ style_line name ++ (line_feed ∷ after))) ⊎ ((name after : List ℕ) → NameForm name → bytes ≡ style_line name ++ (line_feed ∷ after) → ⊥)
opens_style = opens_form (codes "style=") NameForm (free_tested (codes "style=") refl) free_name decide_name
