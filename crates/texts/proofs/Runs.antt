-- Words and run lines: they have no line feed in them, they tell their names, and whether bytes open with a run line can be told. Assumes nothing.
use Rattle.std.proofs.Common.{◌≡◌, ℕ, false, eqb, ◌⊎◌, List, [], ◌∷◌, ◌++◌, get_or, codes, sym, refl, ap, ◌∙◌, subst, inl, inr, arith}
use Rattle.std.specs.List.{flat_map, AllByRecursion as All}
use Rattle.std.proofs.ByRecursion.{All-from_get_or, All-get_or, All-weaker}
use Rattle.std.proofs.lemmas.List.{append_cancel_left}
use Rattle.std.proofs.lemmas.Bool.{cases_Bool, eqb-false, eqb-true, false≢true, ne_eqb}
use Rattle.texts.specs.CaseText.{words, run_line}
use Rattle.texts.specs.Lines.{line_feed}
use Rattle.texts.specs.Names.{name_byte, NameForm, NamesFormed}
use Rattle.texts.proofs.Bytes.{free_append, free_name, free_tested}
use Rattle.texts.proofs.Decided.{Decided, decide_all, decide_name, opens_form}
use Rattle.texts.proofs.Lines.{Free}

-- the names after the first, each with a space before it
abbrev spaced : List (List ℕ) → List ℕ
spaced names = flat_map (λ name. 32 ∷ name) names

names_all : (names : List (List ℕ)) → NamesFormed names → All NameForm names
names_all names formed = All-from_get_or NameForm names [] formed

free_spaced : (names : List (List ℕ)) → All NameForm names → Free (spaced names)
free_spaced [] all = tt
free_spaced (name ∷ names) all = (refl, free_append name (spaced names) (free_name name all.0) (free_spaced names all.1))

pub free_words : (run : List (List ℕ)) → NamesFormed run → Free (words run)
free_words [] formed = tt
free_words (name ∷ names) formed = let all = names_all (name ∷ names) formed in free_append name (spaced names) (free_name name all.0) (free_spaced names all.1)

pub free_run_line : (run : List (List ℕ)) → NamesFormed run → Free (run_line run)
free_run_line run formed = free_append (codes "run=") (words run) (free_tested (codes "run=") refl) (free_words run formed)

-- no byte is a space
abbrev Spaceless : List ℕ → Type 0
Spaceless l = All (λ b. eqb b 32 ≡ false) l

spaceless_name : (name : List ℕ) → NameForm name → Spaceless name
spaceless_name name form =
    All-from_get_or (λ b. eqb b 32 ≡ false) name 0 (λ i h. ne_eqb (get_or name i 0) 32 (λ e. false≢true (sym (ap name_byte e) ∙ form.bytes i h)))

spaceless_names : (names : List (List ℕ)) → All NameForm names → All Spaceless names
spaceless_names names = All-weaker NameForm Spaceless spaceless_name names

-- bytes with no space, and the names after them, are told apart
same_front : (x y : List ℕ) (a b : List (List ℕ)) → Spaceless x → Spaceless y → x ++ spaced a ≡ y ++ spaced b → (x ≡ y) × (spaced a ≡ spaced b)
same_front [] [] a b sx sy e = (refl, e)
same_front [] (d ∷ y) [] b sx sy e = let never : ◌≡◌ {A = ℕ} 0 1 = cc in absurd (omega arith)
same_front [] (d ∷ y) (name ∷ a) b sx sy e = let space : d ≡ 32 = ap (λ l. get_or l 0 0) (sym e) in absurd (eqb-false d 32 sy.0 space)
same_front (c ∷ x) [] a [] sx sy e = let never : ◌≡◌ {A = ℕ} 0 1 = cc in absurd (omega arith)
same_front (c ∷ x) [] a (name ∷ b) sx sy e = let space : c ≡ 32 = ap (λ l. get_or l 0 0) e in absurd (eqb-false c 32 sx.0 space)
same_front (c ∷ x) (d ∷ y) a b sx sy e =
    let head : c ≡ d = cc in
    let rest = same_front x y a b sx.1 sy.1 (cc) in
    let tail = rest.0 in
    (cc, rest.1)

same_spaced : (a b : List (List ℕ)) → All Spaceless a → All Spaceless b → spaced a ≡ spaced b → a ≡ b
same_spaced [] [] sa sb e = refl
same_spaced [] (y ∷ b) sa sb e = let never : ◌≡◌ {A = ℕ} 0 1 = cc in absurd (omega arith)
same_spaced (x ∷ a) [] sa sb e = let never : ◌≡◌ {A = ℕ} 0 1 = cc in absurd (omega arith)
same_spaced (x ∷ a) (y ∷ b) sa sb e =
    let rest : x ++ spaced a ≡ y ++ spaced b = cc in
    let parts = same_front x y a b sa.0 sb.0 rest in
    let head = parts.0 in
    let tail = same_spaced a b sa.1 sb.1 parts.1 in
    cc

same_split : (x y : List ℕ) (a b : List (List ℕ)) → All Spaceless (x ∷ a) → All Spaceless (y ∷ b) → x ++ spaced a ≡ y ++ spaced b → x ∷ a ≡ y ∷ b
same_split x y a b sa sb e = same_spaced (x ∷ a) (y ∷ b) sa sb (ap (λ l. 32 ∷ l) e)

-- a name has at least one byte
some_words : (name : List ℕ) (names : List (List ℕ)) → NameForm name → [] ≡ words (name ∷ names) → ⊥
some_words [] names form e = omega (arith, form.some)
some_words (b ∷ name) names form e = let never : ◌≡◌ {A = ℕ} 0 1 = cc in omega arith

pub same_words : (a b : List (List ℕ)) → NamesFormed a → NamesFormed b → words a ≡ words b → a ≡ b
same_words [] [] fa fb e = refl
same_words [] (y ∷ b) fa fb e = absurd (some_words y b (fb 0 (omega arith)) e)
same_words (x ∷ a) [] fa fb e = absurd (some_words x a (fa 0 (omega arith)) (sym e))
same_words (x ∷ a) (y ∷ b) fa fb e = same_split x y a b (spaceless_names (x ∷ a) (names_all (x ∷ a) fa)) (spaceless_names (y ∷ b) (names_all (y ∷ b) fb)) e

pub same_run : (a b : List (List ℕ)) → NamesFormed a → NamesFormed b → run_line a ≡ run_line b → a ≡ b
same_run a b fa fb e = same_words a b fa fb (append_cancel_left (codes "run=") (words a) (words b) e)

-- bytes parted at their spaces
record Split (bytes : List ℕ) : Type 0 where
  first : List ℕ
  others : List (List ℕ)
  spaceless : All Spaceless (first ∷ others)
  is : bytes ≡ first ++ spaced others

split : (bytes : List ℕ) → Split bytes
split [] = record { first = []; others = []; spaceless = (tt, tt); is = refl }
split (b ∷ bytes) =
    let s = split bytes in
    elim (cases_Bool (eqb b 32)) [
      | inl space ↦ record { first = []; others = s.first ∷ s.others; spaceless = (tt, s.spaceless); is = let same = eqb-true b 32 space in let rest = s.is in cc }
      | inr other ↦ record { first = b ∷ s.first; others = s.others; spaceless = ((other, s.spaceless.0), s.spaceless.1); is = ap (λ l. b ∷ l) s.is }
    ]

-- the bytes are the words of these names
abbrev WordsOf : List ℕ → Type 0
WordsOf bytes = (run : List (List ℕ)) × NamesFormed run × (bytes ≡ words run)

decide_words : (bytes : List ℕ) → Decided (WordsOf bytes)
decide_words [] = inl ([], (λ i h. absurd (omega arith)), refl)
decide_words (b ∷ bytes) =
    let s = split (b ∷ bytes) in
    elim (decide_all NameForm decide_name (s.first ∷ s.others)) [
      | inl all ↦ inl (s.first ∷ s.others, (λ i h. All-get_or NameForm (s.first ∷ s.others) i [] h all), s.is)
      | inr other ↦ inr (λ w. other (as_split s w.0 w.1 w.2))
    ]
  where
    as_split : (s : Split (b ∷ bytes)) (run : List (List ℕ)) → NamesFormed run → b ∷ bytes ≡ words run → All NameForm (s.first ∷ s.others)
    as_split s [] formed e = let never : ◌≡◌ {A = ℕ} 0 1 = cc in absurd (omega arith)
    as_split s (name ∷ names) formed e =
        let all = names_all (name ∷ names) formed in
        subst (All NameForm) (same_split name s.first names s.others (spaceless_names (name ∷ names) all) s.spaceless (sym e ∙ s.is)) all

-- a run line
pub opens_run : (bytes : List ℕ) → ((run : List (List ℕ)) × (after : List ℕ) × NamesFormed run × (bytes ≡ run_line run ++ (line_feed ∷ after))) ⊎ ((run : List (List ℕ)) (after : List ℕ) → NamesFormed run → bytes ≡ run_line run ++ (line_feed ∷ after) → ⊥)
opens_run bytes =
    elim (opens_form (codes "run=") WordsOf (free_tested (codes "run=") refl) (λ v w. subst Free (sym w.2) (free_words w.0 w.1)) decide_words bytes) [
      | inl (v, after, w, is) ↦ inl (w.0, after, w.1, is ∙ ap (λ u. (codes "run=" ++ u) ++ (line_feed ∷ after)) w.2)
      | inr none ↦ inr (λ run after formed is. none (words run) after (run, formed, refl) is)
    ]
