-- Lines that have no line feed in them, and the lines of a text that is made of such. Assumes nothing.
use Rattle.std.proofs.Common.{◌≡◌, ℕ, Bool, true, false, eqb, List, [], ◌∷◌, ◌++◌, sym, refl, ap, ◌∙◌, subst, arith}
use Rattle.std.specs.List.{AllByRecursion as All}
use Rattle.std.proofs.lemmas.List.{append_assoc}
use Rattle.std.proofs.lemmas.Bool.{eqb-true}
use Rattle.texts.specs.Lines.{line_feed, ended, text_of, in_front, lines}

-- no byte is a line feed
abbrev pub Free : List ℕ → Type 0
Free l = All (λ b. eqb b line_feed ≡ false) l

pub lines_ended : (l rest : List ℕ) → Free l → lines (l ++ (line_feed ∷ rest)) ≡ l ∷ lines rest
lines_ended [] rest free = refl
lines_ended (b ∷ l) rest free =
    ap (λ t. in_front t b (lines (l ++ (line_feed ∷ rest)))) free.0 ∙ ap (in_front false b) (lines_ended l rest free.1)

-- a line feed ends a line
pub ended_rest : (l rest : List ℕ) → ended l ++ rest ≡ l ++ (line_feed ∷ rest)
ended_rest l rest = append_assoc l (line_feed ∷ []) rest

pub text_of_rest : (l : List ℕ) (ls : List (List ℕ)) (rest : List ℕ) → text_of (l ∷ ls) ++ rest ≡ l ++ (line_feed ∷ (text_of ls ++ rest))
text_of_rest l ls rest = append_assoc (ended l) (text_of ls) rest ∙ ended_rest l (text_of ls ++ rest)

pub lines_text_of : (ls : List (List ℕ)) (rest : List ℕ) → All Free ls → lines (text_of ls ++ rest) ≡ ls ++ lines rest
lines_text_of [] rest free = refl
lines_text_of (l ∷ ls) rest free =
    ap lines (text_of_rest l ls rest) ∙ lines_ended l (text_of ls ++ rest) free.0 ∙ ap (λ m. l ∷ m) (lines_text_of ls rest free.1)

pub text_of_append : (ls ms : List (List ℕ)) → text_of (ls ++ ms) ≡ text_of ls ++ text_of ms
text_of_append [] ms = refl
text_of_append (l ∷ ls) ms = ap (λ t. ended l ++ t) (text_of_append ls ms) ∙ sym (append_assoc (ended l) (text_of ls) (text_of ms))

-- what a text begins with, where it has a line
pub record FirstLine (text l : List ℕ) (ls : List (List ℕ)) : Type 0 where
  pub rest : List ℕ
  pub is : text ≡ l ++ (line_feed ∷ rest)
  pub others : lines rest ≡ ls
  pub free : Free l

in_front_cases : (t : Bool) (byte : ℕ) (bytes l : List ℕ) (ls ms : List (List ℕ)) → eqb byte line_feed ≡ t → lines bytes ≡ ms → ((m : List ℕ) (ns : List (List ℕ)) → ms ≡ m ∷ ns → FirstLine bytes m ns) → in_front t byte ms ≡ l ∷ ls → FirstLine (byte ∷ bytes) l ls
in_front_cases true byte bytes l ls ms e f more h =
    let feed : byte ≡ line_feed = eqb-true byte line_feed e in
    let none : l ≡ [] = cc in
    let same : ms ≡ ls = cc in
    record { rest = bytes; is = ap (λ b. b ∷ bytes) feed ∙ ap (λ m. m ++ (line_feed ∷ bytes)) (sym none); others = f ∙ same; free = subst Free (sym none) tt }
in_front_cases false byte bytes l ls [] e f more h = let never : ◌≡◌ {A = ℕ} 0 1 = cc in absurd (omega arith)
in_front_cases false byte bytes l ls (m ∷ ns) e f more h =
    let longer : byte ∷ m ≡ l = cc in
    let same : ns ≡ ls = cc in
    let one = more m ns refl in
    record {
      rest = one.rest;
      is = ap (λ bs. byte ∷ bs) one.is ∙ ap (λ bs. bs ++ (line_feed ∷ one.rest)) longer;
      others = one.others ∙ same;
      free = subst Free longer (e, one.free);
    }

pub first_line : (text l : List ℕ) (ls : List (List ℕ)) → lines text ≡ l ∷ ls → FirstLine text l ls
first_line [] l ls h = let never : ◌≡◌ {A = ℕ} 0 1 = cc in absurd (omega arith)
first_line (byte ∷ bytes) l ls h =
    in_front_cases (eqb byte line_feed) byte bytes l ls (lines bytes) refl refl (λ m ns e. first_line bytes m ns e) h
