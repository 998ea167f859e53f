use Rattle.std.proofs.Common.{◌≡◌, ℕ, Bool, false, eqb, List, [], ◌++◌, length, Some, None, Option, Bor, MatchOption, Decides, sym, ap, ◌∙◌, subst, arith, rules}
use Rattle.lines.proofs.FirstWords.{one_word}
use Rattle.lines.specs.Opening.{FirstWord}
use Rattle.std.proofs.lemmas.List.{append-nil, nil_from_length}
use Rattle.std.proofs.lemmas.Bool.{eqb-true, eq-eqb, false≢true}
use Rattle.texts.specs.Names.{NameForm}
use Rattle.sheet.proofs.names.forms.is_name.Goals as goal

-- a name is its own first word
whole_word : {bytes : List ℕ} → NameForm bytes → FirstWord bytes bytes []
whole_word {bytes} form = record {
  formed = form;
  opens = sym (append-nil bytes);
  longest = λ byte more e. absurd (omega (arith, ap length e));
}

-- a first word that nothing follows is all of the bytes
only_word : {bytes word rest : List ℕ} → FirstWord bytes word rest → rest ≡ [] → NameForm bytes
only_word {bytes} {word} {rest} first none = subst NameForm (sym (first.opens ∙ ap (λ xs. word ++ xs) none ∙ append-nil word)) first.formed

-- the first word, and whether nothing follows it, tell whether the bytes are a name
told : (bytes : List ℕ) (o : Option (Bor (List ℕ) × Bor (List ℕ))) (r : Bool) → MatchOption o ((w rest : List ℕ) → FirstWord bytes w rest → ⊥) (λ x. FirstWord bytes x.0.now x.1.now) → MatchOption o (r ≡ false) (λ x. r ≡ eqb (length x.1.now) 0) → Decides r (NameForm bytes)
told bytes None r none is = (λ e. absurd (false≢true (sym is ∙ e)), λ form. absurd (none _ _ (whole_word form)))
told bytes (Some x) r first is = (
  λ e. only_word first (nil_from_length x.1.now (eqb-true (length x.1.now) 0 (sym is ∙ e))),
  λ form. is ∙ eq-eqb (length x.1.now) 0 (ap length (one_word first (whole_word form)).1),
)

pub returns : goal.returns
returns c = record { decides_the_name_form = told c.args.bytes.now c.word.result c.is_some_and.result c.word.ensures.splits_off_the_first_word (search rules) }
