-- Lines of a key and a number: the bytes tell the number and what follows. Assumes nothing.
use Rattle.std.proofs.Common.{◌≡◌, ℕ, List, [], ◌∷◌, ◌++◌, drop, decimal, Option, sym, ap, ◌∙◌, ⊎_elim, subst₂, arith}
use Rattle.std.specs.Borrow.{Bor}
use Rattle.std.proofs.lemmas.List.{append_assoc, append_cancel_left}
use Rattle.lines.specs.Opening.{NumberLine, ReadsNumber}
use Rattle.lines.proofs.Decimals.{goes_on}

-- with the key in front
pub after_key : (key bytes left : List ℕ) (low high v : ℕ) (rest : List ℕ) → bytes ≡ key ++ left → NumberLine [] low high left v rest → NumberLine key low high bytes v rest
after_key key bytes left low high v rest e h = record {
  from_low = h.from_low;
  to_high = h.to_high;
  small = h.small;
  opens = e ∙ ap (λ xs. key ++ xs) h.opens ∙ sym (append_assoc key (decimal v) (10 ∷ rest));
}

-- without the key in front
pub past_key : (key bytes left : List ℕ) (low high v : ℕ) (rest : List ℕ) → bytes ≡ key ++ left → NumberLine key low high bytes v rest → NumberLine [] low high left v rest
past_key key bytes left low high v rest e h = record {
  from_low = h.from_low;
  to_high = h.to_high;
  small = h.small;
  opens = append_cancel_left key left (decimal v ++ (10 ∷ rest)) (sym e ∙ h.opens ∙ append_assoc key (decimal v) (10 ∷ rest));
}

-- there is one number, and one rest
pub one_number : {key bytes : List ℕ} {low high low' high' v v' : ℕ} {rest rest' : List ℕ} → NumberLine key low high bytes v rest → NumberLine key low' high' bytes v' rest' → (v ≡ v') × (rest ≡ rest')
one_number {key} {v} {v'} {rest} {rest'} h k =
    let both : decimal v ++ (10 ∷ rest) ≡ decimal v' ++ (10 ∷ rest') = append_cancel_left key _ _ (sym (append_assoc key (decimal v) (10 ∷ rest)) ∙ sym h.opens ∙ k.opens ∙ append_assoc key (decimal v') (10 ∷ rest')) in
    ⊎_elim (λ same. (same.0, ap (drop 1) same.1)) (λ more. absurd (omega (arith, more.digit))) (goes_on v v' (10 ∷ rest) rest' h.small k.small both)

-- what a reader of a number says, at the ends that its range was made of
pub between : (key bytes : List ℕ) (read : Option (ℕ × Bor (List ℕ))) {low high from to : ℕ} → low ≡ from → high ≡ to → ReadsNumber key low high bytes read → ReadsNumber key from to bytes read
between key bytes read low high reads = subst₂ (λ a b. ReadsNumber key a b bytes read) low high reads
