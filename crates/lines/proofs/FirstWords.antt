-- Words and style lines: the bytes tell the word and what follows. Assumes nothing.
use Rattle.std.proofs.Common.{◌≡◌, ℕ, ◌+◌, ◌<◌, List, ◌∷◌, ◌++◌, length, get_or, take, drop, codes, sym, refl, ap, ◌∙◌, ⊎_elim, arith, length-append}
use Rattle.std.proofs.lemmas.List.{get_or_append_left, take_at, drop_at, append_assoc, append_cancel_left}
use Rattle.std.proofs.lemmas.Bool.{both_ways, cases_order}
use Rattle.texts.specs.Names.{name_byte}
use Rattle.lines.specs.Opening.{NameBytes, FirstWord, StyleLine}
use Rattle.lines.proofs.FirstBytes.{after, opened, first, at_end}

-- a word is of all the name bytes in front
pub word_counted : (bytes w rest : List ℕ) (n : ℕ) → FirstWord bytes w rest → NameBytes bytes n → n ≡ length w
word_counted bytes w rest n h counted = ⊎_elim (λ e. e) (⊎_elim (λ l. absurd (shorter l)) (λ l. absurd (longer l))) (cases_order n (length w))
  where
    lengths : length bytes ≡ length w + length rest
    lengths = ap length h.opens ∙ length-append w rest

    shorter : n < length w → ⊥
    shorter l =
        let same : get_or bytes n 0 ≡ get_or w n 0 = ap (λ xs. get_or xs n 0) h.opens ∙ get_or_append_left w rest 0 n l in
        both_ways _ (counted.stops (omega (arith, h.formed.few)) (omega (arith, lengths))) (ap name_byte same ∙ h.formed.bytes n l)

    longer : length w < n → ⊥
    longer l =
        let some : 0 < length rest = omega (arith, lengths, counted.within) in
        let same : get_or bytes (length w) 0 ≡ get_or rest 0 0 = ap (λ xs. get_or xs (length w) 0) h.opens ∙ at_end w rest in
        both_ways _ (h.longest (get_or rest 0 0) (after rest) (opened rest _ some refl)) (sym (ap name_byte same) ∙ counted.each (length w) l)

-- the name bytes in front are those of the word
word_bytes : {bytes w rest : List ℕ} → FirstWord bytes w rest → NameBytes bytes (length w)
word_bytes {bytes} {w} {rest} h =
    let lengths : length bytes ≡ length w + length rest = ap length h.opens ∙ length-append w rest in
    record {
      within = omega arith;
      few = omega (arith, h.formed.few);
      each = λ i l. ap (λ xs. name_byte (get_or xs i 0)) h.opens ∙ ap name_byte (get_or_append_left w rest 0 i l) ∙ h.formed.bytes i l;
      stops = λ _ l.
          ap (λ xs. name_byte (get_or xs (length w) 0)) h.opens ∙ ap name_byte (at_end w rest)
          ∙ h.longest (get_or rest 0 0) (after rest) (opened rest _ (omega arith) refl);
    }

-- there is one word, and one rest
pub one_word : {bytes w w' rest rest' : List ℕ} → FirstWord bytes w rest → FirstWord bytes w' rest' → (w ≡ w') × (rest ≡ rest')
one_word {bytes} {w} {w'} {rest} {rest'} h k =
    let long : length w' ≡ length w = sym (word_counted bytes w' rest' (length w) k (word_bytes h)) in
    let both : w ++ rest ≡ w' ++ rest' = sym h.opens ∙ k.opens in
    (sym (take_at w rest (length w) refl) ∙ ap (take (length w)) both ∙ take_at w' rest' (length w) long, sym (drop_at w rest (length w) refl) ∙ ap (drop (length w)) both ∙ drop_at w' rest' (length w) long)

-- the name of a style's line is the first word after the key
pub name_first : (bytes left name rest : List ℕ) → bytes ≡ codes "style=" ++ left → StyleLine bytes name rest → FirstWord left name (10 ∷ rest)
name_first bytes left name rest e h = record {
  formed = h.formed;
  opens = append_cancel_left (codes "style=") left (name ++ (10 ∷ rest)) (sym e ∙ h.opens ∙ append_assoc (codes "style=") name (10 ∷ rest));
  longest = λ byte more same. ap name_byte (sym (first same));
}

-- there is one name, and one rest
pub one_name : {bytes name name' rest rest' : List ℕ} → StyleLine bytes name rest → StyleLine bytes name' rest' → (name ≡ name') × (rest ≡ rest')
one_name {bytes} {name} {name'} {rest} {rest'} h k =
    let left = name ++ (10 ∷ rest) in
    let split : bytes ≡ codes "style=" ++ left = h.opens ∙ append_assoc (codes "style=") name (10 ∷ rest) in
    let both = one_word (name_first bytes left name rest split h) (name_first bytes left name' rest' split k) in
    (both.0, ap (drop 1) both.1)
