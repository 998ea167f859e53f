-- The first byte of a list, and the bytes after it. Assumes nothing.
use Rattle.std.proofs.Common.{◌≡◌, ℕ, ◌+◌, ◌<◌, List, ◌∷◌, ◌++◌, length, get_or, ap, ◌∙◌, arith}
use Rattle.std.proofs.lemmas.List.{get_or-append-add}
use Rattle.std.proofs.lemmas.Slice.{first_rest}
use Rattle.std.specs.List.{between}

-- the bytes after the first
abbrev pub after : List ℕ → List ℕ
after bytes = between 1 (length bytes) bytes

pub opened : (bytes : List ℕ) (byte : ℕ) → 0 < length bytes → get_or bytes 0 0 ≡ byte → bytes ≡ byte ∷ after bytes
opened bytes byte some e = first_rest bytes 0 some ∙ ap (λ b. b ∷ after bytes) e

pub first : {bytes rest : List ℕ} {byte : ℕ} → bytes ≡ byte ∷ rest → get_or bytes 0 0 ≡ byte
first = ap (λ bytes. get_or bytes 0 0)

-- where the second of two lists begins
pub at_end : (xs ys : List ℕ) → get_or (xs ++ ys) (length xs) 0 ≡ get_or ys 0 0
at_end xs ys = let e : length xs ≡ length xs + 0 = omega arith in ap (λ i. get_or (xs ++ ys) i 0) e ∙ get_or-append-add xs ys 0 0
