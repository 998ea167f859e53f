-- Lists in a row, one after the other. Assumes nothing.
use Rattle.std.proofs.Common.{◌≡◌, ℕ, suc, ◌+◌, ◌*◌, ◌<◌, List, [], ◌∷◌, ◌++◌, length, get_or, take, ap, ◌∙◌, arith}
use Rattle.std.proofs.lemmas.Grind.{flat_map-append}
use Rattle.std.proofs.lemmas.List.{append-nil, length-append, take_more}
use Rattle.std.specs.List.{flat_map}

module _ {X A : Type 0} (f : X → List A) where
  -- one more of the first
  pub joined_take_more : (xs : List X) (i : ℕ) (d : X) → i < length xs → flat_map f (take (i + 1) xs) ≡ flat_map f (take i xs) ++ f (get_or xs i d)
  joined_take_more xs i d h =
      ap (flat_map f) (take_more xs i d h)
      ∙ flat_map-append f (take i xs) (get_or xs i d ∷ [])
      ∙ ap (λ ys. flat_map f (take i xs) ++ ys) (append-nil (f (get_or xs i d)))

  -- where each is as long as the others, the length is a product
  pub joined_even : (n : ℕ) (xs : List X) → ((i : ℕ) (d : X) → i < length xs → length (f (get_or xs i d)) ≡ n) → length (flat_map f xs) ≡ length xs * n
  joined_even n [] each = omega arith
  joined_even n (x ∷ xs) each =
      length-append (f x) (flat_map f xs)
      ∙ omega (arith, each 0 x (omega arith), joined_even n xs (λ i d h. each (suc i) d (omega arith)))
