use Rattle.std.proofs.Common.{◌≡◌, ◌*◌, ◌%◌, ℤ, pos, negsuc, ◌*ℤ◌, ◌≤ℤ◌, refl, w8, to_z, of_z}
use Rattle.wheel.specs.Signed.{residue}
use Rattle.wheel.proofs.Thirds.{by_thirds}
use Rattle.wheel.proofs.three.ThreeDividingWheel.times.Goals as goal

-- the product as the machine computes it, on the bits of two values
abbrev Right : ℤ → ℤ → Type 0
Right a b = residue (to_z w8 (of_z w8 (to_z w8 (of_z w8 a) *ℤ to_z w8 (of_z w8 b)))) ≡ (residue a * residue b) % 3

right : (a b : ℤ) → negsuc 0 ≤ℤ a → a ≤ℤ pos 1 → negsuc 0 ≤ℤ b → b ≤ℤ pos 1 → Right a b
right a b la ha lb hb =
    by_thirds (λ x. Right x b)
    (by_thirds (Right (negsuc 0)) refl refl refl b lb hb)
    (by_thirds (Right (pos 0)) refl refl refl b lb hb)
    (by_thirds (Right (pos 1)) refl refl refl b lb hb)
    a la ha

pub returns : goal.returns
returns c =
    let x = c.args.self in
    let y = c.args.by in
    record { stands_for_the_product = right x.value y.value x.at_least_minus_one x.at_most_one y.at_least_minus_one y.at_most_one }
