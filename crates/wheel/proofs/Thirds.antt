-- What holds of −1, 0 and 1 holds of each value of the wheel of three. Assumes nothing.
use Rattle.std.proofs.Common.{zero, suc, ℤ, pos, negsuc, ◌≤ℤ◌, arith}
use Rattle.std.proofs.lemmas.Int.{ints}

pub by_thirds : (P : ℤ → Type 0) → P (negsuc 0) → P (pos 0) → P (pos 1) → (z : ℤ) → negsuc 0 ≤ℤ z → z ≤ℤ pos 1 → P z
by_thirds P m o p (pos zero) low high = o
by_thirds P m o p (pos (suc zero)) low high = p
by_thirds P m o p (pos (suc (suc n))) low high = absurd (omega (arith, ints))
by_thirds P m o p (negsuc zero) low high = m
by_thirds P m o p (negsuc (suc n)) low high = absurd (omega (arith, ints))
