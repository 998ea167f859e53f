-- Signed numbers modulo three. Assumes nothing.
use Rattle.std.specs.Prelude.{ℕ, ◌-◌, ◌%◌, ℤ, pos, negsuc}

-- the remainder of a signed number by three, from 0 to 2: that of −1 is 2 (`negsuc n` is −1 − n)
abbrev pub residue : ℤ → ℕ
residue (pos n) = n % 3
residue (negsuc n) = 2 - n % 3
