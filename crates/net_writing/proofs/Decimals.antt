-- The digits of a number. Assumes nothing.
use Rattle.std.proofs.Common.{◌≡◌, ℕ, ◌+◌, ◌/◌, ◌%◌, ◌^◌, ◌<◌, ◌≤◌, [], ◌∷◌, length, decimal, sym, ap, ◌∙◌, mod-eq_of_lt}
use Rattle.std.proofs.lemmas.Fmt.{decimal_digit, decimal_step}
use Rattle.std.proofs.lemmas.List.{length_push}

-- a number below ten is its last digit
pub last_digit : (n : ℕ) → n < 10 → decimal n ≡ (48 + n % 10) ∷ []
last_digit n h = decimal_digit n h ∙ ap (λ d. (48 + d) ∷ []) (sym (mod-eq_of_lt h))

pub decimal_length_digit : (n : ℕ) → n < 10 → length (decimal n) ≡ 1
decimal_length_digit n h = ap length (decimal_digit n h)

pub decimal_length_step : (n : ℕ) → 10 ≤ n → n < 2 ^ 64 → length (decimal n) ≡ length (decimal (n / 10)) + 1
decimal_length_step n h fits = ap length (decimal_step n h fits) ∙ length_push (decimal (n / 10)) (48 + n % 10)
