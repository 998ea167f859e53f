-- A number with at most two digits in decimal is below 100, so that a styles line tells its number, however large another may be. Assumes nothing.
use Rattle.std.proofs.Common.{◌≡◌, ℕ, zero, suc, ◌+◌, ◌/◌, ◌%◌, ◌≤◌, false, eqb, List, [], ◌∷◌, length, codes, decimal, ap, inl, inr, arith}
use Rattle.std.specs.Fmt.{digits, digit_glyph, digits_onto}
use Rattle.std.proofs.lemmas.Fmt.{length-decimal-le}
use Rattle.std.proofs.lemmas.List.{append_cancel_left}
use Rattle.std.proofs.lemmas.Bool.{cases_lt, cond_both, cond-false, ne_eqb}
use Rattle.texts.specs.Forms.{styles_line, StylesGood}
use Rattle.texts.proofs.Bytes.{same_styles}

module _ (k n : ℕ) (acc : List ℕ) where
  abbrev last : List ℕ
  last = digit_glyph false (n % 10) ∷ acc

  -- a further digit
  not_last : 10 ≤ n → digits_onto (suc k) 10 false n acc ≡ digits_onto k 10 false (n / 10) last
  not_last h = cond-false (eqb (n / 10) 0) last (digits_onto k 10 false (n / 10) last) (ne_eqb (n / 10) 0 (λ e. omega arith))

one_digit : (k n : ℕ) (acc : List ℕ) → suc (length acc) ≤ length (digits_onto (suc k) 10 false n acc)
one_digit zero n acc = cond_both (eqb (n / 10) 0) (last 0 n acc) (last 0 n acc) (λ l. suc (length acc) ≤ length l) (λ e. omega arith) (λ e. omega arith)
one_digit (suc k) n acc =
    cond_both (eqb (n / 10) 0) (last k n acc) (digits_onto (suc k) 10 false (n / 10) (last k n acc)) (λ l. suc (length acc) ≤ length l) (λ e. omega arith) (λ e. omega (arith, one_digit k (n / 10) (last k n acc)))

three_digits : (k n : ℕ) (acc : List ℕ) → 100 ≤ n → 3 + length acc ≤ length (digits_onto (suc (suc (suc k))) 10 false n acc)
three_digits k n acc h =
    let first = last k n acc in
    let second = last k (n / 10) first in
    omega (arith, ap length (not_last (suc (suc k)) n acc (omega arith)), ap length (not_last (suc k) (n / 10) first (omega arith)), one_digit k (n / 10 / 10) second)

few_digits : (n : ℕ) → 100 ≤ n → 3 ≤ length (decimal n)
unfolding digits
few_digits n h = three_digits 61 n [] h

-- a styles line with a good number tells it
pub same_styles_good : (m n : ℕ) → StylesGood n → styles_line m ≡ styles_line n → m ≡ n
same_styles_good m n good e =
    let same : decimal m ≡ decimal n = append_cancel_left (codes "styles=") (decimal m) (decimal n) e in
    elim (cases_lt m 100) [
      | inl small ↦ same_styles m n (omega arith) (omega (arith, good.few)) e
      | inr large ↦ absurd (omega (arith, few_digits m large, ap length same, length-decimal-le 2 n (omega arith) (omega (arith, good.few)) (omega (arith, good.few))))
    ]
