-- Decimal numbers below 1,000 at the front of bytes. Assumes nothing.
use Rattle.std.proofs.Common.{◌≡◌, ℕ, ◌+◌, ◌*◌, ◌/◌, ◌%◌, ◌<◌, ◌≤◌, ◌⊎◌, List, [], ◌∷◌, ◌++◌, length, get_or, decimal, sym, ap, ◌∙◌, subst, ap₂, inl, inr, ⊎_elim, arith, length-append}
use Rattle.std.proofs.lemmas.Fmt.{decimal_digit, decimal_step, length-decimal-le, decimal_nonempty, first_decimal, digits_decimal, decimal_injective}
use Rattle.std.proofs.lemmas.List.{get_or_append_left, append_assoc, append_cancel_left, ext_get_or}
use Rattle.std.proofs.lemmas.Str.Parse.{numerals_by_value, tells_by_index}
use Rattle.std.proofs.lemmas.Bool.{cases_order}
use Rattle.std.specs.Int.{IsInRange}
use Rattle.lines.proofs.FirstBytes.{after, at_end, opened}

-- one more digit
pub decimal_more : (n d : ℕ) → 0 < n → n < 100 → d < 10 → decimal (10 * n + d) ≡ decimal n ++ ((48 + d) ∷ [])
decimal_more n d some few small =
    let tens : (10 * n + d) / 10 ≡ n = omega arith in
    let ones : (10 * n + d) % 10 ≡ d = omega arith in
    decimal_step (10 * n + d) (omega arith) (omega arith) ∙ ap₂ (λ m e. decimal m ++ ((48 + e) ∷ [])) tens ones

is_digit : (n i : ℕ) → n < 1000 → i < length (decimal n) → IsInRange 48 57 (get_or (decimal n) i 0)
is_digit n i small = digits_decimal (numerals_by_value _ tells_by_index) n (omega arith) i

long : (n : ℕ) → 100 ≤ n → n < 1000 → 3 ≤ length (decimal n)
long n large small =
    let one = ap length (decimal_step n (omega arith) (omega arith)) ∙ length-append (decimal (n / 10)) _ in
    let two = ap length (decimal_step (n / 10) (omega arith) (omega arith)) ∙ length-append (decimal (n / 10 / 10)) _ in
    omega (arith, one, two, decimal_nonempty (n / 10 / 10) (omega arith))

-- bytes that open with a number open with a digit
pub first_digit : (v : ℕ) (bytes rest : List ℕ) → v < 1000 → bytes ≡ decimal v ++ rest → (0 < length bytes) × IsInRange 48 57 (get_or bytes 0 0)
first_digit v bytes rest small e =
    let some : 0 < length (decimal v) = decimal_nonempty v (omega arith) in
    let front : get_or bytes 0 0 ≡ get_or (decimal v) 0 0 = ap (λ xs. get_or xs 0 0) e ∙ get_or_append_left (decimal v) rest 0 0 some in
    (omega (arith, ap length e, length-append (decimal v) rest), subst (IsInRange 48 57) (sym front) (is_digit v 0 small some))

-- one more digit may stand after the digits of n, and does
pub record More (n : ℕ) (bytes : List ℕ) : Type 0 where
  pub positive : 0 < n
  pub few : n < 100
  pub some : 0 < length bytes
  pub digit : IsInRange 48 57 (get_or bytes 0 0)

-- after the digits of n stands the line feed, or one more digit
pub goes_on : (n v : ℕ) (bytes rest : List ℕ) → n < 1000 → v < 1000 → decimal n ++ bytes ≡ decimal v ++ (10 ∷ rest) → ((n ≡ v) × (bytes ≡ 10 ∷ rest)) ⊎ More n bytes
goes_on n v bytes rest small small' e = ⊎_elim (λ l. inl (same l)) (⊎_elim (λ l. inr (shorter l)) longer) (cases_order (length (decimal n)) (length (decimal v)))
  where
    lengths : length (decimal n) + length bytes ≡ length (decimal v) + (1 + length rest)
    lengths = sym (length-append (decimal n) bytes) ∙ ap length e ∙ length-append (decimal v) (10 ∷ rest) ∙ omega arith

    reads : (i : ℕ) → get_or (decimal n ++ bytes) i 0 ≡ get_or (decimal v ++ (10 ∷ rest)) i 0
    reads i = ap (λ xs. get_or xs i 0) e

    same : length (decimal n) ≡ length (decimal v) → (n ≡ v) × (bytes ≡ 10 ∷ rest)
    same l =
        let front : decimal n ≡ decimal v = ext_get_or 0 _ _ l (λ i h. sym (get_or_append_left (decimal n) bytes 0 i h) ∙ reads i ∙ get_or_append_left (decimal v) (10 ∷ rest) 0 i (omega arith)) in
        (decimal_injective n v (omega arith) (omega arith) front, append_cancel_left (decimal v) _ _ (ap (λ xs. xs ++ bytes) (sym front) ∙ e))

    -- no number but 0 opens with 0
    not_zero : length (decimal n) < length (decimal v) → n ≡ 0 → ⊥
    not_zero l z =
        let written : decimal n ≡ 48 ∷ [] = ap decimal z ∙ decimal_digit 0 (omega arith) in
        let some : 0 < length (decimal n) = decimal_nonempty n (omega arith) in
        let front : get_or (decimal n) 0 0 ≡ get_or (decimal v) 0 0 = sym (get_or_append_left (decimal n) bytes 0 0 some) ∙ reads 0 ∙ get_or_append_left (decimal v) (10 ∷ rest) 0 0 (omega arith) in
        let only : v ≡ 0 → ⊥ = λ w. omega (arith, ap (λ m. length (decimal m)) (w ∙ sym z)) in
        let positive : 0 < v = omega arith in
        omega (arith, front, ap (λ xs. get_or xs 0 0) written, first_decimal v positive (omega arith))

    shorter : length (decimal n) < length (decimal v) → More n bytes
    shorter l =
        let next : get_or bytes 0 0 ≡ get_or (decimal v) (length (decimal n)) 0 = sym (at_end (decimal n) bytes) ∙ reads (length (decimal n)) ∙ get_or_append_left (decimal v) (10 ∷ rest) 0 _ l in
        let short : length (decimal v) ≤ 3 = length-decimal-le 3 v (omega arith) (omega arith) (omega arith) in
        let few : 100 ≤ n → ⊥ = λ h. omega (arith, long n h small) in
        let some = not_zero l in
        record { positive = omega arith; few = omega arith; some = omega (arith, lengths); digit = subst (IsInRange 48 57) (sym next) (is_digit v _ small' l) }

    longer : length (decimal v) < length (decimal n) → ((n ≡ v) × (bytes ≡ 10 ∷ rest)) ⊎ More n bytes
    longer l =
        let feed : get_or (decimal n) (length (decimal v)) 0 ≡ 10 = sym (get_or_append_left (decimal n) bytes 0 _ l) ∙ reads (length (decimal v)) ∙ at_end (decimal v) (10 ∷ rest) in
        let digit = is_digit n (length (decimal v)) small l in
        absurd (omega (arith, digit.0))

-- the first digit is read
pub begun : (bytes : List ℕ) (d : ℕ) → 0 < length bytes → get_or bytes 0 0 ≡ 48 + d → d < 10 → bytes ≡ decimal d ++ after bytes
begun bytes d some e small = opened bytes (48 + d) some e ∙ ap (λ ds. ds ++ after bytes) (sym (decimal_digit d small))

-- one more digit is read
pub read_on : (all bytes : List ℕ) (n d : ℕ) → all ≡ decimal n ++ bytes → 0 < n → n < 100 → d < 10 → 0 < length bytes → get_or bytes 0 0 ≡ 48 + d → all ≡ decimal (10 * n + d) ++ after bytes
read_on all bytes n d so positive few small some e =
    so ∙ ap (λ bs. decimal n ++ bs) (opened bytes (48 + d) some e)
    ∙ sym (append_assoc (decimal n) ((48 + d) ∷ []) (after bytes))
    ∙ ap (λ ds. ds ++ after bytes) (sym (decimal_more n d positive few small))

-- the line feed is read
pub ended : (all bytes : List ℕ) (n : ℕ) → all ≡ decimal n ++ bytes → 0 < length bytes → get_or bytes 0 0 ≡ 10 → all ≡ decimal n ++ (10 ∷ after bytes)
ended all bytes n so some e = so ∙ ap (λ bs. decimal n ++ bs) (opened bytes 10 some e)
