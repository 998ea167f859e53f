-- Setting the bits of a menu, from bit 0 up. Assumes nothing.
use Rattle.std.proofs.Common.{◌≡◌, ℕ, ◌+◌, ◌-◌, ◌*◌, ◌/◌, ◌%◌, ◌^◌, ◌<◌, ◌≤◌, sym, ap, ◌∙◌, subst, ⊎_elim, arith, pow_pos, pow_mono, pow-add}
use native.Mathlib.Nat.{div-eq_of_lt, add-mul-div_right, add-mul-mod_self_right}
use lib.Bits.{bit_or}
use Rattle.std.proofs.lemmas.Nat.{one_shl, or_comm, or_shifted}
use Rattle.std.proofs.lemmas.Bool.{cases_eq, cases_lt}
use Rattle.theory.specs.Menus.{bit, Offers}

-- of the numbers below n a bit is set exactly where P holds, and no other bit is set
pub record Filled (P : ℕ → Type 0) (n menu : ℕ) : Type 0 where
  pub small : menu < 2 ^ n
  pub only_these : (t : ℕ) → t < n → bit menu t ≡ 1 → P t
  pub all_these : (t : ℕ) → t < n → P t → bit menu t ≡ 1

-- a bit past the end is not set
past_bit : (n t menu : ℕ) → menu < 2 ^ n → n ≤ t → bit menu t ≡ 0
past_bit n t menu small past =
    let below : menu < 2 ^ t = omega (arith, pow_mono {i = n} {j = t} past) in
    ap (λ z. z % 2) (div-eq_of_lt below)

-- one more bit on top leaves those below as they are
low_bit : (n t menu : ℕ) → t < n → bit (menu + 2 ^ n) t ≡ bit menu t
low_bit n t menu below =
    let j : ℕ = n - (t + 1) in
    let split : 2 ^ n ≡ 2 ^ j * 2 * 2 ^ t =
    ap (λ z. 2 ^ z) (omega arith) ∙ pow-add 2 (j + 1) t ∙ ap (λ z. z * 2 ^ t) (pow-add 2 j 1) in
    ap (λ z. (menu + z) / 2 ^ t % 2) split
    ∙ ap (λ z. z % 2) (add-mul-div_right menu (2 ^ j * 2) {z = 2 ^ t} (pow_pos t))
    ∙ add-mul-mod_self_right (menu / 2 ^ t) (2 ^ j) 2

top_bit : (n menu : ℕ) → menu < 2 ^ n → bit (menu + 2 ^ n) n ≡ 1
top_bit n menu small =
    ap (λ z. (menu + z) / 2 ^ n % 2) (omega arith)
    ∙ ap (λ z. z % 2) (add-mul-div_right menu 1 {z = 2 ^ n} (pow_pos n) ∙ ap (λ z. z + 1) (div-eq_of_lt small))

module _ (P : ℕ → Type 0) (n menu : ℕ) (so_far : Filled P n menu) where
  pub filled_set : P n → Filled P (n + 1) (menu + 2 ^ n)
  filled_set here = record {
    small = omega (arith, so_far.small, pow-add 2 n 1);
    only_these = λ t h on.
        ⊎_elim
        (λ e. subst P (sym e) here)
        (λ ne. let below : t < n = omega arith in so_far.only_these t below (sym (low_bit n t menu below) ∙ on))
        (cases_eq t n);
    all_these = λ t h holds.
        ⊎_elim
        (λ e. ap (bit (menu + 2 ^ n)) e ∙ top_bit n menu so_far.small)
        (λ ne. let below : t < n = omega arith in low_bit n t menu below ∙ so_far.all_these t below holds)
        (cases_eq t n);
  }

  pub filled_clear : (P n → ⊥) → Filled P (n + 1) menu
  filled_clear never = record {
    small = omega (arith, so_far.small, pow-add 2 n 1);
    only_these = λ t h on.
        ⊎_elim
        (λ e. absurd (omega (arith, past_bit n t menu so_far.small (omega arith))))
        (λ ne. so_far.only_these t (omega arith) on)
        (cases_eq t n);
    all_these = λ t h holds.
        ⊎_elim (λ e. absurd (never (subst P e holds))) (λ ne. so_far.all_these t (omega arith) holds) (cases_eq t n);
  }

  -- a filled menu offers what is below n and of which P holds
  pub filled_offers : (Q : ℕ → Type 0) → ((t : ℕ) → t < n → P t → Q t) → ((t : ℕ) → Q t → t < n) → ((t : ℕ) → Q t → P t) → Offers Q menu
  filled_offers Q gives below takes = record {
    only_these = λ t on.
        ⊎_elim
        (λ low. gives t low (so_far.only_these t low on))
        (λ past. absurd (omega (arith, past_bit n t menu so_far.small past)))
        (cases_lt t n);
    all_these = λ t holds. so_far.all_these t (below t holds) (takes t holds);
  }

-- `menu | 1 << n` at a number of 16 bits that has no bit at n or above
pub bit_added : (n menu : ℕ) → n < 16 → menu < 2 ^ n → bit_or menu ((1 * 2 ^ n) % 2 ^ 16) ≡ menu + 2 ^ n
bit_added n menu few small =
    ap (bit_or menu) (one_shl n 16 few)
    ∙ or_comm menu (2 ^ n)
    ∙ ap (λ z. bit_or z menu) (omega arith)
    ∙ or_shifted 1 n menu small
    ∙ omega arith
