-- Sums over the numbers below n, and sums modulo k. Assumes nothing.
use Rattle.std.proofs.Common.{◌≡◌, ℕ, zero, suc, ◌+◌, ◌*◌, ◌/◌, ◌%◌, ◌<◌, ◌≤◌, true, false, cond, eqb, sym, refl, ap, ◌∙◌, ⊎_elim, div-add-mod', arith}
use native.Mathlib.Nat.{add-mul-mod_self_right}
use Rattle.std.proofs.lemmas.Bool.{cases_eq, eq-eqb, ne_eqb}
use Rattle.theory.specs.Sums.{sum}

pub sum_same : (n : ℕ) (f g : ℕ → ℕ) → ((t : ℕ) → t < n → f t ≡ g t) → sum n f ≡ sum n g
sum_same zero f g same = refl
sum_same (suc n) f g same =
    let here : f n ≡ g n = same n (omega arith) in
    omega (arith, sum_same n f g (λ t h. same t (omega arith)))

pub sum_zero : (n : ℕ) (c : ℕ → ℕ) → sum n (λ t. 0 * c t) ≡ 0
sum_zero zero c = refl
sum_zero (suc n) c = omega (arith, sum_zero n c)

-- a factor may be reduced modulo k under a sum modulo k
pub mod_factor : (k a x c : ℕ) → (a + (x % k) * c) % k ≡ (a + x * c) % k
mod_factor k a x c =
    let whole : (x / k * k + x % k) * c ≡ x * c = ap (λ z. z * c) (div-add-mod' x k) in
    let split : a + x * c ≡ (a + (x % k) * c) + (x / k * c) * k = omega arith in
    sym (ap (λ z. z % k) split ∙ add-mul-mod_self_right (a + (x % k) * c) (x / k * c) k)

-- so may every factor of a sum of products
pub mod_factors : (k n a : ℕ) (x c : ℕ → ℕ) → (a + sum n (λ t. (x t % k) * c t)) % k ≡ (a + sum n (λ t. x t * c t)) % k
mod_factors k zero a x c = refl
mod_factors k (suc n) a x c =
    let inner = mod_factors k n (a + (x n % k) * c n) x c in
    let outer = mod_factor k (a + sum n (λ t. x t * c t)) (x n) (c n) in
    ap (λ z. z % k) (omega arith) ∙ inner ∙ ap (λ z. z % k) (omega arith) ∙ outer ∙ ap (λ z. z % k) (omega arith)

-- one more at s, which is past the end, adds nothing
past : (n s : ℕ) (x c : ℕ → ℕ) → n ≤ s → sum n (λ t. (x t + cond (eqb s t) 1 0) * c t) ≡ sum n (λ t. x t * c t)
past n s x c h =
    sum_same n _ _ (λ t below. let apart : eqb s t ≡ false = ne_eqb s t (omega arith) in rw apart (omega arith))

-- one more at s adds its factor
pub sum_more : (n s : ℕ) (x c : ℕ → ℕ) → s < n → sum n (λ t. (x t + cond (eqb s t) 1 0) * c t) ≡ sum n (λ t. x t * c t) + c s
sum_more zero s x c h = absurd (omega arith)
sum_more (suc n) s x c h =
    ⊎_elim
    (λ e.
    let hit : eqb s n ≡ true = eq-eqb s n e in
    let turn : c s ≡ c n = ap c e in
    rw hit (omega (arith, past n s x c (omega arith))))
    (λ ne.
    let miss : eqb s n ≡ false = ne_eqb s n ne in
    rw miss (omega (arith, sum_more n s x c (omega arith))))
    (cases_eq s n)
