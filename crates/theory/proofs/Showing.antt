-- What a place shows at the position of the empty run, and of a run that is one style longer. Assumes nothing.
use Rattle.std.proofs.Common.{◌≡◌, ℕ, ◌+◌, ◌*◌, ◌%◌, ◌<◌, cond, eqb, List, [], ◌∷◌, ◌++◌, length, count_by, sym, ap, ◌∙◌, mod-eq_of_lt, arith}
use native.Mathlib.Nat.{mod-add-mod}
use Rattle.std.proofs.lemmas.List.Sums.{sum_by_push}
use Rattle.theory.specs.Places.{Place, cell, shows}
use Rattle.theory.specs.Positions.{position}
use Rattle.theory.specs.Sums.{sum}
use Rattle.theory.proofs.Sums.{sum_same, sum_zero, sum_more, mod_factors}

-- how often a style occurs in a run, not reduced
abbrev occurs : List ℕ → ℕ → ℕ
occurs run t = count_by (λ s. eqb s t) run

-- counts need not be reduced
whole : (k : ℕ) (p : Place) (run : List ℕ) → shows k p (position k run) ≡ (p.start + sum (length p.cells) (λ t. occurs run t * (cell p t).turn)) % k
whole k p run = mod_factors k (length p.cells) p.start (occurs run) (λ t. (cell p t).turn)

pub shows_next : (k : ℕ) (p : Place) (run : List ℕ) (style : ℕ) → style < length p.cells → shows k p (position k (run ++ style ∷ [])) ≡ (shows k p (position k run) + (cell p style).turn) % k
shows_next k p run style h =
    let n = length p.cells in
    let c : ℕ → ℕ = λ t. (cell p t).turn in
    let pushed : sum n (λ t. occurs (run ++ style ∷ []) t * c t) ≡ sum n (λ t. (occurs run t + cond (eqb style t) 1 0) * c t) =
    sum_same n _ _ (λ t _. ap (λ z. z * c t) (sum_by_push (λ s. cond (eqb s t) 1 0) run style)) in
    let more = sum_more n style (occurs run) c h in
    whole k p (run ++ style ∷ [])
    ∙ ap (λ z. z % k) (omega arith)
    ∙ sym (mod-add-mod (p.start + sum n (λ t. occurs run t * c t)) k (c style))
    ∙ ap (λ z. (z + c style) % k) (sym (whole k p run))

pub shows_start : (k : ℕ) (p : Place) → p.start < k → shows k p (position k []) ≡ p.start
shows_start k p h =
    let none = sum_zero (length p.cells) (λ t. (cell p t).turn) in
    whole k p [] ∙ ap (λ z. z % k) (omega arith) ∙ mod-eq_of_lt h
