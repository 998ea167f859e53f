-- Nets play as Test and Flip nets do. Assumes nothing.
use Rattle.std.proofs.Common.{◌≡◌, ℕ, zero, suc, ◌+◌, ◌-◌, ◌*◌, ◌%◌, ◌<◌, List, [], ◌∷◌, ◌++◌, length, get_or, take, Some, None, Option, sym, refl, ap, ◌∙◌, subst, ⊎_elim, mod-lt, mod-eq_of_lt, arith}
use native.Mathlib.Nat.{mod_self, mod-eq-sub-mod, sub-zero, zero-mod}
use Rattle.std.proofs.lemmas.List.{append-nil, append_assoc}
use Rattle.std.proofs.lemmas.Bool.{cases_eq, cases_lt}
use Rattle.theory.specs.Nets.{Net, Proper, place}
use Rattle.theory.specs.Places.{cell, shows, Unwanted}
use Rattle.theory.specs.Playing.{Accepts, Accepted}
use Rattle.theory.specs.Positions.{position}
use Rattle.theory.specs.TestAndFlip.{Marking, Enabled, Fires, FiringSequence, fired, test_and_flip, tests, offset}
use Rattle.theory.proofs.Playing.{accepted_more, accepted_last}
use Rattle.theory.proofs.Showing.{shows_next, shows_start}

-- v − w ≡ 0 modulo k only where v is w
pub difference_zero : (k v w : ℕ) → v < k → w < k → (1 * v + (k - w) % k) % k ≡ 0 → v ≡ w
difference_zero k v zero hv hw e =
    let none : (k - 0) % k ≡ 0 = ap (λ z. z % k) (sub-zero k) ∙ mod_self k in
    let small : (1 * v + (k - 0) % k) % k ≡ v = ap (λ z. z % k) (omega arith) ∙ mod-eq_of_lt hv in
    omega arith
difference_zero k v (suc w) hv hw e =
    let kept : (k - suc w) % k ≡ k - suc w = mod-eq_of_lt (omega arith) in
    ⊎_elim
    (λ low.
    let small : (1 * v + (k - suc w) % k) % k ≡ v + (k - suc w) = ap (λ z. z % k) (omega arith) ∙ mod-eq_of_lt (omega arith) in
    omega arith)
    (λ high.
    let small : (1 * v + (k - suc w) % k) % k ≡ v - suc w = ap (λ z. z % k) (omega arith) ∙ mod-eq-sub-mod {n = v + (k - suc w)} {m = k} (omega arith) ∙ ap (λ z. z % k) (omega arith) ∙ mod-eq_of_lt (omega arith) in
    omega arith)
    (cases_lt v (suc w))

pub zero_difference : (k w : ℕ) → w < k → (1 * w + (k - w) % k) % k ≡ 0
zero_difference k zero hw =
    let none : (k - 0) % k ≡ 0 = ap (λ z. z % k) (sub-zero k) ∙ mod_self k in
    ap (λ z. z % k) (omega arith) ∙ mod-eq_of_lt hw
zero_difference k (suc w) hw =
    let kept : (k - suc w) % k ≡ k - suc w = mod-eq_of_lt (omega arith) in
    ap (λ z. z % k) (omega arith) ∙ mod_self k

-- a cell's a and b say that its place does not refuse: a·v + b ≡ 0 exactly where v is not an unwanted value
pub meets : (k : ℕ) (o : Option ℕ) (v : ℕ) → ((w : ℕ) → o ≡ Some w → w < k) → (Unwanted o v → ⊥) → (tests o * v + offset k o) % k ≡ 0
meets k None v below free = ap (λ z. z % k) (omega arith) ∙ zero-mod k
meets k (Some w) v below free =
    ⊎_elim
    (λ e. ap (λ z. (1 * z + (k - w) % k) % k) e ∙ zero_difference k w (below w refl))
    (λ ne. absurd (free ne))
    (cases_eq v w)

pub frees : (k : ℕ) (o : Option ℕ) (v : ℕ) → v < k → ((w : ℕ) → o ≡ Some w → w < k) → (tests o * v + offset k o) % k ≡ 0 → Unwanted o v → ⊥
frees k None v hv below e unwanted = unwanted
frees k (Some w) v hv below e unwanted = unwanted (difference_zero k v w hv (below w refl) e)

module _ (N : Net) (proper : Proper N) where
  -- the marking m is what the places show at the run's position
  abbrev Marks : Marking → List ℕ → Type 0
  Marks m run = (p : ℕ) → p < length N.places → m p ≡ shows N.order (place N p) (position N.order run)

  wanted_below : (p style : ℕ) → p < length N.places → style < N.styles → (w : ℕ) → (cell (place N p) style).wanted ≡ Some w → w < N.order
  wanted_below p style hp hs = ((proper.each_place p hp).cells_below style hs).wanted_below

  shown_below : (p : ℕ) (x : ℕ → ℕ) → shows N.order (place N p) x < N.order
  shown_below p x = mod-lt _ (omega (arith, proper.order_from_two))

  enabled : (m : Marking) (run : List ℕ) (style : ℕ) → Marks m run → Accepts N run style → Enabled (test_and_flip N) m style
  enabled m run style marks accepts = record {
    is_transition = accepts.known;
    at_each_place = λ p hp.
        rw (marks p hp) (meets N.order (cell (place N p) style).wanted _ (wanted_below p style hp accepts.known) (accepts.free p hp));
  }

  accepts : (m : Marking) (run : List ℕ) (style : ℕ) → Marks m run → Enabled (test_and_flip N) m style → Accepts N run style
  accepts m run style marks on = record {
    known = on.is_transition;
    free = λ p hp.
        frees N.order (cell (place N p) style).wanted _ (shown_below p _) (wanted_below p style hp on.is_transition) (rw (marks p hp) at (on.at_each_place p hp));
  }

  marks_next : (m : Marking) (run : List ℕ) (style : ℕ) → style < N.styles → Marks m run → Marks (fired (test_and_flip N) m style) (run ++ style ∷ [])
  marks_next m run style hs marks p hp =
      ap (λ z. (z + (cell (place N p) style).turn) % N.order) (marks p hp)
      ∙ sym (shows_next N.order (place N p) run style (rw (proper.each_place p hp).one_cell_each hs))

  -- what is accepted after the styles before fires from the marking that they give, and the other way round
  fires : (before run : List ℕ) (m : Marking) → Marks m before → ((j : ℕ) → j < length run → Accepts N (before ++ take j run) (get_or run j 0)) → Fires (test_and_flip N) m run
  fires before [] m marks all = tt
  fires before (s ∷ run) m marks all =
      let first : Accepts N before s = subst (λ b. Accepts N b s) (append-nil before) (all 0 (omega arith)) in (
        enabled m before s marks first,
        fires (before ++ s ∷ []) run (fired (test_and_flip N) m s) (marks_next m before s first.known marks)
            (λ j h. subst (λ b. Accepts N b (get_or run j 0)) (sym (append_assoc before (s ∷ []) (take j run))) (all (suc j) (omega arith))),
      )

  fired_accepted : (before run : List ℕ) (m : Marking) → Marks m before → Fires (test_and_flip N) m run → (j : ℕ) → j < length run → Accepts N (before ++ take j run) (get_or run j 0)
  fired_accepted before [] m marks on j h = absurd (omega arith)
  fired_accepted before (s ∷ run) m marks on zero h = subst (λ b. Accepts N b s) (sym (append-nil before)) (accepts m before s marks on.0)
  fired_accepted before (s ∷ run) m marks on (suc j) h =
      let first = accepts m before s marks on.0 in
      subst (λ b. Accepts N b (get_or run j 0)) (append_assoc before (s ∷ []) (take j run))
      (fired_accepted (before ++ s ∷ []) run (fired (test_and_flip N) m s) (marks_next m before s first.known marks) on.1 j (omega arith))

  marks_start : Marks (test_and_flip N).start []
  marks_start p hp = sym (shows_start N.order (place N p) (proper.each_place p hp).start_below)

  pub accepted_fires : (run : List ℕ) → Accepted N run → FiringSequence N run
  accepted_fires run all = fires [] run (test_and_flip N).start marks_start all

  pub fires_accepted : (run : List ℕ) → FiringSequence N run → Accepted N run
  fires_accepted run on = fired_accepted [] run (test_and_flip N).start marks_start on

  -- a style is accepted after an accepted run exactly where the longer run is a firing sequence
  pub accepts_fires : (run : List ℕ) (style : ℕ) → Accepted N run → Accepts N run style → FiringSequence N (run ++ style ∷ [])
  accepts_fires run style before here = accepted_fires (run ++ style ∷ []) (accepted_more N run style before here)

  pub fires_accepts : (run : List ℕ) (style : ℕ) → FiringSequence N (run ++ style ∷ []) → Accepts N run style
  fires_accepts run style on = accepted_last N run style (fires_accepted (run ++ style ∷ []) on)
