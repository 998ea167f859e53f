-- The six arcs are the cells of the wheel of two. Assumes nothing.
use Rattle.std.proofs.Common.{◌≡◌, ℕ, zero, suc, ◌<◌, Some, None, Option, sym, refl, ap, ◌∙◌, subst, arith}
use Rattle.theory.specs.Arcs.{Arc, no_arc, test_zero, test_one, complement, fill, empty, table, arc_cell, SixArcs}
use Rattle.theory.specs.Places.{CellOn}
use Rattle.theory.specs.TestAndFlip.{entries}

listed : (x : Arc) → entries 2 (arc_cell x) ≡ table x
listed no_arc = refl
listed test_zero = refl
listed test_one = refl
listed complement = refl
listed fill = refl
listed empty = refl

untested_below : (w : ℕ) → ◌≡◌ {A = Option ℕ} None (Some w) → w < 2
untested_below w e = let never : ◌≡◌ {A = ℕ} 0 1 = cc in absurd (omega arith)

tested_below : (v : ℕ) → v < 2 → (w : ℕ) → Some v ≡ Some w → w < 2
tested_below v small w e = let same : v ≡ w = cc in subst (λ z. z < 2) same small

on : (x : Arc) → CellOn 2 (arc_cell x)
on no_arc = record { turn_below = omega arith; wanted_below = untested_below }
on test_zero = record { turn_below = omega arith; wanted_below = tested_below 0 (omega arith) }
on test_one = record { turn_below = omega arith; wanted_below = tested_below 1 (omega arith) }
on complement = record { turn_below = omega arith; wanted_below = untested_below }
on fill = record { turn_below = omega arith; wanted_below = tested_below 0 (omega arith) }
on empty = record { turn_below = omega arith; wanted_below = tested_below 1 (omega arith) }

-- a cell by its two entries, each of which is 0 or 1
by_entries : (o : Option ℕ) (t : ℕ) → t < 2 → ((w : ℕ) → o ≡ Some w → w < 2) → (x : Arc) × (arc_cell x ≡ record { wanted = o; turn = t })
by_entries None zero ht hw = (no_arc, refl)
by_entries None (suc zero) ht hw = (complement, refl)
by_entries None (suc (suc t)) ht hw = absurd (omega arith)
by_entries (Some zero) zero ht hw = (test_zero, refl)
by_entries (Some zero) (suc zero) ht hw = (fill, refl)
by_entries (Some (suc zero)) zero ht hw = (test_one, refl)
by_entries (Some (suc zero)) (suc zero) ht hw = (empty, refl)
by_entries (Some (suc (suc w))) zero ht hw = absurd (omega (arith, hw (suc (suc w)) refl))
by_entries (Some (suc (suc w))) (suc zero) ht hw = absurd (omega (arith, hw (suc (suc w)) refl))
by_entries (Some zero) (suc (suc t)) ht hw = absurd (omega arith)
by_entries (Some (suc zero)) (suc (suc t)) ht hw = absurd (omega arith)
by_entries (Some (suc (suc w))) (suc (suc t)) ht hw = absurd (omega arith)

-- the arc that has these entries
arc_with : ℕ → ℕ → ℕ → Arc
arc_with zero b zero = no_arc
arc_with zero b (suc c) = complement
arc_with (suc a) zero zero = test_zero
arc_with (suc a) zero (suc c) = fill
arc_with (suc a) (suc b) zero = test_one
arc_with (suc a) (suc b) (suc c) = empty

back : (x : Arc) → arc_with (table x).a (table x).b (table x).c ≡ x
unfolding arc_with
back no_arc = refl
back test_zero = refl
back test_one = refl
back complement = refl
back fill = refl
back empty = refl

pub six_arcs : SixArcs
six_arcs = record {
  entries_listed = listed;
  on_the_wheel = on;
  all_cells = λ c good. by_entries c.wanted c.turn good.turn_below good.wanted_below;
  all_different = λ x y e. sym (back x) ∙ ap (λ t. arc_with t.a t.b t.c) e ∙ back y;
}
