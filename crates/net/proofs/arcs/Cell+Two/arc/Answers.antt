use Rattle.std.proofs.Common.{◌≡◌, ℕ, Bool, true, false, cond, Some, None, sym, refl, ap, ◌∙◌, ap₂}
use Rattle.std.specs.Option.{option_map}
use Rattle.theory.proofs.Arcs.{six_arcs}
use Rattle.theory.specs.Arcs.{no_arc, test_zero, test_one, complement, fill, empty}
use Rattle.theory.specs.Places as P
use Rattle.theory.specs.TestAndFlip.{entries}
use Rattle.wheel.specs.contracts.two.TwoWheel.TheImpl.{ghosts as of_two}
use Rattle.wheel.specs.declared.two.Two.{Two}
use Rattle.net.specs.Views.{cell_of}
use Rattle.net.specs.declared.cells.Cell.{Cell}
use Rattle.net.proofs.arcs.Cell+Two.arc.Goals as goal

-- a bit that does not stand for 1 stands for 0
clear : (b : Bool) {n : ℕ} → n ≡ cond b 1 0 → (n ≡ 1 → ⊥) → cond {A = ℕ} b 1 0 ≡ 0
clear true e never = absurd (never e)
clear false e never = refl

untested : (self : Cell Two) (t : ℕ) → self.wanted ≡ None → of_two.number self.turn ≡ t → ◌≡◌ {A = P.Cell} (record { wanted = None; turn = t }) (cell_of of_two self)
untested self t none turn = sym (ap₂ (λ o v. record { wanted = option_map of_two.number o; turn = v }) none turn)

tested : (self : Cell Two) (x : Two) (w t : ℕ) → self.wanted ≡ Some x → of_two.number x ≡ w → of_two.number self.turn ≡ t → ◌≡◌ {A = P.Cell} (record { wanted = Some w; turn = t }) (cell_of of_two self)
tested self x w t some wanted turn =
    sym (ap₂ (λ o v. record { wanted = option_map of_two.number o; turn = v }) some turn ∙ ap (λ v. record { wanted = Some v; turn = t }) wanted)

pub returns-in-None : goal.returns-in-None
returns-in-None c =
    let e = untested c.args.self 1 c.in-None.is (sym c.digit-turns.ensures.is_the_number ∙ c.if-turns.true) in
    record { is_the_cells_arc = e; has_the_cells_entries = ap (entries 2) (sym e) ∙ six_arcs.entries_listed complement; the_six_arcs_are_all_cells = six_arcs }

pub returns-in-None-2 : goal.returns-in-None-2
returns-in-None-2 c =
    let e = untested c.args.self 0 c.in-None.is (clear c.args.self.turn.bit c.digit-turns.ensures.is_the_number c.if-turns.false) in
    record { is_the_cells_arc = e; has_the_cells_entries = ap (entries 2) (sym e) ∙ six_arcs.entries_listed no_arc; the_six_arcs_are_all_cells = six_arcs }

pub returns-then-turns-2 : goal.returns-then-turns-2
returns-then-turns-2 c =
    let e = tested c.args.self c.in-Some.wanted 1 1 c.in-Some.is (sym c.digit.ensures.is_the_number ∙ c.if-digit-eq1.true) (sym c.digit-turns.ensures.is_the_number ∙ c.if-turns-2.true) in
    record { is_the_cells_arc = e; has_the_cells_entries = ap (entries 2) (sym e) ∙ six_arcs.entries_listed empty; the_six_arcs_are_all_cells = six_arcs }

pub returns-else-turns-2 : goal.returns-else-turns-2
returns-else-turns-2 c =
    let e = tested c.args.self c.in-Some.wanted 1 0 c.in-Some.is (sym c.digit.ensures.is_the_number ∙ c.if-digit-eq1.true) (clear c.args.self.turn.bit c.digit-turns.ensures.is_the_number c.if-turns-2.false) in
    record { is_the_cells_arc = e; has_the_cells_entries = ap (entries 2) (sym e) ∙ six_arcs.entries_listed test_one; the_six_arcs_are_all_cells = six_arcs }

pub returns-then-turns-3 : goal.returns-then-turns-3
returns-then-turns-3 c =
    let e = tested c.args.self c.in-Some.wanted 0 1 c.in-Some.is (clear c.in-Some.wanted.bit c.digit.ensures.is_the_number c.if-digit-eq1.false) (sym c.digit-turns.ensures.is_the_number ∙ c.if-turns-3.true) in
    record { is_the_cells_arc = e; has_the_cells_entries = ap (entries 2) (sym e) ∙ six_arcs.entries_listed fill; the_six_arcs_are_all_cells = six_arcs }

pub returns-else-turns-3 : goal.returns-else-turns-3
returns-else-turns-3 c =
    let e = tested c.args.self c.in-Some.wanted 0 0 c.in-Some.is (clear c.in-Some.wanted.bit c.digit.ensures.is_the_number c.if-digit-eq1.false) (clear c.args.self.turn.bit c.digit-turns.ensures.is_the_number c.if-turns-3.false) in
    record { is_the_cells_arc = e; has_the_cells_entries = ap (entries 2) (sym e) ∙ six_arcs.entries_listed test_zero; the_six_arcs_are_all_cells = six_arcs }
