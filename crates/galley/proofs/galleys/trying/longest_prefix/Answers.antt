use Rattle.std.proofs.Common.{◌≡◌, ◌+◌, map, length, get_or, vec_items, sym, ap, ◌∙◌, subst, rules}
use Rattle.std.proofs.lemmas.List.{length-map, with_items_is}
use Rattle.std.proofs.lemmas.Option.{MatchOption-at_some}
use Rattle.theory.specs.Places.{cell}
use Rattle.theory.specs.TestAndFlip.{LongestFiring, test_and_flip}
use Rattle.galley.specs.Rows.{NoneRefuses, FirstRefuses, Turned}
use Rattle.galley.specs.Standing.{Stands}
use Rattle.net.specs.Views.{cell_of, view}
use Rattle.net.proofs.Proper.{number_below, proper}
use Rattle.galley.proofs.Rows.{none_case, some_case}
use Rattle.galley.proofs.Trying.{Going, marks, going_more, stopped_longest, stopped_firing}
use Rattle.galley.proofs.galleys.trying.longest_prefix.Goals as goal

pub loop-step-preserved : goal.loop-step-preserved
loop-step-preserved g c =
    let w = g.W.Wheel in
    let net = c.args.net.now in
    let run = c.args.run.now in
    let step = c.loop-step.step in
    let shown = c.loop-step.guard.shown.now in
    let now = vec_items shown in
    let next = c.turn_all.new.shown in
    let found = c.unwrap-cells.result.now in
    let found_row = MatchOption-at_some _ _ _ c.unwrap-cells.ensures c.cells_for.ensures.one_cell_for_each_place in
    let cells = map (cell_of w) found in
    let row : cells ≡ map (λ p. cell p (get_or run step 0)) (view w net).places = found_row.row ∙ ap (λ s. map (λ p. cell p s) (view w net).places) c.from.ensures in
    let long : length found ≡ length cells = sym (length-map found (cell_of w)) in
    let none : NoneRefuses cells (map w.number now) (length cells) =
    subst (NoneRefuses cells (map w.number now)) long
    (subst (λ shown. NoneRefuses cells (map w.number shown) (length found)) c.deref.ensures.value
    (none_case c.first_refusing.result _ _ c.first_refusing.ensures.is_the_first (sym c.if-is_some.ensures))) in
    let turned : Turned w.K cells (map w.number now) (length cells) (map w.number next) =
    subst (λ n. Turned w.K cells (map w.number now) n (map w.number next)) long
    (subst (λ before. Turned w.K cells (map w.number before) (length found) (map w.number next)) c.deref_mut.ensures.value c.turn_all.ensures.each_place_turns) in
    let written = with_items_is shown next (c.turn_all.ensures.as_many_places_as_before ∙ c.deref_mut.ensures.len) in (
      subst (λ values. Going w net c.args.saved.now values run (step + 1)) (sym written)
          (going_more w net c.args.saved.now run now step c.loop-step.invariant.0 c.loop-step-test.true cells row (proper g.W.Wheel g.met.W.Wheel.laws net) (number_below g.W.Wheel g.met.W.Wheel.laws now) (c.requires.styles_known step c.loop-step-test.true) next none turned),
      c.loop-step.invariant.1,
    )

pub returns-then-is_some : goal.returns-then-is_some
returns-then-is_some g c =
    let w = g.W.Wheel in
    let net = c.args.net.now in
    let run = c.args.run.now in
    let step = c.loop-step.step in
    let now = vec_items c.loop-step.guard.shown.now in
    let found_row = MatchOption-at_some _ _ _ c.unwrap-cells.ensures c.cells_for.ensures.one_cell_for_each_place in
    let cells = map (cell_of w) c.unwrap-cells.result.now in
    let row : cells ≡ map (λ p. cell p (get_or run step 0)) (view w net).places = found_row.row ∙ ap (λ s. map (λ p. cell p s) (view w net).places) c.from.ensures in
    let found = some_case c.first_refusing.result _ _ c.first_refusing.ensures.is_the_first (sym c.if-is_some.ensures) in
    let first : FirstRefuses cells (map w.number now) found.0 = subst (λ shown. FirstRefuses cells (map w.number shown) found.0) c.deref.ensures.value found.1 in
    let known = c.requires.styles_known step c.loop-step-test.true in
    record {
      shows_again_what_it_showed = search rules;
      as_many_as_before = search rules;
      is_the_longest = λ before so.
          stopped_longest w net c.args.saved.now run now step c.loop-step.invariant.0 c.loop-step-test.true cells row (proper g.W.Wheel g.met.W.Wheel.laws net) (number_below g.W.Wheel g.met.W.Wheel.laws now) known found.0 first before
          (subst (λ values. Stands w net values before) (sym c.requires.saved_are_the_shown) so);
      is_the_longest_to_fire =
          subst (λ values. LongestFiring (test_and_flip (view w net)) (marks w values) run step) c.requires.saved_are_the_shown
          (stopped_firing w net c.args.saved.now run now step c.loop-step.invariant.0 c.loop-step-test.true cells row (proper g.W.Wheel g.met.W.Wheel.laws net) (number_below g.W.Wheel g.met.W.Wheel.laws now) known found.0 first);
    }
