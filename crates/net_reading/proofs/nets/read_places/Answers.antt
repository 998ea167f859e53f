use Rattle.std.proofs.Common.{◌≡◌, ℕ, ◌+◌, ◌<◌, length, refl, ap, ◌∙◌, arith, rules}
use Rattle.std.proofs.lemmas.Result.{err_from_is_err_and}
use Rattle.std.proofs.lemmas.Option.{MatchOption-at_none}
use Rattle.lines.proofs.Refused.{refused}
use Rattle.lines.specs.declared.faults.Cause.TheVariants.{Form}
use Rattle.net.proofs.Proper.{proper}
use Rattle.net.specs.Views.{view}
use Rattle.net_reading.proofs.SoFar.{places_break, places_all}
use Rattle.net_reading.proofs.nets.read_places.Given as given
use Rattle.net_reading.proofs.nets.read_places.Goals as goal

-- the number of a place's line is small
small : (g : given.Over) (c : goal.After-cells-1 g) → 5 + length c.place_line.new.cells + c.loop-place.place < 1000
small g c =
    let good = proper g.W.Wheel g.met.W.Wheel.laws c.args.net.now in
    omega (arith, good.few_styles, good.few_places, c.loop-place.invariant.one_cell_each, c.place_line.ensures.as_many_cells_as_before)

pub overflow_add-cells-in-loop-place : goal.overflow_add-cells-in-loop-place
overflow_add-cells-in-loop-place g c = let few = small g c in search rules

pub overflow_cast-cells : goal.overflow_cast-cells
overflow_cast-cells g c = let few = small g c in search rules

pub returns-in_err-start : goal.returns-in_err-start
returns-in_err-start g c =
    let p = err_from_is_err_and c.from_residual.result c.from_residual.ensures.1 in
    let none = refused _ _ _ c.in_err-start.ensures.value in
    rw (p.1, p.2)
    record {
      reads_every_place_or_tells_where_they_break_off =
          places_break c.loop-place.invariant (proper g.W.Wheel g.met.W.Wheel.laws c.loop-place.net) refl c.in_err-start.field-0.0 (omega (arith, c.places-place-end.ensures.counts_the_places))
          (MatchOption-at_none _ _ none.0 c.place_line.ensures.reads_a_places_line)
          (none.1 ∙ c.form.ensures.is_a_fault_of_form ∙ ap (λ (n : ℕ). record { line = 5 + n + c.loop-place.place; cause = Form }) c.place_line.ensures.as_many_cells_as_before);
    }

pub returns : goal.returns
returns g c =
    let so_far = c.loop-place.invariant in
    let all : c.loop-place.place ≡ length (view g.W.Wheel c.args.net.now).places = omega (arith, c.places-place-end.ensures.counts_the_places) in
    record {
      reads_every_place_or_tells_where_they_break_off = (so_far.as_many_styles, so_far.as_many_places, places_all so_far (proper g.W.Wheel g.met.W.Wheel.laws c.loop-place.net) refl all);
    }
