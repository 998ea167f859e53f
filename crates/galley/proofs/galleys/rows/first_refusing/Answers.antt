use Rattle.std.proofs.Common.{ap, subst₂, arith, below_more}
use Rattle.theory.specs.Places.{Unwanted}
use Rattle.net.specs.Views.{idle, cell_of}
use Rattle.galley.proofs.Rows.{read_mapped}
use Rattle.galley.proofs.galleys.rows.first_refusing.Goals as goal

pub loop-place-preserved : goal.loop-place-preserved
loop-place-preserved g c =
    let w = g.W.Wheel in
    let i = c.loop-place.place in
    let cell = read_mapped (cell_of w) c.args.cells.now i c.index-cells-place.result idle (omega arith) c.index-cells-place.is in
    let value = read_mapped w.number c.args.shown.now i c.index-shown-place.result 0 (omega arith) c.index-shown-place.is in
    below_more _ _ c.loop-place.invariant
    (λ refuses. c.in_default.ensures.missed_exactly_where_unwanted (subst₂ Unwanted (ap (λ x. x.wanted) cell) value refuses))
