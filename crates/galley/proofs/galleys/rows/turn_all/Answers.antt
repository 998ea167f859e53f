use Rattle.std.proofs.Common.{◌≡◌, ◌+◌, ◌%◌, ◌<◌, map, length, get_or, sym, ap, ◌∙◌, subst, ap₂, arith}
use Rattle.std.proofs.lemmas.List.{length-map, get_or-map, map-set}
use Rattle.galley.specs.Rows.{Turned}
use Rattle.net.specs.Views.{idle, cell_of}
use Rattle.galley.proofs.Rows.{turned_more}
use Rattle.galley.proofs.galleys.rows.turn_all.Goals as goal

pub loop-place-preserved : goal.loop-place-preserved
loop-place-preserved g c =
    let w = g.W.Wheel in
    let cells = c.args.cells.now in
    let shown = c.loop-place.shown in
    let i = c.loop-place.place in
    let within : i < length shown = omega (arith, c.loop-place.auto.shown) in
    let value : w.number c.turn.result ≡ (get_or (map w.number shown) i 0 + (get_or (map (cell_of w) cells) i idle).turn) % w.K =
    c.turn.ensures.stands_for_the_sum
    ∙ ap₂ (λ x y. (x + y) % w.K)
    (sym (get_or-map w.number shown i c.index-shown-place.result 0 within))
    (ap (λ x. x.turn) (sym (get_or-map (cell_of w) cells i c.index-cells-place.result idle (omega arith)))) in
    subst (Turned w.K (map (cell_of w) cells) (map w.number c.args.shown.now) (i + 1)) (sym (map-set w.number shown i c.turn.result))
    (turned_more w.K (map (cell_of w) cells) (map w.number c.args.shown.now) (map w.number shown) i (w.number c.turn.result) (omega (arith, length-map shown w.number)) value c.loop-place.invariant)
