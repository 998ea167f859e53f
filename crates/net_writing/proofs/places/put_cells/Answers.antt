use Rattle.std.proofs.Common.{◌≡◌, sym, subst, arith, rules}
use Rattle.texts.specs.NetText.{cell_bytes}
use Rattle.theory.specs.Nets.{place as place_number}
use Rattle.theory.specs.Places.{cell as cell_for}
use Rattle.net.specs.Views.{idle, view, cell_of}
use Rattle.net_writing.specs.Putting.{Puts, Room}
use Rattle.net_writing.proofs.Puts.{room_next, puts_more}
use Rattle.net_writing.proofs.places.put_cells.Goals as goal

pub put_cell-requires : goal.put_cell-requires
put_cell-requires g c =
    let place = place_number (view g.W.Wheel c.args.net.now) c.args.place in
    let style = c.loop-style.style in
    let count = (c.styles-style-end.ensures.every_net_is_proper.each_place c.args.place c.requires.there_is_such_a_place).one_cell_each in
    let read : cell_of g.W.Wheel c.unwrap.result ≡ cell_for place style = search rules in
    record {
      room = subst (λ cell. Room c.loop-style.cursor (cell_bytes cell)) (sym read) (room_next cell_bytes place.cells style idle (omega (arith, count)) c.requires.room c.loop-style.invariant);
    }

pub loop-style-preserved : goal.loop-style-preserved
loop-style-preserved g c =
    let place = place_number (view g.W.Wheel c.args.net.now) c.args.place in
    let style = c.loop-style.style in
    let count = (c.styles-style-end.ensures.every_net_is_proper.each_place c.args.place c.requires.there_is_such_a_place).one_cell_each in
    let read : cell_of g.W.Wheel c.unwrap.result ≡ cell_for place style = search rules in
    puts_more cell_bytes place.cells style idle (omega (arith, count)) c.loop-style.invariant
    (subst (λ cell. Puts c.loop-style.cursor (cell_bytes cell) c.put_cell.new.cursor) read c.put_cell.ensures.puts_the_cell)
