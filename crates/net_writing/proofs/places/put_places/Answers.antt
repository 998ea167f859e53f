use Rattle.std.proofs.Common.{[], arith}
use Rattle.texts.specs.Lines.{ended}
use Rattle.texts.specs.NetText.{place_line}
use Rattle.net.specs.Views.{view}
use Rattle.net_writing.proofs.Puts.{room_next, puts_more}
use Rattle.net_writing.proofs.places.put_places.Goals as goal

pub put_place-requires-clause-room : goal.put_place-requires-clause-room
put_place-requires-clause-room g c =
    room_next (λ place. ended (place_line place)) (view g.W.Wheel c.args.net.now).places c.loop-place.place (record { start = 0; cells = [] }) (omega arith) c.requires.room c.loop-place.invariant

pub loop-place-preserved : goal.loop-place-preserved
loop-place-preserved g c =
    puts_more (λ place. ended (place_line place)) (view g.W.Wheel c.args.net.now).places c.loop-place.place (record { start = 0; cells = [] }) (omega arith) c.loop-place.invariant c.put_place.ensures.puts_the_line
