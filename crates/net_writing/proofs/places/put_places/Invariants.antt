use Rattle.std.proofs.Common.{take}
use Rattle.net.specs.Views.{view}
use Rattle.net_writing.specs.Blocks.{place_lines}
use Rattle.net_writing.specs.Putting.{Puts}
use Rattle.net_writing.proofs.places.put_places.Given as goal

abbrev pub invariant-loop-place : goal.invariant-loop-place
invariant-loop-place g l = Puts l.initial.cursor (place_lines (take l.place (view g.W.Wheel l.net).places)) l.cursor
