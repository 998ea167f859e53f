use Rattle.std.proofs.Common.{length}
use Rattle.net.specs.Views.{view}
use Rattle.net_reading.proofs.SoFar.{PlacesSoFar}
use Rattle.net_reading.proofs.nets.read_places.Given as goal

abbrev pub invariant-loop-place : goal.invariant-loop-place
invariant-loop-place g l = PlacesSoFar (view g.W.Wheel l.initial.net) l.bytes l.place (length l.cells) (view g.W.Wheel l.net) l.rest
