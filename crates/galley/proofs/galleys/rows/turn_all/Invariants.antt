use Rattle.std.proofs.Common.{map}
use Rattle.galley.specs.Rows.{Turned}
use Rattle.net.specs.Views.{cell_of}
use Rattle.galley.proofs.galleys.rows.turn_all.Given as goal

abbrev pub invariant-loop-place : goal.invariant-loop-place
invariant-loop-place g l = Turned g.W.Wheel.K (map (cell_of g.W.Wheel) l.cells) (map g.W.Wheel.number l.initial.shown) l.place (map g.W.Wheel.number l.shown)
