use Rattle.std.proofs.Common.{map}
use Rattle.galley.specs.Rows.{NoneRefuses}
use Rattle.net.specs.Views.{cell_of}
use Rattle.galley.proofs.galleys.rows.first_refusing.Given as goal

abbrev pub invariant-loop-place : goal.invariant-loop-place
invariant-loop-place g l = NoneRefuses (map (cell_of g.W.Wheel) l.cells) (map g.W.Wheel.number l.shown) l.place
