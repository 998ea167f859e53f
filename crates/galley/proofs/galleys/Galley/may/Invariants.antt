use Rattle.std.proofs.Common.{map, vec_items}
use Rattle.theory.proofs.Menus.{Filled}
use Rattle.net.specs.Views.{cell_of}
use Rattle.galley.specs.Galleys.{net_of}
use Rattle.galley.specs.Rows.{NoneRefuses}
use Rattle.galley.proofs.Playing.{Free}
use Rattle.galley.proofs.galleys.Galley.may.Given as goal

abbrev pub invariant-loop-style : goal.invariant-loop-style
invariant-loop-style g l = Filled (Free (net_of g.W.Wheel l.self) (map g.W.Wheel.number (vec_items l.self.shown))) l.style l.menu

abbrev pub invariant-loop-place : goal.invariant-loop-place
invariant-loop-place g l = NoneRefuses (map (cell_of g.W.Wheel) l.cells) (map g.W.Wheel.number (vec_items l.self.shown)) l.place
