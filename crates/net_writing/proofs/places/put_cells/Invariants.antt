use Rattle.std.proofs.Common.{take}
use Rattle.std.specs.List.{flat_map}
use Rattle.texts.specs.NetText.{cell_bytes}
use Rattle.theory.specs.Nets.{place as place_number}
use Rattle.net.specs.Views.{view}
use Rattle.net_writing.specs.Putting.{Puts}
use Rattle.net_writing.proofs.places.put_cells.Given as goal

abbrev pub invariant-loop-style : goal.invariant-loop-style
invariant-loop-style g l = Puts l.initial.cursor (flat_map cell_bytes (take l.style (place_number (view g.W.Wheel l.net) l.place).cells)) l.cursor
