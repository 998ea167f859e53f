use Rattle.std.proofs.Common.{◌≡◌, ◌++◌, map, take}
use Rattle.std.specs.List.{flat_map}
use Rattle.net.specs.Views.{cell_of}
use Rattle.texts.specs.NetText.{cell_bytes}
use Rattle.net_reading.proofs.places.read_cells.Given as goal

abbrev pub invariant-loop-slot : goal.invariant-loop-slot
invariant-loop-slot g l = l.bytes ≡ flat_map cell_bytes (map (cell_of g.W.Wheel) (take l.slot-index l.cells)) ++ l.rest
