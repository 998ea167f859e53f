use Rattle.net.proofs.ByStyle.{cell_found}
use Rattle.net.proofs.nets.Net.cell.Goals as goal

pub returns : goal.returns
returns g c =
    let row = c.in_ok-cells_for in
    record {
      is_the_cell = rw c.copied.ensures (cell_found g.W.Wheel c.args.self.now c.args.style row.field-0.now row.ensures.one_cell_for_each_place c.args.place c.get.result c.get.ensures.lookup);
    }
