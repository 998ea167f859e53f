use Rattle.std.proofs.Common.{vec_items, subst}
use Rattle.std.specs.Slice.{IsGetResult}
use Rattle.net.proofs.ByStyle.{start_found}
use Rattle.net.proofs.nets.Net.start.Goals as goal

pub returns : goal.returns
returns g c =
    let net = c.args.self.now in
    let item = subst (λ xs. IsGetResult xs c.args.place c.args.place c.get.result) c.deref.ensures.value c.get.ensures.lookup in
    record {
      is_the_start_value = rw c.copied.ensures (start_found g.W.Wheel net.styles (vec_items net.starts) (vec_items net.cells) c.args.place c.get.result item);
    }
