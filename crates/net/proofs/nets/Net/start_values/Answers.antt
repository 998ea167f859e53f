use Rattle.std.proofs.Common.{map, vec_items, ap, ◌∙◌}
use Rattle.std.proofs.lemmas.Result.{IfOk-weaker}
use Rattle.net.proofs.ByStyle.{starts_read}
use Rattle.net.proofs.nets.Net.start_values.Goals as goal

pub returns : goal.returns
returns g c =
    let net = c.args.self.now in
    record {
      copies_the_start_values =
          IfOk-weaker c.from_slice.result _ _
          (λ v is. ap (map g.W.Wheel.number) (is ∙ c.deref.ensures.value) ∙ starts_read g.W.Wheel net.styles (vec_items net.starts) (vec_items net.cells))
          c.from_slice.ensures.items;
      one_for_each_place = IfOk-weaker c.from_slice.result _ _ (λ v is. is ∙ c.deref.ensures.len) c.from_slice.ensures.len;
    }
