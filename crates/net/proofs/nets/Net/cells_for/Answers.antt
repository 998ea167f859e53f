use Rattle.std.proofs.Common.{◌≡◌, ◌+◌, ◌-◌, ◌*◌, map, length, take, drop, vec_items, sym, ap, ◌∙◌, ap₂, arith}
use Rattle.std.proofs.lemmas.List.{length-take-le, length-drop}
use Rattle.net.specs.Views.{cell_of}
use Rattle.net.proofs.ByStyle.{row_read}
use Rattle.net.proofs.Proper.{cells_counted, row_within}
use Rattle.net.proofs.nets.Net.cells_for.Goals as goal

pub slice_bounds-result-end : goal.slice_bounds-result-end
slice_bounds-result-end g c =
    row_within g.W.Wheel c.args.self.now c.args.style c.len-places.result c.deref.result.now (omega arith) c.len-places.ensures c.deref.ensures.value

pub returns : goal.returns
returns g c =
    let w = g.W.Wheel in
    let net = c.args.self.now in
    let starts = vec_items net.starts in
    let style = c.args.style in
    let p = c.len-places.result in
    let all = c.deref.result.now in
    let e : p ≡ length starts = c.len-places.ensures ∙ net.starts.ok.0 in
    let cut : (style * p + p) - style * p ≡ length starts = omega (arith, e) in
    let within = row_within w net style p all (omega arith) c.len-places.ensures c.deref.ensures.value in
    record {
      one_cell_for_each_place = record {
        known = omega arith;
        row =
            ap₂ (λ n d. map (cell_of w) (take n d)) cut (ap₂ drop (ap (λ z. style * z) e) c.deref.ensures.value)
            ∙ row_read w net.styles starts (vec_items net.cells) (cells_counted w net) style (omega arith);
        count =
            length-take-le _ (drop (style * p) all) (omega (arith, within, length-drop (style * p) all)) ∙ cut ∙ sym net.starts.ok.0;
      };
    }
