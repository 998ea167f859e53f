use Rattle.std.proofs.Common.{◌≡◌, ◌*◌, ◌<◌, length, vec_items, sym, refl, ap, ◌∙◌, subst, arith}
use Rattle.std.proofs.lemmas.Bool.{false≢true}
use Rattle.std.proofs.lemmas.List.{with_items_is}
use Rattle.std.specs.Vec.{with_items}
use Rattle.net.specs.Columns.{ColumnWritten}
use Rattle.net.proofs.Views.{laid_places, put_laid}
use Rattle.net.proofs.nets.Net.put_place.Goals as goal

pub returns-then-place-places : goal.returns-then-place-places
returns-then-place-places g c =
    let net = c.args.self.now in
    let places = laid_places g.W.Wheel net.styles (vec_items net.starts) (vec_items net.cells) in
    record {
      put_or_refused = omega (arith, net.starts.ok.0, c.len-places.ensures);
      refused_calls_change_nothing = λ _. refl;
    }

pub returns-then-cells-self : goal.returns-then-cells-self
returns-then-cells-self g c =
    let net = c.args.self.now in
    let places = laid_places g.W.Wheel net.styles (vec_items net.starts) (vec_items net.cells) in
    record {
      put_or_refused = (omega (arith, net.starts.ok.0, c.len-places.ensures), c.if-cells-self.true);
      refused_calls_change_nothing = λ _. refl;
    }

pub returns : goal.returns
returns g c =
    let w = g.W.Wheel in
    let net = c.args.self.now in
    let starts = vec_items net.starts in
    let cells = vec_items net.cells in
    let written = c.write_column.new.table in
    let table = with_items_is net.cells written (c.write_column.ensures.as_long_as_before ∙ c.deref_mut.ensures.len) in
    let after = vec_items (with_items net.cells written) in
    let values = c.args.cells.now in
    let places = laid_places w net.styles starts cells in
    let width : c.len-places.result ≡ length starts = c.len-places.ensures ∙ net.starts.ok.0 in
    let size : length cells ≡ net.styles * length starts = sym net.cells.ok.0 ∙ net.one_cell_each ∙ ap (λ z. net.styles * z) net.starts.ok.0 in
    let within : c.args.place < length starts = omega (arith, width) in
    let column =
    subst (λ z. ColumnWritten cells z c.args.place values (length values) after) width
    (subst (λ t. ColumnWritten cells c.len-places.result c.args.place values (length values) t) (sym table)
    (subst (λ t. ColumnWritten t c.len-places.result c.args.place values (length values) written) c.deref_mut.ensures.value c.write_column.ensures.only_the_column_changes)) in
    record {
      put_or_refused = (omega (arith, width), c.if-cells-self.false, put_laid w net.styles starts cells after c.args.place c.args.start values within c.if-cells-self.false size column);
      refused_calls_change_nothing = λ e. absurd (false≢true e);
    }
