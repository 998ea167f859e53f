use Rattle.std.proofs.Common.{◌≡◌, ◌+◌, ◌<◌, true, false, map, length, get_or, is_some, not, vec_items, sym, ap, ◌∙◌, subst, subst₂, arith, below_more}
use Rattle.std.proofs.lemmas.List.{length-map}
use Rattle.std.proofs.lemmas.Bool.{false≢true}
use Rattle.std.proofs.lemmas.Option.{MatchOption-at_some}
use Rattle.theory.proofs.Menus.{Filled, filled_set, filled_clear, filled_offers, bit_added}
use Rattle.theory.specs.Playing.{Accepts}
use Rattle.theory.specs.TestAndFlip.{Enabled, test_and_flip}
use Rattle.theory.specs.Places.{Unwanted}
use Rattle.galley.specs.Galleys.{net_of}
use Rattle.galley.specs.Rows.{RefusesAt}
use Rattle.net.specs.Views.{idle, cell_of, CellsFor}
use Rattle.galley.proofs.Playing.{Free, free_accepts, accepts_free, free_enabled, enabled_free, row_count}
use Rattle.net.proofs.Proper.{number_below}
use Rattle.galley.proofs.Rows.{read_mapped}
use Rattle.galley.proofs.galleys.Galley.may.Given as given
use Rattle.galley.proofs.galleys.Galley.may.Goals as goal
use Rattle.galley.proofs.galleys.Galley.may.Goals.{then-loop-place-test+then-refuses, else-loop-place-test, then-is_none, else-is_none}

pub loop-place-preserved : goal.loop-place-preserved
loop-place-preserved g c =
    let w = g.W.Wheel in
    let i = c.loop-place.place in
    let cells = c.unwrap-cells.result.now in
    let shown = c.args.self.now.shown in
    let found = MatchOption-at_some _ _ _ c.unwrap-cells.ensures c.cells_for.ensures.one_cell_for_each_place in
    let within : i < length (vec_items shown) = omega (arith, found.count, c.args.self.now.one_value_each, shown.ok.0) in
    let here = read_mapped (cell_of w) cells i c.index-cells-place.result idle (omega arith) c.index-cells-place.is in
    let value = read_mapped w.number (vec_items shown) i c.index.result.now 0 within c.index.ensures in
    below_more _ _ c.loop-place.invariant (λ refuses. false≢true (sym c.if-refuses.false ∙ c.refuses.ensures.yes_exactly_where_unwanted.1 (subst₂ Unwanted (ap (λ x. x.wanted) here) value refuses)))

-- where the search through the places ended at none, the style is free
free : (g : given.Over) (c : goal.Joined-is_none g) → CellsFor g.W.Wheel c.args.self.now.net.now c.loop-style.style c.unwrap-cells.result.now → is_some c.loop-place-test.refusing ≡ false → Free (net_of g.W.Wheel c.args.self.now) (map g.W.Wheel.number (vec_items c.args.self.now.shown)) c.loop-style.style
free g c found none =
    let w = g.W.Wheel in
    let values = map w.number (vec_items c.args.self.now.shown) in
    let cells = c.unwrap-cells.result.now in
    elim c.loop-place-test.branch [
      | then-loop-place-test+then-refuses v ↦ absurd (false≢true (sym none ∙ ap is_some v.refusing-is))
      | else-loop-place-test v ↦
          λ i h. subst (λ cs. RefusesAt cs values i → ⊥) found.row
          (c.loop-place.invariant i (omega (arith, v.loop-place-test.false, row_count (net_of w c.args.self.now) c.loop-style.style (map (cell_of w) cells) found.row, length-map cells (cell_of w))))
    ]

-- where it ended at a place, that place refuses
refused : (g : given.Over) (c : goal.Joined-is_none g) → CellsFor g.W.Wheel c.args.self.now.net.now c.loop-style.style c.unwrap-cells.result.now → is_some c.loop-place-test.refusing ≡ true → Free (net_of g.W.Wheel c.args.self.now) (map g.W.Wheel.number (vec_items c.args.self.now.shown)) c.loop-style.style → ⊥
refused g c found some is_free =
    let w = g.W.Wheel in
    let net = net_of w c.args.self.now in
    let shown = c.args.self.now.shown in
    let values = map w.number (vec_items shown) in
    let cells = c.unwrap-cells.result.now in
    let i = c.loop-place.place in
    let count = row_count net c.loop-style.style (map (cell_of w) cells) found.row in
    elim c.loop-place-test.branch [
      | then-loop-place-test+then-refuses v ↦
          let in_row : i < length cells = omega (arith, v.loop-place-test.true) in
          let within : i < length (vec_items shown) = omega (arith, found.count, c.args.self.now.one_value_each, shown.ok.0) in
          let here = read_mapped (cell_of w) cells i v.index-cells-place.result idle in_row v.index-cells-place.is in
          let value = read_mapped w.number (vec_items shown) i v.index.result.now 0 within v.index.ensures in
          let unwanted = v.refuses.ensures.yes_exactly_where_unwanted.0 v.if-refuses.true in
          is_free i (omega (arith, length-map cells (cell_of w)))
          (subst (λ cs. RefusesAt cs values i) found.row (subst₂ Unwanted (ap (λ x. x.wanted) (sym here)) (sym value) unwanted))
      | else-loop-place-test v ↦ false≢true (sym (ap is_some v.refusing-is) ∙ some)
    ]

pub loop-style-preserved : goal.loop-style-preserved
loop-style-preserved g c =
    let w = g.W.Wheel in
    let so_far = c.loop-style.invariant in
    let style = c.loop-style.style in
    let menu = c.loop-style.menu in
    let P = Free (net_of w c.args.self.now) (map w.number (vec_items c.args.self.now.shown)) in
    let found = MatchOption-at_some _ _ _ c.unwrap-cells.ensures c.cells_for.ensures.one_cell_for_each_place in
    let few : style < 16 = omega (arith, c.styles-style-end.ensures.every_net_is_proper.few_styles, found.known) in
    elim c.if-is_none.branch [
      | then-is_none v ↦
          subst (Filled P (style + 1)) (sym (v.menu-is ∙ bit_added style menu few so_far.small))
          (filled_set P style menu so_far (free g c found (c.is_none.ensures ∙ ap not v.if-is_none.true)))
      | else-is_none v ↦
          subst (Filled P (style + 1)) (sym v.menu-is) (filled_clear P style menu so_far (refused g c found (c.is_none.ensures ∙ ap not v.if-is_none.false)))
    ]

pub returns : goal.returns
returns g c =
    let w = g.W.Wheel in
    let galley = c.args.self.now in
    let net = net_of w galley in
    let values = map w.number (vec_items galley.shown) in
    let proper = c.styles-style-end.ensures.every_net_is_proper in
    let count : c.loop-style.style ≡ net.styles = omega (arith, c.styles-style-end.ensures.counts_the_styles) in
    let below = number_below w g.met.W.Wheel.laws (vec_items galley.shown) in
    let filled = subst (λ n. Filled (Free net values) n c.loop-style.menu) count c.loop-style.invariant in
    record {
      offers_exactly_what_set_accepts = λ run so.
          filled_offers (Free net values) net.styles c.loop-style.menu filled (Accepts net run)
          (λ style h is_free. free_accepts net run style values so.showing h is_free)
          (λ style accepts. accepts.known)
          (λ style accepts. accepts_free net run style values so.showing accepts);
      every_galley_has_set_some_run = galley.has_set_some_run;
      offers_exactly_what_is_enabled =
          filled_offers (Free net values) net.styles c.loop-style.menu filled (Enabled (test_and_flip net) (λ p. get_or values p 0))
          (λ style h is_free. free_enabled net style values proper below h is_free)
          (λ style on. on.is_transition)
          (λ style on. enabled_free net style values proper below on.is_transition on);
    }
