use Rattle.std.proofs.Common.{◌≡◌, ◌+◌, ◌≤◌, ℕ, length, refl, ◌∙◌, subst, arith}
use Rattle.texts.specs.Forms.{wheel_line, styles_line}
use Rattle.texts.specs.Limits.{text_limit}
use Rattle.texts.specs.Lines.{ended}
use Rattle.texts.specs.NetText.{places_line}
use Rattle.texts.proofs.Whole.{short}
use Rattle.net.specs.Views.{view}
use Rattle.net.proofs.Proper.{proper}
use Rattle.net.specs.declared.nets.Net.{Net}
use Rattle.sheet.specs.Views.{names_of}
use Rattle.sheet.specs.declared.sheets.Sheet.{Sheet}
use Rattle.sheet.proofs.Proper.{names_formed}
use Rattle.net_writing.specs.Blocks.{name_lines, place_lines}
use Rattle.net_writing.proofs.Blocks.{net_text_length}
use Rattle.net_writing.proofs.text.text_length.Given as given
use Rattle.net_writing.proofs.text.text_length.Goals as goal

-- all blocks together are at most the limit of texts
fits : (g : given.Over) (net : Net g.row.W.Denot g.W.Wheel) (sheet : Sheet) {k n p : ℕ} → length (names_of sheet) ≡ (view g.W.Wheel net).styles → k ≡ (view g.W.Wheel net).order → n ≡ (view g.W.Wheel net).styles → p ≡ length (view g.W.Wheel net).places
    → 6 + (length (ended (wheel_line k)) + (length (ended (styles_line n)) + (length (name_lines (names_of sheet)) + (length (ended (places_line p)) + (length (place_lines (view g.W.Wheel net).places) + 8))))) ≤ text_limit
fits g net sheet count order styles places =
    subst (λ length. length ≤ text_limit) (net_text_length (view g.W.Wheel net) (names_of sheet) order styles places)
    (short (view g.W.Wheel net) (names_of sheet) (record { proper = proper g.W.Wheel g.met.W.Wheel.laws net; sheet = names_formed sheet; one_name_each = count }))

pub overflow_add-result : goal.overflow_add-result
overflow_add-result g c = omega (arith, fits g c.args.net.now c.args.sheet.now c.requires.one_name_each (c.from.ensures ∙ c.positions.ensures.is_the_order) refl refl)

pub overflow_add-result-2 : goal.overflow_add-result-2
overflow_add-result-2 g c = omega (arith, fits g c.args.net.now c.args.sheet.now c.requires.one_name_each (c.from.ensures ∙ c.positions.ensures.is_the_order) c.styles.ensures.counts_the_styles refl)

pub overflow_add-result-3 : goal.overflow_add-result-3
overflow_add-result-3 g c = omega (arith, fits g c.args.net.now c.args.sheet.now c.requires.one_name_each (c.from.ensures ∙ c.positions.ensures.is_the_order) c.styles.ensures.counts_the_styles refl)

pub overflow_add-result-4 : goal.overflow_add-result-4
overflow_add-result-4 g c = omega (arith, fits g c.args.net.now c.args.sheet.now c.requires.one_name_each (c.from.ensures ∙ c.positions.ensures.is_the_order) c.styles.ensures.counts_the_styles c.places.ensures.counts_the_places)

pub overflow_add-result-5 : goal.overflow_add-result-5
overflow_add-result-5 g c = omega (arith, fits g c.args.net.now c.args.sheet.now c.requires.one_name_each (c.from.ensures ∙ c.positions.ensures.is_the_order) c.styles.ensures.counts_the_styles c.places.ensures.counts_the_places)

pub overflow_add-result-6 : goal.overflow_add-result-6
overflow_add-result-6 g c = omega (arith, fits g c.args.net.now c.args.sheet.now c.requires.one_name_each (c.from.ensures ∙ c.positions.ensures.is_the_order) c.styles.ensures.counts_the_styles c.places.ensures.counts_the_places)

pub returns : goal.returns
returns g c = record {
  counts_the_bytes = omega (arith, net_text_length (view g.W.Wheel c.args.net.now) (names_of c.args.sheet.now) (c.from.ensures ∙ c.positions.ensures.is_the_order) c.styles.ensures.counts_the_styles c.places.ensures.counts_the_places);
}
