use Rattle.std.proofs.Common.{codes, ◌≡◌, ◌+◌, length, sym, ap, ◌∙◌, subst, arith}
use Rattle.lines.proofs.NumberLines.{between}
use Rattle.lines.proofs.Refused.{refused, allowed}
use Rattle.std.proofs.lemmas.Result.{err_from_is_err_and}
use Rattle.std.proofs.lemmas.Option.{MatchOption-at_none, MatchOption-at_some}
use Rattle.net.specs.Views.{view}
use Rattle.sheet.proofs.Proper.{names_formed}
use Rattle.sheet.specs.Views.{names_of}
use Rattle.texts.proofs.NetEnds.{net_read}
use Rattle.texts.specs.NetText.{net_text}
use Rattle.net_reading.specs.Owed.{PlacesBreak, PlacesOpen}
use Rattle.net_reading.specs.Reading.{NoEnd}
use Rattle.lines.specs.Opening.{NumberLine}
use Rattle.theory.specs.Limits.{place_limit}
use Rattle.net_reading.proofs.Parsing.{ThreeRead, names_fault, places_line_fault, places_fault, end_fault, whole_text}
use Rattle.net_reading.proofs.Sizes.{three_read, idle_styles, idle_places}
use Rattle.net_reading.proofs.reading.parsed.Given as given
use Rattle.net_reading.proofs.reading.parsed.Goals as goal
use Rattle.net_reading.proofs.reading.parsed.Goals.{In_ok-styles, In_ok-places, In_ok-net}

-- the first three lines have been read
three_lines : (g : given.Over) (c : In_ok-styles g) → ThreeRead g.W.Wheel.K c.in_ok-styles.styles c.args.text.now c.in_ok-styles.rest.now
three_lines g c =
    three_read g.W.Wheel g.met.W.Wheel.laws c.positions.result c.in_ok-styles.styles c.args.text.now c.in_ok-styles.rest.now c.positions.ensures.is_the_order c.in_ok-styles.ensures.reads_three_lines_or_tells_the_first_fault

-- the number of places has been read
places_counted : (g : given.Over) (c : In_ok-places g) → NumberLine (codes "places=") 0 place_limit c.in_ok-sheet.rest.now c.in_ok-places.places c.in_ok-places.rest.now
places_counted g c =
    MatchOption-at_some _ _ _ (allowed _ _ _ c.in_ok-places.ensures.value) (between (codes "places=") _ _ c.new.ensures.start c.new.ensures.end c.keyed_number.ensures.reads_a_number_after_the_key)

-- the idle net has as many styles and places as were read
sizes : (g : given.Over) (c : In_ok-net g) → ((view g.W.Wheel c.in_ok-net.net).styles ≡ c.in_ok-styles.styles) × (length (view g.W.Wheel c.in_ok-net.net).places ≡ c.in_ok-places.places)
sizes g c =
    let idle = c.in_ok-net.ensures.made_idle_or_out_of_memory in
    (idle_styles g.W.Wheel c.in_ok-net.net _ _ idle, idle_places g.W.Wheel c.in_ok-net.net _ _ _ idle c.from.ensures)

pub returns-in_err-sheet : goal.returns-in_err-sheet
returns-in_err-sheet g c =
    let p = err_from_is_err_and c.from_residual-in_err-sheet.result c.from_residual-in_err-sheet.ensures.1 in
    let three = three_lines g (goal.at.returns-in_err-sheet g c).In_ok-styles in
    rw (p.1, p.2)
    record {
      reads_the_net_or_tells_the_first_fault = names_fault three c.in_err-sheet.field-0.0 c.in_err-sheet.ensures.reads_every_name_or_tells_where_they_break_off;
    }

pub returns-in_err-places : goal.returns-in_err-places
returns-in_err-places g c =
    let p = err_from_is_err_and c.from_residual-in_err-places.result c.from_residual-in_err-places.ensures.1 in
    let none = refused _ _ _ c.in_err-places.ensures.value in
    let three = three_lines g (goal.at.returns-in_err-places g c).In_ok-styles in
    let names = c.in_ok-sheet.ensures.reads_every_name_or_tells_where_they_break_off in
    rw (p.1, p.2)
    record {
      reads_the_net_or_tells_the_first_fault =
          places_line_fault three (names_formed c.in_ok-sheet.sheet) names.0 names.1 c.in_err-places.field-0.0 (none.1 ∙ c.form.ensures.is_a_fault_of_form) (MatchOption-at_none _ _ none.0 (between (codes "places=") _ _ c.new.ensures.start c.new.ensures.end c.keyed_number.ensures.reads_a_number_after_the_key));
    }

pub returns-in_err-rest : goal.returns-in_err-rest
returns-in_err-rest g c =
    let w = g.W.Wheel in
    let p = err_from_is_err_and c.from_residual-in_err-rest.result c.from_residual-in_err-rest.ensures.1 in
    let three = three_lines g (goal.at.returns-in_err-rest g c).In_ok-styles in
    let names = c.in_ok-sheet.ensures.reads_every_name_or_tells_where_they_break_off in
    let counted = places_counted g (goal.at.returns-in_err-rest g c).In_ok-places in
    let (styles, places) = sizes g (goal.at.returns-in_err-rest g c).In_ok-net in
    rw (p.1, p.2)
    record {
      reads_the_net_or_tells_the_first_fault =
          places_fault three (names_formed c.in_ok-sheet.sheet) names.0 names.1 counted c.in_err-rest.field-0.0
          (subst (λ q. PlacesBreak w.K c.in_ok-styles.styles q c.in_ok-places.rest.now c.in_err-rest.field-0.0) places
          (subst (λ n. PlacesBreak w.K n (length (view w c.in_ok-net.net).places) c.in_ok-places.rest.now c.in_err-rest.field-0.0) styles
          c.in_err-rest.ensures.reads_every_place_or_tells_where_they_break_off));
    }

pub returns-in_err-read_end : goal.returns-in_err-read_end
returns-in_err-read_end g c =
    let w = g.W.Wheel in
    let p = err_from_is_err_and c.from_residual-in_err-read_end.result c.from_residual-in_err-read_end.ensures.1 in
    let three = three_lines g (goal.at.returns-in_err-read_end g c).In_ok-styles in
    let names = c.in_ok-sheet.ensures.reads_every_name_or_tells_where_they_break_off in
    let counted = places_counted g (goal.at.returns-in_err-read_end g c).In_ok-places in
    let (styles, places) = sizes g (goal.at.returns-in_err-read_end g c).In_ok-net in
    let read = c.in_ok-rest.ensures.reads_every_place_or_tells_where_they_break_off in
    let end_line : 4 + c.in_ok-styles.styles + 1 + c.from-2.result ≡ 5 + c.in_ok-styles.styles + c.in_ok-places.places = omega (arith, c.from-2.ensures) in
    rw (p.1, p.2)
    record {
      reads_the_net_or_tells_the_first_fault =
          end_fault three (names_formed c.in_ok-sheet.sheet) names.0 names.1 counted
          (subst (λ n. PlacesOpen w.K n c.in_ok-places.rest.now (view w c.read_places.new.net).places c.in_ok-rest.rest.now) styles read.2)
          (read.1 ∙ places)
          c.in_err-read_end.field-0.0
          (subst (λ l. NoEnd l c.in_ok-rest.rest.now c.in_err-read_end.field-0.0) end_line c.in_err-read_end.ensures.at_the_end_or_faulty);
    }

pub returns : goal.returns
returns g c =
    let w = g.W.Wheel in
    let three = three_lines g (goal.at.returns g c).In_ok-styles in
    let names = c.in_ok-sheet.ensures.reads_every_name_or_tells_where_they_break_off in
    let counted = places_counted g (goal.at.returns g c).In_ok-places in
    let (styles, places) = sizes g (goal.at.returns g c).In_ok-net in
    let read = c.in_ok-rest.ensures.reads_every_place_or_tells_where_they_break_off in
    let whole = whole_text three (names_formed c.in_ok-sheet.sheet) names.0 names.1 counted
    (subst (λ n. PlacesOpen w.K n c.in_ok-places.rest.now (view w c.read_places.new.net).places c.in_ok-rest.rest.now) styles read.2)
    (read.1 ∙ places) c.in_ok-read_end.ensures.at_the_end_or_faulty in
    record {
      reads_the_net_or_tells_the_first_fault = (
        names.0 ∙ sym (read.0 ∙ styles),
        whole ∙ ap (λ n. net_text (net_read w.K n (view w c.read_places.new.net).places) (names_of c.in_ok-sheet.sheet)) (sym (read.0 ∙ styles)),
      );
    }
