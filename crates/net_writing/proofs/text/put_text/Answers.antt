use Rattle.std.proofs.Common.{◌≡◌, ◌++◌, sym, ◌∙◌, subst}
use Rattle.texts.specs.Forms.{wheel_line, styles_line}
use Rattle.texts.specs.Lines.{ended}
use Rattle.texts.specs.NetText.{places_line, net_opening, net_end, net_text}
use Rattle.net.specs.Views.{view}
use Rattle.sheet.specs.Views.{names_of}
use Rattle.net_writing.specs.Blocks.{name_lines, place_lines}
use Rattle.net_writing.specs.Putting.{Puts, Room}
use Rattle.net_writing.proofs.Blocks.{net_text_blocks}
use Rattle.net_writing.proofs.Puts.{room_first, room_then, puts_then}
use Rattle.net_writing.proofs.text.put_text.Given as given
use Rattle.net_writing.proofs.text.put_text.Goals as goal
use Rattle.net_writing.proofs.text.put_text.Goals.{After-put}

-- the text is put block by block
blocks : (g : given.Over) (c : After-put g) → net_text (view g.W.Wheel c.args.net.now) (names_of c.args.sheet.now) ≡ ended net_opening ++ (ended (wheel_line c.from-wheel.result) ++ (ended (styles_line c.styles-styles.result) ++ (name_lines (names_of c.args.sheet.now) ++ (ended (places_line c.places-places.result) ++ (place_lines (view g.W.Wheel c.args.net.now).places ++ ended net_end)))))
blocks g c =
    net_text_blocks (view g.W.Wheel c.args.net.now) (names_of c.args.sheet.now) (c.from-wheel.ensures ∙ c.positions.ensures.is_the_order) c.styles-styles.ensures.counts_the_styles c.places-places.ensures.counts_the_places

-- after the opening there is room for the others
others : (g : given.Over) (c : After-put g) → Room c.put.new.self (ended (wheel_line c.from-wheel.result) ++ (ended (styles_line c.styles-styles.result) ++ (name_lines (names_of c.args.sheet.now) ++ (ended (places_line c.places-places.result) ++ (place_lines (view g.W.Wheel c.args.net.now).places ++ ended net_end)))))
others g c = room_then c.put.ensures.puts_the_bytes (subst (Room c.args.cursor.now) (blocks g c) c.requires.room)

pub put_number_line-requires-2 : goal.put_number_line-requires-2
put_number_line-requires-2 g c = record { room = room_first _ (room_then c.put_number_line.ensures.puts_the_line (others g (goal.at.put_number_line-requires-2 g c).After-put)) }

pub put_names-requires : goal.put_names-requires
put_names-requires g c =
    let rest = others g (goal.at.put_names-requires g c).After-put in
    record { room = room_first _ (room_then c.put_number_line-2.ensures.puts_the_line (room_then c.put_number_line.ensures.puts_the_line rest)) }

pub put_number_line-requires-3 : goal.put_number_line-requires-3
put_number_line-requires-3 g c =
    let rest = others g (goal.at.put_number_line-requires-3 g c).After-put in
    let names = room_then c.put_number_line-2.ensures.puts_the_line (room_then c.put_number_line.ensures.puts_the_line rest) in
    record { room = room_first _ (room_then c.put_names.ensures.puts_the_lines names) }

pub put_places-requires : goal.put_places-requires
put_places-requires g c =
    let rest = others g (goal.at.put_places-requires g c).After-put in
    let names = room_then c.put_number_line-2.ensures.puts_the_line (room_then c.put_number_line.ensures.puts_the_line rest) in
    record { room = room_first _ (room_then c.put_number_line-3.ensures.puts_the_line (room_then c.put_names.ensures.puts_the_lines names)) }

pub put-requires-2 : goal.put-requires-2
put-requires-2 g c =
    let rest = others g (goal.at.put-requires-2 g c).After-put in
    let names = room_then c.put_number_line-2.ensures.puts_the_line (room_then c.put_number_line.ensures.puts_the_line rest) in
    record { room = room_then c.put_places.ensures.puts_the_lines (room_then c.put_number_line-3.ensures.puts_the_line (room_then c.put_names.ensures.puts_the_lines names)) }

pub returns : goal.returns
returns g c =
    let places = puts_then c.put_number_line-3.ensures.puts_the_line (puts_then c.put_places.ensures.puts_the_lines c.put-2.ensures.puts_the_bytes) in
    let styles = puts_then c.put_number_line-2.ensures.puts_the_line (puts_then c.put_names.ensures.puts_the_lines places) in
    record {
      puts_the_text = subst (λ text. Puts c.args.cursor.now text c.put-2.new.self) (sym (blocks g (goal.at.returns g c).After-put))
          (puts_then c.put.ensures.puts_the_bytes (puts_then c.put_number_line.ensures.puts_the_line styles));
    }
