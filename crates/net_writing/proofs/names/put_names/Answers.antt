use Rattle.std.proofs.Common.{sym, ap, ◌∙◌, subst}
use Rattle.texts.specs.Forms.{style_line}
use Rattle.texts.specs.Lines.{ended}
use Rattle.sheet.specs.Stored.{bytes_of}
use Rattle.sheet.specs.Views.{names_of}
use Rattle.net_writing.specs.Putting.{Puts, Room}
use Rattle.net_writing.proofs.Blocks.{stored_lines}
use Rattle.net_writing.proofs.Puts.{room_next, puts_more, puts_all}
use Rattle.net_writing.proofs.names.put_names.Goals as goal

pub put_name-requires : goal.put_name-requires
put_name-requires c =
    let stored = c.names-name-items.result.now in
    let is = stored_lines stored (names_of c.args.sheet.now) c.names-name-items.ensures.are_the_names_in_order in
    let read = c.bytes.ensures.are_the_bytes_stored ∙ ap bytes_of c.name-item.is in
    record {
      room = subst (λ name. Room c.loop-name.cursor (ended (style_line name))) (sym read)
          (room_next (λ name. ended (style_line (bytes_of name))) stored c.loop-name.name-index c.name-item.result c.loop-name-test.true (subst (Room c.args.cursor.now) is c.requires.room) c.loop-name.invariant);
    }

pub loop-name-preserved : goal.loop-name-preserved
loop-name-preserved c =
    let stored = c.names-name-items.result.now in
    let read = c.bytes.ensures.are_the_bytes_stored ∙ ap bytes_of c.name-item.is in
    puts_more (λ name. ended (style_line (bytes_of name))) stored c.loop-name.name-index c.name-item.result c.loop-name-test.true c.loop-name.invariant
    (subst (λ name. Puts c.loop-name.cursor (ended (style_line name)) c.put_name.new.cursor) read c.put_name.ensures.puts_the_line)

pub returns : goal.returns
returns c =
    let stored = c.names-name-items.result.now in
    let is = stored_lines stored (names_of c.args.sheet.now) c.names-name-items.ensures.are_the_names_in_order in
    record {
      puts_the_lines = subst (λ lines. Puts c.args.cursor.now lines c.loop-name.cursor) (sym is)
          (puts_all (λ name. ended (style_line (bytes_of name))) stored c.loop-name.name-index c.loop-name-test.false c.loop-name.invariant);
    }
