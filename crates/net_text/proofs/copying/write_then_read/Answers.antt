use Rattle.std.proofs.Common.{is_err, Ok, sym, ap, ◌∙◌, subst}
use Rattle.net.specs.Views.{view}
use Rattle.sheet.specs.Views.{names_of}
use Rattle.std.proofs.lemmas.Bool.{false≢true}
use Rattle.std.proofs.lemmas.Result.{err_from_is_err_and}
use Rattle.net_writing.specs.Writing.{WriteOwes}
use Rattle.texts.specs.NetText.{net_text}
use Rattle.net_text.proofs.Copied.{front, out_of_memory, same_net}
use Rattle.net_reading.proofs.Exactly.{accepted_exactly}
use Rattle.net_text.proofs.copying.write_then_read.Goals as goal

pub returns-in_err-read : goal.returns-in_err-read
returns-in_err-read g c =
    let p = err_from_is_err_and c.from_residual-in_err-read.result c.from_residual-in_err-read.ensures.1 in
    let written = c.in_ok-len.ensures.writes_the_text_or_refuses in
    let text = net_text (view g.W.Wheel c.args.net.now) (names_of c.args.sheet.now) in
    let is = front c.write.new.buffer text c.args.buffer.now c.in_ok-len.len written.1 written.3 in
    rw (p.1, p.2)
    record {
      refused_calls_change_no_net = λ _. c.read.ensures.refused_calls_change_no_net (ap is_err c.in_err-read.was);
      refused_calls_change_no_sheet = λ _. c.read.ensures.refused_calls_change_no_sheet (ap is_err c.in_err-read.was);
      reading_a_written_net_restores_it = (subst (λ l. WriteOwes (view g.W.Wheel c.args.net.now) (names_of c.args.sheet.now) c.args.buffer.now c.write.new.buffer (Ok l)) written.1 written, out_of_memory g.W.Wheel.K _ c.in_err-read.field-0.0 (accepted_exactly g.W.Wheel g.met.W.Wheel.laws _ c.args.net.now c.args.sheet.now written.0 is) c.in_err-read.ensures.refused_exactly_where_it_is_no_net_text);
    }

pub returns : goal.returns
returns g c =
    let written = c.in_ok-len.ensures.writes_the_text_or_refuses in
    let text = net_text (view g.W.Wheel c.args.net.now) (names_of c.args.sheet.now) in
    let is = front c.write.new.buffer text c.args.buffer.now c.in_ok-len.len written.1 written.3 in
    let read = c.in_ok-read.ensures.the_net_read_has_that_text in
    let same = same_net g.W.Wheel g.met.W.Wheel.laws c.args.net.now c.read.new.net c.args.sheet.now c.read.new.sheet written.0 read.0 (sym read.1 ∙ is) in
    record { reading_a_written_net_restores_it = (written, same.0, same.1); refused_calls_change_no_net = λ e. absurd (false≢true e); refused_calls_change_no_sheet = λ e. absurd (false≢true e) }
