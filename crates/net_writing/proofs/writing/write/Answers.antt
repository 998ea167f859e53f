use Rattle.std.proofs.Common.{◌++◌, drop, Ok, Err, sym, ◌∙◌, ap₂, rules}
use Rattle.texts.specs.NetText.{net_text}
use Rattle.net.specs.Views.{view}
use Rattle.sheet.specs.Views.{names_of}
use Rattle.net_writing.specs.declared.refusals.WriteRefusal.TheVariants.{StyleCounts, BufferTooShort}
use Rattle.net_writing.proofs.Answered.{answered}
use Rattle.net_writing.proofs.Puts.{puts_front}
use Rattle.net_writing.proofs.writing.write.Goals as goal

pub returns-then-names-styles-clause-answers_by_number_and_values : goal.returns-then-names-styles-clause-answers_by_number_and_values
returns-then-names-styles-clause-answers_by_number_and_values g c =
    answered (view g.W.Wheel c.args.net.now) (names_of c.args.sheet.now) c.args.buffer.now c.args.buffer.now (Err (StyleCounts c.count-names.result c.styles-styles.result)) (search rules)

pub returns-then-buffer-needed-clause-answers_by_number_and_values : goal.returns-then-buffer-needed-clause-answers_by_number_and_values
returns-then-buffer-needed-clause-answers_by_number_and_values g c =
    answered (view g.W.Wheel c.args.net.now) (names_of c.args.sheet.now) c.args.buffer.now c.args.buffer.now (Err (BufferTooShort c.text_length-needed.result)) (search rules)

pub returns-clause-writes_the_text_or_refuses : goal.returns-clause-writes_the_text_or_refuses
returns-clause-writes_the_text_or_refuses g c =
    let text = net_text (view g.W.Wheel c.args.net.now) (names_of c.args.sheet.now) in
    let same = c.put_text.ensures.puts_the_text.same_buffer ∙ c.new.ensures.is_in_the_buffer in
    let put =
    puts_front text c.new.ensures.is_at_the_front c.put_text.ensures.puts_the_text
    ∙ ap₂ (λ needed before. text ++ drop needed before) (sym c.text_length-needed.ensures.counts_the_bytes) c.new.ensures.keeps_the_bytes in
    search rules

pub returns-clause-answers_by_number_and_values : goal.returns-clause-answers_by_number_and_values
returns-clause-answers_by_number_and_values g c =
    answered (view g.W.Wheel c.args.net.now) (names_of c.args.sheet.now) c.args.buffer.now _ (Ok c.text_length-needed.result) (returns-clause-writes_the_text_or_refuses g c)
