use Rattle.lines.proofs.FirstWords.{name_first, one_word}
use Rattle.lines.proofs.words.style_line.Goals as goal

pub returns-in_err-rest : goal.returns-in_err-rest
returns-in_err-rest c =
    rw c.from_residual-in_err-rest.ensures
    (record {
      reads_a_styles_line = λ name rest h.
          let same = one_word c.in_ok-name.ensures.splits_off_the_first_word (name_first c.args.bytes.now c.in_ok-literal.field-0.now name rest c.in_ok-literal.ensures.gives_what_follows_the_key h) in
          c.in_err-rest.ensures.gives_what_follows_the_key rest same.1;
    })
