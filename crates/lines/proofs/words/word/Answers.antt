use Rattle.std.proofs.Common.{arith, ltb-false, ltb-true}
use Rattle.lines.proofs.FirstWords.{word_counted}
use Rattle.lines.proofs.words.word.Goals as goal
use Rattle.lines.proofs.words.word.Goals.{in_default-via-then-name_length-lt1, in_default-via-else-name_length-lt1+else-this-lt13}

pub returns-in_default : goal.returns-in_default
returns-in_default c =
    record {
      splits_off_the_first_word = λ word rest h.
          let count = word_counted c.args.bytes.now word rest c.name_length.result h c.name_length.ensures.counts_the_name_bytes_in_front in
          elim c.in_default.branch [
            | in_default-via-then-name_length-lt1 _ ↦ omega (arith, ltb-true, h.formed.some)
            | in_default-via-else-name_length-lt1+else-this-lt13 _ ↦ omega (arith, ltb-false, h.formed.few)
          ];
    }
