use Rattle.std.proofs.Common.{arith}
use Rattle.lines.proofs.NumberLines.{one_number}
use Rattle.lines.proofs.numbers.number.Goals as goal

pub returns-then-value-low : goal.returns-then-value-low
returns-then-value-low c =
    record {
      reads_a_number_of_the_range = λ v rest h.
          let same = (one_number c.in_ok-value.ensures.reads_a_number h).0 in
          omega arith;
    }
