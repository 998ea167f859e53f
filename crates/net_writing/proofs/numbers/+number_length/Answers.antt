use Rattle.std.proofs.Common.{sym, arith}
use Rattle.std.proofs.lemmas.Fmt.{length-decimal-le}
use Rattle.net_writing.proofs.Decimals.{decimal_length_digit, decimal_length_step}
use Rattle.net_writing.proofs.numbers.+number_length.Goals as goal

pub returns-then-n-lt10 : goal.returns-then-n-lt10
returns-then-n-lt10 t c = record {
  counts_the_digits = sym (decimal_length_digit c.args.n (omega arith));
  at_most_twenty_digits = omega arith;
}

pub returns : goal.returns
returns t c = record {
  counts_the_digits = omega (arith, decimal_length_step c.args.n (omega arith) c.ranges.n.fits);
  at_most_twenty_digits = omega (arith, length-decimal-le 20 c.args.n (omega arith) (omega arith) c.ranges.n.fits, decimal_length_step c.args.n (omega arith) c.ranges.n.fits);
}
