use Rattle.net_reading.proofs.CellBytes.{no_wanted}
use Rattle.net_reading.proofs.cells.wanted.Goals as goal

pub returns-in_err-digit : goal.returns-in_err-digit
returns-in_err-digit g c =
    rw c.from_residual.ensures
    record { reads_what_is_wanted = no_wanted g.W.Wheel.K c.args.byte c.if-byte-eq46.false c.in_err-digit.ensures.reads_a_digit_of_the_wheel }
