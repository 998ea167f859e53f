use Rattle.std.proofs.Common.{get_or, ap}
use Rattle.net_reading.proofs.cells.cell.Goals as goal

pub returns-in_err-turn : goal.returns-in_err-turn
returns-in_err-turn g c =
    rw c.from_residual-in_err-turn.ensures
    record { reads_a_cell_of_the_wheel = λ cell rest on e. c.in_err-turn.ensures.reads_a_digit_of_the_wheel cell.turn on.turn_below (ap (λ bs. get_or bs 2 0) e) }
