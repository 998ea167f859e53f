use Rattle.theory.proofs.Playing.{accepted_are_let_through}
use Rattle.theory.proofs.accepted_runs_are_let_through.Goals as goal

pub returns : goal.returns
returns c = record { accepted_exactly_when_let_through = accepted_are_let_through }
