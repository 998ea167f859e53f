use Rattle.std.proofs.Common.{length, sym, ap, add-one}
use Rattle.lines.proofs.Refused.{allowed}
use Rattle.std.proofs.lemmas.Option.{MatchOption-at_some}
use Rattle.std.proofs.lemmas.Bool.{eqb-false}
use Rattle.net_reading.specs.Reading.{extra}
use Rattle.net_reading.proofs.heads.read_end.Goals as goal

pub returns-then-not-is_empty : goal.returns-then-not-is_empty
returns-then-not-is_empty c =
    let some = allowed _ _ _ c.in_ok-rest.ensures.value in
    record {
      at_the_end_or_faulty =
          extra {rest = c.in_ok-rest.rest.now} (rw add-one at c.form-then-not-is_empty.ensures.is_a_fault_of_form) (MatchOption-at_some _ _ _ some c.literal.ensures.gives_what_follows_the_key)
          (λ e. eqb-false _ 0 (sym c.if-not-is_empty.ensures) (ap length e));
    }
