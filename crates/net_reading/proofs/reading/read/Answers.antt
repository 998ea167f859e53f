use Rattle.std.proofs.Common.{refl}
use Rattle.std.proofs.lemmas.Result.{err_from_is_err_and}
use Rattle.std.proofs.lemmas.Bool.{false≢true}
use Rattle.net_reading.specs.Reading.{taken}
use Rattle.net_reading.proofs.Exactly.{refused_exactly, accepted_exactly, refused_by}
use Rattle.net_reading.proofs.reading.read.Goals as goal

pub returns-in_err-net_read : goal.returns-in_err-net_read
returns-in_err-net_read g c =
    let p = err_from_is_err_and c.from_residual.result c.from_residual.ensures.1 in
    let first = c.in_err-net_read.ensures.reads_the_net_or_tells_the_first_fault in
    rw (p.1, p.2)
    record {
      the_net_read_has_that_text = first;
      refused_by_the_number_and_values_of_the_first_fault = refused_by g.W.Wheel.K c.args.text.now c.in_err-net_read.field-0.0 first;
      refused_exactly_where_it_is_no_net_text = refused_exactly g.W.Wheel.K c.args.text.now c.in_err-net_read.field-0.0 first;
      refused_calls_change_no_net = λ _. refl;
      refused_calls_change_no_sheet = λ _. refl;
    }

pub returns : goal.returns
returns g c =
    let read = c.in_ok-net_read.ensures.reads_the_net_or_tells_the_first_fault in
    let is = accepted_exactly g.W.Wheel g.met.W.Wheel.laws c.args.text.now c.in_ok-net_read.net_read c.in_ok-net_read.sheet_read read.0 read.1 in
    record {
      the_net_read_has_that_text = read;
      refused_by_the_number_and_values_of_the_first_fault = taken is;
      refused_exactly_where_it_is_no_net_text = is;
      refused_calls_change_no_net = λ e. absurd (false≢true e);
      refused_calls_change_no_sheet = λ e. absurd (false≢true e);
    }
