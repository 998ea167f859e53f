use Rattle.std.proofs.Common.{◌∙◌, arith}
use Rattle.std.proofs.lemmas.Result.{err_from_is_err_and}
use Rattle.sheet.proofs.Proper.{names_formed}
use Rattle.sheet.specs.Views.{names_of}
use Rattle.net_reading.proofs.names.read_names.Goals as goal

pub returns-in_err-rest : goal.returns-in_err-rest
returns-in_err-rest c =
    let p = err_from_is_err_and c.from_residual.result c.from_residual.ensures.1 in
    let so_far = c.loop-style.invariant in
    let broken = c.in_err-rest.ensures.adds_the_name_or_tells_what_is_wrong in
    rw (p.1, p.2)
    record {
      reads_every_name_or_tells_where_they_break_off = record {
        names = names_of c.loop-style.sheet;
        rest = c.loop-style.rest.now;
        sheet = names_formed c.loop-style.sheet;
        few = omega (arith, so_far.0);
        opens = so_far.1;
        line = broken.0 ∙ omega (arith, so_far.0);
        none = broken.1;
      };
    }
