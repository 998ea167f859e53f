use Rattle.std.proofs.Common.{◌≡◌, ◌+◌, ◌<◌, ◌^◌, length, sym, ap, ◌∙◌, arith, rules}
use Rattle.std.specs.List.{sum_by}
use Rattle.sheet.specs.Stored.{bytes_of}
use Rattle.sheet.specs.Views.{names_of}
use Rattle.sheet.proofs.Proper.{names_few, names_formed}
use Rattle.net_writing.specs.Blocks.{name_lines}
use Rattle.net_writing.proofs.Blocks.{name_lines_length, name_lines_short}
use Rattle.net_writing.proofs.names.names_length.Goals as goal

pub sum-requires-clause-fits : goal.sum-requires-clause-fits
sum-requires-clause-fits c =
    let sheet = c.args.sheet.now in
    let all = ap (λ names. length (name_lines names)) c.names.ensures.are_the_names_in_order in
    let short : sum_by (λ name. 6 + length (bytes_of name) + 1) c.names.result.now < 2 ^ 64 = omega (arith, all, name_lines_length c.names.result.now, name_lines_short (names_of sheet) (names_formed sheet).formed (names_few sheet)) in
    search rules

pub returns : goal.returns
returns c =
    let all = ap (λ names. length (name_lines names)) c.names.ensures.are_the_names_in_order in
    let sum : c.sum.result ≡ sum_by (λ name. 6 + length (bytes_of name) + 1) c.names.result.now = search rules in
    record { counts_the_bytes = sum ∙ sym (name_lines_length c.names.result.now) ∙ all }
