use Rattle.std.proofs.Common.{◌+◌, ◌*◌, ◌<◌, length, arith, rules}
use Rattle.std.proofs.lemmas.Nat.{mul-add-lt}
use Rattle.std.proofs.lemmas.List.{get_or_read}
use Rattle.net.proofs.Columns.{column_more}
use Rattle.net.proofs.nets.columns.write_column.Goals as goal

pub offset_bounds-table-row : goal.offset_bounds-table-row
offset_bounds-table-row g c =
    let room = mul-add-lt c.loop-row.row c.args.width c.args.column (length c.args.values.now) c.loop-row-test.true c.requires.within_a_row in
    let within : c.loop-row.row * c.args.width + c.args.column < length c.args.table.now = omega (arith, c.requires.a_row_for_each_value) in
    search rules

pub loop-row-preserved : goal.loop-row-preserved
loop-row-preserved g c =
    let room = mul-add-lt c.loop-row.row c.args.width c.args.column (length c.args.values.now) c.loop-row-test.true c.requires.within_a_row in
    column_more c.args.table.now c.args.width c.args.column c.args.values.now c.loop-row.row c.index-values-row.result c.loop-row.table c.requires.within_a_row (omega (arith, c.loop-row.auto.table, c.requires.a_row_for_each_value))
    (get_or_read c.args.values.now c.loop-row.row c.index-values-row.result c.loop-row-test.true c.index-values-row.is)
    c.loop-row.invariant
