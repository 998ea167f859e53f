use Rattle.net.specs.Columns.{ColumnWritten}
use Rattle.net.proofs.nets.columns.write_column.Given as goal

abbrev pub invariant-loop-row : goal.invariant-loop-row
invariant-loop-row g l = ColumnWritten l.initial.table l.width l.column l.values l.row l.table
