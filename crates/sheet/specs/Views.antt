-- The names that a sheet holds, in order. Assumes nothing.
use Rattle.std.specs.Prelude.{ℕ, List}
use Rattle.sheet.specs.Stored.{first_names}
use Rattle.sheet.specs.declared.sheets.Sheet.{Sheet}

abbrev pub names_of : Sheet → List (List ℕ)
names_of sheet = first_names sheet.names sheet.count
