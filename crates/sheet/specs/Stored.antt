-- What stored names stand for. Assumes nothing.
use Rattle.std.specs.Prelude.{ℕ, List, map, take}
use Rattle.sheet.specs.declared.names.Name.{Name}

-- the bytes of a stored name
abbrev pub bytes_of : Name → List ℕ
bytes_of name = take name.len name.bytes

-- the first of the stored names
abbrev pub first_names : List Name → ℕ → List (List ℕ)
first_names names count = map bytes_of (take count names)
