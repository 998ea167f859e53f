-- The six arcs of a Test and Flip net on the wheel of two. Assumes nothing.
use Rattle.std.specs.Prelude.{◌≡◌, Some, None}
use Rattle.theory.specs.Places.{Cell, CellOn}
use Rattle.theory.specs.TestAndFlip.{Entries, entries}

pub data Arc : Type 0 where
  no_arc : Arc
  test_zero : Arc
  test_one : Arc
  complement : Arc
  fill : Arc
  empty : Arc

-- the field's table of (a, b, c)
abbrev pub table : Arc → Entries
table no_arc = record { a = 0; b = 0; c = 0 }
table test_zero = record { a = 1; b = 0; c = 0 }
table test_one = record { a = 1; b = 1; c = 0 }
table complement = record { a = 0; b = 0; c = 1 }
table fill = record { a = 1; b = 0; c = 1 }
table empty = record { a = 1; b = 1; c = 1 }

-- the cell that each arc is: what it tests for, and whether it turns
abbrev pub arc_cell : Arc → Cell
arc_cell no_arc = record { wanted = None; turn = 0 }
arc_cell test_zero = record { wanted = Some 0; turn = 0 }
arc_cell test_one = record { wanted = Some 1; turn = 0 }
arc_cell complement = record { wanted = None; turn = 1 }
arc_cell fill = record { wanted = Some 0; turn = 1 }
arc_cell empty = record { wanted = Some 1; turn = 1 }

-- these six are all: each has the entries of its cell, and each cell of the wheel of two is the cell of one of them and of no other
pub record SixArcs : Type 0 where
  pub entries_listed : (x : Arc) → entries 2 (arc_cell x) ≡ table x
  pub on_the_wheel : (x : Arc) → CellOn 2 (arc_cell x)
  pub all_cells : (c : Cell) → CellOn 2 c → (x : Arc) × (arc_cell x ≡ c)
  pub all_different : (x y : Arc) → table x ≡ table y → x ≡ y
