-- The arcs of the code as those of the field, and in words. Assumes nothing.
use Rattle.std.specs.Prelude.{ℕ, List, codes}
use Rattle.theory.specs.Arcs as field
use Rattle.net.specs.declared.arcs.Arc.{Arc}
use Rattle.net.specs.declared.arcs.Arc.TheVariants.{NoArc, TestZero, TestOne, Complement, Fill, Empty}

abbrev pub arc_of : Arc → field.Arc
arc_of NoArc = field.no_arc
arc_of TestZero = field.test_zero
arc_of TestOne = field.test_one
arc_of Complement = field.complement
arc_of Fill = field.fill
arc_of Empty = field.empty

-- what an arc does to the style that it leads to
abbrev pub arc_bytes : Arc → List ℕ
arc_bytes NoArc = codes "has no arc"
arc_bytes TestZero = codes "tests for 0"
arc_bytes TestOne = codes "tests for 1"
arc_bytes Complement = codes "complements"
arc_bytes Fill = codes "fills"
arc_bytes Empty = codes "empties"
