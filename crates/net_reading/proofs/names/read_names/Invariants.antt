use Rattle.std.proofs.Common.{◌≡◌, ◌++◌, map, length}
use Rattle.sheet.specs.Views.{names_of}
use Rattle.texts.specs.Forms.{style_line}
use Rattle.texts.specs.Lines.{text_of}
use Rattle.net_reading.proofs.names.read_names.Given as goal

abbrev pub invariant-loop-style : goal.invariant-loop-style
invariant-loop-style l = (length (names_of l.sheet) ≡ l.style) × (l.bytes ≡ text_of (map style_line (names_of l.sheet)) ++ l.rest)
