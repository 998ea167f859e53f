use Rattle.std.proofs.Common.{take}
use Rattle.std.specs.List.{flat_map}
use Rattle.texts.specs.Forms.{style_line}
use Rattle.texts.specs.Lines.{ended}
use Rattle.sheet.specs.Stored.{bytes_of}
use Rattle.net_writing.specs.Putting.{Puts}
use Rattle.net_writing.proofs.names.put_names.Given as goal

abbrev pub invariant-loop-name : goal.invariant-loop-name
invariant-loop-name l = Puts l.initial.cursor (flat_map (λ name. ended (style_line (bytes_of name))) (take l.name-index l.name-items)) l.cursor
