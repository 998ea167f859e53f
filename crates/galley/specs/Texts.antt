-- A refusal of Set in words. Assumes nothing.
use Rattle.std.specs.Prelude.{ℕ, List, ◌++◌, codes, decimal}
use Rattle.galley.specs.declared.galleys.refusals.SetRefusal.{SetRefusal}
use Rattle.galley.specs.declared.galleys.refusals.SetRefusal.TheVariants.{UnknownStyle, PlaceRefuses}

abbrev pub reason_bytes : SetRefusal → List ℕ
reason_bytes UnknownStyle = codes "not a style of the net"
reason_bytes (PlaceRefuses q) = codes "place " ++ (decimal q.place ++ (codes " shows " ++ (decimal q.shown ++ (codes " and wants " ++ decimal q.wanted))))
