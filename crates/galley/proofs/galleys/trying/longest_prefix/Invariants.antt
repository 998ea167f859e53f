use Rattle.std.proofs.Common.{◌≡◌, vec_items, vec_len}
use Rattle.net.specs.Views.{place_count}
use Rattle.galley.proofs.Trying.{Going}
use Rattle.galley.proofs.galleys.trying.longest_prefix.Given as goal

abbrev pub invariant-loop-step : goal.invariant-loop-step
invariant-loop-step g l = Going g.W.Wheel l.net l.saved (vec_items l.guard.shown.now) l.run l.step × (vec_len l.guard.shown.now ≡ place_count l.net)
