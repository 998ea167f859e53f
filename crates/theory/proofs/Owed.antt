-- What a refusal says of the style. Assumes nothing.
use Rattle.std.proofs.Common.{ℕ, List, arith}
use Rattle.theory.specs.Nets.{Net}
use Rattle.theory.specs.Outcomes.{SetOwes, refused, unknown_style, place_refuses}
use Rattle.theory.specs.Playing.{Accepts}

-- a style that Set owes a refusal is not accepted
pub owed_refusal : {N : Net} {run : List ℕ} {style n : ℕ} {values : List ℕ} → SetOwes N run style (refused n values) → Accepts N run style → ⊥
owed_refusal (unknown_style past) accepts = omega (arith, accepts.known)
owed_refusal (place_refuses {i = i} known first wanted) accepts = accepts.free i first.within first.refuses
