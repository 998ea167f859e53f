use Rattle.std.proofs.lemmas.Slice.Eq.{strip_prefix_is}
use Rattle.lines.proofs.literals.literal.Goals as goal
use Rattle.std.proofs.lemmas.Bool.Decides.{Decides-eqb}

pub returns : goal.returns
returns c = record { gives_what_follows_the_key = strip_prefix_is Decides-eqb _ _ c.strip_prefix.result c.strip_prefix.ensures.cases }
