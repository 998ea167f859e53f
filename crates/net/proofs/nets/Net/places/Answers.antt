use Rattle.std.proofs.Common.{◌∙◌}
use Rattle.net.proofs.Proper.{places_counted}
use Rattle.net.proofs.nets.Net.places.Goals as goal

pub returns : goal.returns
returns g c = record { counts_the_places = c.len.ensures ∙ places_counted g.W.Wheel c.args.self.now }
