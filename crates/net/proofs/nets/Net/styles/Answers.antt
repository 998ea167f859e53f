use Rattle.std.proofs.Common.{refl}
use Rattle.net.proofs.Proper.{proper}
use Rattle.net.proofs.nets.Net.styles.Goals as goal

pub returns : goal.returns
returns g c =
    record {
      counts_the_styles = refl;
      every_net_is_proper = proper g.W.Wheel g.met.W.Wheel.laws c.args.self.now;
    }
