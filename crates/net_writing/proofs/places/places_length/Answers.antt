use Rattle.std.proofs.Common.{◌≡◌, ◌+◌, ◌*◌, sym, ◌∙◌, ap₂, arith}
use Rattle.net.specs.Views.{view}
use Rattle.net_writing.proofs.Blocks.{place_lines_length}
use Rattle.net_writing.proofs.places.places_length.Goals as goal

pub returns : goal.returns
returns g c =
    let N = view g.W.Wheel c.args.net.now in
    let each : 6 + 1 + 3 * c.styles.result + 1 ≡ 8 + 3 * N.styles = omega (arith, c.styles.ensures.counts_the_styles) in
    record {
      counts_the_bytes = ap₂ ◌*◌ c.places.ensures.counts_the_places each ∙ sym (place_lines_length N c.styles.ensures.every_net_is_proper);
    }
