use Rattle.std.proofs.Common.{◌≡◌, ◌∷◌, ◌++◌, codes, ap, ◌∙◌, subst, rules}
use Rattle.std.specs.List.{flat_map}
use Rattle.texts.specs.Lines.{ended}
use Rattle.texts.specs.NetText.{cell_bytes, digit}
use Rattle.theory.specs.Nets.{place as place_number}
use Rattle.net.specs.Views.{view}
use Rattle.net_writing.specs.Putting.{Puts}
use Rattle.net_writing.proofs.Puts.{puts_then}
use Rattle.net_writing.proofs.places.put_place.Goals as goal

pub returns : goal.returns
returns g c =
    let place = place_number (view g.W.Wheel c.args.net.now) c.args.place in
    let start : g.W.Wheel.number c.unwrap.result ≡ place.start = search rules in
    let front = puts_then (puts_then c.put.ensures.puts_the_bytes c.put-2.ensures.puts_the_bytes) c.put_cells.ensures.puts_the_cells in
    record {
      puts_the_line =
          subst (λ first. Puts c.args.cursor.now (ended (codes "place=" ++ (first ∷ flat_map cell_bytes place.cells))) c.put-3.new.self)
          (c.digit_byte.ensures.is_the_digit ∙ ap digit start)
          (puts_then front c.put-3.ensures.puts_the_bytes);
    }
