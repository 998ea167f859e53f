-- A small net and its text, written out. Assumes nothing.
use Rattle.std.specs.Prelude.{◌≡◌, ℕ, List, [], ◌∷◌, Some, None, codes}
use Rattle.theory.specs.Nets as N
use Rattle.theory.specs.Places as P
use Rattle.texts.specs.NetText.{net_text}

abbrev tested : ℕ → ℕ → P.Cell
tested w t = record { wanted = Some w; turn = t }

abbrev untested : ℕ → P.Cell
untested t = record { wanted = None; turn = t }

abbrev from_zero : List P.Cell → P.Place
from_zero cells = record { start = 0; cells = cells }

-- head fills place 0 and body empties it; head and body test place 1 for 0 and quote complements it; quote tests place 2 for 1
abbrev pub example_net : N.Net
example_net = record {
  order = 2;
  styles = 3;
  places =
      from_zero (tested 0 1 ∷ tested 1 1 ∷ untested 0 ∷ [])
      ∷ from_zero (tested 0 0 ∷ tested 0 0 ∷ untested 1 ∷ [])
      ∷ from_zero (untested 0 ∷ untested 0 ∷ tested 1 0 ∷ [])
      ∷ [];
}

abbrev pub example_names : List (List ℕ)
example_names = codes "head" ∷ codes "body" ∷ codes "quote" ∷ []

-- the net's text has these bytes
abbrev pub ExampleText : Type 0
ExampleText = net_text example_net example_names ≡ codes "net=1\nwheel=2\nstyles=3\nstyle=head\nstyle=body\nstyle=quote\nplaces=3\nplace=0 01 11 .0\nplace=0 00 00 .1\nplace=0 .0 .0 10\nend=net\n"
