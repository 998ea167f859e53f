-- Which styles may follow a run, and which runs may be set one style after the other. Assumes nothing.
use Rattle.std.specs.Prelude.{ℕ, ◌<◌, ◌≤◌, List, ◌++◌, length, take, slice_index}
use Rattle.theory.specs.Nets.{Net, place, NetLetsThrough}
use Rattle.theory.specs.Places.{Refuses}
use Rattle.theory.specs.Positions.{position, Below}

-- place number i refuses the style at the run's position
abbrev pub RefusesAfter : Net → List ℕ → ℕ → ℕ → Type 0
RefusesAfter N run style i = Refuses N.order (place N i) style (position N.order run)

-- the style is one of the net's, and no place refuses it at the run's position
pub record Accepts (N : Net) (run : List ℕ) (style : ℕ) : Type 0 where
  pub known : style < N.styles
  pub free : (i : ℕ) → i < length N.places → RefusesAfter N run style i → ⊥

-- place number i is the first that refuses the style at the run's position
pub record FirstRefusing (N : Net) (run : List ℕ) (style i : ℕ) : Type 0 where
  pub within : i < length N.places
  pub refuses : RefusesAfter N run style i
  pub none_before : (j : ℕ) → j < i → RefusesAfter N run style j → ⊥

-- each style of the run is accepted after those before it
abbrev pub Accepted : Net → List ℕ → Type 0
Accepted N run = (j : ℕ) → j < length run → Accepts N (take j run) (slice_index run j)

-- after the styles already set, c styles of the run are accepted, one after the other, and no more
pub record Longest (N : Net) (before run : List ℕ) (c : ℕ) : Type 0 where
  pub within : c ≤ length run
  pub accepted : Accepted N (before ++ take c run)
  pub no_further : c < length run → Accepts N (before ++ take c run) (slice_index run c) → ⊥

-- a run is accepted style by style exactly when its styles are the net's and the net lets it through
abbrev pub AcceptedAreLetThrough : Type 0
AcceptedAreLetThrough = (N : Net) (run : List ℕ) → (Accepted N run → Below N.styles run × NetLetsThrough N run) × (Below N.styles run × NetLetsThrough N run → Accepted N run)
