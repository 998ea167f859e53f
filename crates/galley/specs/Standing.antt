-- What it means that a galley stands on a net having set a run. Assumes nothing.
use Rattle.std.specs.Prelude.{◌≡◌, ℕ, List, map}
use Rattle.theory.specs.Places.{shows}
use Rattle.theory.specs.Playing.{Accepted}
use Rattle.theory.specs.Positions.{position}
use Rattle.wheel.specs.declared.turning.Wheel.{Ghosts}
use Rattle.net.specs.Views.{view}
use Rattle.net.specs.declared.nets.Net.{Net}

-- the run was accepted, one style after the other, and the values are what the places show at its position
pub record Stands {W : Type 0} (w : Ghosts W) (net : Net W w) (values : List W) (run : List ℕ) : Type 0 where
  pub accepted : Accepted (view w net) run
  pub showing : map w.number values ≡ map (λ p. shows w.K p (position w.K run)) (view w net).places

-- it is not so that no run brings a galley to these values: there is one, though the type does not say which
abbrev pub StandsAfterSome : {W : Type 0} → (w : Ghosts W) → Net W w → List W → Type 0
StandsAfterSome w net values = ((run : List ℕ) → Stands w net values run → ⊥) → ⊥
