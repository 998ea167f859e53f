-- Galleys by the run that they have set. Assumes nothing.
use Rattle.std.specs.Prelude.{ℕ, List, map, vec_items, slice_index}
use Rattle.theory.specs.Nets as N
use Rattle.theory.specs.TestAndFlip.{Marking}
use Rattle.wheel.specs.declared.turning.Wheel.{Ghosts}
use Rattle.galley.specs.Standing.{Stands}
use Rattle.net.specs.Views.{view}
use Rattle.galley.specs.declared.galleys.Galley.{Galley}

module _ {W : Type 0} (w : Ghosts W) where
  -- the net that the galley stands on
  abbrev pub net_of : Galley W w → N.Net
  net_of g = view w g.net.now

  -- what each place shows, as a marking of the Test and Flip net that the galley's net stands for
  abbrev pub marking : Galley W w → Marking
  marking g = λ p. slice_index (map w.number (vec_items g.shown)) p

  -- the galley stands on its net having set the run
  abbrev pub HasSet : Galley W w → List ℕ → Type 0
  HasSet g run = Stands w g.net.now (vec_items g.shown) run
