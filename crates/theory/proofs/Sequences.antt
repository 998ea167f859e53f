-- Firing sequences that are one transition longer. Assumes nothing.
use Rattle.std.proofs.Common.{◌≡◌, ℕ, ◌+◌, ◌*◌, ◌%◌, ◌<◌, List, [], ◌∷◌, ◌++◌, refl, subst}
use Rattle.theory.specs.TestAndFlip.{TestAndFlip, Marking, Enabled, Fires, fired}

module _ (F : TestAndFlip) where
  -- the marking after a sequence
  abbrev pub after : Marking → List ℕ → Marking
  after m [] = m
  after m (t ∷ ts) = after (fired F m t) ts

  pub after_push : (m : Marking) (ts : List ℕ) (t : ℕ) → after m (ts ++ t ∷ []) ≡ fired F (after m ts) t
  after_push m [] t = refl
  after_push m (s ∷ ts) t = after_push (fired F m s) ts t

  pub fires_push : (m : Marking) (ts : List ℕ) (t : ℕ) → Fires F m ts → Enabled F (after m ts) t → Fires F m (ts ++ t ∷ [])
  fires_push m [] t on last = (last, tt)
  fires_push m (s ∷ ts) t on last = (on.0, fires_push (fired F m s) ts t on.1 last)

  pub fires_last : (m : Marking) (ts : List ℕ) (t : ℕ) → Fires F m (ts ++ t ∷ []) → Enabled F (after m ts) t
  fires_last m [] t on = on.0
  fires_last m (s ∷ ts) t on = fires_last (fired F m s) ts t on.1

  -- only what a marking gives the net's places matters
  pub enabled_same : (m m' : Marking) (t : ℕ) → ((p : ℕ) → p < F.places → m p ≡ m' p) → Enabled F m t → Enabled F m' t
  enabled_same m m' t same on = record {
    is_transition = on.is_transition;
    at_each_place = λ p h. subst (λ v. (F.a p t * v + F.b p t) % F.order ≡ 0) (same p h) (on.at_each_place p h);
  }
