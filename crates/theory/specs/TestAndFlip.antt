-- Test and Flip nets over the integers modulo k, and the one that a net of places stands for. Assumes nothing.
use Rattle.std.specs.Prelude.{◌≡◌, ℕ, ◌+◌, ◌-◌, ◌*◌, ◌%◌, ◌<◌, ◌≤◌, List, [], ◌∷◌, length, take, Some, None, Option}
use Rattle.theory.specs.Nets.{Net, place}
use Rattle.theory.specs.Places.{Cell, cell}

-- a marking gives each place a number modulo k
abbrev pub Marking : Type 0
Marking = ℕ → ℕ

-- places and transitions are numbered from 0; a, b and c take a place and a transition
pub record TestAndFlip : Type 0 where
  pub order : ℕ
  pub places : ℕ
  pub transitions : ℕ
  pub a : ℕ → ℕ → ℕ
  pub b : ℕ → ℕ → ℕ
  pub c : ℕ → ℕ → ℕ
  pub start : Marking

-- transition t is enabled in m: a(p,t)·m(p) + b(p,t) ≡ 0 for every place p
pub record Enabled (F : TestAndFlip) (m : Marking) (t : ℕ) : Type 0 where
  pub is_transition : t < F.transitions
  pub at_each_place : (p : ℕ) → p < F.places → (F.a p t * m p + F.b p t) % F.order ≡ 0

-- firing t turns m(p) into m(p) + c(p,t)
abbrev pub fired : TestAndFlip → Marking → ℕ → Marking
fired F m t = λ p. (m p + F.c p t) % F.order

-- transition t leads from m to m'
pub record Leads (F : TestAndFlip) (m : Marking) (t : ℕ) (m' : Marking) : Type 0 where
  pub enabled : Enabled F m t
  pub moved : (p : ℕ) → p < F.places → m' p ≡ fired F m t p

-- a firing sequence from m: its first transition is enabled in m, and the rest is one from the marking that firing it gives
abbrev pub Fires : TestAndFlip → Marking → List ℕ → Type 0
Fires F m [] = Unit {0}
Fires F m (t ∷ ts) = Enabled F m t × Fires F (fired F m t) ts

-- c transitions of the sequence can be fired from m, one after the other, and no more
pub record LongestFiring (F : TestAndFlip) (m : Marking) (ts : List ℕ) (c : ℕ) : Type 0 where
  pub within : c ≤ length ts
  pub fires : Fires F m (take c ts)
  pub no_further : c < length ts → Fires F m (take (c + 1) ts) → ⊥

-- the a of a cell: 1 where the style is tested
abbrev pub tests : Option ℕ → ℕ
tests None = 0
tests (Some w) = 1

-- the b of a cell: where the style is tested, minus the wanted value
abbrev pub offset : ℕ → Option ℕ → ℕ
offset k None = 0
offset k (Some w) = (k - w) % k

-- (a, b, c) of a cell
pub record Entries : Type 0 where
  pub a : ℕ
  pub b : ℕ
  pub c : ℕ

abbrev pub entries : ℕ → Cell → Entries
entries k x = record { a = tests x.wanted; b = offset k x.wanted; c = x.turn }

-- the Test and Flip net that a net stands for: its transitions are the styles
abbrev pub test_and_flip : Net → TestAndFlip
test_and_flip N = record {
  order = N.order;
  places = length N.places;
  transitions = N.styles;
  a = λ p t. (entries N.order (cell (place N p) t)).a;
  b = λ p t. (entries N.order (cell (place N p) t)).b;
  c = λ p t. (entries N.order (cell (place N p) t)).c;
  start = λ p. (place N p).start;
}

-- the run is a firing sequence from the start marking
abbrev pub FiringSequence : Net → List ℕ → Type 0
FiringSequence N run = Fires (test_and_flip N) (test_and_flip N).start run
