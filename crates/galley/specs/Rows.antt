-- One style's cells beside the values that the places show. Assumes nothing.
use Rattle.std.specs.Prelude.{◌≡◌, ℕ, ◌+◌, ◌%◌, ◌<◌, List, length, Some, slice_index, slice_index_or}
use Rattle.theory.specs.Places.{Cell, Unwanted}
use Rattle.net.specs.Views.{idle}
use Rattle.galley.specs.declared.galleys.refusals.Refusing.{Refusing}

-- place i refuses the style
abbrev pub RefusesAt : List Cell → List ℕ → ℕ → Type 0
RefusesAt cells values i = Unwanted (slice_index_or cells i idle).wanted (slice_index values i)

-- none of the first n places refuses it
abbrev pub NoneRefuses : List Cell → List ℕ → ℕ → Type 0
NoneRefuses cells values n = (i : ℕ) → i < n → RefusesAt cells values i → ⊥

-- the first place that refuses it, with what it shows and wants
pub record FirstRefuses (cells : List Cell) (values : List ℕ) (q : Refusing) : Type 0 where
  pub within : q.place < length cells
  pub none_before : NoneRefuses cells values q.place
  pub showing : q.shown ≡ slice_index values q.place
  pub wanting : (slice_index_or cells q.place idle).wanted ≡ Some q.wanted
  pub differing : q.shown ≡ q.wanted → ⊥

-- the first n values have turned, and the others are as before
pub record Turned (k : ℕ) (cells : List Cell) (before : List ℕ) (n : ℕ) (after : List ℕ) : Type 0 where
  pub long : length after ≡ length before
  pub turned : (i : ℕ) → i < n → slice_index after i ≡ (slice_index before i + (slice_index_or cells i idle).turn) % k
  pub kept : (i : ℕ) → (i < n → ⊥) → slice_index after i ≡ slice_index before i
