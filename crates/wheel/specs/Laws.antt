-- What holds of k and of the numbers of every wheel. Assumes nothing.
use Rattle.std.specs.Prelude.{ℕ, ◌<◌, ◌≤◌}

pub record WheelLaws {W : Type 0} (k : ℕ) (number : W → ℕ) : Type 0 where
  pub at_least_two : 2 ≤ k
  pub at_most_nine : k ≤ 9
  pub numbers_are_below_the_order : (x : W) → number x < k
