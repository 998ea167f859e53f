-- Runs and their positions. Styles are numbered from 0, and a run is a list of styles. Assumes nothing.
use Rattle.std.specs.Prelude.{ℕ, ◌%◌, ◌<◌, List, length, count_by, nat_eq, slice_index}

-- the position of a run: for each style, how often it occurs in the run, modulo k
abbrev pub position : ℕ → List ℕ → ℕ → ℕ
position k run style = count_by (λ s. nat_eq s style) run % k

-- each style of the run is one of the first n
abbrev pub Below : ℕ → List ℕ → Type 0
Below n run = (j : ℕ) → j < length run → slice_index run j < n
