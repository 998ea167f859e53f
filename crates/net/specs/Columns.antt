-- A table that lies row by row, with one column written. Assumes nothing.
use Rattle.std.specs.Prelude.{◌≡◌, ℕ, ◌+◌, ◌*◌, ◌<◌, List, length, ◌≢◌, slice_index_or}

-- the first `rows` rows hold the values in the column, and all else is as before
pub record ColumnWritten {X : Type 0} (before : List X) (width column : ℕ) (values : List X) (rows : ℕ) (after : List X) : Type 0 where
  pub long : length after ≡ length before
  pub written : (row : ℕ) (d : X) → row < rows → slice_index_or after (row * width + column) d ≡ slice_index_or values row d
  pub kept : (row i : ℕ) (d : X) → i < width → (row < rows → i ≢ column) → slice_index_or after (row * width + i) d ≡ slice_index_or before (row * width + i) d
