-- Style names. Assumes nothing.
use Rattle.std.specs.Prelude.{◌≡◌, ℕ, ◌<◌, ◌≤◌, Bool, true, ◌&&◌, ◌||◌, List, [], length, ◌==◌, ◌≢◌, nat_le, slice_index, slice_index_or}
use Rattle.texts.specs.Limits.{name_limit}

-- a to z, 0 to 9 and hyphen
abbrev pub name_byte : ℕ → Bool
name_byte b = (nat_le 97 b && nat_le b 122) || ((nat_le 48 b && nat_le b 57) || b == 45)

-- a style name is 1 to 12 such bytes
pub record NameForm (name : List ℕ) : Type 0 where
  pub some : 1 ≤ length name
  pub few : length name ≤ name_limit
  pub bytes : (i : ℕ) → i < length name → name_byte (slice_index name i) ≡ true

-- each of the names is a style name
abbrev pub NamesFormed : List (List ℕ) → Type 0
NamesFormed names = (i : ℕ) → i < length names → NameForm (slice_index_or names i [])

-- no two of the names are equal
abbrev pub Different : List (List ℕ) → Type 0
Different names = (i j : ℕ) → i < j → j < length names → slice_index_or names i [] ≢ slice_index_or names j []

-- the names of the styles of a net or a case text
pub record Sheet (names : List (List ℕ)) : Type 0 where
  pub formed : NamesFormed names
  pub different : Different names
