-- What the bytes that are left of a text open with. Assumes nothing.
use Rattle.std.specs.Prelude.{◌≡◌, ℕ, ◌+◌, ◌<◌, ◌≤◌, true, false, List, ◌∷◌, ◌++◌, length, decimal, Option, MatchOption, slice_index}
use Rattle.std.specs.Borrow.{Bor}
use Rattle.texts.specs.Forms.{style_line}
use Rattle.texts.specs.Limits.{name_limit}
use Rattle.texts.specs.Lines.{line_feed}
use Rattle.texts.specs.Names.{NameForm, name_byte}

-- the bytes open with a line of the key and a number from low to high, below 1,000
pub record NumberLine (key : List ℕ) (low high : ℕ) (bytes : List ℕ) (v : ℕ) (rest : List ℕ) : Type 0 where
  pub from_low : low ≤ v
  pub to_high : v ≤ high
  pub small : v < 1000
  pub opens : bytes ≡ (key ++ decimal v) ++ (line_feed ∷ rest)

-- what a reader of such a line answers: the number and the bytes after its line feed, or none where there is no such line
abbrev pub ReadsNumber : List ℕ → ℕ → ℕ → List ℕ → Option (ℕ × Bor (List ℕ)) → Type 0
ReadsNumber key low high bytes read =
    MatchOption read ((v : ℕ) (rest : List ℕ) → NumberLine key low high bytes v rest → ⊥) (λ x. NumberLine key low high bytes x.0 x.1.now)

-- the bytes open with n name bytes and no more, or n is one past the limit of a name
pub record NameBytes (bytes : List ℕ) (n : ℕ) : Type 0 where
  pub within : n ≤ length bytes
  pub few : n ≤ name_limit + 1
  pub each : (i : ℕ) → i < n → name_byte (slice_index bytes i) ≡ true
  pub stops : n ≤ name_limit → n < length bytes → name_byte (slice_index bytes n) ≡ false

-- the bytes open with a style name, which no name byte follows
pub record FirstWord (bytes word rest : List ℕ) : Type 0 where
  pub formed : NameForm word
  pub opens : bytes ≡ word ++ rest
  pub longest : (byte : ℕ) (more : List ℕ) → rest ≡ byte ∷ more → name_byte byte ≡ false

-- the bytes open with a style's line
pub record StyleLine (bytes name rest : List ℕ) : Type 0 where
  pub formed : NameForm name
  pub opens : bytes ≡ style_line name ++ (line_feed ∷ rest)
