-- Which styles a menu offers: the bits of a number. Assumes nothing.
use Rattle.std.specs.Prelude.{◌≡◌, ℕ, ◌/◌, ◌%◌, ◌^◌, List}
use Rattle.theory.specs.Nets.{Net}
use Rattle.theory.specs.Playing.{Accepts}

-- bit t of a number, counted from 0
abbrev pub bit : ℕ → ℕ → ℕ
bit m t = m / 2 ^ t % 2

-- a bit is set exactly for the numbers of which P holds
pub record Offers (P : ℕ → Type 0) (menu : ℕ) : Type 0 where
  pub only_these : (style : ℕ) → bit menu style ≡ 1 → P style
  pub all_these : (style : ℕ) → P style → bit menu style ≡ 1

-- what May owes on a galley that has set the run: the styles that Set would accept
abbrev pub MayOwes : Net → List ℕ → ℕ → Type 0
MayOwes N run menu = Offers (Accepts N run) menu
