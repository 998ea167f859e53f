-- The styles that words are put as. Assumes nothing.
use Rattle.std.specs.Prelude.{ℕ, Some, None, Option}

-- a word that names no style is put as 3, the number after those of the three styles
abbrev pub number_put : Option ℕ → ℕ
number_put (Some style) = style
number_put None = 3
