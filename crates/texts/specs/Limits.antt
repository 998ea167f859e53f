-- The limits of texts. Assumes nothing.
use Rattle.std.specs.Prelude.{ℕ}

-- the most bytes of a text
abbrev pub text_limit : ℕ
text_limit = 65536

-- the most bytes of a style name
abbrev pub name_limit : ℕ
name_limit = 12
