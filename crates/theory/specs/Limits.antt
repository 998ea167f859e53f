-- The limits of nets, and of the runs that are handed in. Assumes nothing.
use Rattle.std.specs.Prelude.{ℕ}

-- the most styles of a net
abbrev pub style_limit : ℕ
style_limit = 16

-- the most places of a net
abbrev pub place_limit : ℕ
place_limit = 256

-- the most styles of a run that is handed in
abbrev pub run_limit : ℕ
run_limit = 4096
