-- The lines of the names, and those of the places. Assumes nothing.
use Rattle.std.specs.Prelude.{ℕ, List}
use Rattle.std.specs.List.{flat_map}
use Rattle.theory.specs.Places.{Place}
use Rattle.texts.specs.Forms.{style_line}
use Rattle.texts.specs.Lines.{ended}
use Rattle.texts.specs.NetText.{place_line}

abbrev pub name_lines : List (List ℕ) → List ℕ
name_lines names = flat_map (λ name. ended (style_line name)) names

abbrev pub place_lines : List Place → List ℕ
place_lines places = flat_map (λ place. ended (place_line place)) places
