-- The bytes of the printed lines. Assumes nothing.
use Rattle.std.specs.Prelude.{ℕ, cond, List, [], ◌++◌, Ok, Err, codes, Result, ◌==◌}
use Rattle.galley.specs.declared.galleys.refusals.SetRefusal.{SetRefusal}
use Rattle.galley.specs.Texts.{reason_bytes}
use Rattle.theory.specs.Menus.{bit}

abbrev pub answer_bytes : {A : Type 0} → List ℕ → Result A SetRefusal → List ℕ
answer_bytes word (Ok x) = word ++ codes ": set"
answer_bytes word (Err refusal) = word ++ (codes ": refused, " ++ reason_bytes refusal)

-- a space and the name, if the menu offers the style
abbrev pub offer_bytes : ℕ → ℕ → List ℕ → List ℕ
offer_bytes menu style name = cond (bit menu style == 1) (codes " " ++ name) []

abbrev pub menu_bytes : ℕ → List ℕ
menu_bytes menu = ((codes "  may follow:" ++ offer_bytes menu 0 (codes "head")) ++ offer_bytes menu 1 (codes "body")) ++ offer_bytes menu 2 (codes "quote")
