-- The text of a house's cases: a wheel, the names of styles, and runs of these names. Assumes nothing.
use Rattle.std.specs.Prelude.{◌≡◌, ℕ, ◌<◌, List, [], ◌∷◌, ◌++◌, map, length, codes, slice_index_or}
use Rattle.std.specs.List.{flat_map, ContainsAt as Has}
use Rattle.texts.specs.Forms.{WheelGood, StylesGood, wheel_line, styles_line, style_line}
use Rattle.texts.specs.Lines.{text_of}
use Rattle.texts.specs.Names.{Sheet}

-- names parted by single spaces
abbrev pub words : List (List ℕ) → List ℕ
words [] = []
words (name ∷ names) = name ++ flat_map (λ other. 32 ∷ other) names

abbrev pub run_line : List (List ℕ) → List ℕ
run_line run = codes "run=" ++ words run

abbrev pub case_opening : List ℕ
case_opening = codes "case=1"

abbrev pub case_end : List ℕ
case_end = codes "end=case"

-- the lines of a case text, in their order
abbrev pub case_lines : ℕ → List (List ℕ) → List (List (List ℕ)) → List (List ℕ)
case_lines k names runs = case_opening ∷ wheel_line k ∷ styles_line (length names) ∷ (map style_line names ++ (map run_line runs ++ (case_end ∷ [])))

abbrev pub case_text : ℕ → List (List ℕ) → List (List (List ℕ)) → List ℕ
case_text k names runs = text_of (case_lines k names runs)

-- each run is made of these names
abbrev pub RunsOf : List (List ℕ) → List (List (List ℕ)) → Type 0
RunsOf names runs = (i s : ℕ) → i < length runs → s < length (slice_index_or runs i []) → Has names (slice_index_or (slice_index_or runs i []) s [])

-- a wheel, a sheet of 1 to 16 names, and runs of these names
pub record Case (k : ℕ) (names : List (List ℕ)) (runs : List (List (List ℕ))) : Type 0 where
  pub wheel_good : WheelGood k
  pub styles_good : StylesGood (length names)
  pub sheet : Sheet names
  pub known : RunsOf names runs

abbrev pub IsCaseText : List ℕ → Type 0
IsCaseText text = (k : ℕ) × (names : List (List ℕ)) × (runs : List (List (List ℕ))) × Case k names runs × (text ≡ case_text k names runs)

-- bytes are the case text of at most one wheel, list of names and list of runs
abbrev pub OneCase : Type 0
OneCase = (k k' : ℕ) (names names' : List (List ℕ)) (runs runs' : List (List (List ℕ))) → Case k names runs → Case k' names' runs' → case_text k names runs ≡ case_text k' names' runs' → (k ≡ k') × (names ≡ names') × (runs ≡ runs')
