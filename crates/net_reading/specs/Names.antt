-- What reading the style lines of a text owes. Assumes nothing.
use Rattle.std.specs.Prelude.{◌≡◌, ℕ, suc, ◌+◌, ◌<◌, List, [], ◌∷◌, ◌++◌, map, length, Ok, Err, codes, Result, slice_index_or}
use Rattle.std.specs.Borrow.{Bor}
use Rattle.lines.specs.Opening.{StyleLine}
use Rattle.lines.specs.declared.faults.Cause.{Cause}
use Rattle.lines.specs.declared.faults.Cause.TheVariants.{Form, Name}
use Rattle.lines.specs.declared.faults.LineFault.{LineFault}
use Rattle.sheet.specs.Adding.{NoneEqual}
use Rattle.sheet.specs.Views.{names_of}
use Rattle.sheet.specs.declared.sheets.Sheet.{Sheet as Names}
use Rattle.texts.specs.Forms.{style_line}
use Rattle.texts.specs.Lines.{text_of}
use Rattle.texts.specs.Names.{Sheet}

-- the bytes open with no style line, or with one whose name is among the names
abbrev pub NoNewStyle : List (List ℕ) → List ℕ → Cause → Type 0
NoNewStyle names bytes Form = (name rest : List ℕ) → StyleLine bytes name rest → ⊥
NoNewStyle names bytes (Name byte) = (byte ≡ length (codes "style=")) × ((name rest : List ℕ) × (a : ℕ) × StyleLine bytes name rest × (a < length names) × (slice_index_or names a [] ≡ name))

-- a new name, read off a style line and added to the names, or what is wrong with the line
abbrev pub StyleOwes : ℕ → List (List ℕ) → List ℕ → List (List ℕ) → Result (Bor (List ℕ)) LineFault → Type 0
StyleOwes line names bytes after (Ok rest) = (name : List ℕ) × StyleLine bytes name rest.now × NoneEqual names name × (after ≡ names ++ (name ∷ []))
StyleOwes line names bytes after (Err fault) = (fault.line ≡ line) × NoNewStyle names bytes fault.cause

-- the style lines of fewer than n names, and then none of a new name; three lines stand before the first
pub record NamesBreak (n : ℕ) (bytes : List ℕ) (fault : LineFault) : Type 0 where
  pub names : List (List ℕ)
  pub rest : List ℕ
  pub sheet : Sheet names
  pub few : length names < n
  pub opens : bytes ≡ text_of (map style_line names) ++ rest
  pub line : fault.line ≡ suc (3 + length names)
  pub none : NoNewStyle names rest fault.cause

-- a sheet of n names, whose style lines the bytes open with, or the line where they break off
abbrev pub NamesOwe : ℕ → List ℕ → Result (Names × Bor (List ℕ)) LineFault → Type 0
NamesOwe n bytes (Ok (sheet, rest)) = (length (names_of sheet) ≡ n) × (bytes ≡ text_of (map style_line (names_of sheet)) ++ rest.now)
NamesOwe n bytes (Err fault) = NamesBreak n bytes fault
