-- What adding a name owes. Assumes nothing.
use Rattle.std.specs.Prelude.{◌≡◌, ℕ, ◌<◌, ◌≤◌, List, [], ◌∷◌, ◌++◌, length, Ok, Err, Result, ◌≢◌, slice_index_or}
use Rattle.texts.specs.Names.{NameForm}
use Rattle.theory.specs.Limits.{style_limit}
use Rattle.sheet.specs.declared.sheets.errors.SheetError.{SheetError}
use Rattle.sheet.specs.declared.sheets.errors.SheetError.TheVariants.{NotAName, Repeated, Full}

-- none of the names is this one
abbrev pub NoneEqual : List (List ℕ) → List ℕ → Type 0
NoneEqual names name = (i : ℕ) → i < length names → slice_index_or names i [] ≢ name

-- the name form is tested first, then whether a style has the name, and then whether there is room
abbrev pub AddOwes : List (List ℕ) → List ℕ → List (List ℕ) → {E : Type 0} → Result E SheetError → Type 0
AddOwes before name after (Ok _) = NameForm name × NoneEqual before name × (length before < style_limit) × (after ≡ before ++ (name ∷ []))
AddOwes before name after (Err NotAName) = NameForm name → ⊥
AddOwes before name after (Err (Repeated i)) = NameForm name × (i < length before) × (slice_index_or before i [] ≡ name)
AddOwes before name after (Err Full) = NameForm name × NoneEqual before name × (style_limit ≤ length before)
