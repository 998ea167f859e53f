-- Reading stored names, and storing one more. Assumes nothing.
use Rattle.std.proofs.Common.{◌≡◌, ℕ, ◌+◌, ◌<◌, ◌≤◌, List, [], ◌∷◌, ◌++◌, map, length, take, set, sym, ap, ◌∙◌, ⊎_elim, arith}
use Rattle.std.proofs.lemmas.List.{length-map, length-take-le, length_push, get_or_append_left, get_or_push, map_push, take_more_set}
use Rattle.std.proofs.lemmas.Bool.{cases_lt}
use Rattle.texts.specs.Names.{Different}
use Rattle.sheet.specs.Adding.{NoneEqual}
use Rattle.sheet.specs.Stored.{bytes_of, first_names}
use Rattle.sheet.specs.declared.names.Name.{Name}

module _ (names : List Name) (count : ℕ) where
  pub first_names_count : count ≤ length names → length (first_names names count) ≡ count
  first_names_count h = length-map (take count names) bytes_of ∙ length-take-le count names h

  pub first_names_push : (x : Name) → count < length names → first_names (set names count x) (count + 1) ≡ first_names names count ++ (bytes_of x ∷ [])
  first_names_push x h = ap (map bytes_of) (take_more_set names count x h) ∙ map_push bytes_of (take count names) x

-- a name that none equals keeps the names different
pub different_push : (names : List (List ℕ)) (name : List ℕ) → Different names → NoneEqual names name → Different (names ++ (name ∷ []))
different_push names name apart none i j below within same =
    ⊎_elim
    (λ h. apart i j below h (sym (get_or_append_left names (name ∷ []) [] i (omega arith)) ∙ same ∙ get_or_append_left names (name ∷ []) [] j h))
    (λ h.
    let last : length names ≡ j = omega (arith, length_push names name) in
    none i (omega arith) (sym (get_or_append_left names (name ∷ []) [] i (omega arith)) ∙ same ∙ get_or_push names name [] j last))
    (cases_lt j (length names))
