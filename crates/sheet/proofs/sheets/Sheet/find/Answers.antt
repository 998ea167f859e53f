use Rattle.std.proofs.Common.{◌≡◌, ℕ, ◌<◌, List, [], ◌∷◌, map, length, get_or, Some, None, Option, MatchOption, ◌≢◌, sym, ◌∙◌, arith, rules, tests}
use Rattle.std.proofs.lemmas.Iterator.{IsFirst-from_position, YieldsList-from_slice}
use Rattle.std.proofs.lemmas.List.{get_or-map, length-map}
use Rattle.std.specs.List.{AllWithin, HoldsAt}
use Rattle.sheet.specs.Stored.{bytes_of}
use Rattle.sheet.specs.declared.names.Name.{Name}
use Rattle.sheet.proofs.sheets.Sheet.find.Goals as goal

-- some name of a list that has one
some_name : (names : List Name) (i : ℕ) → i < length names → Name
some_name [] i below = absurd (omega arith)
some_name (name ∷ names) i below = name

-- what is found among the stored names is found among their bytes
found : (names : List Name) (name : List ℕ) (r : Option ℕ) → MatchOption r (AllWithin (λ x. bytes_of x ≢ name) names 0 (length names)) (λ i. (i < length names) × HoldsAt (λ x. bytes_of x ≡ name) names i × AllWithin (λ x. bytes_of x ≢ name) names 0 i) → MatchOption r ((i : ℕ) → i < length (map bytes_of names) → get_or (map bytes_of names) i [] ≢ name) (λ i. (i < length (map bytes_of names)) × (get_or (map bytes_of names) i [] ≡ name))
found names name None none = λ i h e.
    let below : i < length names = omega (arith, length-map names bytes_of) in
    let x = some_name names i below in
    none i x (omega arith) below (sym (get_or-map bytes_of names i x [] below) ∙ e)
found names name (Some i) first = (
  omega (arith, length-map names bytes_of, first.0),
  get_or-map bytes_of names i (some_name names i first.0) [] first.0 ∙ first.1 (some_name names i first.0),
)

pub returns : goal.returns
returns c =
    let first = IsFirst-from_position _ _ c.position.result (λ x. bytes_of x ≡ c.args.name.now) (λ x. bytes_of x ≢ c.args.name.now) c.position.ensures.ran (YieldsList-from_slice c.names.result.now cc) (λ x q k. search (rules, tests)) (λ x q k. search (rules, tests)) in
    rw (← c.names.ensures.are_the_names_in_order) (record { is_the_style_of_the_name = found c.names.result.now c.args.name.now c.position.result first })
