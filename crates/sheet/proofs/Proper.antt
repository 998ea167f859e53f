-- Every sheet has at most 16 names, each of the name form, and no two equal. Assumes nothing.
use Rattle.std.proofs.Common.{◌≡◌, ◌<◌, ◌≤◌, List, [], ◌∷◌, length, take, ap, ◌∙◌, arith}
use Rattle.std.proofs.ByRecursion.{All-get_or, All-map}
use Rattle.std.proofs.lemmas.List.{length-take-le, get_or-take}
use Rattle.std.specs.List.{AllByRecursion as All}
use Rattle.texts.specs.Names.{NameForm, name_byte, Sheet as Proper}
use Rattle.theory.specs.Limits.{style_limit}
use Rattle.sheet.specs.Stored.{bytes_of}
use Rattle.sheet.specs.Views.{names_of}
use Rattle.sheet.specs.declared.names.Name.{Name}
use Rattle.sheet.specs.declared.sheets.Sheet.{Sheet}
use Rattle.sheet.proofs.Stored.{first_names_count}

name_formed : (name : Name) → NameForm (bytes_of name)
name_formed name =
    let long : length (bytes_of name) ≡ name.len = length-take-le name.len name.bytes (omega (arith, name.size, name.few)) in
    record {
      some = omega (arith, long, name.some);
      few = omega (arith, long, name.few);
      bytes = λ i h.
          let below : i < name.len = omega (arith, long) in
          ap name_byte (get_or-take name.len name.bytes i 0 below) ∙ name.formed i below;
    }

all_formed : (names : List Name) → All (λ name. NameForm (bytes_of name)) names
all_formed [] = tt
all_formed (name ∷ names) = (name_formed name, all_formed names)

module _ (sheet : Sheet) where
  pub names_count : length (names_of sheet) ≡ sheet.count
  names_count = first_names_count sheet.names sheet.count (omega (arith, sheet.size, sheet.few))

  pub names_few : length (names_of sheet) ≤ style_limit
  names_few = omega (arith, names_count, sheet.few)

  pub names_formed : Proper (names_of sheet)
  names_formed = record {
    formed = λ i h. All-get_or NameForm (names_of sheet) i [] h (All-map NameForm bytes_of (take sheet.count sheet.names) (all_formed (take sheet.count sheet.names)));
    different = sheet.different;
  }
