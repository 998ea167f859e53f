use Rattle.std.proofs.Common.{◌≡◌, ℕ, ◌+◌, ◌<◌, List, [], ◌∷◌, ◌++◌, set, sym, ap, ◌∙◌, subst, arith}
use Rattle.std.proofs.lemmas.List.{length-set}
use Rattle.texts.specs.Names.{Different}
use Rattle.theory.specs.Limits.{style_limit}
use Rattle.sheet.specs.Stored.{bytes_of, first_names}
use Rattle.sheet.specs.Views.{names_of}
use Rattle.sheet.specs.declared.names.Name.{Name}
use Rattle.sheet.specs.declared.sheets.Sheet.{Sheet}
use Rattle.sheet.proofs.Stored.{different_push, first_names_push}
use Rattle.sheet.proofs.sheets.Sheet.add.Goals as goal

-- the names after one was stored behind the others
pushed : (sheet : Sheet) (name : Name) (bytes : List ℕ) → sheet.count < style_limit → bytes_of name ≡ bytes → first_names (set sheet.names sheet.count name) (sheet.count + 1) ≡ names_of sheet ++ (bytes ∷ [])
pushed sheet name bytes room e =
    first_names_push sheet.names sheet.count name (omega (arith, sheet.size)) ∙ ap (λ b. names_of sheet ++ (b ∷ [])) e

pub invariant_of-self : goal.invariant_of-self
invariant_of-self c =
    let sheet = c.args.self.now in
    let room : sheet.count < style_limit = omega (arith, sheet.few) in
    let new = c.in-Some.ensures.stores_the_bytes_of_a_name in
    let none = c.in_default-find.ensures.is_the_style_of_the_name in record {
      size = length-set sheet.names sheet.count c.in-Some.stored ∙ sheet.size;
      few = omega arith;
      different = subst Different (sym (pushed sheet c.in-Some.stored c.args.name.now room new.1)) (different_push (names_of sheet) c.args.name.now sheet.different none);
    }
