use Rattle.sheet.proofs.Proper.{names_formed}
use Rattle.sheet.proofs.sheets.Sheet.count.Goals as goal

pub returns-clause-names_are_formed_and_different : goal.returns-clause-names_are_formed_and_different
returns-clause-names_are_formed_and_different c = names_formed c.args.self.now
