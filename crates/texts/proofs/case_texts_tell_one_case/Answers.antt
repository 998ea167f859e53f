use Rattle.texts.proofs.OneCase.{one_case}
use Rattle.texts.proofs.case_texts_tell_one_case.Goals as goal

pub returns : goal.returns
returns c = record { equal_texts_have_equal_wheels_names_and_runs = one_case }
