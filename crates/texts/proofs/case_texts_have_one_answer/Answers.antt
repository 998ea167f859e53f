use Rattle.texts.proofs.CaseAnswer.{one_answer}
use Rattle.texts.proofs.case_texts_have_one_answer.Goals as goal

pub returns : goal.returns
returns c = record { every_text_is_a_case_text_or_has_one_first_fault = one_answer }
