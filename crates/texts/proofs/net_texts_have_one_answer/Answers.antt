use Rattle.texts.proofs.NetAnswer.{one_answer}
use Rattle.texts.proofs.net_texts_have_one_answer.Goals as goal

pub returns : goal.returns
returns c = record { every_text_is_a_net_text_or_has_one_first_fault = one_answer }
