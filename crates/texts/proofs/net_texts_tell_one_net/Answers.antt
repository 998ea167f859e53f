use Rattle.texts.proofs.Restored.{restored}
use Rattle.texts.proofs.net_texts_tell_one_net.Goals as goal

pub returns : goal.returns
returns c = record { equal_texts_have_equal_nets_and_names = restored }
