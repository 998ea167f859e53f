use Rattle.texts.proofs.Example.{example_text}
use Rattle.texts.proofs.example_has_its_text.Goals as goal

pub returns : goal.returns
returns c = record { the_example_is_written_as_these_bytes = example_text }
