use Rattle.std.proofs.Common.{refl}
use Rattle.std.specs.Fmt.{digits}
use Rattle.texts.specs.Example.{ExampleText}

pub example_text : ExampleText
unfolding digits
example_text = refl
