use Rattle.std.proofs.Common.{◌≡◌, ℕ, List, [], ◌++◌, Some, None, Option, Bor, MatchOption}
use Rattle.lines.specs.Opening.{NumberLine}
use Rattle.lines.proofs.NumberLines.{after_key, past_key}
use Rattle.lines.proofs.numbers.keyed_number.Goals as goal

abbrev Reads : List ℕ → ℕ → ℕ → List ℕ → Option (ℕ × Bor (List ℕ)) → Type 0
Reads key low high bytes r = MatchOption r ((v : ℕ) (rest : List ℕ) → NumberLine key low high bytes v rest → ⊥) (λ x. NumberLine key low high bytes x.0 x.1.now)

read : (key bytes left : List ℕ) (low high : ℕ) (r : Option (ℕ × Bor (List ℕ))) → bytes ≡ key ++ left → Reads [] low high left r → Reads key low high bytes r
read key bytes left low high None e none = λ v rest h. none v rest (past_key key bytes left low high v rest e h)
read key bytes left low high (Some x) e h = after_key key bytes left low high x.0 x.1.now e h

pub returns : goal.returns
returns c = record {
  reads_a_number_after_the_key = read c.args.key.now c.args.bytes.now c.in_ok-literal.field-0.now c.args.range.start c.args.range.end c.number.result c.in_ok-literal.ensures.gives_what_follows_the_key c.number.ensures.reads_a_number_of_the_range;
}
