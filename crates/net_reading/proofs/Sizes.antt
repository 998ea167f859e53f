-- The wheel, the styles and the places that the code counts. Assumes nothing.
use Rattle.std.proofs.Common.{◌≡◌, ℕ, ◌≤◌, List, [], ◌∷◌, ◌++◌, length, ap, ◌∙◌, subst}
use Rattle.std.proofs.lemmas.List.{length-replicate}
use Rattle.texts.specs.Forms.{StylesGood, wheel_line, styles_line}
use Rattle.texts.specs.Limits.{text_limit}
use Rattle.texts.specs.Lines.{text_of}
use Rattle.texts.specs.NetText.{net_opening}
use Rattle.wheel.specs.Laws.{WheelLaws}
use Rattle.wheel.specs.declared.turning.Wheel.{Ghosts}
use Rattle.net.specs.Views.{view, idle_net}
use Rattle.net.specs.declared.nets.Net.{Net}
use Rattle.net_reading.proofs.Parsing.{ThreeRead}

module _ {W : Type 0} (w : Ghosts W) where
  pub three_read : WheelLaws w.K w.number → (positions n : ℕ) (text rest : List ℕ) → positions ≡ w.K → StylesGood n × (length text ≤ text_limit) × (text ≡ text_of (net_opening ∷ wheel_line positions ∷ styles_line n ∷ []) ++ rest) → ThreeRead w.K n text rest
  three_read laws positions n text rest is (styles, short, head) = record {
    wheel = record { from_two = laws.at_least_two; to_nine = laws.at_most_nine };
    styles = styles;
    short = short;
    is = subst (λ k. text ≡ text_of (net_opening ∷ wheel_line k ∷ styles_line n ∷ []) ++ rest) is head;
  }

  -- an idle net has the sizes that it was made with
  pub idle_styles : (net : Net W w) (n p : ℕ) → view w net ≡ idle_net w n p → (view w net).styles ≡ n
  idle_styles net n p is = ap (λ N. N.styles) is

  pub idle_places : (net : Net W w) (n p q : ℕ) → view w net ≡ idle_net w n q → q ≡ p → length (view w net).places ≡ p
  idle_places net n p q is same = ap (λ N. length N.places) is ∙ length-replicate q _ ∙ same
