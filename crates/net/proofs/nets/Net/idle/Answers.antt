use Rattle.std.proofs.Common.{◌≡◌, ap, ◌∙◌, ap₂, arith}
use native.Mathlib.Nat.{zero-mod}
use Rattle.std.specs.Option.{option_map}
use Rattle.net.specs.Views.{idle, cell_of, laid_out}
use Rattle.net.proofs.Views.{idle_laid}
use Rattle.net.proofs.nets.Net.idle.Goals as goal

pub returns : goal.returns
returns g c =
    let w = g.W.Wheel in
    let zero_is : w.number c.from_digit-zero.result ≡ 0 = c.from_digit-zero.ensures.stands_for_the_remainder ∙ zero-mod w.K in
    let idle_is : cell_of w c.untested.result ≡ idle =
    ap₂ (λ o t. record { wanted = option_map w.number o; turn = w.number t }) c.untested.ensures.tests_nothing c.untested.ensures.turns_as_told
    ∙ ap (λ t. record { wanted = Rattle.std.specs.declared.option.Option.TheVariants.None; turn = t }) zero_is in
    record {
      made_idle_or_refused_past_a_limit = (
        omega arith,
        omega arith,
        ap₂ (laid_out w c.args.styles) c.in_ok-starts.ensures.holds_n_times_x c.in_ok-cells.ensures.holds_n_times_x
            ∙ idle_laid w c.args.styles c.args.places c.from_digit-zero.result c.untested.result zero_is idle_is,
      );
    }
