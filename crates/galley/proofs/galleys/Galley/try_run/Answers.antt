use Rattle.std.proofs.Common.{sym, refl, subst}
use Rattle.std.proofs.lemmas.Bool.{false≢true}
use Rattle.theory.specs.Outcomes.{too_long, unknown_style, set_so_far, FirstUnknown}
use Rattle.theory.specs.Positions.{Below}
use Rattle.galley.specs.Standing.{Stands}
use Rattle.galley.proofs.galleys.Galley.try_run.Goals as goal

pub returns-then-run-gt-RUN_LIMIT : goal.returns-then-run-gt-RUN_LIMIT
returns-then-run-gt-RUN_LIMIT g c = record {
  answers_as_owed = λ before so. too_long c.if-run-gt-RUN_LIMIT.true;
  counts_the_longest_firing_sequence = tt;
  has_set_the_same_run = λ before so. so;
  shows_again_what_it_showed = refl;
  stands_on_the_same_net = refl;
  refused_calls_change_nothing = λ e. refl;
}

pub returns-in-Some : goal.returns-in-Some
returns-in-Some g c = record {
  answers_as_owed = λ before so. unknown_style c.if-run-gt-RUN_LIMIT.false (subst (λ n. FirstUnknown n c.args.run.now c.in-Some.step) c.styles.ensures.counts_the_styles c.in-Some.ensures.is_the_first);
  counts_the_longest_firing_sequence = tt;
  has_set_the_same_run = λ before so. so;
  shows_again_what_it_showed = refl;
  stands_on_the_same_net = refl;
  refused_calls_change_nothing = λ e. refl;
}

pub returns : goal.returns
returns g c =
    let galley = c.args.self.now in
    let known = subst (λ n. Below n c.args.run.now) c.styles.ensures.counts_the_styles c.in_default.ensures.is_the_first in
    record {
      answers_as_owed = λ before so. set_so_far c.if-run-gt-RUN_LIMIT.false known (c.longest_prefix.ensures.is_the_longest before so);
      counts_the_longest_firing_sequence = c.longest_prefix.ensures.is_the_longest_to_fire;
      has_set_the_same_run = λ before so. subst (λ values. Stands g.W.Wheel galley.net.now values before) (sym c.longest_prefix.ensures.shows_again_what_it_showed) so;
      shows_again_what_it_showed = c.longest_prefix.ensures.shows_again_what_it_showed;
      stands_on_the_same_net = refl;
      refused_calls_change_nothing = λ e. absurd (false≢true e);
    }
