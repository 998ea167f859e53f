use Rattle.std.proofs.Common.{[], vec_items, sym, refl, ◌∙◌}
use Rattle.galley.specs.Standing.{Stands}
use Rattle.galley.proofs.Playing.{stands_fresh}
use Rattle.net.proofs.Proper.{proper}
use Rattle.galley.proofs.galleys.Galley.stand.Given as given
use Rattle.galley.proofs.galleys.Galley.stand.Goals as goal
use Rattle.galley.proofs.galleys.Galley.stand.Goals.{In_ok-shown}

-- the start values are those of a fresh galley
fresh : (g : given.Over) (c : In_ok-shown g) → Stands g.W.Wheel c.args.net.now (vec_items c.in_ok-shown.shown) []
fresh g c =
    stands_fresh g.W.Wheel c.args.net.now (proper g.W.Wheel g.met.W.Wheel.laws c.args.net.now) (vec_items c.in_ok-shown.shown) c.in_ok-shown.ensures.copies_the_start_values

pub invariant_of-result : goal.invariant_of-result
invariant_of-result g c = record {
  one_value_each = c.in_ok-shown.ensures.one_for_each_place;
  room_to_save = c.in_ok-saved.ensures.one_for_each_place ∙ sym c.in_ok-shown.ensures.one_for_each_place;
  has_set_some_run = λ none. none [] (fresh g (goal.at.invariant_of-result g c).In_ok-shown);
}

pub returns : goal.returns
returns g c = record {
  has_set_the_empty_run = fresh g (goal.at.returns g c).In_ok-shown;
  fails_only_for_want_of_memory = refl;
  stands_on_the_net = refl;
}
