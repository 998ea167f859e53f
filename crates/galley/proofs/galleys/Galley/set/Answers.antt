use Rattle.std.proofs.Common.{◌≡◌, ℕ, List, [], ◌∷◌, ◌++◌, ◌<◌, ◌≤◌, map, length, vec_items, sym, refl, ap, ◌∙◌, subst, arith}
use Rattle.std.proofs.lemmas.List.{length-map, with_items_is}
use Rattle.std.specs.Vec.{with_items}
use Rattle.std.proofs.lemmas.Bool.{false≢true}
use Rattle.theory.proofs.Firing.{accepts_fires, fires_accepts}
use Rattle.theory.proofs.Owed.{owed_refusal}
use Rattle.theory.specs.Outcomes.{unknown_style, accepted}
use Rattle.theory.specs.Places.{cell}
use Rattle.galley.specs.Rows.{NoneRefuses, FirstRefuses, Turned}
use Rattle.galley.specs.Galleys.{HasSet, net_of}
use Rattle.galley.specs.Standing.{Stands}
use Rattle.net.specs.Views.{cell_of, view}
use Rattle.galley.proofs.Playing.{row_accepts, row_owes, row_turned, stands_next, turned_leads, refusing_disables}
use Rattle.net.proofs.Proper.{number_below, proper}
use Rattle.galley.proofs.galleys.Galley.set.Given as given
use Rattle.galley.proofs.galleys.Galley.set.Goals as goal
use Rattle.galley.proofs.galleys.Galley.set.Goals.{After-turn_all}

pub returns-in_default : goal.returns-in_default
returns-in_default g c =
    let galley = c.args.self.now in
    let past : (net_of g.W.Wheel galley).styles ≤ c.args.style = omega (arith, c.in_default.ensures.one_cell_for_each_place, c.from.ensures) in
    record {
      answers_as_owed = λ run so. unknown_style past;
      has_set_the_run_after = λ run so. so;
      accepts_exactly_what_fires = λ run so. (
        λ e. absurd (false≢true e),
        λ fires. absurd (owed_refusal {run = run} (unknown_style past) (fires_accepts (net_of g.W.Wheel galley) (proper g.W.Wheel g.met.W.Wheel.laws galley.net.now) run c.args.style fires)),
      );
      fires_in_the_shown_marking = (λ e. absurd (false≢true e), λ on. absurd (omega (arith, on.is_transition, past)));
      stands_on_the_same_net = refl;
      refused_calls_change_nothing = λ e. refl;
    }

pub returns-in-Some-first_refusing : goal.returns-in-Some-first_refusing
returns-in-Some-first_refusing g c =
    let w = g.W.Wheel in
    let galley = c.args.self.now in
    let net = view w galley.net.now in
    let style = c.args.style in
    let proper = proper g.W.Wheel g.met.W.Wheel.laws galley.net.now in
    let cells = map (cell_of w) c.in-Some.cells.now in
    let row : cells ≡ map (λ p. cell p style) net.places = c.in-Some.ensures.one_cell_for_each_place.row ∙ ap (λ s. map (λ p. cell p s) net.places) c.from.ensures in
    let known : style < net.styles = omega (arith, c.in-Some.ensures.one_cell_for_each_place.known, c.from.ensures) in
    let first : FirstRefuses cells (map w.number (vec_items galley.shown)) c.in-Some-first_refusing.refusing =
    subst (λ values. FirstRefuses cells (map w.number values) c.in-Some-first_refusing.refusing) c.deref.ensures.value c.in-Some-first_refusing.ensures.is_the_first in
    record {
      answers_as_owed = λ run so. row_owes net run style cells (map w.number (vec_items galley.shown)) row so.showing known c.in-Some-first_refusing.refusing first;
      has_set_the_run_after = λ run so. so;
      accepts_exactly_what_fires = λ run so. (
        λ e. absurd (false≢true e),
        λ fires. absurd (owed_refusal (row_owes net run style cells (map w.number (vec_items galley.shown)) row so.showing known c.in-Some-first_refusing.refusing first) (fires_accepts net proper run style fires)),
      );
      fires_in_the_shown_marking = (
        λ e. absurd (false≢true e),
        λ on. absurd (refusing_disables net style cells (map w.number (vec_items galley.shown)) row proper (number_below g.W.Wheel g.met.W.Wheel.laws (vec_items galley.shown)) known c.in-Some-first_refusing.refusing first on),
      );
      stands_on_the_same_net = refl;
      refused_calls_change_nothing = λ e. refl;
    }

-- an accepted style: its cells, none of which refuses, and what the places show after they have turned
accepted_row : (g : given.Over) (c : After-turn_all g) → (c.args.style < (net_of g.W.Wheel c.args.self.now).styles) × (map (cell_of g.W.Wheel) c.in-Some.cells.now ≡ map (λ p. cell p c.args.style) (net_of g.W.Wheel c.args.self.now).places) × NoneRefuses (map (cell_of g.W.Wheel) c.in-Some.cells.now) (map g.W.Wheel.number (vec_items c.args.self.now.shown)) (length (map (cell_of g.W.Wheel) c.in-Some.cells.now)) × Turned g.W.Wheel.K (map (cell_of g.W.Wheel) c.in-Some.cells.now) (map g.W.Wheel.number (vec_items c.args.self.now.shown)) (length (map (cell_of g.W.Wheel) c.in-Some.cells.now)) (map g.W.Wheel.number (vec_items (with_items c.args.self.now.shown c.turn_all.new.shown)))
accepted_row g c =
    let w = g.W.Wheel in
    let shown = c.args.self.now.shown in
    let found = c.in-Some.cells.now in
    let cells = map (cell_of w) found in
    let next = c.turn_all.new.shown in
    let long : length found ≡ length cells = sym (length-map found (cell_of w)) in
    let written = with_items_is shown next (c.turn_all.ensures.as_many_places_as_before ∙ c.deref_mut.ensures.len) in (
      omega (arith, c.in-Some.ensures.one_cell_for_each_place.known, c.from.ensures),
      c.in-Some.ensures.one_cell_for_each_place.row ∙ ap (λ s. map (λ p. cell p s) (net_of w c.args.self.now).places) c.from.ensures,
      subst (NoneRefuses cells (map w.number (vec_items shown))) long
          (subst (λ values. NoneRefuses cells (map w.number values) (length found)) c.deref.ensures.value c.in-None.ensures.is_the_first),
      subst (λ after. Turned w.K cells (map w.number (vec_items shown)) (length cells) (map w.number after)) (sym written)
          (subst (λ n. Turned w.K cells (map w.number (vec_items shown)) n (map w.number next)) long
          (subst (λ before. Turned w.K cells (map w.number before) (length found) (map w.number next)) c.deref_mut.ensures.value c.turn_all.ensures.each_place_turns)),
    )

-- the run that the galley has set then
longer : (g : given.Over) (c : After-turn_all g) (run : List ℕ) → HasSet g.W.Wheel c.args.self.now run → Stands g.W.Wheel c.args.self.now.net.now (vec_items (with_items c.args.self.now.shown c.turn_all.new.shown)) (run ++ c.args.style ∷ [])
longer g c run so =
    let w = g.W.Wheel in
    let galley = c.args.self.now in
    let net = net_of w galley in
    let (known, row, none, turned) = accepted_row g c in
    let cells = map (cell_of w) c.in-Some.cells.now in
    let values = map w.number (vec_items galley.shown) in
    stands_next w galley.net.now (vec_items galley.shown) _ run c.args.style (row_accepts net run c.args.style cells values row so.showing known none) so
    (row_turned net run c.args.style cells values row so.showing (proper w g.met.W.Wheel.laws galley.net.now) known _ turned)

pub invariant_of-self : goal.invariant_of-self
invariant_of-self g c =
    let galley = c.args.self.now in
    record {
      one_value_each = galley.one_value_each;
      room_to_save = galley.room_to_save;
      has_set_some_run = λ none. galley.has_set_some_run (λ run so. none (run ++ c.args.style ∷ []) (longer g (goal.at.invariant_of-self g c).After-turn_all run so));
    }

pub returns-in-None : goal.returns-in-None
returns-in-None g c =
    let w = g.W.Wheel in
    let galley = c.args.self.now in
    let net = net_of w galley in
    let style = c.args.style in
    let proper = proper w g.met.W.Wheel.laws galley.net.now in
    let cells = map (cell_of w) c.in-Some.cells.now in
    let values = map w.number (vec_items galley.shown) in
    let (known, row, none, turned) = accepted_row g (goal.at.returns-in-None g c).After-turn_all in
    record {
      answers_as_owed = λ run so. accepted (row_accepts net run style cells values row so.showing known none);
      has_set_the_run_after = λ run so. longer g (goal.at.returns-in-None g c).After-turn_all run so;
      accepts_exactly_what_fires = λ run so. (
        λ e. accepts_fires net proper run style so.accepted (row_accepts net run style cells values row so.showing known none),
        λ fires. refl,
      );
      fires_in_the_shown_marking = (
        λ e. turned_leads net style cells values row proper (number_below w g.met.W.Wheel.laws (vec_items galley.shown)) known none _ turned,
        λ on. refl,
      );
      stands_on_the_same_net = refl;
      refused_calls_change_nothing = λ e. absurd (false≢true e);
    }
