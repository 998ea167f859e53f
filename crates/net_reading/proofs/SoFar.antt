-- Reading places one after the other. Assumes nothing.
use Rattle.std.proofs.Common.{◌≡◌, ℕ, ◌+◌, ◌<◌, List, [], ◌∷◌, ◌++◌, map, length, take, set, sym, ap, ◌∙◌, subst, arith}
use Rattle.std.proofs.lemmas.List.{append_assoc, get_or-take, length-set, length-take-le, map_push, take_all, take_more_set, append-nil}
use Rattle.theory.specs.Nets as N
use Rattle.theory.specs.Places as P
use Rattle.lines.specs.declared.faults.Cause.TheVariants.{Form}
use Rattle.lines.specs.declared.faults.LineFault.{LineFault}
use Rattle.texts.specs.Lines.{line_feed, ended, text_of}
use Rattle.texts.specs.NetText.{place_line}
use Rattle.texts.proofs.Lines.{text_of_append, ended_rest}
use Rattle.net.specs.Making.{with_place}
use Rattle.net_reading.specs.Opening.{NoPlace}
use Rattle.net_reading.specs.Owed.{PlacesOpen, PlacesBreak}

-- the bytes opened with the lines of the first i places of the net, which has kept its size
pub record PlacesSoFar (before : N.Net) (bytes : List ℕ) (i cells : ℕ) (N : N.Net) (rest : List ℕ) : Type 0 where
  pub as_many_styles : N.styles ≡ before.styles
  pub as_many_places : length N.places ≡ length before.places
  pub one_cell_each : cells ≡ before.styles
  pub opened : bytes ≡ text_of (map place_line (take i N.places)) ++ rest

-- one line more
pub lines_more : (ls : List (List ℕ)) (l bytes rest after : List ℕ) → bytes ≡ text_of ls ++ rest → rest ≡ l ++ (line_feed ∷ after) → bytes ≡ text_of (ls ++ (l ∷ [])) ++ after
lines_more ls l bytes rest after read next =
    read ∙ ap (λ r. text_of ls ++ r) (next ∙ sym (ended_rest l after))
    ∙ sym (append_assoc (text_of ls) (ended l) after)
    ∙ ap (λ t. t ++ after) (ap (λ t. text_of ls ++ t) (sym (append-nil (ended l))) ∙ sym (text_of_append ls (l ∷ [])))

module _ {before M : N.Net} {bytes rest : List ℕ} {i cells : ℕ} (so_far : PlacesSoFar before bytes i cells M rest) where
  pub place_more : (place : P.Place) (after : List ℕ) (L : N.Net) → rest ≡ place_line place ++ (line_feed ∷ after) → i < length before.places → L ≡ with_place M i place → PlacesSoFar before bytes (i + 1) cells L after
  place_more place after L next within is =
      let here : i < length M.places = omega (arith, so_far.as_many_places) in
      let placed : L.places ≡ set M.places i place = ap (λ K. K.places) is in
      record {
        as_many_styles = ap (λ K. K.styles) is ∙ so_far.as_many_styles;
        as_many_places = ap length placed ∙ length-set M.places i place ∙ so_far.as_many_places;
        one_cell_each = so_far.one_cell_each;
        opened =
            lines_more (map place_line (take i M.places)) (place_line place) bytes rest after so_far.opened next
            ∙ ap (λ ls. text_of ls ++ after) (sym (ap (λ ps. map place_line (take (i + 1) ps)) placed ∙ ap (map place_line) (take_more_set M.places i place here) ∙ map_push place_line (take i M.places) place));
      }

  module _ {k : ℕ} (proper : N.Proper M) (wheel : M.order ≡ k) where
    place_good : (j : ℕ) → j < length M.places → P.PlaceOn k before.styles (N.place M j)
    place_good j h = subst (λ z. P.PlaceOn z before.styles (N.place M j)) wheel (subst (λ z. P.PlaceOn M.order z (N.place M j)) so_far.as_many_styles (proper.each_place j h))

    pub places_break : (fault : LineFault) → i < length before.places → NoPlace k cells rest → fault ≡ record { line = 5 + cells + i; cause = Form } → PlacesBreak k before.styles (length before.places) bytes fault
    places_break fault within none is =
        let count : length (take i M.places) ≡ i = length-take-le i M.places (omega (arith, so_far.as_many_places)) in
        record {
          places = take i M.places;
          rest = rest;
          opens = record {
            good = λ j h.
                let below : j < i = omega (arith, count) in
                subst (P.PlaceOn k before.styles) (sym (get_or-take i M.places j (record { start = 0; cells = [] }) below)) (place_good j (omega (arith, so_far.as_many_places)));
            opens = so_far.opened;
          };
          few = omega (arith, count);
          none = subst (λ n. NoPlace k n rest) so_far.one_cell_each none;
          cause = ap (λ f. f.cause) is;
          line = ap (λ f. f.line) is ∙ omega (arith, so_far.one_cell_each, count);
        }

    pub places_all : i ≡ length before.places → PlacesOpen k before.styles bytes M.places rest
    places_all all = record {
      good = place_good;
      opens = so_far.opened ∙ ap (λ ps. text_of (map place_line ps) ++ rest) (take_all i M.places (omega (arith, so_far.as_many_places)));
    }
