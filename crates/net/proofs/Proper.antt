-- Every net keeps the limits. Assumes nothing.
use Rattle.std.proofs.Common.{◌≡◌, ℕ, zero, suc, ◌+◌, ◌*◌, ◌<◌, ◌≤◌, List, [], ◌∷◌, map, length, get_or, Some, None, vec_items, vec_len, Option, sym, ap, ◌∙◌, subst, arith}
use Rattle.std.proofs.lemmas.List.FromFn.{length-map-range_with_len, get_or-map-range_with_len}
use Rattle.std.specs.Option.{option_map}
use Rattle.theory.specs.Nets.{Proper}
use Rattle.theory.specs.Places.{CellOn, PlaceOn}
use Rattle.wheel.specs.Laws.{WheelLaws}
use Rattle.wheel.specs.declared.turning.Wheel.{Ghosts}
use Rattle.net.specs.Views.{idle, cell_of, cell_at, place_at, view}
use Rattle.net.specs.declared.cells.Cell.{Cell}
use Rattle.net.specs.declared.nets.Net.{Net}
use Rattle.net.proofs.ByStyle.{row_room}
use Rattle.net.proofs.Views.{laid_places, laid_place}

module _ {W : Type 0} (w : Ghosts W) where
  -- the number of places, as the code counts it
  pub places_counted : (net : Net W w) → vec_len net.starts ≡ length (view w net).places
  places_counted net = net.starts.ok.0 ∙ sym (laid_places w net.styles (vec_items net.starts) (vec_items net.cells))

  -- the number of cells
  pub cells_counted : (net : Net W w) → length (vec_items net.cells) ≡ net.styles * length (vec_items net.starts)
  cells_counted net = sym net.cells.ok.0 ∙ net.one_cell_each ∙ ap (λ z. net.styles * z) net.starts.ok.0

  -- the row of a style ends within the table
  pub row_within : (net : Net W w) (style p : ℕ) (cells : List (Cell W)) → style < net.styles → p ≡ vec_len net.starts → cells ≡ vec_items net.cells → style * p + p ≤ length cells
  row_within net style p cells below count e =
      row_room net.styles p style (length cells) below (ap length e ∙ cells_counted net ∙ ap (λ z. net.styles * z) (sym (count ∙ net.starts.ok.0)))

  module _ (laws : WheelLaws w.K w.number) where
    pub number_below : (xs : List W) (i : ℕ) → get_or (map w.number xs) i 0 < w.K
    number_below [] i = omega (arith, laws.at_least_two)
    number_below (x ∷ xs) zero = laws.numbers_are_below_the_order x
    number_below (x ∷ xs) (suc i) = number_below xs i

    wanted_below : (o : Option W) (v : ℕ) → option_map w.number o ≡ Some v → v < w.K
    wanted_below None v e = let never : ◌≡◌ {A = ℕ} 0 1 = cc in absurd (omega arith)
    wanted_below (Some x) v e = let same : w.number x ≡ v = cc in subst (λ z. z < w.K) same (laws.numbers_are_below_the_order x)

    cell_below : (cs : List (Cell W)) (j : ℕ) → CellOn w.K (get_or (map (cell_of w) cs) j idle)
    cell_below [] j = record {
      turn_below = omega (arith, laws.at_least_two);
      wanted_below = λ v e. let never : ◌≡◌ {A = ℕ} 0 1 = cc in absurd (omega arith);
    }
    cell_below (c ∷ cs) zero = record { turn_below = laws.numbers_are_below_the_order c.turn; wanted_below = wanted_below c.wanted }
    cell_below (c ∷ cs) (suc j) = cell_below cs j

    place_good : (n : ℕ) (starts : List W) (cells : List (Cell W)) (i : ℕ) → PlaceOn w.K n (place_at w n starts cells i)
    place_good n starts cells i = record {
      one_cell_each = length-map-range_with_len (cell_at w starts cells i) 0 n;
      start_below = number_below starts i;
      cells_below = λ style h.
          subst (CellOn w.K) (sym (get_or-map-range_with_len (cell_at w starts cells i) 0 n style style idle h (omega arith))) (cell_below cells _);
    }

    pub proper : (net : Net W w) → Proper (view w net)
    proper net =
        let places = places_counted net in
        record {
          order_from_two = laws.at_least_two;
          order_to_nine = laws.at_most_nine;
          some_style = net.some_style;
          few_styles = net.few_styles;
          few_places = omega (arith, net.few_places);
          each_place = λ i h.
              subst (PlaceOn w.K net.styles) (sym (laid_place w net.styles (vec_items net.starts) (vec_items net.cells) i (omega (arith, net.starts.ok.0)))) (place_good net.styles (vec_items net.starts) (vec_items net.cells) i);
        }
