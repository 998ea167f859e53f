-- What is read of a net is what its places hold. Assumes nothing.
use Rattle.std.proofs.Common.{◌≡◌, ℕ, ◌+◌, ◌*◌, ◌<◌, ◌≤◌, List, [], map, length, get_or, take, drop, Some, None, Option, sym, ap, ◌∙◌, mul-le-mul_right, arith, Bor, MatchOption}
use Rattle.std.proofs.lemmas.Nat.{mul-add-lt}
use Rattle.std.proofs.lemmas.List.{length-map, length-take-le, length-drop, get_or-map, get_or-take, get_or-drop, get_or_default, take-map, drop-map, same_lists}
use Rattle.std.specs.Option.{option_map}
use Rattle.std.specs.Slice.{IsGetResult}
use Rattle.theory.specs.Nets as N
use Rattle.theory.specs.Places as P
use Rattle.wheel.specs.declared.turning.Wheel.{Ghosts}
use Rattle.net.specs.Views.{idle, cell_of, laid_out, view, CellsFor}
use Rattle.net.specs.declared.cells.Cell.{Cell}
use Rattle.net.specs.declared.nets.Net.{Net}
use Rattle.net.proofs.Views.{laid_places, laid_place, laid_cell}

-- the cell of a place lies within the table
pub room : (n p style i m : ℕ) → i < p → style < n → m ≡ n * p → style * p + i < m
room n p style i m h below e = omega (arith, mul-add-lt style p i n below h, e)

-- a whole row of it does
pub row_room : (n p style m : ℕ) → style < n → m ≡ n * p → style * p + p ≤ m
row_room n p style m below e =
    omega (arith, mul-le-mul_right p below)

module _ {W : Type 0} (w : Ghosts W) (n : ℕ) (starts : List W) (cells : List (Cell W)) where
  pub start_read : (i : ℕ) (x : W) → i < length starts → x ≡ get_or starts i x → w.number x ≡ (N.place (laid_out w n starts cells) i).start
  start_read i x h e =
      ap w.number e ∙ sym (get_or-map w.number starts i x 0 h) ∙ sym (ap (λ p. p.start) (laid_place w n starts cells i h))

  -- the start values in the order of the places
  pub starts_read : map w.number starts ≡ map (λ p. p.start) (laid_out w n starts cells).places
  starts_read = same_lists _ _ long each
    where
      long : length (map w.number starts) ≡ length (map (λ p. p.start) (laid_out w n starts cells).places)
      long = length-map starts w.number ∙ sym (length-map (laid_out w n starts cells).places (λ p. p.start) ∙ laid_places w n starts cells)

      each : (i d : ℕ) → i < length (map w.number starts) → get_or (map w.number starts) i d ≡ get_or (map (λ p. p.start) (laid_out w n starts cells).places) i d
      each i d h =
          let within : i < length starts = omega (arith, length-map starts w.number) in
          get_or_default (map w.number starts) i d 0 h
          ∙ sym (ap (λ p. p.start) (laid_place w n starts cells i within))
          ∙ sym (get_or-map (λ p. p.start) (laid_out w n starts cells).places i (record { start = 0; cells = [] }) d (omega (arith, laid_places w n starts cells)))

  module _ (size : length cells ≡ n * length starts) where
    -- the cells of all places for one style lie side by side
    pub row_read : (style : ℕ) → style < n → map (cell_of w) (take (length starts) (drop (style * length starts) cells)) ≡ map (λ p. P.cell p style) (laid_out w n starts cells).places
    row_read style below = same_lists _ _ long each
      where
        whole : style * length starts + length starts ≤ length cells
        whole = row_room n (length starts) style (length cells) below size

        row_long : length (take (length starts) (drop (style * length starts) cells)) ≡ length starts
        row_long = length-take-le (length starts) (drop (style * length starts) cells) (omega (arith, whole, length-drop (style * length starts) cells))

        long : length (map (cell_of w) (take (length starts) (drop (style * length starts) cells))) ≡ length (map (λ q. P.cell q style) (laid_out w n starts cells).places)
        long = length-map (take (length starts) (drop (style * length starts) cells)) (cell_of w) ∙ row_long ∙ sym (length-map (laid_out w n starts cells).places (λ q. P.cell q style) ∙ laid_places w n starts cells)

        each : (i : ℕ) (d : P.Cell) → i < length (map (cell_of w) (take (length starts) (drop (style * length starts) cells))) → get_or (map (cell_of w) (take (length starts) (drop (style * length starts) cells))) i d ≡ get_or (map (λ q. P.cell q style) (laid_out w n starts cells).places) i d
        each i d h =
            let here : i < length starts = omega (arith, row_long, length-map (take (length starts) (drop (style * length starts) cells)) (cell_of w)) in
            let row : get_or (map (cell_of w) (take (length starts) (drop (style * length starts) cells))) i d ≡ get_or (map (cell_of w) cells) (style * length starts + i) d =
            ap (λ xs. get_or xs i d) (sym (take-map (cell_of w) (length starts) (drop (style * length starts) cells)))
            ∙ get_or-take (length starts) (map (cell_of w) (drop (style * length starts) cells)) i d here
            ∙ ap (λ xs. get_or xs i d) (sym (drop-map (cell_of w) (style * length starts) cells))
            ∙ get_or-drop (style * length starts) (map (cell_of w) cells) i d in
            let within : style * length starts + i < length (map (cell_of w) cells) = omega (arith, room n (length starts) style i (length cells) here below size, length-map cells (cell_of w)) in
            row
            ∙ get_or_default (map (cell_of w) cells) (style * length starts + i) d idle within
            ∙ sym (laid_cell w n starts cells i style here below)
            ∙ sym (get_or-map (λ q. P.cell q style) (laid_out w n starts cells).places i (record { start = 0; cells = [] }) d (omega (arith, laid_places w n starts cells)))

  -- what a look-up of a start value finds
  pub start_found : (i : ℕ) (o : Option (Bor W)) → IsGetResult starts i i o → MatchOption (option_map (λ x. x.now) o) (length (laid_out w n starts cells).places ≤ i) (λ s. (i < length (laid_out w n starts cells).places) × (w.number s ≡ (N.place (laid_out w n starts cells) i).start))
  start_found i None item = omega (arith, item.3, laid_places w n starts cells)
  start_found i (Some x) item =
      let within : i < length starts = item.3.0 in
      (omega (arith, laid_places w n starts cells), start_read i x.now within item.1)

module _ {W : Type 0} (w : Ghosts W) (net : Net W w) (style : ℕ) (cells : List (Cell W)) (found : CellsFor w net style cells) where
  as_many : length cells ≡ length (view w net).places
  as_many = sym (length-map cells (cell_of w)) ∙ ap length found.row ∙ length-map (view w net).places (λ p. P.cell p style)

  -- what a look-up among the cells for a style finds
  pub cell_found : (i : ℕ) (o : Option (Bor (Cell W))) → IsGetResult cells i i o → MatchOption (option_map (λ x. x.now) o) ((i < length (view w net).places) × (style < (view w net).styles) → ⊥) (λ c. (i < length (view w net).places) × (style < (view w net).styles) × (cell_of w c ≡ P.cell (N.place (view w net) i) style))
  cell_found i None item = λ h. let past = item.3 in absurd (omega (arith, as_many))
  cell_found i (Some x) item =
      let within : i < length cells = item.3.0 in
      let inside : i < length (view w net).places = omega (arith, as_many) in (
        inside,
        found.known,
        ap (cell_of w) item.1
            ∙ sym (get_or-map (cell_of w) cells i x.now idle within)
            ∙ ap (λ xs. get_or xs i idle) found.row
            ∙ get_or-map (λ p. P.cell p style) (view w net).places i (record { start = 0; cells = [] }) idle inside,
      )
