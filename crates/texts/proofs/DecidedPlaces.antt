-- Whether bytes open with the line of a place, and whether a name is among names. Assumes nothing.
use Rattle.std.proofs.Common.{◌≡◌, ℕ, zero, suc, ◌<◌, ◌⊎◌, List, [], ◌∷◌, ◌++◌, length, get_or, Some, None, codes, Option, sym, refl, ap, ◌∙◌, subst, inl, inr, arith}
use Rattle.std.specs.List.{flat_map, AllByRecursion as All}
use Rattle.std.proofs.ByRecursion.{All-from_get_or, All-get_or}
use Rattle.std.proofs.lemmas.Bool.{cases_eq}
use Rattle.theory.specs.Places.{Cell, Place, CellOn, PlaceOn}
use Rattle.texts.specs.Lines.{line_feed}
use Rattle.texts.specs.NetText.{digit, wanted_byte, cell_bytes, place_line}
use Rattle.texts.proofs.Bytes.{free_tested, free_place_line}
use Rattle.texts.proofs.Decided.{Decided, decide_both, decide_same, decide_below, decide_bytes, opens_form}
use Rattle.texts.proofs.Lines.{Free}

-- one of the names, or none
pub decide_among : (names : List (List ℕ)) (name : List ℕ) → Decided ((a : ℕ) × (a < length names) × (get_or names a [] ≡ name))
decide_among names name = decide_below (λ a. get_or names a [] ≡ name) (λ a. decide_bytes (get_or names a []) name) (length names)

-- a digit below k
abbrev IsDigit : ℕ → ℕ → Type 0
IsDigit k b = (d : ℕ) × (d < k) × (b ≡ digit d)

decide_digit : (k b : ℕ) → Decided (IsDigit k b)
decide_digit k b = decide_below (λ d. b ≡ digit d) (λ d. cases_eq b (digit d)) k

-- what a cell wants, below k
abbrev IsWanted : ℕ → ℕ → Type 0
IsWanted k b = (o : Option ℕ) × ((w : ℕ) → o ≡ Some w → w < k) × (b ≡ wanted_byte o)

decide_wanted : (k b : ℕ) → Decided (IsWanted k b)
decide_wanted k b =
    elim (cases_eq b 46) [
      | inl stop ↦ inl (None, (λ w e. let never : ◌≡◌ {A = ℕ} 0 1 = cc in absurd (omega arith)), stop)
      | inr other ↦ decide_same {P = IsDigit k b} one (back other) (decide_digit k b)
    ]
  where
    one : IsDigit k b → IsWanted k b
    one (d, below, is) = (Some d, (λ w e. let same : d ≡ w = cc in omega arith), is)

    back : (b ≡ 46 → ⊥) → IsWanted k b → IsDigit k b
    back other (None, below, is) = absurd (other is)
    back other (Some w, below, is) = (w, below w refl, is)

-- the bytes of n cells, with values below k
record Cells (k n : ℕ) (bytes : List ℕ) : Type 0 where
  cells : List Cell
  count : length cells ≡ n
  on : All (CellOn k) cells
  is : bytes ≡ flat_map cell_bytes cells

-- bytes too few for one cell, and bytes after the last
no_cell_over : {n : ℕ} (cells : List Cell) (bytes : List ℕ) → length cells ≡ suc n → bytes ≡ flat_map cell_bytes cells → length bytes < 3 → ⊥
no_cell_over [] bytes count is few = omega arith
no_cell_over (c ∷ cells) bytes count is few = omega (arith, ap length is)

no_bytes_over : (cells : List Cell) (bytes : List ℕ) → length cells ≡ 0 → bytes ≡ flat_map cell_bytes cells → bytes ≡ []
no_bytes_over [] bytes count is = is
no_bytes_over (c ∷ cells) bytes count is = absurd (omega arith)

-- the bytes of a first cell, and those of others after it
abbrev FirstCell : ℕ → ℕ → ℕ → ℕ → ℕ → List ℕ → Type 0
FirstCell k n x y z bytes = (x ≡ 32) × (IsWanted k y × (IsDigit k z × Cells k n bytes))

cells_from_first : (k n x y z : ℕ) (bytes : List ℕ) → FirstCell k n x y z bytes → Cells k (suc n) (x ∷ y ∷ z ∷ bytes)
cells_from_first k n x y z bytes (space, ((o, o-below, y-is), ((d, d-below, z-is), rest))) = record {
  cells = record { wanted = o; turn = d } ∷ rest.cells;
  count = ap suc rest.count;
  on = (record { turn_below = d-below; wanted_below = o-below }, rest.on);
  is = let others = rest.is in cc;
}

first_from_cells : (k n x y z : ℕ) (bytes : List ℕ) → Cells k (suc n) (x ∷ y ∷ z ∷ bytes) → FirstCell k n x y z bytes
first_from_cells k n x y z bytes all = split all.cells all.count all.on all.is
  where
    split : (cells : List Cell) → length cells ≡ suc n → All (CellOn k) cells → x ∷ y ∷ z ∷ bytes ≡ flat_map cell_bytes cells → FirstCell k n x y z bytes
    split [] count on is = absurd (omega arith)
    split (c ∷ cells) count on is = (cc, ((c.wanted, on.0.wanted_below, cc), ((c.turn, on.0.turn_below, cc), record { cells = cells; count = omega arith; on = on.1; is = cc })))

decide_cells : (k n : ℕ) (bytes : List ℕ) → Decided (Cells k n bytes)
decide_cells k zero [] = inl (record { cells = []; count = refl; on = tt; is = refl })
decide_cells k zero (x ∷ bytes) = inr (λ all. let none = no_bytes_over all.cells (x ∷ bytes) all.count all.is in let never : ◌≡◌ {A = ℕ} 0 1 = cc in omega arith)
decide_cells k (suc n) [] = inr (λ all. no_cell_over all.cells [] all.count all.is (omega arith))
decide_cells k (suc n) (x ∷ []) = inr (λ all. no_cell_over all.cells (x ∷ []) all.count all.is (omega arith))
decide_cells k (suc n) (x ∷ y ∷ []) = inr (λ all. no_cell_over all.cells (x ∷ y ∷ []) all.count all.is (omega arith))
decide_cells k (suc n) (x ∷ y ∷ z ∷ bytes) =
    decide_same (cells_from_first k n x y z bytes) (first_from_cells k n x y z bytes) (decide_both (cases_eq x 32) (decide_both (decide_wanted k y) (decide_both (decide_digit k z) (decide_cells k n bytes))))

-- what stands after the key of a place's line
abbrev place_bytes : Place → List ℕ
place_bytes p = digit p.start ∷ flat_map cell_bytes p.cells

abbrev IsPlace : ℕ → ℕ → List ℕ → Type 0
IsPlace k n bytes = (p : Place) × PlaceOn k n p × (bytes ≡ place_bytes p)

decide_place : (k n : ℕ) (bytes : List ℕ) → Decided (IsPlace k n bytes)
decide_place k n [] = inr (λ one. let is = one.2 in let never : ◌≡◌ {A = ℕ} 0 1 = cc in omega arith)
decide_place k n (b ∷ bytes) = decide_same {P = IsDigit k b × Cells k n bytes} to from (decide_both (decide_digit k b) (decide_cells k n bytes))
  where
    to : IsDigit k b × Cells k n bytes → IsPlace k n (b ∷ bytes)
    to ((d, below, b-is), all) = (
      record { start = d; cells = all.cells },
      record { one_cell_each = all.count; start_below = below; cells_below = λ style h. All-get_or (CellOn k) all.cells style (record { wanted = None; turn = 0 }) (omega (arith, all.count)) all.on },
      (let others = all.is in cc),
    )

    from : IsPlace k n (b ∷ bytes) → IsDigit k b × Cells k n bytes
    from (p, on, is) = (
      (p.start, on.start_below, cc),
      record { cells = p.cells; count = on.one_cell_each; on = All-from_get_or (CellOn k) p.cells (record { wanted = None; turn = 0 }) (λ style h. on.cells_below style (omega (arith, on.one_cell_each))); is = cc },
    )

free_place : (k n : ℕ) (bytes : List ℕ) → IsPlace k n bytes → Free bytes
free_place k n bytes (p, on, is) = subst Free (sym is) (free_place_line p).1.1.1.1.1.1

-- the line of a place
pub opens_place : (k n : ℕ) (bytes : List ℕ) → ((place : Place) × (after : List ℕ) × PlaceOn k n place × (bytes ≡ place_line place ++ (line_feed ∷ after))) ⊎ ((place : Place) (after : List ℕ) → PlaceOn k n place → bytes ≡ place_line place ++ (line_feed ∷ after) → ⊥)
opens_place k n bytes =
    elim (opens_form (codes "place=") (IsPlace k n) (free_tested (codes "place=") refl) (free_place k n) (decide_place k n) bytes) [
      | inl (v, after, (p, on, v-is), is) ↦ inl (p, after, on, is ∙ ap (λ v. (codes "place=" ++ v) ++ (line_feed ∷ after)) v-is)
      | inr none ↦ inr (λ p after on is. none (place_bytes p) after (p, on, refl) is)
    ]
