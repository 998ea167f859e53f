-- The bytes of digits and cells. Assumes nothing.
use Rattle.std.proofs.Common.{◌≡◌, ℕ, ◌+◌, ◌-◌, ◌<◌, ◌≤◌, List, [], ◌∷◌, ◌++◌, length, get_or, take, drop, Some, None, codes, sym, refl, ap, ◌∙◌, ap₂, arith}
use Rattle.std.proofs.lemmas.List.{append_assoc, append_cancel_left, drop_all, drop_more, flat_map_more, take_rest}
use Rattle.std.specs.List.{flat_map}
use Rattle.theory.specs.Places as P
use Rattle.texts.specs.Lines.{line_feed}
use Rattle.texts.specs.NetText.{digit, cell_bytes, place_line}
use Rattle.net_reading.specs.Opening.{NoDigit, NoWanted, NoCell, NoCells, NoPlace}

-- a byte that is no digit and no full stop is nothing wanted
pub no_wanted : (k byte : ℕ) → (byte ≡ 46 → ⊥) → NoDigit k byte → NoWanted k byte
no_wanted k byte stop none None below e = stop e
no_wanted k byte stop none (Some w) below e = none w (below w refl) e

-- bytes of which the first three are known
pub three_bytes : (bytes : List ℕ) (a b d : ℕ) → 3 ≤ length bytes → get_or bytes 0 0 ≡ a → get_or bytes 1 0 ≡ b → get_or bytes 2 0 ≡ d → bytes ≡ a ∷ b ∷ d ∷ take (length bytes - 3) (drop 3 bytes)
three_bytes [] a b d long ea eb ed = absurd (omega arith)
three_bytes (x ∷ []) a b d long ea eb ed = absurd (omega arith)
three_bytes (x ∷ y ∷ []) a b d long ea eb ed = absurd (omega arith)
three_bytes (x ∷ y ∷ z ∷ rest) a b d long ea eb ed = let all = take_rest (x ∷ y ∷ z ∷ rest) 3 in cc

-- cells of as many bytes each: what comes after some of them comes after those of the same number
pub after_cells : (xs ys : List P.Cell) (r s : List ℕ) → length xs ≤ length ys → flat_map cell_bytes xs ++ r ≡ flat_map cell_bytes ys ++ s → r ≡ flat_map cell_bytes (drop (length xs) ys) ++ s
after_cells [] ys r s long e = e
after_cells (x ∷ xs) [] r s long e = absurd (omega arith)
after_cells (x ∷ xs) (y ∷ ys) r s long e = after_cells xs ys r s (omega arith) (cc)

-- one cell more
pub cells_more : (cells : List P.Cell) (c : P.Cell) (bytes rest after : List ℕ) → bytes ≡ flat_map cell_bytes cells ++ rest → rest ≡ cell_bytes c ++ after → bytes ≡ flat_map cell_bytes (cells ++ (c ∷ [])) ++ after
cells_more cells c bytes rest after read next =
    read ∙ ap (λ r. flat_map cell_bytes cells ++ r) next
    ∙ sym (append_assoc (flat_map cell_bytes cells) (cell_bytes c) after)
    ∙ ap (λ bs. bs ++ after) (flat_map_more cell_bytes [] cells c)

-- where the cells break off, there are not n of them
pub no_cells : (k n : ℕ) (cells : List P.Cell) (bytes rest : List ℕ) → length cells < n → bytes ≡ flat_map cell_bytes cells ++ rest → NoCell k rest → NoCells k n bytes
no_cells k n cells bytes rest few read none place more on e =
    let i = length cells in
    let within : i < length place.cells = omega (arith, on.one_cell_each) in
    none (P.cell place i) (flat_map cell_bytes (drop (i + 1) place.cells) ++ more) (on.cells_below i few)
    (after_cells cells place.cells rest more (omega (arith, on.one_cell_each)) (sym read ∙ e)
    ∙ ap (λ cs. flat_map cell_bytes cs ++ more) (drop_more place.cells i (record { wanted = None; turn = 0 }) within)
    ∙ append_assoc (cell_bytes (P.cell place i)) (flat_map cell_bytes (drop (i + 1) place.cells)) more)

-- what comes after all n cells
pub after_all : (n : ℕ) (cells others : List P.Cell) (rest more : List ℕ) → length cells ≡ n → length others ≡ n → flat_map cell_bytes cells ++ rest ≡ flat_map cell_bytes others ++ more → rest ≡ more
after_all n cells others rest more a b e =
    after_cells cells others rest more (omega arith) e ∙ ap (λ cs. flat_map cell_bytes cs ++ more) (drop_all (length cells) others (omega arith))

-- what is left of a place's line after its key
after_key : (place : P.Place) (bytes left rest : List ℕ) → bytes ≡ codes "place=" ++ left → bytes ≡ place_line place ++ (line_feed ∷ rest) → left ≡ digit place.start ∷ (flat_map cell_bytes place.cells ++ (line_feed ∷ rest))
after_key place bytes left rest key e = append_cancel_left (codes "place=") left (digit place.start ∷ (flat_map cell_bytes place.cells ++ (line_feed ∷ rest))) (sym key ∙ e)

module _ {bytes left : List ℕ} (key : bytes ≡ codes "place=" ++ left) where
  pub no_start : {k n : ℕ} → NoDigit k (get_or left 0 0) → NoPlace k n bytes
  no_start none place rest on e = none place.start on.start_below (ap (λ bs. get_or bs 0 0) (after_key place bytes left rest key e))

  module _ {first : ℕ} {after : List ℕ} (opened : left ≡ first ∷ after) where
    cells_left : (place : P.Place) (rest : List ℕ) → bytes ≡ place_line place ++ (line_feed ∷ rest) → after ≡ flat_map cell_bytes place.cells ++ (line_feed ∷ rest)
    cells_left place rest e = let both = sym opened ∙ after_key place bytes left rest key e in cc

    pub too_few_cells : {k n : ℕ} → NoCells k n after → NoPlace k n bytes
    too_few_cells none place rest on e = none place (line_feed ∷ rest) on (cells_left place rest e)

    pub no_end : {k n : ℕ} (cells : List P.Cell) (rest : List ℕ) → after ≡ flat_map cell_bytes cells ++ rest → length cells ≡ n → ((more : List ℕ) → rest ≡ line_feed ∷ more → ⊥) → NoPlace k n bytes
    no_end {n = n} cells rest read count none place more on e =
        none more (after_all n cells place.cells rest (line_feed ∷ more) count on.one_cell_each (sym read ∙ cells_left place more e))

    pub place_read : (start : ℕ) (cells : List P.Cell) (rest more : List ℕ) → first ≡ digit start → after ≡ flat_map cell_bytes cells ++ rest → rest ≡ line_feed ∷ more → bytes ≡ place_line (record { start = start; cells = cells }) ++ (line_feed ∷ more)
    place_read start cells rest more is read end =
        key ∙ ap (λ bs. codes "place=" ++ bs) (opened ∙ ap₂ ◌∷◌ is (read ∙ ap (λ bs. flat_map cell_bytes cells ++ bs) end))
