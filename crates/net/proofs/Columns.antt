-- Writing a column, row by row. Assumes nothing.
use Rattle.std.proofs.Common.{◌≡◌, ℕ, ◌+◌, ◌*◌, ◌/◌, ◌%◌, ◌<◌, List, [], ◌∷◌, map, length, get_or, set, sym, ap, ◌∙◌, ⊎_elim, arith}
use Rattle.std.proofs.lemmas.Nat.{mod-mul-add, div-mul-add, mul-add-lt}
use Rattle.std.proofs.lemmas.List.{length-set, length-map, get_or-set_same, get_or-set_other, get_or-map, get_or_past}
use Rattle.std.proofs.lemmas.Bool.{cases_eq, cases_lt}
use Rattle.net.specs.Columns.{ColumnWritten}

-- a place in the table names one row and one column
pub same_row : (w a i b j : ℕ) → i < w → j < w → a * w + i ≡ b * w + j → a ≡ b
same_row w a i b j hi hj e = sym (div-mul-add a w i hi) ∙ ap (λ z. z / w) e ∙ div-mul-add b w j hj

pub same_column : (w a i b j : ℕ) → i < w → j < w → a * w + i ≡ b * w + j → i ≡ j
same_column w a i b j hi hj e = sym (mod-mul-add a w i hi) ∙ ap (λ z. z % w) e ∙ mod-mul-add b w j hj

module _ {X : Type 0} (before : List X) (width column : ℕ) (values : List X) where
  pub column_more : (rows : ℕ) (x : X) (now : List X) → column < width → rows * width + column < length now → ((d : X) → x ≡ get_or values rows d) → ColumnWritten before width column values rows now → ColumnWritten before width column values (rows + 1) (set now (rows * width + column) x)
  column_more rows x now within room reads so_far = record {
    long = length-set now (rows * width + column) x ∙ so_far.long;
    written = λ row d h.
        ⊎_elim
        (λ e. ap (λ z. get_or (set now (rows * width + column) x) (z * width + column) d) e ∙ get_or-set_same now (rows * width + column) x d room ∙ reads d ∙ ap (λ z. get_or values z d) (sym e))
        (λ ne.
        get_or-set_other now (rows * width + column) (row * width + column) x d (λ e. ne (same_row width row column rows column within within e))
        ∙ so_far.written row d (omega arith))
        (cases_eq row rows);
    kept = λ row i d h apart.
        get_or-set_other now (rows * width + column) (row * width + i) x d
        (λ e.
        let r : row ≡ rows = same_row width row i rows column h within e in
        apart (omega arith) (same_column width row i rows column h within e))
        ∙ so_far.kept row i d h (λ below. apart (omega arith));
  }

-- an element, wherever a list has one
element : {X : Type 0} (xs : List X) (i : ℕ) → i < length xs → X
element [] i h = absurd (omega arith)
element (x ∷ xs) i h = x

-- elements that agree agree under a function
pub mapped_same : {X Y : Type 0} (f : X → Y) (xs ys : List X) (i j : ℕ) (e : Y) → i < length xs → j < length ys → ((d : X) → get_or xs i d ≡ get_or ys j d) → get_or (map f xs) i e ≡ get_or (map f ys) j e
mapped_same f xs ys i j e hi hj same =
    let d = element xs i hi in
    get_or-map f xs i d e hi ∙ ap f (same d) ∙ sym (get_or-map f ys j d e hj)

pub column_mapped : {X Y : Type 0} (f : X → Y) (before : List X) (width column : ℕ) (values after : List X) → column < width → length before ≡ length values * width → ColumnWritten before width column values (length values) after → ColumnWritten (map f before) width column (map f values) (length values) (map f after)
column_mapped f before width column values after within rows so = record {
  long = length-map after f ∙ so.long ∙ sym (length-map before f);
  written = λ row d h.
      let room = mul-add-lt row width column (length values) h within in
      mapped_same f after values (row * width + column) row d (omega (arith, so.long)) h (λ x. so.written row x h);
  kept = λ row i d h apart.
      ⊎_elim
      (λ room. mapped_same f after before (row * width + i) (row * width + i) d (omega (arith, so.long)) room (λ x. so.kept row i x h apart))
      (λ past.
      get_or_past (map f after) (row * width + i) d (omega (arith, length-map after f, so.long))
      ∙ sym (get_or_past (map f before) (row * width + i) d (omega (arith, length-map before f))))
      (cases_lt (row * width + i) (length before));
}
