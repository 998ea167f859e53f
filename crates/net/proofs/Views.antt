-- What nets stand for: within the limits, and as their makers leave them. Assumes nothing.
use Rattle.std.proofs.Common.{◌≡◌, ℕ, zero, suc, ◌+◌, ◌*◌, ◌<◌, List, ◌∷◌, map, length, get_or, set, replicate, sym, refl, ap, ◌∙◌, ap₂, ⊎_elim, arith}
use mathlib.Core.Path.{fun_ext}
use Rattle.std.proofs.lemmas.List.FromFn.{length-map-range_with_len, get_or-map-range_with_len, fill_by_all}
use Rattle.std.proofs.lemmas.List.{length-replicate, get_or-replicate, length-set, length-map, get_or-set_same, get_or-set_other, map-set, same_lists}
use Rattle.std.proofs.lemmas.Bool.{cases_eq}
use Rattle.std.specs.List.{range_with_len}
use Rattle.theory.specs.Nets as N
use Rattle.theory.specs.Places as P
use Rattle.wheel.specs.declared.turning.Wheel.{Ghosts}
use Rattle.net.specs.Columns.{ColumnWritten}
use Rattle.net.specs.Making.{with_place}
use Rattle.net.specs.Views.{idle, idle_net, cell_of, cell_at, place_at, laid_out}
use Rattle.net.specs.declared.cells.Cell.{Cell}
use Rattle.net.proofs.Columns.{column_mapped}

-- a function that is x at each number below n
constant : {X : Type 0} (f : ℕ → X) (n : ℕ) (x : X) → ((i : ℕ) → i < n → f i ≡ x) → map f (range_with_len 0 n) ≡ replicate n x
constant f n x all = sym (fill_by_all f (replicate n x) n x (length-replicate n x) (λ i h. get_or-replicate n i x x h ∙ sym (all i h)))

map_replicate : {X Y : Type 0} (f : X → Y) (n : ℕ) (x : X) → map f (replicate n x) ≡ replicate n (f x)
map_replicate f zero x = refl
map_replicate f (suc n) x = ap (λ xs. f x ∷ xs) (map_replicate f n x)

-- reading equal elements, past the end too
get_d_equal : {X : Type 0} (n i : ℕ) (x : X) → get_or (replicate n x) i x ≡ x
get_d_equal zero i x = refl
get_d_equal (suc n) zero x = refl
get_d_equal (suc n) (suc i) x = get_d_equal n i x

module _ {W : Type 0} (w : Ghosts W) where
  pub laid_places : (n : ℕ) (starts : List W) (cells : List (Cell W)) → length (laid_out w n starts cells).places ≡ length starts
  laid_places n starts cells = length-map-range_with_len (place_at w n starts cells) 0 (length starts)

  pub laid_place : (n : ℕ) (starts : List W) (cells : List (Cell W)) (i : ℕ) → i < length starts → N.place (laid_out w n starts cells) i ≡ place_at w n starts cells i
  laid_place n starts cells i h = get_or-map-range_with_len (place_at w n starts cells) 0 (length starts) i i _ h (omega arith)

  pub laid_cell : (n : ℕ) (starts : List W) (cells : List (Cell W)) (i style : ℕ) → i < length starts → style < n → P.cell (N.place (laid_out w n starts cells) i) style ≡ cell_at w starts cells i style
  laid_cell n starts cells i style h below =
      ap (λ p. P.cell p style) (laid_place n starts cells i h)
      ∙ get_or-map-range_with_len (cell_at w starts cells i) 0 n style style idle below (omega arith)

  pub idle_laid : (n p : ℕ) (z : W) (c : Cell W) → w.number z ≡ 0 → cell_of w c ≡ idle → laid_out w n (replicate p z) (replicate (n * p) c) ≡ idle_net w n p
  idle_laid n p z c e f =
      let starts : map w.number (replicate p z) ≡ replicate p 0 = map_replicate w.number p z ∙ ap (replicate p) e in
      let cells : map (cell_of w) (replicate (n * p) c) ≡ replicate (n * p) idle = map_replicate (cell_of w) (n * p) c ∙ ap (replicate (n * p)) f in
      let start : (i : ℕ) → get_or (map w.number (replicate p z)) i 0 ≡ 0 = λ i. ap (λ xs. get_or xs i 0) starts ∙ get_d_equal p i 0 in
      let cell : (j : ℕ) → get_or (map (cell_of w) (replicate (n * p) c)) j idle ≡ idle = λ j. ap (λ xs. get_or xs j idle) cells ∙ get_d_equal (n * p) j idle in
      ap (λ ps. record { order = w.K; styles = n; places = ps })
      (constant (place_at w n (replicate p z) (replicate (n * p) c)) (length (replicate p z)) (record { start = 0; cells = replicate n idle })
      (λ i h. ap₂ (λ s cs. record { start = s; cells = cs }) (start i) (constant (cell_at w (replicate p z) (replicate (n * p) c) i) n idle (λ t _. cell (t * length (replicate p z) + i))))
      ∙ ap (λ m. replicate m (record { start = 0; cells = replicate n idle })) (length-replicate p z))

  pub put_laid : (n : ℕ) (starts : List W) (cells after : List (Cell W)) (i : ℕ) (start : W) (values : List (Cell W)) → i < length starts → length values ≡ n → length cells ≡ n * length starts → ColumnWritten cells (length starts) i values (length values) after → laid_out w n (set starts i start) after ≡ with_place (laid_out w n starts cells) i (record { start = w.number start; cells = map (cell_of w) values })
  put_laid n starts cells after i start values within count size so =
      ap (λ ps. record { order = w.K; styles = n; places = ps }) (same_lists _ _ long each)
    where
      column : ColumnWritten (map (cell_of w) cells) (length starts) i (map (cell_of w) values) (length values) (map (cell_of w) after)
      column = column_mapped (cell_of w) cells (length starts) i values after within (size ∙ ap (λ z. z * length starts) (sym count)) so

      wide : length (set starts i start) ≡ length starts
      wide = length-set starts i start

      long : length (map (place_at w n (set starts i start) after) (range_with_len 0 (length (set starts i start)))) ≡ length (set (map (place_at w n starts cells) (range_with_len 0 (length starts))) i (record { start = w.number start; cells = map (cell_of w) values }))
      long = laid_places n (set starts i start) after ∙ wide ∙ sym (length-set (map (place_at w n starts cells) (range_with_len 0 (length starts))) i _ ∙ laid_places n starts cells)

      start_at : (j : ℕ) → get_or (map w.number (set starts i start)) j 0 ≡ get_or (set (map w.number starts) i (w.number start)) j 0
      start_at j = ap (λ xs. get_or xs j 0) (map-set w.number starts i start)

      cell_here : (t : ℕ) → t < n → get_or (map (cell_of w) values) t idle ≡ cell_at w (set starts i start) after i t
      cell_here t h = sym (ap (λ z. get_or (map (cell_of w) after) (t * z + i) idle) wide ∙ column.written t idle (omega (arith, count)))

      here : place_at w n (set starts i start) after i ≡ record { start = w.number start; cells = map (cell_of w) values }
      here =
          ap₂ (λ s cs. record { start = s; cells = cs })
          (start_at i ∙ get_or-set_same (map w.number starts) i (w.number start) 0 (omega (arith, length-map starts w.number)))
          (sym (fill_by_all (cell_at w (set starts i start) after i) (map (cell_of w) values) n idle (length-map values (cell_of w) ∙ count) cell_here))

      cell_there : (j : ℕ) → j < length starts → (j ≡ i → ⊥) → (t : ℕ) → cell_at w (set starts i start) after j t ≡ cell_at w starts cells j t
      cell_there j h apart t = ap (λ z. get_or (map (cell_of w) after) (t * z + j) idle) wide ∙ column.kept t j idle h (λ _. apart)

      there : (j : ℕ) → j < length starts → (j ≡ i → ⊥) → place_at w n (set starts i start) after j ≡ place_at w n starts cells j
      there j h apart =
          ap₂ (λ s cs. record { start = s; cells = cs })
          (start_at j ∙ get_or-set_other (map w.number starts) i j (w.number start) 0 apart)
          (ap (λ f. map f (range_with_len 0 n)) (fun_ext (cell_there j h apart)))

      each : (j : ℕ) (d : P.Place) → j < length (map (place_at w n (set starts i start) after) (range_with_len 0 (length (set starts i start)))) → get_or (map (place_at w n (set starts i start) after) (range_with_len 0 (length (set starts i start)))) j d ≡ get_or (set (map (place_at w n starts cells) (range_with_len 0 (length starts))) i (record { start = w.number start; cells = map (cell_of w) values })) j d
      each j d h =
          let count' = laid_places n (set starts i start) after in
          let below : j < length starts = omega (arith, wide) in
          let left = get_or-map-range_with_len (place_at w n (set starts i start) after) 0 (length (set starts i start)) j j d (omega (arith, wide)) (omega arith) in
          let room : i < length (map (place_at w n starts cells) (range_with_len 0 (length starts))) = omega (arith, laid_places n starts cells) in
          ⊎_elim
          (λ e.
          left ∙ ap (place_at w n (set starts i start) after) e ∙ here
          ∙ sym (ap (λ z. get_or (set (map (place_at w n starts cells) (range_with_len 0 (length starts))) i (record { start = w.number start; cells = map (cell_of w) values })) z d) e ∙ get_or-set_same (map (place_at w n starts cells) (range_with_len 0 (length starts))) i _ d room))
          (λ ne.
          left ∙ there j below ne
          ∙ sym (get_or-set_other (map (place_at w n starts cells) (range_with_len 0 (length starts))) i j _ d ne ∙ get_or-map-range_with_len (place_at w n starts cells) 0 (length starts) j j d below (omega arith)))
          (cases_eq j i)
