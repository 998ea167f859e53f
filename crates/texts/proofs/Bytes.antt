-- Keys, numbers, names and places have no line feed in them. Assumes nothing.
use Rattle.std.proofs.Common.{◌≡◌, ℕ, ◌+◌, ◌%◌, ◌^◌, ◌<◌, Bool, true, false, not, ◌&&◌, eqb, List, [], ◌∷◌, ◌++◌, map, length, get_or, Some, None, codes, decimal, Option, sym, refl, ap, ◌∙◌, arith}
use Rattle.std.specs.List.{flat_map, AllByRecursion as All}
use Rattle.std.proofs.lemmas.Fmt.{decimal_by_steps, decimal_injective}
use Rattle.std.proofs.ByRecursion.{All-append, All-from_get_or, All-map}
use Rattle.std.proofs.lemmas.List.{append_cancel_left}
use Rattle.std.proofs.lemmas.Bool.{and_parts, ne_eqb, not-true, false≢true}
use Rattle.theory.specs.Places.{Cell, Place}
use Rattle.texts.specs.Forms.{wheel_line, styles_line, style_line}
use Rattle.texts.specs.Lines.{line_feed}
use Rattle.texts.specs.Names.{name_byte, NameForm}
use Rattle.texts.specs.NetText.{digit, wanted_byte, cell_bytes, place_line, places_line}
use Rattle.texts.proofs.Lines.{Free}

-- a test of bytes that are written out
abbrev free_of_feeds : List ℕ → Bool
free_of_feeds [] = true
free_of_feeds (b ∷ l) = not (eqb b line_feed) && free_of_feeds l

pub free_tested : (l : List ℕ) → free_of_feeds l ≡ true → Free l
free_tested [] e = tt
free_tested (b ∷ l) e =
    let parts = and_parts (not (eqb b line_feed)) (free_of_feeds l) e in
    (not-true (eqb b line_feed) parts.0, free_tested l parts.1)

pub free_append : (a b : List ℕ) → Free a → Free b → Free (a ++ b)
free_append a b = All-append (λ x. eqb x line_feed ≡ false) a b

digit_apart : (d : ℕ) → eqb (48 + d) line_feed ≡ false
digit_apart d = ne_eqb (48 + d) line_feed (λ e. omega arith)

pub free_decimal : (n : ℕ) → n < 2 ^ 64 → Free (decimal n)
free_decimal = decimal_by_steps (λ n ds. Free ds) (λ n h. (digit_apart n, tt)) (λ n ds h free. free_append ds ((48 + n % 10) ∷ []) free (digit_apart (n % 10), tt))

pub free_name : (name : List ℕ) → NameForm name → Free name
free_name name form =
    All-from_get_or (λ b. eqb b line_feed ≡ false) name 0 (λ i h. ne_eqb (get_or name i 0) line_feed (λ e. false≢true (sym (ap name_byte e) ∙ form.bytes i h)))

wanted_apart : (o : Option ℕ) → eqb (wanted_byte o) line_feed ≡ false
wanted_apart None = refl
wanted_apart (Some w) = digit_apart w

pub free_cells : (cells : List Cell) → Free (flat_map cell_bytes cells)
free_cells [] = tt
free_cells (c ∷ cells) = free_append (cell_bytes c) (flat_map cell_bytes cells) (refl, (wanted_apart c.wanted, (digit_apart c.turn, tt))) (free_cells cells)

pub free_wheel_line : (k : ℕ) → k < 2 ^ 64 → Free (wheel_line k)
free_wheel_line k h = free_append (codes "wheel=") (decimal k) (free_tested (codes "wheel=") refl) (free_decimal k h)

pub free_styles_line : (n : ℕ) → n < 2 ^ 64 → Free (styles_line n)
free_styles_line n h = free_append (codes "styles=") (decimal n) (free_tested (codes "styles=") refl) (free_decimal n h)

pub free_style_line : (name : List ℕ) → NameForm name → Free (style_line name)
free_style_line name form = free_append (codes "style=") name (free_tested (codes "style=") refl) (free_name name form)

pub free_places_line : (p : ℕ) → p < 2 ^ 64 → Free (places_line p)
free_places_line p h = free_append (codes "places=") (decimal p) (free_tested (codes "places=") refl) (free_decimal p h)

pub free_place_line : (p : Place) → Free (place_line p)
free_place_line p =
    free_append (codes "place=") (digit p.start ∷ flat_map cell_bytes p.cells) (free_tested (codes "place=") refl) (digit_apart p.start, free_cells p.cells)

pub free_style_lines : (names : List (List ℕ)) → ((i : ℕ) → i < length names → NameForm (get_or names i [])) → All Free (map style_line names)
free_style_lines names formed = All-map Free style_line names (All-from_get_or (λ name. Free (style_line name)) names [] (λ i h. free_style_line (get_or names i []) (formed i h)))

pub free_place_lines : (places : List Place) → All Free (map place_line places)
free_place_lines [] = tt
free_place_lines (p ∷ places) = (free_place_line p, free_place_lines places)

-- equal lines tell equal numbers
pub same_wheel : (a b : ℕ) → a < 2 ^ 64 → b < 2 ^ 64 → wheel_line a ≡ wheel_line b → a ≡ b
same_wheel a b ha hb e = decimal_injective a b ha hb (append_cancel_left (codes "wheel=") (decimal a) (decimal b) e)

pub same_styles : (a b : ℕ) → a < 2 ^ 64 → b < 2 ^ 64 → styles_line a ≡ styles_line b → a ≡ b
same_styles a b ha hb e = decimal_injective a b ha hb (append_cancel_left (codes "styles=") (decimal a) (decimal b) e)

pub same_places : (a b : ℕ) → a < 2 ^ 64 → b < 2 ^ 64 → places_line a ≡ places_line b → a ≡ b
same_places a b ha hb e = decimal_injective a b ha hb (append_cancel_left (codes "places=") (decimal a) (decimal b) e)

pub same_style : (a b : List ℕ) → style_line a ≡ style_line b → a ≡ b
same_style a b e = append_cancel_left (codes "style=") a b e
