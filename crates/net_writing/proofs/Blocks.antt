-- The lengths of lines, and the blocks of a net text. Assumes nothing.
use Rattle.std.proofs.Common.{◌≡◌, ℕ, ◌+◌, ◌*◌, ◌≤◌, List, [], ◌∷◌, ◌++◌, map, length, get_or, refl, sym, ap, ◌∙◌, arith}
use Rattle.std.proofs.lemmas.List.{length-append, length_push, get_or_default}
use Rattle.std.specs.List.{flat_map, sum_by}
use Rattle.std.proofs.lemmas.Grind.{flat_map-append}
use Rattle.std.proofs.lemmas.List.Concat.{length-flat_map}
use Rattle.std.proofs.lemmas.List.Folds.{flat_map-map}
use Rattle.std.proofs.lemmas.List.Sums.{sum_by-cons, sum_by-le}
use Rattle.theory.specs.Limits.{style_limit}
use Rattle.theory.specs.Nets.{Net, Proper}
use Rattle.theory.specs.Places.{Place}
use Rattle.texts.specs.Forms.{wheel_line, styles_line, style_line}
use Rattle.texts.specs.Lines.{ended, text_of}
use Rattle.texts.specs.Names.{NamesFormed}
use Rattle.texts.specs.NetText.{cell_bytes, place_line, places_line, net_opening, net_end, net_text}
use Rattle.sheet.specs.Stored.{bytes_of}
use Rattle.sheet.specs.declared.names.Name.{Name}
use Rattle.net_writing.specs.Blocks.{name_lines, place_lines}
use Rattle.net_writing.proofs.Joins.{joined_even}

pub place_line_length : (p : Place) → length (ended (place_line p)) ≡ 8 + length (flat_map cell_bytes p.cells)
place_line_length p = length_push (place_line p) 10 ∙ omega arith

pub name_line_length : (name : List ℕ) → length (ended (style_line name)) ≡ 7 + length name
name_line_length name = length_push (style_line name) 10 ∙ omega arith

-- a net text is its blocks one after the other, for whatever equals the numbers in it
pub net_text_blocks : (N : Net) (names : List (List ℕ)) {k n p : ℕ} → k ≡ N.order → n ≡ N.styles → p ≡ length N.places → net_text N names
    ≡ ended net_opening ++ (ended (wheel_line k) ++ (ended (styles_line n) ++ (name_lines names ++ (ended (places_line p) ++ (place_lines N.places ++ ended net_end)))))
net_text_blocks N names k n p =
    ap (λ back. ended net_opening ++ (ended (wheel_line N.order) ++ (ended (styles_line N.styles) ++ back)))
    (flat_map-append ended (map style_line names) _
    ∙ ap (λ front. front ++ text_of (places_line (length N.places) ∷ (map place_line N.places ++ (net_end ∷ [])))) (flat_map-map ended style_line names)
    ∙ ap (λ back. name_lines names ++ (ended (places_line (length N.places)) ++ back))
    (flat_map-append ended (map place_line N.places) (net_end ∷ [])
    ∙ ap (λ front. front ++ (ended net_end ++ [])) (flat_map-map ended place_line N.places)))
    ∙ cc

-- three bytes for each cell
pub place_lines_length : (N : Net) → Proper N → length (place_lines N.places) ≡ length N.places * (8 + 3 * N.styles)
place_lines_length N proper =
    joined_even (λ place. ended (place_line place)) (8 + 3 * N.styles) N.places
    (λ i d h.
    let p = get_or N.places i d in
    let count : length p.cells ≡ N.styles = ap (λ q. length q.cells) (get_or_default N.places i d (record { start = 0; cells = [] }) h) ∙ (proper.each_place i h).one_cell_each in
    place_line_length p ∙ omega (arith, count, joined_even cell_bytes 3 p.cells (λ _ _ _. refl)))

-- the lines of names, by the names as a sheet stores them
pub stored_lines : (stored : List Name) (names : List (List ℕ)) → map bytes_of stored ≡ names → name_lines names ≡ flat_map (λ name. ended (style_line (bytes_of name))) stored
stored_lines stored names is = ap name_lines (sym is) ∙ flat_map-map (λ name. ended (style_line name)) bytes_of stored

-- in each the key, the name and a line feed
pub name_lines_length : (stored : List Name) → length (name_lines (map bytes_of stored)) ≡ sum_by (λ name. 6 + length (bytes_of name) + 1) stored
name_lines_length [] = refl
name_lines_length (name ∷ stored) =
    omega (arith, length-append (ended (style_line (bytes_of name))) (name_lines (map bytes_of stored)), name_line_length (bytes_of name), name_lines_length stored, sum_by-cons (λ name. 6 + length (bytes_of name) + 1) name stored)

-- the names are few and short
pub name_lines_short : (names : List (List ℕ)) → NamesFormed names → length names ≤ style_limit → length (name_lines names) ≤ 304
name_lines_short names formed few =
    let each = sum_by-le (λ name. length (ended (style_line name))) 19 names
    (λ i d h. omega (arith, name_line_length (get_or names i d), ap length (get_or_default names i d [] h), (formed i h).few)) in
    omega (arith, length-flat_map (λ name. ended (style_line name)) names, each)

-- the length of seven lists in a row
lengths : (a b c d e f g : List ℕ) → length (a ++ (b ++ (c ++ (d ++ (e ++ (f ++ g)))))) ≡ length a + (length b + (length c + (length d + (length e + (length f + length g)))))
lengths a b c d e f g = simp length-append

-- the length of a net text, by its blocks
pub net_text_length : (N : Net) (names : List (List ℕ)) {k n p : ℕ} → k ≡ N.order → n ≡ N.styles → p ≡ length N.places → length (net_text N names)
    ≡ 6 + (length (ended (wheel_line k)) + (length (ended (styles_line n)) + (length (name_lines names) + (length (ended (places_line p)) + (length (place_lines N.places) + 8)))))
net_text_length N names {k} {n} {p} order styles places =
    ap length (net_text_blocks N names order styles places)
    ∙ lengths (ended net_opening) (ended (wheel_line k)) (ended (styles_line n)) (name_lines names) (ended (places_line p)) (place_lines N.places) (ended net_end)
