-- A net text as a whole: its lines, each of its form and no two style lines equal, and its length. Assumes nothing.
use Rattle.std.proofs.Common.{◌≡◌, ℕ, zero, suc, ◌+◌, ◌*◌, ◌<◌, ◌≤◌, List, [], ◌∷◌, ◌++◌, map, length, get_or, codes, decimal, sym, refl, ◌∙◌, subst, inl, inr, arith}
use Rattle.std.specs.List.{flat_map, AllByRecursion as All}
use Rattle.std.proofs.lemmas.Fmt.{length-decimal-le}
use Rattle.std.proofs.ByRecursion.{All-append, All-from_get_or, All-map}
use Rattle.std.proofs.lemmas.List.{get_or_append_left, get_or_at, get_or-map, length-append, length-map}
use Rattle.std.proofs.lemmas.Bool.{cases_lt}
use Rattle.theory.specs.Nets.{Net, Proper, place}
use Rattle.theory.specs.Places.{Cell}
use Rattle.texts.specs.Forms.{style_line, Formed, DifferentTo}
use Rattle.texts.specs.Limits.{text_limit}
use Rattle.texts.specs.Lines.{line_feed, ended, text_of, lines}
use Rattle.texts.specs.Names.{NamesFormed}
use Rattle.texts.specs.NetFaults.{NetBody, counts_places, is_place, ends, NetFormed}
use Rattle.texts.specs.NetText.{cell_bytes, place_line, places_line, net_opening, net_end, net_lines, net_text, Named, IsNetText}
use Rattle.texts.proofs.Bytes.{free_tested, free_places_line, free_place_lines}
use Rattle.texts.proofs.Further.{lines_formed_less}
use Rattle.texts.proofs.Lines.{Free}
use Rattle.texts.proofs.Made.{Made, made_text}

-- the lines after those of the styles
abbrev pub body_lines : Net → List (List ℕ)
body_lines N = places_line (length N.places) ∷ (map place_line N.places ++ (net_end ∷ []))

pub whole_count : (N : Net) (names : List (List ℕ)) → length names ≡ N.styles → length (net_lines N names) ≡ 5 + N.styles + length N.places
whole_count N names each =
    simp (length-append, length-map) (omega arith)

body_count : (N : Net) → length (body_lines N) ≡ 2 + length N.places
body_count N = simp (length-append, length-map) (omega arith)

place_at : (N : Net) (i : ℕ) → i < length N.places → get_or (body_lines N) (suc i) [] ≡ place_line (place N i)
place_at N i h =
    get_or_append_left (map place_line N.places) (net_end ∷ []) [] i (simp length-map h)
    ∙ get_or-map place_line N.places i (record { start = 0; cells = [] }) [] h

end_at : (N : Net) → get_or (body_lines N) (suc (length N.places)) [] ≡ net_end
end_at N = get_or_at (map place_line N.places) net_end [] [] (length N.places) (length-map N.places place_line)

module _ (N : Net) (names : List (List ℕ)) (named : Named N names) where
  body_line : (t : ℕ) → t < 2 + length N.places → NetBody N.order N.styles (length N.places) t (get_or (body_lines N) t [])
  body_line zero h = counts_places refl refl
  body_line (suc i) h =
      elim (cases_lt i (length N.places)) [
        | inl below ↦ is_place refl below (named.proper.each_place i below) (place_at N i below)
        | inr past ↦
            let last : length N.places ≡ i = omega arith in
            subst (λ j. NetBody N.order N.styles (length N.places) (suc j) (get_or (body_lines N) (suc j) [])) last (ends refl (end_at N))
      ]

  pub net_made : Made net_opening (NetBody N.order N.styles (length N.places)) N.order N.styles names (body_lines N)
  net_made = record {
    wheel_good = record { from_two = named.proper.order_from_two; to_nine = named.proper.order_to_nine };
    styles_good = record { some = named.proper.some_style; few = named.proper.few_styles };
    sheet = named.sheet;
    one_name_each = named.one_name_each;
    free_opening = free_tested net_opening refl;
    free_body = (
      free_places_line (length N.places) (omega (arith, named.proper.few_places)),
      All-append Free (map place_line N.places) (net_end ∷ []) (free_place_lines N.places) (free_tested net_end refl, tt),
    );
    each = λ t h. body_line t (omega (arith, body_count N));
  }

-- what the reader of a text knows at its end
pub record Whole (k : ℕ) (text : List ℕ) : Type 0 where
  pub n : ℕ
  pub p : ℕ
  pub formed : NetFormed k n p text (5 + n + p)
  pub different : DifferentTo n text (5 + n + p)
  pub count : length (lines text) ≡ 5 + n + p
  pub ends : text ≡ text_of (lines text)

whole_named : (N : Net) (names : List (List ℕ)) → Named N names → Whole N.order (net_text N names)
whole_named N names named =
    let p = length N.places in
    let made = made_text (net_made N names named) in
    let total : 3 + N.styles + length (body_lines N) ≡ 5 + N.styles + p = omega (arith, body_count N) in
    record {
      n = N.styles;
      p = p;
      formed = record { few_places = named.proper.few_places; formed = subst (Formed net_opening (NetBody N.order N.styles p) N.order N.styles (net_text N names)) total made.formed };
      different = subst (DifferentTo N.styles (net_text N names)) total made.different;
      count = made.count ∙ total;
      ends = made.ends;
    }

pub whole : (k : ℕ) (text : List ℕ) → IsNetText k text → Whole k text
whole k text (N, names, named, order, is) = subst (Whole k) (sym is) (subst (λ j. Whole j (net_text N names)) order (whole_named N names named))

-- fewer lines of a net text in form are in form too
pub formed_less : {k n p : ℕ} {text : List ℕ} {i j : ℕ} → NetFormed k n p text j → i ≤ j → NetFormed k n p text i
formed_less formed less = record { few_places = formed.few_places; formed = lines_formed_less formed.formed less }

-- no line of a net text is longer than that of a place with a cell for each of 16 styles
abbrev Within : List ℕ → Type 0
Within l = length l ≤ 55

length_text : (ls : List (List ℕ)) → All Within ls → length (text_of ls) ≤ 56 * length ls
length_text [] within = omega arith
length_text (l ∷ ls) within =
    omega (arith, within.0, length_text ls within.1, length-append (ended l) (text_of ls), length-append l (line_feed ∷ []))

length_cells : (cells : List Cell) → length (flat_map cell_bytes cells) ≡ 3 * length cells
length_cells [] = refl
length_cells (c ∷ cells) = omega (arith, length_cells cells)

within_decimal : (key : List ℕ) (n : ℕ) → length key ≤ 7 → n ≤ 256 → Within (key ++ decimal n)
within_decimal key n short-key few = omega (arith, length-append key (decimal n), length-decimal-le 3 n (omega arith) (omega arith) (omega arith))

within_styles : (names : List (List ℕ)) → NamesFormed names → All Within (map style_line names)
within_styles names formed = All-map Within style_line names (All-from_get_or (λ name. Within (style_line name)) names [] (λ i h. omega (arith, (formed i h).few, length-append (codes "style=") (get_or names i []))))

within_places : (N : Net) → Proper N → All Within (map place_line N.places)
within_places N proper =
    All-map Within place_line N.places
    (All-from_get_or (λ p. Within (place_line p)) N.places (record { start = 0; cells = [] })
    (λ i h. omega (arith, (proper.each_place i h).one_cell_each, proper.few_styles, length_cells (place N i).cells)))

pub short : (N : Net) (names : List (List ℕ)) → Named N names → length (net_text N names) ≤ text_limit
short N names named =
    let proper = named.proper in
    let body : All Within (body_lines N) = (
      within_decimal (codes "places=") (length N.places) (omega arith) proper.few_places,
      All-append Within (map place_line N.places) (net_end ∷ []) (within_places N proper) (omega arith, tt),
    ) in
    let styles = All-append Within (map style_line names) (body_lines N) (within_styles names named.sheet.formed) body in
    let within : All Within (net_lines N names) = (
      omega arith,
      (
        within_decimal (codes "wheel=") N.order (omega arith) (omega (arith, proper.order_to_nine)),
        (within_decimal (codes "styles=") N.styles (omega arith) (omega (arith, proper.few_styles)), styles),
      ),
    ) in
    omega (arith, length_text (net_lines N names) within, whole_count N names named.one_name_each, proper.few_styles, proper.few_places)
