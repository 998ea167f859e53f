-- A net text tells its net and its names: no two have the same text. Assumes nothing.
use Rattle.std.proofs.Common.{◌≡◌, ℕ, ◌+◌, List, [], ◌∷◌, map, length, get_or, drop, Some, None, Option, sym, refl, ap, ◌∙◌, arith}
use Rattle.std.specs.List.{flat_map}
use Rattle.std.proofs.lemmas.List.{same_from_push}
use Rattle.theory.specs.Nets.{Net}
use Rattle.theory.specs.Places.{Cell, Place}
use Rattle.texts.specs.NetText.{wanted_byte, cell_bytes, place_line, net_end, net_text, Named}
use Rattle.texts.proofs.Made.{always, same_from_map, same_made}
use Rattle.texts.proofs.Whole.{net_made}

same_wanted : (a b : Option ℕ) → wanted_byte a ≡ wanted_byte b → a ≡ b
same_wanted None None e = refl
same_wanted None (Some w) e = absurd (omega arith)
same_wanted (Some v) None e = absurd (omega arith)
same_wanted (Some v) (Some w) e = ap Some (omega arith)

same_cells : (cs ds : List Cell) → flat_map cell_bytes cs ≡ flat_map cell_bytes ds → cs ≡ ds
same_cells [] [] e = refl
same_cells [] (d ∷ ds) e = let never : ◌≡◌ {A = ℕ} 0 1 = cc in absurd (omega arith)
same_cells (c ∷ cs) [] e = let never : ◌≡◌ {A = ℕ} 0 1 = cc in absurd (omega arith)
same_cells (c ∷ cs) (d ∷ ds) e =
    let wanted : c.wanted ≡ d.wanted = same_wanted c.wanted d.wanted (ap (λ l. get_or l 1 0) e) in
    let bytes : 48 + c.turn ≡ 48 + d.turn = ap (λ l. get_or l 2 0) e in
    let turn : c.turn ≡ d.turn = omega arith in
    let others : cs ≡ ds = same_cells cs ds (ap (drop 3) e) in
    let same : c ≡ d = λ i. record { wanted = wanted i; turn = turn i } in
    cc

same_place : (a b : Place) → place_line a ≡ place_line b → a ≡ b
same_place a b e =
    let bytes : 48 + a.start ≡ 48 + b.start = ap (λ l. get_or l 6 0) e in
    let start : a.start ≡ b.start = omega arith in
    let cells : a.cells ≡ b.cells = same_cells a.cells b.cells (ap (drop 7) e) in
    λ i. record { start = start i; cells = cells i }

pub restored : (N M : Net) (names others : List (List ℕ)) → Named N names → Named M others → net_text N names ≡ net_text M others → (N ≡ M) × (names ≡ others)
restored N M names others named named' e =
    let parts = same_made (net_made N names named) (net_made M others named') e in
    let order = parts.0 in
    let styles : N.styles ≡ M.styles = sym named.one_name_each ∙ ap length parts.1 ∙ named'.one_name_each in
    let lines_are = (same_from_push (map place_line N.places) (map place_line M.places) net_end net_end (ap (drop 1) parts.2)).0 in
    let places : N.places ≡ M.places = same_from_map place_line (λ p. Unit {0}) (λ a b ga gb. same_place a b) N.places M.places (always N.places) (always M.places) lines_are in
    (λ i. record { order = order i; styles = styles i; places = places i }, parts.1)
