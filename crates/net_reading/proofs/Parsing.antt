-- What the parts of a net text that have been read say of the whole. Assumes nothing.
use Rattle.std.proofs.Common.{◌≡◌, ℕ, suc, ◌+◌, ◌<◌, ◌≤◌, List, [], ◌∷◌, ◌++◌, map, length, codes, sym, refl, subst, ap₂, arith}
use Rattle.theory.specs.Limits.{place_limit}
use Rattle.theory.specs.Places as P
use Rattle.lines.specs.Numbers.{at_line}
use Rattle.lines.specs.Opening.{NumberLine}
use Rattle.lines.specs.declared.faults.Cause.{Cause}
use Rattle.lines.specs.declared.faults.Cause.TheVariants.{Form, Name}
use Rattle.lines.specs.declared.faults.LineFault.{LineFault}
use Rattle.texts.specs.Faults as F
use Rattle.texts.specs.Forms.{WheelGood, StylesGood, wheel_line, styles_line, style_line}
use Rattle.texts.specs.Limits.{text_limit}
use Rattle.texts.specs.Lines.{line_feed, text_of}
use Rattle.texts.specs.Names.{Sheet}
use Rattle.texts.specs.NetFaults.{FirstFault}
use Rattle.texts.specs.NetText.{net_opening, net_end, net_text}
use Rattle.texts.proofs.Bytes.{free_tested, free_style_lines, free_styles_line, free_wheel_line}
use Rattle.texts.proofs.Forms.{Done}
use Rattle.texts.proofs.Heads.{HeadRead, styles_fit, wheel_fits}
use Rattle.texts.proofs.NetEnds.{net_read, whole_read, fault_extra}
use Rattle.texts.proofs.NetStages.{PlacesRead, fault_style_line, fault_repeated, fault_places_line, fault_place_line, fault_end_line}
use Rattle.texts.proofs.Steps.{done_all, places_from}
use Rattle.net_reading.specs.Names.{NoNewStyle, NamesBreak}
use Rattle.net_reading.specs.Owed.{PlacesOpen, PlacesBreak}
use Rattle.net_reading.specs.Reading.{NoEnd, missing, extra}
use Rattle.net_reading.proofs.FirstFaults.{form_told}

-- a fault at a line and for a cause that are known
at_told : (k : ℕ) (text : List ℕ) (fault : LineFault) (line : ℕ) (cause : Cause) → fault.line ≡ line → fault.cause ≡ cause → FirstFault k text (at_line line cause) → FirstFault k text (at_line fault.line fault.cause)
at_told k text fault line cause l c first = subst (λ f. FirstFault k text f) (ap₂ at_line (sym l) (sym c)) first

-- the first three lines have been read
pub record ThreeRead (k n : ℕ) (text rest : List ℕ) : Type 0 where
  pub wheel : WheelGood k
  pub styles : StylesGood n
  pub short : length text ≤ text_limit
  pub is : text ≡ text_of (net_opening ∷ wheel_line k ∷ styles_line n ∷ []) ++ rest

three_done : {k n : ℕ} {text rest : List ℕ} → ThreeRead k n text rest → Done text (net_opening ∷ wheel_line k ∷ styles_line n ∷ []) rest
three_done {k} {n} three = record {
  is = three.is;
  free = (free_tested net_opening refl, (free_wheel_line k (wheel_fits k three.wheel), (free_styles_line n (styles_fit n three.styles), tt)));
}

no_new_style : {k n : ℕ} {text : List ℕ} (short : length text ≤ text_limit) {names : List (List ℕ)} {after : List ℕ} (read : HeadRead net_opening k n names text after) (line : ℕ) (cause : Cause) → length names < n → line ≡ suc (3 + length names) → NoNewStyle names after cause → FirstFault k text (at_line line cause)
no_new_style {k} {text = text} short read line Form few at none =
    subst (λ l. FirstFault k text (F.form l)) (sym at) (fault_style_line short read few (λ name more form is. none name more record { formed = form; opens = is }))
no_new_style {k} {text = text} short read line (Name byte) few at (is-six, (name, more, a, styled, within, same)) =
    subst (FirstFault k text) (ap₂ F.name (sym at) (sym is-six)) (fault_repeated short read name more a few styled.formed styled.opens within same)

module _ {k n : ℕ} {text rest : List ℕ} (three : ThreeRead k n text rest) where
  pub names_read : (names : List (List ℕ)) (after : List ℕ) → Sheet names → length names ≤ n → rest ≡ text_of (map style_line names) ++ after → HeadRead net_opening k n names text after
  names_read names after sheet few opens = record {
    wheel_good = three.wheel;
    styles_good = three.styles;
    named = sheet.formed;
    different = sheet.different;
    few = few;
    done = done_all (three_done three) (map style_line names) after opens (free_style_lines names sheet.formed);
  }

  pub names_fault : (fault : LineFault) → NamesBreak n rest fault → FirstFault k text (at_line fault.line fault.cause)
  names_fault fault broken =
      no_new_style three.short (names_read broken.names broken.rest broken.sheet (omega (arith, broken.few)) broken.opens) fault.line fault.cause broken.few broken.line broken.none

  module _ {names : List (List ℕ)} {after : List ℕ} (sheet : Sheet names) (all_names : length names ≡ n) (opens : rest ≡ text_of (map style_line names) ++ after) where
    read : HeadRead net_opening k n names text after
    read = names_read names after sheet (omega (arith, all_names)) opens

    pub places_line_fault : (fault : LineFault) → fault ≡ record { line = 4 + n; cause = Form } → ((p : ℕ) (more : List ℕ) → NumberLine (codes "places=") 0 place_limit after p more → ⊥) → FirstFault k text (at_line fault.line fault.cause)
    places_line_fault fault is none =
        form_told k text fault (4 + n) is
        (subst (λ l. FirstFault k text (F.form l)) (omega (arith, all_names))
        (fault_places_line three.short read all_names (λ p more few opens'. none p more record { from_low = omega arith; to_high = few; small = omega arith; opens = opens' })))

    module _ {p : ℕ} {bytes : List ℕ} (counted : NumberLine (codes "places=") 0 place_limit after p bytes) where
      places_read : (places : List P.Place) (more : List ℕ) → PlacesOpen k n bytes places more → length places ≤ p → PlacesRead k n p names places text more
      places_read places more opened few = places_from k n p names places text after bytes more read all_names counted.to_high counted.opens opened.opens opened.good few

      pub places_fault : (fault : LineFault) → PlacesBreak k n p bytes fault → FirstFault k text (at_line fault.line fault.cause)
      places_fault fault broken =
          at_told k text fault (suc (4 + n + length broken.places)) Form broken.line broken.cause
          (fault_place_line (places_read broken.places broken.rest broken.opens (omega (arith, broken.few))) three.short broken.few broken.none)

      module _ {places : List P.Place} {more : List ℕ} (opened : PlacesOpen k n bytes places more) (all_places : length places ≡ p) where
        every : PlacesRead k n p names places text more
        every = places_read places more opened (omega (arith, all_places))

        pub end_fault : (fault : LineFault) → NoEnd (5 + n + p) more fault → FirstFault k text (at_line fault.line fault.cause)
        end_fault fault (missing is none) =
            form_told k text fault (5 + n + p) is (subst (λ l. FirstFault k text (F.form l)) (omega (arith, all_places)) (fault_end_line every three.short all_places none))
        end_fault fault (extra is opens' some) =
            form_told k text fault (suc (5 + n + p)) is (fault_extra every all_places opens' three.short some)

        pub whole_text : more ≡ net_end ++ (line_feed ∷ []) → text ≡ net_text (net_read k n places) names
        whole_text end = whole_read every all_places end refl
