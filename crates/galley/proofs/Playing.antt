-- What the row of one style says of the net's places. Assumes nothing.
use Rattle.std.proofs.Common.{◌≡◌, ℕ, ◌+◌, ◌%◌, ◌<◌, List, [], ◌∷◌, ◌++◌, map, length, get_or, Some, sym, refl, ap, ◌∙◌, subst, ap₂, subst₂, arith}
use Rattle.std.proofs.lemmas.List.{length-map, get_or-map, get_or_default, same_lists}
use Rattle.theory.proofs.Firing.{meets, frees}
use Rattle.theory.proofs.Playing.{accepted_none, accepted_more}
use Rattle.theory.proofs.Showing.{shows_next, shows_start}
use Rattle.theory.specs.Nets as N
use Rattle.theory.specs.Outcomes.{SetOwes, refused, place_refuses}
use Rattle.theory.specs.Places as P
use Rattle.theory.specs.Playing.{Accepts, FirstRefusing, RefusesAfter}
use Rattle.theory.specs.Positions.{position}
use Rattle.theory.specs.TestAndFlip.{Enabled, Leads, test_and_flip}
use Rattle.wheel.specs.declared.turning.Wheel.{Ghosts}
use Rattle.galley.specs.Rows.{RefusesAt, NoneRefuses, FirstRefuses, Turned}
use Rattle.galley.specs.Standing.{Stands}
use Rattle.net.specs.Views.{idle, view}
use Rattle.galley.specs.declared.galleys.refusals.Refusing.{Refusing}
use Rattle.net.specs.declared.nets.Net.{Net}

-- what each place shows after the run
abbrev pub showing : N.Net → List ℕ → List ℕ
showing M run = map (λ p. P.shows M.order p (position M.order run)) M.places

shown_at : (M : N.Net) (run : List ℕ) (i d : ℕ) → i < length M.places → get_or (showing M run) i d ≡ P.shows M.order (N.place M i) (position M.order run)
shown_at M run i d h = get_or-map (λ p. P.shows M.order p (position M.order run)) M.places i (record { start = 0; cells = [] }) d h

-- no place of the net refuses the style at these values
abbrev pub Free : N.Net → List ℕ → ℕ → Type 0
Free M values style = NoneRefuses (map (λ p. P.cell p style) M.places) values (length M.places)

-- the cells of all places for one style
module _ (M : N.Net) (style : ℕ) (cells : List P.Cell) (row : cells ≡ map (λ p. P.cell p style) M.places) where
  pub row_count : length cells ≡ length M.places
  row_count = ap length row ∙ length-map M.places (λ p. P.cell p style)

  cell_is : (i : ℕ) → i < length M.places → get_or cells i idle ≡ P.cell (N.place M i) style
  cell_is i h = ap (λ xs. get_or xs i idle) row ∙ get_or-map (λ p. P.cell p style) M.places i (record { start = 0; cells = [] }) idle h

-- the cells of all places for the style, and what the places show after the run
module _ (M : N.Net) (run : List ℕ) (style : ℕ) (cells : List P.Cell) (values : List ℕ) (row : cells ≡ map (λ p. P.cell p style) M.places) (shown : values ≡ showing M run) where
  pub value_count : length values ≡ length M.places
  value_count = ap length shown ∙ length-map M.places (λ p. P.shows M.order p (position M.order run))

  value_is : (i : ℕ) → i < length M.places → get_or values i 0 ≡ P.shows M.order (N.place M i) (position M.order run)
  value_is i h = ap (λ xs. get_or xs i 0) shown ∙ shown_at M run i 0 h

  row_refuses : (i : ℕ) → i < length M.places → RefusesAfter M run style i → RefusesAt cells values i
  row_refuses i h refuses = subst₂ P.Unwanted (ap (λ c. c.wanted) (sym (cell_is M style cells row i h))) (sym (value_is i h)) refuses

  refuses_row : (i : ℕ) → i < length M.places → RefusesAt cells values i → RefusesAfter M run style i
  refuses_row i h refuses = subst₂ P.Unwanted (ap (λ c. c.wanted) (cell_is M style cells row i h)) (value_is i h) refuses

  pub row_accepts : style < M.styles → NoneRefuses cells values (length cells) → Accepts M run style
  row_accepts known none = record {
    known = known;
    free = λ i h refuses. none i (omega (arith, row_count M style cells row)) (row_refuses i h refuses);
  }

  -- the refusal that Set owes where a place is the first that refuses
  pub row_owes : style < M.styles → (q : Refusing) → FirstRefuses cells values q → SetOwes M run style (refused 7 (q.place ∷ q.shown ∷ q.wanted ∷ []))
  row_owes known q first =
      let i = q.place in
      let within : i < length M.places = omega (arith, first.within, row_count M style cells row) in
      let wanting : (P.cell (N.place M i) style).wanted ≡ Some q.wanted = ap (λ c. c.wanted) (sym (cell_is M style cells row i within)) ∙ first.wanting in
      let showing_is : q.shown ≡ P.shows M.order (N.place M i) (position M.order run) = first.showing ∙ value_is i within in
      let refuses : RefusesAfter M run style i = subst₂ P.Unwanted (sym wanting) showing_is first.differing in
      let place_first : FirstRefusing M run style i = record {
        within = within;
        refuses = refuses;
        none_before = λ j h refuses-j. first.none_before j h (row_refuses j (omega arith) refuses-j);
      } in
      subst (λ v. SetOwes M run style (refused 7 (i ∷ v ∷ q.wanted ∷ []))) (sym showing_is) (place_refuses known place_first wanting)

  -- after a turn the values are those of the run that is one style longer
  pub row_turned : N.Proper M → style < M.styles → (after : List ℕ) → Turned M.order cells values (length cells) after → after ≡ showing M (run ++ style ∷ [])
  row_turned proper known after turned = same_lists after (showing M (run ++ style ∷ [])) long each
    where
      long : length after ≡ length (showing M (run ++ style ∷ []))
      long = turned.long ∙ value_count ∙ sym (length-map M.places (λ p. P.shows M.order p (position M.order (run ++ style ∷ []))))

      each : (i d : ℕ) → i < length after → get_or after i d ≡ get_or (showing M (run ++ style ∷ [])) i d
      each i d h =
          let within : i < length M.places = omega (arith, turned.long, value_count) in
          let turn : (get_or cells i idle).turn ≡ (P.cell (N.place M i) style).turn = ap (λ c. c.turn) (cell_is M style cells row i within) in
          get_or_default after i d 0 h
          ∙ turned.turned i (omega (arith, row_count M style cells row))
          ∙ ap₂ (λ x y. (x + y) % M.order) (value_is i within) turn
          ∙ sym (shows_next M.order (N.place M i) run style (rw (proper.each_place i within).one_cell_each known))
          ∙ sym (shown_at M (run ++ style ∷ []) i d within)

-- one style's cells beside any values below k, read as a marking
module _ (M : N.Net) (style : ℕ) (cells : List P.Cell) (values : List ℕ) (row : cells ≡ map (λ p. P.cell p style) M.places) (proper : N.Proper M) (below : (i : ℕ) → get_or values i 0 < M.order) (known : style < M.styles) where
  wanted_below : (i : ℕ) → i < length M.places → (v : ℕ) → (P.cell (N.place M i) style).wanted ≡ Some v → v < M.order
  wanted_below i h = ((proper.each_place i h).cells_below style known).wanted_below

  pub none_enabled : NoneRefuses cells values (length cells) → Enabled (test_and_flip M) (λ p. get_or values p 0) style
  none_enabled none = record {
    is_transition = known;
    at_each_place = λ p h.
        meets M.order (P.cell (N.place M p) style).wanted (get_or values p 0) (wanted_below p h)
        (λ unwanted. none p (omega (arith, row_count M style cells row)) (subst (λ c. P.Unwanted c.wanted (get_or values p 0)) (sym (cell_is M style cells row p h)) unwanted));
  }

  pub enabled_none : Enabled (test_and_flip M) (λ p. get_or values p 0) style → NoneRefuses cells values (length cells)
  enabled_none on p h refuses =
      let within : p < length M.places = omega (arith, row_count M style cells row) in
      frees M.order (P.cell (N.place M p) style).wanted (get_or values p 0) (below p) (wanted_below p within) (on.at_each_place p within)
      (subst (λ c. P.Unwanted c.wanted (get_or values p 0)) (cell_is M style cells row p within) refuses)

  pub turned_leads : NoneRefuses cells values (length cells) → (after : List ℕ) → Turned M.order cells values (length cells) after → Leads (test_and_flip M) (λ p. get_or values p 0) style (λ p. get_or after p 0)
  turned_leads none after turned = record {
    enabled = none_enabled none;
    moved = λ p h.
        turned.turned p (omega (arith, row_count M style cells row)) ∙ ap (λ c. (get_or values p 0 + c.turn) % M.order) (cell_is M style cells row p h);
  }

  -- a place that refuses does not let the transition be enabled
  pub refusing_disables : (q : Refusing) → FirstRefuses cells values q → Enabled (test_and_flip M) (λ p. get_or values p 0) style → ⊥
  refusing_disables q first on =
      enabled_none on q.place first.within (subst₂ P.Unwanted (sym first.wanting) first.showing first.differing)

-- that a style is free, in the words of runs and of markings
module _ (M : N.Net) where
  row_long : (style : ℕ) → length M.places ≡ length (map (λ p. P.cell p style) M.places)
  row_long style = sym (length-map M.places (λ p. P.cell p style))

  pub free_accepts : (run : List ℕ) (style : ℕ) (values : List ℕ) → values ≡ showing M run → style < M.styles → Free M values style → Accepts M run style
  free_accepts run style values shown known is_free =
      row_accepts M run style _ values refl shown known (subst (NoneRefuses (map (λ p. P.cell p style) M.places) values) (row_long style) is_free)

  pub accepts_free : (run : List ℕ) (style : ℕ) (values : List ℕ) → values ≡ showing M run → Accepts M run style → Free M values style
  accepts_free run style values shown accepts i h refuses = accepts.free i h (refuses_row M run style _ values refl shown i h refuses)

  pub free_enabled : (style : ℕ) (values : List ℕ) → N.Proper M → ((i : ℕ) → get_or values i 0 < M.order) → style < M.styles → Free M values style → Enabled (test_and_flip M) (λ p. get_or values p 0) style
  free_enabled style values proper below known is_free =
      none_enabled M style _ values refl proper below known (subst (NoneRefuses (map (λ p. P.cell p style) M.places) values) (row_long style) is_free)

  pub enabled_free : (style : ℕ) (values : List ℕ) → N.Proper M → ((i : ℕ) → get_or values i 0 < M.order) → style < M.styles → Enabled (test_and_flip M) (λ p. get_or values p 0) style → Free M values style
  enabled_free style values proper below known on =
      subst (NoneRefuses (map (λ p. P.cell p style) M.places) values) (sym (row_long style)) (enabled_none M style _ values refl proper below known on)

module _ {W : Type 0} (w : Ghosts W) (net : Net W w) where
  -- a fresh galley shows the start values
  pub stands_fresh : N.Proper (view w net) → (values : List W) → map w.number values ≡ map (λ p. p.start) (view w net).places → Stands w net values []
  stands_fresh proper values starts = record {
    accepted = accepted_none (view w net);
    showing = starts ∙ same_lists _ _ long each;
  }
    where
      long : length (map (λ p. p.start) (view w net).places) ≡ length (showing (view w net) [])
      long = length-map (view w net).places (λ p. p.start) ∙ sym (length-map (view w net).places (λ p. P.shows w.K p (position w.K [])))

      each : (i d : ℕ) → i < length (map (λ p. p.start) (view w net).places) → get_or (map (λ p. p.start) (view w net).places) i d ≡ get_or (showing (view w net) []) i d
      each i d h =
          let within : i < length (view w net).places = omega (arith, length-map (view w net).places (λ p. p.start)) in
          get_or-map (λ p. p.start) (view w net).places i (record { start = 0; cells = [] }) d within
          ∙ sym (shows_start w.K (N.place (view w net) i) (proper.each_place i within).start_below)
          ∙ sym (shown_at (view w net) [] i d within)

  -- a galley that has set a run, and then accepts a style, has set the longer run
  pub stands_next : (values after : List W) (run : List ℕ) (style : ℕ) → Accepts (view w net) run style → Stands w net values run → map w.number after ≡ showing (view w net) (run ++ style ∷ []) → Stands w net after (run ++ style ∷ [])
  stands_next values after run style accepts so shows = record {
    accepted = accepted_more (view w net) run style so.accepted accepts;
    showing = shows;
  }
