-- Setting a run style by style, as far as it goes. Assumes nothing.
use Rattle.std.proofs.Common.{◌≡◌, ℕ, ◌+◌, ◌%◌, ◌<◌, List, [], ◌∷◌, ◌++◌, map, length, get_or, take, sym, ap, ◌∙◌, subst, arith}
use Rattle.std.proofs.lemmas.List.{append_assoc, take_more}
use Rattle.theory.proofs.Owed.{owed_refusal}
use Rattle.theory.proofs.Sequences.{after, after_push, fires_push, fires_last, enabled_same}
use Rattle.theory.specs.Nets as N
use Rattle.theory.specs.Places as P
use Rattle.theory.specs.Playing.{Longest}
use Rattle.theory.specs.TestAndFlip.{Marking, Fires, LongestFiring, test_and_flip}
use Rattle.wheel.specs.declared.turning.Wheel.{Ghosts}
use Rattle.galley.specs.Rows.{NoneRefuses, FirstRefuses, Turned}
use Rattle.galley.specs.Standing.{Stands}
use Rattle.net.specs.Views.{view}
use Rattle.galley.specs.declared.galleys.refusals.Refusing.{Refusing}
use Rattle.net.specs.declared.nets.Net.{Net}
use Rattle.galley.proofs.Playing.{row_accepts, row_owes, row_turned, stands_next, turned_leads, refusing_disables}

-- the values as a marking
abbrev pub marks : {W : Type 0} → Ghosts W → List W → Marking
marks w values = λ p. get_or (map w.number values) p 0

-- the first steps of the run have been set, from the values at the start to those now
pub record Going {W : Type 0} (w : Ghosts W) (net : Net W w) (start now : List W) (run : List ℕ) (steps : ℕ) : Type 0 where
  pub stands : (before : List ℕ) → Stands w net start before → Stands w net now (before ++ take steps run)
  pub fires : Fires (test_and_flip (view w net)) (marks w start) (take steps run)
  pub marking : (p : ℕ) → p < length (view w net).places → marks w now p ≡ after (test_and_flip (view w net)) (marks w start) (take steps run) p

module _ {W : Type 0} (w : Ghosts W) (net : Net W w) (start : List W) (run : List ℕ) where
  -- a step of the run, its style's cells, and the values now
  module _ (now : List W) (steps : ℕ) (going : Going w net start now run steps) (here : steps < length run) (cells : List P.Cell) (row : cells ≡ map (λ p. P.cell p (get_or run steps 0)) (view w net).places) (proper : N.Proper (view w net)) (below : (i : ℕ) → get_or (map w.number now) i 0 < w.K) (known : get_or run steps 0 < (view w net).styles) where
    longer : take (steps + 1) run ≡ take steps run ++ get_or run steps 0 ∷ []
    longer = take_more run steps 0 here

    pub going_more : (next : List W) → NoneRefuses cells (map w.number now) (length cells) → Turned w.K cells (map w.number now) (length cells) (map w.number next) → Going w net start next run (steps + 1)
    going_more next none turned =
        let style = get_or run steps 0 in
        let leads = turned_leads (view w net) style cells (map w.number now) row proper below known none (map w.number next) turned in
        record {
          stands = λ before so.
              let so_now = going.stands before so in
              subst (Stands w net next) (append_assoc before (take steps run) (style ∷ []) ∙ ap (λ xs. before ++ xs) (sym longer))
              (stands_next w net now next (before ++ take steps run) style
              (row_accepts (view w net) (before ++ take steps run) style cells (map w.number now) row so_now.showing known none)
              so_now
              (row_turned (view w net) (before ++ take steps run) style cells (map w.number now) row so_now.showing proper known (map w.number next) turned));
          fires =
              subst (Fires (test_and_flip (view w net)) (marks w start)) (sym longer)
              (fires_push (test_and_flip (view w net)) (marks w start) (take steps run) style going.fires
              (enabled_same (test_and_flip (view w net)) (marks w now) _ style going.marking leads.enabled));
          marking = λ p h.
              leads.moved p h
              ∙ ap (λ v. (v + (test_and_flip (view w net)).c p style) % w.K) (going.marking p h)
              ∙ ap (λ m. m p) (sym (after_push (test_and_flip (view w net)) (marks w start) (take steps run) style))
              ∙ ap (λ ts. after (test_and_flip (view w net)) (marks w start) ts p) (sym longer);
        }

    -- a place that refuses ends it
    module _ (q : Refusing) (first : FirstRefuses cells (map w.number now) q) where
      pub stopped_longest : (before : List ℕ) → Stands w net start before → Longest (view w net) before run steps
      stopped_longest before so =
          let so_now = going.stands before so in
          record {
            within = omega arith;
            accepted = so_now.accepted;
            no_further = λ _ accepts.
                owed_refusal (row_owes (view w net) (before ++ take steps run) (get_or run steps 0) cells (map w.number now) row so_now.showing known q first) accepts;
          }

      pub stopped_firing : LongestFiring (test_and_flip (view w net)) (marks w start) run steps
      stopped_firing = record {
        within = omega arith;
        fires = going.fires;
        no_further = λ _ on.
            refusing_disables (view w net) (get_or run steps 0) cells (map w.number now) row proper below known q first
            (enabled_same (test_and_flip (view w net)) _ (marks w now) (get_or run steps 0) (λ p h. sym (going.marking p h))
            (fires_last (test_and_flip (view w net)) (marks w start) (take steps run) (get_or run steps 0) (subst (Fires (test_and_flip (view w net)) (marks w start)) longer on)));
      }

  -- a run that is through
  module _ (now : List W) (going : Going w net start now run (length run)) where
    pub whole_longest : (before : List ℕ) → Stands w net start before → Longest (view w net) before run (length run)
    whole_longest before so = record {
      within = omega arith;
      accepted = (going.stands before so).accepted;
      no_further = λ more. absurd (omega arith);
    }

    pub whole_firing : LongestFiring (test_and_flip (view w net)) (marks w start) run (length run)
    whole_firing = record {
      within = omega arith;
      fires = going.fires;
      no_further = λ more. absurd (omega arith);
    }
