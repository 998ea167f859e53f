-- The number of each refusal, and the values that come with it. Assumes nothing.
use Rattle.std.specs.Prelude.{ℕ, List, [], ◌∷◌, ◌++◌, Ok, Err, Result}
use Rattle.std.specs.declared.alloc.AllocError.{AllocError}
use Rattle.theory.specs.Outcomes.{Outcome, done, refused}
use Rattle.galley.specs.declared.galleys.refusals.SetRefusal.{SetRefusal}
use Rattle.galley.specs.declared.galleys.refusals.SetRefusal.TheVariants.{UnknownStyle, PlaceRefuses}
use Rattle.galley.specs.declared.galleys.refusals.TryRefusal.{TryRefusal}
use Rattle.galley.specs.declared.galleys.refusals.TryRefusal.TheVariants.{RunTooLong, UnknownStyle as UnknownStep}

-- want of memory has no number among the refusals proper; 99 stands for it where a number is written
abbrev pub stand_outcome : {A : Type 0} → Result A AllocError → Outcome A
stand_outcome (Ok x) = done x
stand_outcome (Err _) = refused 99 []

abbrev pub set_outcome : {A : Type 0} → Result A SetRefusal → Outcome (Unit {0})
set_outcome (Ok x) = done tt
set_outcome (Err UnknownStyle) = refused 3 (0 ∷ [])
set_outcome (Err (PlaceRefuses q)) = refused 7 (q.place ∷ q.shown ∷ q.wanted ∷ [])

abbrev pub try_outcome : Result ℕ TryRefusal → Outcome ℕ
try_outcome (Ok count) = done count
try_outcome (Err (RunTooLong length)) = refused 2 (length ∷ [])
try_outcome (Err (UnknownStep step)) = refused 3 (step ∷ [])

-- the run that has been set after Set was called: with the style if it was accepted, else the same
abbrev pub run_after : {A : Type 0} → Outcome A → List ℕ → ℕ → List ℕ
run_after (done x) run style = run ++ style ∷ []
run_after (refused number values) run style = run
