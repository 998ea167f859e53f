-- Going through one style's cells, place by place. Assumes nothing.
use Rattle.std.proofs.Common.{◌≡◌, ℕ, ◌+◌, ◌%◌, ◌<◌, true, false, List, map, length, get_or, set, is_some, Some, None, Option, sym, ap, ◌∙◌, ⊎_elim, arith, MatchOption}
use Rattle.std.proofs.lemmas.List.{length-set, get_or-map, get_or-set_same, get_or-set_other}
use Rattle.std.proofs.lemmas.Bool.{cases_eq, true≢false, false≢true}
use Rattle.theory.specs.Places.{Cell}
use Rattle.galley.specs.Rows.{Turned}
use Rattle.net.specs.Views.{idle}

-- an element that was read, under a function
pub read_mapped : {X Y : Type 0} (f : X → Y) (xs : List X) (i : ℕ) (x : X) (e : Y) → i < length xs → x ≡ get_or xs i x → get_or (map f xs) i e ≡ f x
read_mapped f xs i x e h read = get_or-map f xs i x e h ∙ ap f (sym read)

-- one more value has turned
pub turned_more : (k : ℕ) (cells : List Cell) (before now : List ℕ) (i v : ℕ) → i < length now → v ≡ (get_or now i 0 + (get_or cells i idle).turn) % k → Turned k cells before i now → Turned k cells before (i + 1) (set now i v)
turned_more k cells before now i v h value so_far = record {
  long = length-set now i v ∙ so_far.long;
  turned = λ j below.
      ⊎_elim
      (λ e.
      ap (λ z. get_or (set now i v) z 0) e ∙ get_or-set_same now i v 0 h ∙ value
      ∙ ap (λ z. (z + (get_or cells i idle).turn) % k) (so_far.kept i (λ never. omega arith))
      ∙ ap (λ z. (get_or before z 0 + (get_or cells z idle).turn) % k) (sym e))
      (λ ne. get_or-set_other now i j v 0 ne ∙ so_far.turned j (omega arith))
      (cases_eq j i);
  kept = λ j past.
      get_or-set_other now i j v 0 (λ e. past (omega arith)) ∙ so_far.kept j (λ below. past (omega arith));
}

-- what holds of an option by its cases, once the case is known
pub none_case : {X : Type 0} (o : Option X) (P : Type 0) (Q : X → Type 0) → MatchOption o P Q → is_some o ≡ false → P
none_case None P Q c e = c
none_case (Some x) P Q c e = absurd (true≢false e)

pub some_case : {X : Type 0} (o : Option X) (P : Type 0) (Q : X → Type 0) → MatchOption o P Q → is_some o ≡ true → (x : X) × Q x
some_case None P Q c e = absurd (false≢true e)
some_case (Some x) P Q c e = (x, c)
