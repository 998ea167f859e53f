-- Bytes put into a buffer one after the other. Assumes nothing.
use Rattle.std.proofs.Common.{◌≡◌, ℕ, ◌+◌, ◌<◌, ◌≤◌, List, ◌++◌, length, get_or, take, drop, sym, ap, ◌∙◌, subst, ap₂, arith}
use Rattle.std.proofs.lemmas.List.{append_assoc, length-append, length-drop, drop-drop, take_all, take-append-drop}
use Rattle.std.proofs.lemmas.List.Folds.{length-flat_map-take}
use Rattle.std.specs.List.{flat_map}
use Rattle.net_writing.specs.Putting.{Puts, Room, written, left}
use Rattle.net_writing.specs.declared.cursors.Cursor.{Cursor}
use Rattle.net_writing.proofs.Joins.{joined_take_more}

-- where all bytes have room, the first have
pub room_first : {cursor : Cursor} {first : List ℕ} (second : List ℕ) → Room cursor (first ++ second) → Room cursor first
room_first {first = first} second room = record { fits = omega (arith, room.fits, length-append first second) }

-- and so have the others after them
pub room_then : {before mid : Cursor} {first second : List ℕ} → Puts before first mid → Room before (first ++ second) → Room mid second
room_then {before} {first = first} {second} p room = record {
  fits = omega (arith, room.fits, length-append first second, ap length p.leaves, length-drop (length first) (left before));
}

-- bytes put after bytes
pub puts_then : {before mid after : Cursor} {first second : List ℕ} → Puts before first mid → Puts mid second after → Puts before (first ++ second) after
puts_then {before} {first = first} {second} p q = record {
  same_buffer = q.same_buffer ∙ p.same_buffer;
  writes = q.writes ∙ ap (λ bs. bs ++ second) p.writes ∙ append_assoc (written before) first second;
  leaves =
      q.leaves ∙ ap (drop (length second)) p.leaves
      ∙ drop-drop (length second) (length first) (left before)
      ∙ ap (λ n. drop n (left before)) (sym (length-append first second));
}

-- all that a buffer holds, once the bytes were put at its front
pub puts_front : {before after : Cursor} (bytes : List ℕ) → before.at ≡ 0 → Puts before bytes after → after.buffer.now ≡ bytes ++ drop (length bytes) before.buffer.now
puts_front {before} {after} bytes front p =
    sym (take-append-drop after.at after.buffer.now)
    ∙ ap₂ ◌++◌ (p.writes ∙ ap (λ at. take at before.buffer.now ++ bytes) front) (p.leaves ∙ ap (λ at. drop (length bytes) (drop at before.buffer.now)) front)

module _ {X : Type 0} (f : X → List ℕ) (xs : List X) {before : Cursor} where
  -- where all pieces of a row have room, the next has
  pub room_next : {mid : Cursor} (i : ℕ) (d : X) → i < length xs → Room before (flat_map f xs) → Puts before (flat_map f (take i xs)) mid → Room mid (f (get_or xs i d))
  room_next i d h room p = record {
    fits = omega (arith, room.fits, length-flat_map-take f xs i d h, ap length p.leaves, length-drop (length (flat_map f (take i xs))) (left before));
  }

  -- one piece more
  pub puts_more : {mid after : Cursor} (i : ℕ) (d : X) → i < length xs → Puts before (flat_map f (take i xs)) mid → Puts mid (f (get_or xs i d)) after → Puts before (flat_map f (take (i + 1) xs)) after
  puts_more {after = after} i d h p q =
      subst (λ bytes. Puts before bytes after) (sym (joined_take_more f xs i d h)) (puts_then p q)

  -- all pieces
  pub puts_all : {after : Cursor} (i : ℕ) → length xs ≤ i → Puts before (flat_map f (take i xs)) after → Puts before (flat_map f xs) after
  puts_all {after} i h p = subst (λ bytes. Puts before bytes after) (ap (flat_map f) (take_all i xs h)) p
