-- Bytes put into a buffer at a cursor. Assumes nothing.
use Rattle.std.specs.Prelude.{◌≡◌, ℕ, ◌≤◌, List, ◌++◌, length, take, drop}
use Rattle.net_writing.specs.declared.cursors.Cursor.{Cursor}

-- what the buffer holds before the cursor
abbrev pub written : Cursor → List ℕ
written cursor = take cursor.at cursor.buffer.now

-- what the buffer holds from the cursor on
abbrev pub left : Cursor → List ℕ
left cursor = drop cursor.at cursor.buffer.now

-- the bytes have room from the cursor on
pub record Room (cursor : Cursor) (bytes : List ℕ) : Type 0 where
  pub fits : length bytes ≤ length (left cursor)

-- the bytes are put at the cursor, which moves behind them in the same buffer, and all else in it is as before
pub record Puts (before : Cursor) (bytes : List ℕ) (after : Cursor) : Type 0 where
  pub same_buffer : after.buffer.ghost_name ≡ before.buffer.ghost_name
  pub writes : written after ≡ written before ++ bytes
  pub leaves : left after ≡ drop (length bytes) (left before)
