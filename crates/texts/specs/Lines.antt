-- Texts and their lines. A text is a list of bytes, and a line is ended by a line feed. Assumes nothing.
use Rattle.std.specs.Prelude.{ℕ, Bool, true, false, List, [], ◌∷◌, ◌++◌, ◌==◌, slice_index_or}
use Rattle.std.specs.List.{flat_map}

abbrev pub line_feed : ℕ
line_feed = 10

-- a line with its line feed
abbrev pub ended : List ℕ → List ℕ
ended line = line ++ (line_feed ∷ [])

-- the text of these lines
abbrev pub text_of : List (List ℕ) → List ℕ
text_of ls = flat_map ended ls

-- one more byte in front, where it is a line feed and where it is not; a byte that no line feed follows is in no line
abbrev pub in_front : Bool → ℕ → List (List ℕ) → List (List ℕ)
in_front true byte ls = [] ∷ ls
in_front false byte [] = []
in_front false byte (l ∷ ls) = (byte ∷ l) ∷ ls

-- the lines of a text: what stands before each line feed
abbrev pub lines : List ℕ → List (List ℕ)
lines [] = []
lines (byte ∷ bytes) = in_front (byte == line_feed) byte (lines bytes)

-- line number i, counted from 0
abbrev pub line : List ℕ → ℕ → List ℕ
line text i = slice_index_or (lines text) i []
