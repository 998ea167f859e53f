-- The text of a net and its names. Assumes nothing.
use Rattle.std.specs.Prelude.{◌≡◌, ℕ, ◌+◌, List, [], ◌∷◌, ◌++◌, map, length, Some, None, codes, decimal, Option}
use Rattle.std.specs.List.{flat_map}
use Rattle.theory.specs.Nets.{Net, Proper}
use Rattle.theory.specs.Places.{Cell, Place}
use Rattle.texts.specs.Forms.{wheel_line, styles_line, style_line}
use Rattle.texts.specs.Lines.{text_of}
use Rattle.texts.specs.Names.{Sheet}

-- the byte of a digit
abbrev pub digit : ℕ → ℕ
digit d = 48 + d

-- the wanted digit, or a full stop if the style is not tested
abbrev pub wanted_byte : Option ℕ → ℕ
wanted_byte None = 46
wanted_byte (Some w) = digit w

-- a cell: a space, what is wanted, and the turn digit
abbrev pub cell_bytes : Cell → List ℕ
cell_bytes c = 32 ∷ wanted_byte c.wanted ∷ digit c.turn ∷ []

-- the start digit and the cells
abbrev pub place_line : Place → List ℕ
place_line p = codes "place=" ++ (digit p.start ∷ flat_map cell_bytes p.cells)

abbrev pub places_line : ℕ → List ℕ
places_line p = codes "places=" ++ decimal p

abbrev pub net_opening : List ℕ
net_opening = codes "net=1"

abbrev pub net_end : List ℕ
net_end = codes "end=net"

-- the lines of a net text, in their order
abbrev pub net_lines : Net → List (List ℕ) → List (List ℕ)
net_lines N names = net_opening ∷ wheel_line N.order ∷ styles_line N.styles ∷ (map style_line names ++ (places_line (length N.places) ∷ (map place_line N.places ++ (net_end ∷ []))))

abbrev pub net_text : Net → List (List ℕ) → List ℕ
net_text N names = text_of (net_lines N names)

-- a net that keeps the limits, and a name for each of its styles, no two equal
pub record Named (N : Net) (names : List (List ℕ)) : Type 0 where
  pub proper : Proper N
  pub sheet : Sheet names
  pub one_name_each : length names ≡ N.styles

-- the text is the net text of a net on the wheel of order k
abbrev pub IsNetText : ℕ → List ℕ → Type 0
IsNetText k text = (N : Net) × (names : List (List ℕ)) × Named N names × (N.order ≡ k) × (text ≡ net_text N names)

-- bytes are the text of at most one named net
abbrev pub OneNet : Type 0
OneNet = (N M : Net) (names others : List (List ℕ)) → Named N names → Named M others → net_text N names ≡ net_text M others → (N ≡ M) × (names ≡ others)
