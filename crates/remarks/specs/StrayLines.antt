-- What standard error says of a segment that is outside, beside the two lines of the refusal.
use Rattle.std.specs.Prelude.{ℕ, ℤ, Bool, true, false, List, [], ◌∷◌, ◌++◌, codes, decimal}
use Rattle.mm_decimal.specs.MetresTexts.{mm_text}
use Rattle.plane_base.specs.declared.shapes.Pt.{Pt}
use Rattle.remarks.specs.declared.stray_lines.Stray.{Stray}

-- two coordinates in metres
abbrev pub pair_words : ℤ → ℤ → List ℕ
pair_words x y = mm_text x ++ 32 ∷ mm_text y

-- a place in metres
abbrev pub place_words : Pt → List ℕ
place_words p = pair_words p.x p.y

-- a number after a text, and from where to where
abbrev pub extent_line : List ℕ → ℕ → Pt → Pt → List ℕ
extent_line before number from to = before ++ decimal number ++ codes ", from " ++ place_words from ++ codes " to "
    ++ place_words to ++ codes "\n"

-- where the segment is
abbrev pub segment_line : Stray → List ℕ
segment_line stray = extent_line (codes "tinmove: it is on line ") stray.line stray.from stray.to

-- how many triangles there are, and where
abbrev pub box_line : Stray → List ℕ
box_line stray = extent_line (codes "tinmove: triangles ") stray.triangles stray.least stray.greatest

-- whether the layer may have been carried already
abbrev pub target_line : Bool → List ℕ
target_line false = []
target_line true =
    codes "tinmove: the whole layer is where the triangles are carried to: carried already, or --inverse?\n"

-- whether the layer may be in degrees
abbrev pub degree_line : Bool → List ℕ
degree_line false = []
degree_line true = codes "tinmove: the layer's coordinates look like degrees, and are read as metres\n"

-- whether the coordinates of the layer may be exchanged
abbrev pub exchange_line : Bool → List ℕ
exchange_line false = []
exchange_line true =
    codes "tinmove: with x and y exchanged the whole layer is where the triangles are: are they exchanged?\n"

-- where a block is inserted, whose content may be in the coordinates of the map
abbrev pub insert_line : List ℕ
insert_line = codes
    "tinmove: a block is inserted there: if its content is far from there, recipes/readable_drawing.py --explode 10 makes entities of it\n"

-- what may be meant: of a place where a block is inserted, and of others
abbrev pub guess_line : Bool → Stray → List ℕ
guess_line true stray = insert_line
guess_line false stray = degree_line stray.is_small

-- of a segment, and whether it is the place where a block is inserted
abbrev pub outside_lines_of : Stray → Bool → List ℕ
outside_lines_of stray is_insert = segment_line stray ++ box_line stray ++ target_line stray.is_in_target
    ++ guess_line is_insert stray ++ exchange_line stray.is_exchanged
