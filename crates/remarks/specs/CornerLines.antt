-- What standard error says of the triangles of a triangulation.
use Rattle.std.specs.Prelude.{ℕ, List, ◌++◌, ◌||◌, ◌==◌, codes, decimal, nat_lt, if◌then◌else◌}
use Rattle.shown_text.specs.Texts.{shown_of}

-- which row a corner of a triangle has in the file, and what this row is there
abbrev pub corner_line_of : ℕ → ℕ → List ℕ → List ℕ
corner_line_of triangle row written = codes "tinmove: triangle " ++ decimal triangle ++ codes " has row " ++ decimal row
    ++ codes " of vertices: " ++ shown_of written ++ codes "\n"

-- what may be meant by a number of triangles that are turned over
abbrev pub turned_words : ℕ → ℕ → List ℕ
turned_words turned triangles = if turned == triangles then codes ": are x and y exchanged in one of the frames?\n"
    else codes " triangles: the corner that they have in common is most often wrong\n"

-- how many of the triangles are turned over
abbrev pub turned_line_of : ℕ → ℕ → List ℕ
turned_line_of turned triangles = codes "tinmove: turned over: " ++ decimal turned ++ codes " of " ++ decimal triangles
    ++ turned_words turned triangles

-- what may be meant by more than one outer ring, or by a hole
abbrev pub border_words : ℕ → ℕ → List ℕ
border_words outer holes =
    if nat_lt 1 outer || nat_lt 0 holes then codes ": is a row missing?\n" else codes "\n"

-- how many outer rings and how many holes the border has
abbrev pub border_line_of : List ℕ → ℕ → ℕ → List ℕ
border_line_of name outer holes = codes "tinmove: " ++ shown_of name ++ codes ": outer rings of the border: "
    ++ decimal outer ++ codes ", holes: " ++ decimal holes ++ border_words outer holes

-- that a triangulation has no triangles
abbrev pub no_triangles_line_of : List ℕ → List ℕ
no_triangles_line_of name = codes "tinmove: " ++ shown_of name
    ++ codes ": it has no triangles: no layer can be carried by it\n"
