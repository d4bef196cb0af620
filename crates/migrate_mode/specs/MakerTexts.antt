-- The maker: a triangulation of n by n square cells, and a layer of n lines across it, as texts.
use Rattle.std.specs.Prelude.{ℕ, ◌+◌, ◌*◌, ◌%◌, List, [], ◌∷◌, ◌++◌, map, codes, decimal, pos}
use Rattle.std.specs.List.{flat_map, join_with_byte, range_with_len}
use Rattle.mm_decimal.specs.MetresTexts.{mm_text}
use Rattle.migrate_mode.specs.declared.maker_texts.TheConstants.{COMMA}

-- the numbers 0 to n - 1, in order
abbrev pub below : ℕ → List ℕ
below n = range_with_len 0 n

-- the corners are numbered line by line, and n + 1 of them make a line
abbrev pub corner_number_of : ℕ → ℕ → ℕ → ℕ
corner_number_of n i j = j * (n + 1) + i

-- the target of the corner (i, j) in millimetres: another origin, and an offset of its own
unfoldable pub target_x_of : ℕ → ℕ → ℕ
target_x_of i j = 1000000 + 10000 * i + (7 * i + 13 * j) % 41

unfoldable pub target_y_of : ℕ → ℕ → ℕ
target_y_of i j = 2000000 + 10000 * j + (11 * i + 5 * j) % 37

-- a row of a JSON list, of these elements
abbrev pub row_text : List (List ℕ) → List ℕ
row_text elements = codes "[" ++ (join_with_byte COMMA elements ++ codes "]")

-- the row of the corner (i, j): its source in whole metres, ten metres from its neighbours, and its target in metres
unfoldable pub vertex_row : ℕ → ℕ → List ℕ
vertex_row i j = row_text (decimal (10 * i) ∷ decimal (10 * j) ∷ mm_text (pos (target_x_of i j))
    ∷ mm_text (pos (target_y_of i j)) ∷ [])

-- the row of a triangle, of the numbers of its three corners
unfoldable pub triangle_row : ℕ → ℕ → ℕ → List ℕ
triangle_row first second third = row_text (decimal first ∷ decimal second ∷ decimal third ∷ [])

-- the rows of the two triangles of the cell whose first corner is (i, j); they share its diagonal
abbrev pub cell_rows : ℕ → ℕ → ℕ → List (List ℕ)
cell_rows n i j =
    triangle_row (corner_number_of n i j) (corner_number_of n (i + 1) j) (corner_number_of n (i + 1) (j + 1))
    ∷ triangle_row (corner_number_of n i j) (corner_number_of n (i + 1) (j + 1)) (corner_number_of n i (j + 1)) ∷ []

-- the rows of all corners, in order of their numbers
abbrev pub vertex_rows : ℕ → List (List ℕ)
vertex_rows n = flat_map (λ j. map (λ i. vertex_row i j) (below (n + 1))) (below (n + 1))

-- the rows of all triangles, cell by cell in the same order
abbrev pub triangle_rows : ℕ → List (List ℕ)
triangle_rows n = flat_map (λ j. flat_map (λ i. cell_rows n i j) (below n)) (below n)

-- the members of a triangulation file before its lists, and the key of the first list
unfoldable pub tin_front : List ℕ
tin_front =
    codes
    "{\"file_type\":\"triangulation_file\",\"format_version\":\"1.1\",\"transformed_components\":[\"horizontal\"],\"vertices_columns\":[\"source_x\",\"source_y\",\"target_x\",\"target_y\"],\"triangles_columns\":[\"idx_vertex1\",\"idx_vertex2\",\"idx_vertex3\"],\"vertices\":["

-- what comes between both lists
unfoldable pub tin_between : List ℕ
tin_between = codes "],\"triangles\":["

-- what ends the file
unfoldable pub tin_end : List ℕ
tin_end = codes "]}"

-- the triangulation file of n by n cells
abbrev pub tin_text : ℕ → List ℕ
tin_text n =
    tin_front ++ (join_with_byte COMMA (vertex_rows n)
    ++ (tin_between ++ (join_with_byte COMMA (triangle_rows n) ++ tin_end)))

-- the line of this number of a layer of n: from the left edge of the square to the right one, both ends half-way
-- between whole metres
unfoldable pub layer_line : ℕ → ℕ → List ℕ
layer_line n k =
    codes "LINESTRING (0 " ++ (decimal (10 * k + 2) ++ (codes ".5, " ++ (decimal (10 * n)
    ++ (codes " " ++ (decimal (10 * ((3 * k) % n) + 7) ++ codes ".5)\n")))))

-- the layer of n lines across n by n cells
abbrev pub layer_text : ℕ → List ℕ
layer_text n = flat_map (λ k. layer_line n k) (below n)

-- rows with a comma after each. Only private functions speak of it.
abbrev pub ended_rows : List (List ℕ) → List ℕ
ended_rows rows = flat_map (λ row. row ++ COMMA ∷ []) rows
