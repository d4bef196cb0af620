-- The paths of a sheet, one after the other.
use Rattle.std.proofs.Common.{◌≡◌, ℕ, zero, suc, ◌+◌, ◌<◌, ◌≤◌, List, [], ◌∷◌, ◌++◌, take, drop, length, get_or}
use Rattle.std.proofs.Common.{append_assoc, take-append-drop, ap, sym, ◌∙◌, subst, arith}
use Rattle.std.proofs.Math.Seq.{drop-cons}
use Rattle.std.proofs.lemmas.List.{take_more, append-nil, length-take-le, get_or_default}
use Rattle.plane_base.specs.declared.shapes.Pt.{Pt}
use Rattle.sheet_base.specs.declared.paths.PathRow.{PathRow}
use Rattle.sheet_base.specs.PointHeights.{Height}
use Rattle.sheet_base.specs.declared.paths.PathKind.TheVariants.{Dot}
use Rattle.sheet_base.specs.Sheets.{Contents, IsPathFrom, AreTiled, IsSheet}
use Rattle.sheet_pieces.specs.SheetSegments.{PathVertex, path_vertices, vertices_from, segments_begun}
use Rattle.sheet_pieces.proofs.PathSegments.{begun_append}
use Rattle.sheet_base.proofs.TiledPaths.{tiled_up}

-- ---- the paths of a sheet
pub record IsRowOf (row : PathRow) (past : ℕ) : Type 0 where
  pub path : IsPathFrom row.first row
  pub upto : row.past ≤ past

abbrev pub IsRowAt : List PathRow → ℕ → PathRow → Type 0
IsRowAt rows i row = row ≡ get_or rows i row

row_at : (rows : List PathRow) (first past i : ℕ) (row : PathRow) → AreTiled rows first past → i < length rows
    → IsRowAt rows i row → IsRowOf row past
row_at [] first past i row h k e = absurd (omega arith)
row_at (r ∷ rows) first past zero row h k e = grind (arith, tiled_up)
row_at (r ∷ rows) first past (suc i) row h k e = row_at rows r.past past i row h.1 (omega arith) e

-- ---- the vertices of paths
vertices_more : (points : List Pt) (heights : List Height) (n : ℕ) (rs bs : List PathRow)
    → vertices_from points heights n (rs ++ bs) ≡ vertices_from points heights n rs
    ++ vertices_from points heights (n + length rs) bs
vertices_more points heights n [] bs = ap (λ (m : ℕ). vertices_from points heights m bs) (omega arith)
vertices_more points heights n (row ∷ rs) bs = grind (arith, append_assoc, (vertices_more points heights (n + 1) rs bs))

counted : (rows : List PathRow) (i : ℕ) → i ≤ length rows → 0 + length (take i rows) ≡ i
counted rows i h = grind (arith, length-take-le)

-- ---- a row that is read
abbrev pub no_row : PathRow
no_row = record { kind = Dot; first = 0; past = 0 }

pub row_read : (rows items : List PathRow) (i : ℕ) → items ≡ rows → i < length items
    → IsRowAt rows i (get_or items i no_row)
row_read rows items i e h = subst (λ (xs : List PathRow). IsRowAt xs i (get_or items i no_row)) e
    (get_or_default items i no_row (get_or items i no_row) h)

pub row_of : (sheet : Contents) (points : List Pt) (items : List PathRow) (i : ℕ) → IsSheet sheet
    → points ≡ sheet.points → items ≡ sheet.paths → i < length items → IsRowOf (get_or items i no_row) (length points)
row_of sheet points items i is ep er h =
    subst (λ (n : ℕ). IsRowOf (get_or items i no_row) n) (ap (λ (ps : List Pt). length ps) (sym ep))
    (row_at sheet.paths 0 (length sheet.points) i (get_or items i no_row) is.tiled
    (subst (λ (rs : List PathRow). i < length rs) er h) (row_read sheet.paths items i er h))

below : (i n : ℕ) → i < n → i ≤ n
below i n h = omega arith

-- ---- one path more
pub one_path_more : (points : List Pt) (heights : List Height) (rows : List PathRow) (i : ℕ) (row : PathRow)
    → i < length rows
    → IsRowAt rows i row → vertices_from points heights 0 (take (i + 1) rows)
    ≡ vertices_from points heights 0 (take i rows)
    ++ path_vertices points heights i row
one_path_more points heights rows i row h e =
    ap (λ (xs : List PathRow). vertices_from points heights 0 xs)
    (take_more rows i row h ∙ ap (λ (last : PathRow). take i rows ++ last ∷ []) (sym e))
    ∙ vertices_more points heights 0 (take i rows) (row ∷ [])
    ∙ ap (λ (n : ℕ). vertices_from points heights 0 (take i rows) ++ (path_vertices points heights n row ++ []))
    (counted rows i (below i (length rows) h))
    ∙ ap (λ (vs : List PathVertex). vertices_from points heights 0 (take i rows) ++ vs)
    (append-nil (path_vertices points heights i row))

-- ---- the segments around those of a path
pub split_paths : (points : List Pt) (heights : List Height) (rows : List PathRow) (i : ℕ) (row : PathRow)
    → i < length rows
    → IsRowAt rows i row
    → segments_begun (vertices_from points heights 0 rows)
    ≡ segments_begun (vertices_from points heights 0 (take i rows))
    ++ (segments_begun (path_vertices points heights i row)
    ++ segments_begun (vertices_from points heights (i + 1) (drop (suc i) rows)))
split_paths points heights rows i row h e = begun
  where
    split : vertices_from points heights 0 rows ≡ vertices_from points heights 0 (take i rows)
        ++ (path_vertices points heights i row ++ vertices_from points heights (i + 1) (drop (suc i) rows))
    split =
        ap (λ (xs : List PathRow). vertices_from points heights 0 xs)
        (sym (take-append-drop i rows) ∙ ap (λ (rs : List PathRow). take i rows ++ rs)
        (drop-cons rows i row h ∙ ap (λ (first : PathRow). first ∷ drop (suc i) rows) (sym e)))
        ∙ vertices_more points heights 0 (take i rows) (row ∷ drop (suc i) rows)
        ∙ ap (λ (n : ℕ). vertices_from points heights 0 (take i rows)
        ++ (path_vertices points heights n row ++ vertices_from points heights (n + 1) (drop (suc i) rows)))
        (counted rows i (below i (length rows) h))

    begun : segments_begun (vertices_from points heights 0 rows)
        ≡ segments_begun (vertices_from points heights 0 (take i rows))
        ++ (segments_begun (path_vertices points heights i row)
        ++ segments_begun (vertices_from points heights (i + 1) (drop (suc i) rows)))
    begun = grind (arith, split, begun_append)
