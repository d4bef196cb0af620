-- What the sheet so far holds, one path more.
use Rattle.std.proofs.Common.{◌≡◌, ℕ, ◌+◌, List, [], ◌∷◌, ◌++◌, length, refl, sym, ap, subst, arith, append-nil}
use Rattle.std.proofs.Common.{length-append}
use Rattle.std.proofs.lemmas.Grind.{flat_map-append}
use Rattle.std.proofs.lemmas.List.{length-map, map-append}
use Rattle.std.proofs.lemmas.List.Sums.{sum_by_push}
use Rattle.sheet_base.specs.PointHeights.{Position, points_of, heights_of}
use Rattle.sheet_base.specs.declared.paths.PathKind.{PathKind}
use Rattle.sheet_base.specs.declared.paths.PathRow.{PathRow}
use Rattle.sheet_base.specs.declared.edits.Edit.{Edit}
use Rattle.gj_layer.specs.declared.pass.PathsRead.{PathsRead}
use Rattle.gj_layer.specs.Paths.{Path, Part, nothing, joint_part, rows_from, text_for, vertices_of}
use Rattle.gj_layer.specs.InsideNodes.{Holds, HoldsMore, path_part}

-- the row of a path whose first point has this number
abbrev pub row_at : ℕ → Path → PathRow
row_at first path = record { kind = path.kind; first = first; past = first + length path.positions }

rows_more : (first : ℕ) (paths : List Path) (last : Path)
    → rows_from first (paths ++ last ∷ []) ≡ rows_from first paths
    ++ row_at (first + length (vertices_of paths)) last ∷ []
rows_more first [] last =
    let same : first + 0 ≡ first = omega arith in ap (λ n. row_at n last ∷ []) (sym same)
rows_more first (path ∷ paths) last =
    grind (arith, length-append, (rows_more (first + length path.positions) paths last))

pub length-rows_from : (first : ℕ) (paths : List Path) → length (rows_from first paths) ≡ length paths
length-rows_from first [] = refl
length-rows_from first (path ∷ paths) = let more =
    length-rows_from (first + length path.positions) paths in omega (arith, more)

-- how many points there are
pub length-vertices : (vertices : List Position) → length (points_of vertices) ≡ length vertices
length-vertices vertices = length-map vertices (λ (vertex : Position). vertex.point)

module _ (old new : PathsRead) (part : Part) (positions : List Position) (held : HoldsMore old part positions)
    (kind : PathKind) (lost start end : ℕ) where
  abbrev now_path : Path
  now_path = record { kind = kind; positions = positions; lost = lost; start = start; end = end }

  all_so_far : vertices_of part.paths ++ positions ≡ vertices_of (part.paths ++ now_path ∷ []) ++ []
  all_so_far = grind (arith, append-nil, flat_map-append)

  -- the points after the part are a path
  pub held_end : (first past number : ℕ) → first ≡ length (vertices_of part.paths)
      → past ≡ length old.points.items → number ≡ length old.paths.items
      → new.paths.items ≡ old.paths.items ++ (let row : PathRow =
      record { kind = kind; first = first; past = past } in row) ∷ [] → new.points.items ≡ old.points.items
      → new.heights ≡ old.heights
      → new.edits.items ≡ old.edits.items ++ (let edit : Edit =
      record { start = start; end = end; what = text_for kind number } in edit) ∷ [] → new.inexact ≡ old.inexact + lost
      → Holds new (joint_part part (path_part (length part.paths) now_path))
  held_end first past number first_is past_is number_is rows kept levels edits sum =
      grind (arith, length-vertices, length-append, length-rows_from, rows_more, all_so_far, sum_by_push)

-- nothing more
pub held_nothing : (pass : PathsRead) (part : Part) → Holds pass part → Holds pass (joint_part part nothing)
held_nothing pass part held = grind (arith, append-nil)

-- some points more
pub held_more : (old new : PathsRead) (part : Part) (positions : List Position) → Holds old part
    → new.paths.items ≡ old.paths.items → new.points.items ≡ old.points.items ++ points_of positions
    → new.heights ≡ old.heights ++ heights_of positions → new.edits.items ≡ old.edits.items
    → new.inexact ≡ old.inexact → HoldsMore new part positions
held_more old new part positions held paths more levels edits inexact = grind (arith, append-nil, map-append)

-- where the points of a path begin that follows a part
pub held_first : (pass : PathsRead) (part : Part) → Holds pass part
    → length pass.points.items ≡ length (vertices_of part.paths)
held_first pass part held = grind (arith, append-nil, length-vertices)

-- and where their heights begin
pub held_even : (pass : PathsRead) (part : Part) → Holds pass part → length pass.heights ≡ length pass.points.items
held_even pass part held = grind (arith, append-nil, length-map, held_first)

pub held_empty : (pass : PathsRead) (part : Part) (positions : List Position) → positions ≡ []
    → HoldsMore pass part positions
    → Holds pass (joint_part part nothing)
held_empty pass part positions none held = held_nothing pass part (subst (HoldsMore pass part) none held)
