-- The runs of vertices, and the segments that are inside, one list after the other.
use Rattle.std.proofs.Common.{◌≡◌, ℕ, ◌+◌, List, [], ◌∷◌, ◌++◌, length, ap, arith}
use Rattle.std.proofs.lemmas.List.{length-append}
use Rattle.sheet_base.specs.PointHeights.{Position}
use Rattle.tin_base.specs.Triangulation.{Triangulation}
use Rattle.sheet_pieces.specs.SheetSegments.{SheetSegment, PathVertex}
use Rattle.sheet_pieces.specs.SheetPieces.{AreInside}
use Rattle.sheet_pieces.specs.SheetImages.{AreRuns, joined_runs, begins_from}

-- ---- runs
pub runs_more : (tin : Triangulation) (vs ws : List PathVertex) (rs ss : List (List Position)) → AreRuns tin vs rs
    → AreRuns tin ws ss → AreRuns tin (vs ++ ws) (rs ++ ss)
runs_more tin [] ws [] ss h k = k
runs_more tin (v ∷ vs) ws (r ∷ rs) ss h k = (h.0, runs_more tin vs ws rs ss h.1 k)
runs_more tin vs ws rs ss h k = absurd h

pub begins_more : {X : Type 0} (n : ℕ) (rs ss : List (List X))
    → begins_from n (rs ++ ss) ≡ begins_from n rs ++ begins_from (n + length (joined_runs rs)) ss
begins_more n [] ss = ap (λ (m : ℕ). begins_from m ss) (omega arith)
begins_more n (r ∷ rs) ss = grind (arith, length-append, (begins_more (n + length r) rs ss))

-- ---- inside
pub inside_more : (tin : Triangulation) (ss ts : List SheetSegment) → AreInside tin ss → AreInside tin ts
    → AreInside tin (ss ++ ts)
inside_more tin [] ts h k = k
inside_more tin (s ∷ ss) ts h k = (h.0, inside_more tin ss ts h.1 k)
