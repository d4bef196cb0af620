-- The laws of changes, and that two segments have a relation.
use Rattle.std.specs.Prelude.{◌≡◌, ◌⊎◌, ◌↔◌, ℕ, ◌<◌, ◌≤◌, pos, ◌<ℤ◌, List, length}
use Rattle.plane_base.specs.Plane.{Point}
use Rattle.tin_base.specs.declared.pieces.Piece.{Piece}
use Rattle.tin_base.specs.declared.pieces.Change.{Change}
use Rattle.tin_base.specs.declared.relations.Rel.{Rel}
use Rattle.tin_base.specs.Triangulation.{Triangulation}
use Rattle.tin_base.specs.Soundness.{IsSound}
use Rattle.tin_base.specs.Segments.{Part}
use Rattle.tin_base.specs.Pieces.{IsPieceOf}
use Rattle.tin_base.specs.Relations.{HaveRelation}
use Rattle.meet_rel.specs.Laws.{AreImages}
use Rattle.topo_check.specs.Changes.{AreAllInside, pairs, AreChangesBy, AreChanges, HasMoreThan}

-- two segments have a relation, wherever their ends are: these are points with positive denominators
abbrev pub RelationExists : Type 0
RelationExists = (p q e f : Point) → pos 0 <ℤ p.w → pos 0 <ℤ q.w → pos 0 <ℤ e.w → pos 0 <ℤ f.w
    → (relation : Rel) × HaveRelation relation p q e f

-- pieces have one list of changes
abbrev pub ChangesAreOne : Type 0
ChangesAreOne = (tin : Triangulation) (pieces : List Piece) → AreAllInside tin pieces → (first second : List Change)
    → AreChanges tin pieces first → AreChanges tin pieces second → first ≡ second

-- and they have one, which is no longer than `most` or shows that more pairs than that have changed
abbrev pub ChangesExist : Type 0
ChangesExist = (tin : Triangulation) (pieces : List Piece) (most : ℕ) → AreAllInside tin pieces
    → (changes : List Change) × AreChanges tin pieces changes
    × ((length changes ≤ most) ⊎ HasMoreThan tin pieces most)

-- where more pairs than `most` have changed, the list of all changes is longer than `most`
abbrev pub MoreStayMore : Type 0
MoreStayMore = (tin : Triangulation) (pieces : List Piece) (most : ℕ) → AreAllInside tin pieces
    → HasMoreThan tin pieces most → (changes : List Change) → AreChanges tin pieces changes → most < length changes

-- the relation of the segments between the exact images of the ends of two pieces
abbrev pub HadRelationOfImages : Triangulation → Rel → Piece → Piece → Type 0
HadRelationOfImages tin was p q =
    (s t : Part) → IsPieceOf tin p s → IsPieceOf tin q t → (a b c d : Point) → AreImages tin p s a b
    → AreImages tin q t c d → HaveRelation was a b c d

-- For each sound triangulation: pieces have the same changes where their exact images are in their place in the source
-- frame
abbrev pub ChangesAreByRounding : Type 0
ChangesAreByRounding =
    (tin : Triangulation) → IsSound tin → (pieces : List Piece) (changes : List Change)
    → AreChanges tin pieces changes ↔ AreChangesBy (HadRelationOfImages tin) (pairs pieces) changes
