-- Where a layer is not carried any further, and why.
use Rattle.std.proofs.Common.{◌≡◌, ℕ, ◌+◌, ◌<◌, ◌≤◌, List, [], ◌∷◌, ◌++◌, length, append_assoc, ap, refl, sym, ◌∙◌}
use Rattle.std.proofs.Common.{arith}
use Rattle.std.proofs.lemmas.List.{length-append}
use Rattle.sheet_base.specs.PointHeights.{Height}
use Rattle.sheet_base.specs.ReadBack.{Ends}
use Rattle.tin_base.specs.declared.pieces.Piece.{Piece}
use Rattle.tin_base.specs.Triangulation.{Triangulation}
use Rattle.sheet_pieces.specs.SheetSegments.{SheetSegment}
use Rattle.sheet_pieces.specs.SheetPieces.{ArePiecesOfAll, AreInside}
use Rattle.carry_map.specs.declared.segments.PathSegment.{PathSegment}
use Rattle.carry_map.specs.declared.faults.CarryFault.{CarryFault}
use Rattle.carry_map.specs.declared.faults.CarryFault.TheVariants.{Layer, Outside, TooMany, NoMemory}
use Rattle.carry_map.specs.Causes.{HaveRoom, IsReached, IsCause, IsWayCause}
use Rattle.sheet_pieces.proofs.Runs.{inside_more}
use Rattle.carry_map.proofs.VertexLists.{pieces_more}

-- the segment of a way, with these heights of its ends
abbrev pub segment_of : PathSegment → Ends Height → SheetSegment
segment_of way ends = record { path = way.from.path; number = way.from.segment; a = way.a; b = way.b; heights = ends }

-- it is reached where it is the first
reached_first : (tin : Triangulation) (layer old most : ℕ) (segment : SheetSegment) → old ≤ most
    → IsReached tin layer old most (segment ∷ []) segment
reached_first tin layer old most segment h =
    record {
      before = [];
      behind = [];
      stands = refl;
      room =
          record { inside = tt; pieces = []; are = refl; room = omega (arith, h) };
    }

pub cause_of_way : (tin : Triangulation) (layer old most : ℕ) (way : PathSegment) (ends : Ends Height)
    (fault : CarryFault)
    → old ≤ most → IsWayCause tin way old most fault → IsCause tin layer old most (segment_of way ends ∷ []) fault
unfolding reached_first
cause_of_way tin layer old most way ends (Layer f) h cause = absurd cause
cause_of_way tin layer old most way ends (Outside path number) h cause =
    record {
      segment = segment_of way ends;
      reached = reached_first tin layer old most (segment_of way ends) h;
      path_is =
          cause.0;
      number_is = cause.1;
      outside = cause.2;
    }
cause_of_way tin layer old most way ends TooMany h cause =
    record {
      segment = segment_of way ends;
      reached = reached_first tin layer old most (segment_of way ends) h;
      inside =
          cause.inside;
      parts = cause.parts;
      cut = cause.cut;
      full = full old (length cause.parts) cause.full;
    }
  where
    full : (m n : ℕ) → most < m + n → most < m + 0 + n
    full m n f = omega arith
cause_of_way tin layer old most way ends NoMemory h cause = tt

-- ---- segments before it, whose pieces are there already, and after it
room_more : (tin : Triangulation) (layer old most : ℕ) (ss ts : List SheetSegment) (own : List Piece) → AreInside tin ss
    → ArePiecesOfAll tin layer ss own → HaveRoom tin layer (old + length own) most ts
    → HaveRoom tin layer old most (ss ++ ts)
room_more tin layer old most ss ts own inside are room = record {
  inside = inside_more tin ss ts inside room.inside;
  pieces = own ++ room.pieces;
  are = pieces_more tin layer ss ts own room.pieces are room.are;
  room = enough (length (own ++ room.pieces)) (length own) (length room.pieces) (length-append own room.pieces)
      room.room;
}
  where
    enough : (n k l : ℕ) → n ≡ k + l → old + k + l ≤ most → old + n ≤ most
    enough n k l e h = omega arith

stands_between : (ss segments before behind ts : List SheetSegment) (segment : SheetSegment)
    → segments ≡ before ++ segment ∷ behind → ss ++ (segments ++ ts) ≡ (ss ++ before) ++ segment ∷ (behind ++ ts)
stands_between ss segments before behind ts segment e =
    ap (λ (xs : List SheetSegment). ss ++ (xs ++ ts)) e
    ∙ ap (λ (xs : List SheetSegment). ss ++ xs) (append_assoc before (segment ∷ behind) ts)
    ∙ sym (append_assoc ss before (segment ∷ (behind ++ ts)))

reached_more : (tin : Triangulation) (layer old most : ℕ) (ss segments ts : List SheetSegment) (own : List Piece)
    (segment : SheetSegment) → AreInside tin ss → ArePiecesOfAll tin layer ss own
    → IsReached tin layer (old + length own) most segments segment
    → IsReached tin layer old most (ss ++ (segments ++ ts)) segment
reached_more tin layer old most ss segments ts own segment inside are reached = record {
  before = ss ++ reached.before;
  behind = reached.behind ++ ts;
  stands = stands_between ss segments reached.before reached.behind ts segment reached.stands;
  room = room_more tin layer old most ss reached.before own inside are reached.room;
}

pub cause_between : (tin : Triangulation) (layer old most : ℕ) (ss segments ts : List SheetSegment) (own : List Piece)
    (fault : CarryFault) → AreInside tin ss → ArePiecesOfAll tin layer ss own
    → IsCause tin layer (old + length own) most segments fault
    → IsCause tin layer old most (ss ++ (segments ++ ts)) fault
unfolding reached_more room_more
cause_between tin layer old most ss segments ts own (Layer f) inside are cause = absurd cause
cause_between tin layer old most ss segments ts own (Outside path number) inside are cause = record {
  segment = cause.segment;
  reached = reached_more tin layer old most ss segments ts own cause.segment inside are cause.reached;
  path_is = cause.path_is;
  number_is = cause.number_is;
  outside = cause.outside;
}
cause_between tin layer old most ss segments ts own TooMany inside are cause =
    let reached = cause.reached in let room = reached.room in
    record {
      segment = cause.segment;
      reached = reached_more tin layer old most ss segments ts own cause.segment inside are cause.reached;
      inside = cause.inside;
      parts = cause.parts;
      cut = cause.cut;
      full = full (length (own ++ room.pieces)) (length own) (length room.pieces) (length cause.parts)
          (length-append own room.pieces) cause.full;
    }
  where
    full : (n k l m : ℕ) → n ≡ k + l → most < old + k + l + m → most < old + n + m
    full n k l m e h = omega arith
cause_between tin layer old most ss segments ts own NoMemory inside are cause = tt
