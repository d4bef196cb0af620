-- The segments of a sheet have one list of pieces.
use Rattle.std.proofs.Common.{◌≡◌, ℕ, List, [], ◌∷◌, ◌++◌, refl, sym, ◌∙◌, ap, ap₂}
use Rattle.plane_base.specs.declared.shapes.Pt.{Pt}
use Rattle.tin_base.specs.declared.pieces.Piece.{Piece}
use Rattle.tin_base.specs.declared.pieces.Place.{Place}
use Rattle.tin_base.specs.Triangulation.{Triangulation}
use Rattle.tin_base.specs.Soundness.{IsSound}
use Rattle.tin_base.specs.Segments.{Part}
use Rattle.sheet_pieces.specs.SheetSegments.{SheetSegment}
use Rattle.sheet_pieces.specs.SheetPieces.{IsTold, next_place, AreTold, first_place, ArePiecesOfSegment, ArePiecesOfAll}
use Rattle.sheet_pieces.proofs.OneCut.{AreTwins, AreAlike, end_one, cut_alike}

abbrev piece_of : Pt → Pt → ℕ → Pt → Pt → Place → Piece
piece_of a b tri ia ib from = record { a = a; b = b; tri = tri; ia = ia; ib = ib; from = from }

same_piece : (p q : Piece) → p.a ≡ q.a → p.b ≡ q.b → p.tri ≡ q.tri → p.ia ≡ q.ia → p.ib ≡ q.ib → p.from ≡ q.from → p ≡ q
same_piece p q a b tri ia ib from =
    ap (λ (x : Pt). piece_of x p.b p.tri p.ia p.ib p.from) a
    ∙ (ap (λ (x : Pt). piece_of q.a x p.tri p.ia p.ib p.from) b
    ∙ (ap (λ (t : ℕ). piece_of q.a q.b t p.ia p.ib p.from) tri
    ∙ (ap (λ (x : Pt). piece_of q.a q.b q.tri x p.ib p.from) ia
    ∙ (ap (λ (x : Pt). piece_of q.a q.b q.tri q.ia x p.from) ib
    ∙ ap (λ (f : Place). piece_of q.a q.b q.tri q.ia q.ib f) from))))

piece_one : (tin : Triangulation) (a b : Pt) (from : Place) (part other : Part) (p q : Piece) → IsSound tin
    → AreTwins part other → IsTold tin a b from part p → IsTold tin a b from other q → p ≡ q
piece_one tin a b from part other p q sound twins x y =
    same_piece p q (x.begins ∙ sym y.begins) (x.ends ∙ sym y.ends) (x.triangle ∙ (twins.triangle ∙ sym y.triangle))
    (end_one tin a b part.first other.first p.ia q.ia sound twins.first x.first_image y.first_image)
    (end_one tin a b part.last other.last p.ib q.ib sound twins.last x.last_image y.last_image) (x.place ∙ sym y.place)

told_one : (tin : Triangulation) (a b : Pt) (from : Place) (parts others : List Part) (ps qs : List Piece) → IsSound tin
    → AreAlike parts others → AreTold tin a b from parts ps → AreTold tin a b from others qs → ps ≡ qs
told_one tin a b from [] [] [] [] sound alike x y = refl
told_one tin a b from [] [] [] (q ∷ qs) sound alike x y = absurd y
told_one tin a b from [] [] (p ∷ ps) qs sound alike x y = absurd x
told_one tin a b from [] (other ∷ others) ps qs sound alike x y = absurd alike
told_one tin a b from (part ∷ parts) [] ps qs sound alike x y = absurd alike
told_one tin a b from (part ∷ parts) (other ∷ others) [] qs sound alike x y = absurd x
told_one tin a b from (part ∷ parts) (other ∷ others) (p ∷ ps) [] sound alike x y = absurd y
told_one tin a b from (part ∷ parts) (other ∷ others) (p ∷ ps) (q ∷ qs) sound alike x y =
    ap₂ (λ (r : Piece) (rs : List Piece). r ∷ rs) (piece_one tin a b from part other p q sound alike.0 x.0 y.0)
    (told_one tin a b (next_place from) parts others ps qs sound alike.1 x.1 y.1)

segment_one : (tin : Triangulation) (layer : ℕ) (segment : SheetSegment) (ps qs : List Piece) → IsSound tin
    → ArePiecesOfSegment tin layer segment ps → ArePiecesOfSegment tin layer segment qs → ps ≡ qs
segment_one tin layer segment ps qs sound x y =
    told_one tin segment.a segment.b (first_place layer segment) x.parts y.parts ps qs sound
    (cut_alike tin segment.a segment.b x.parts y.parts x.cut y.cut) x.told y.told

-- the pieces of the same segments, twice
pub pieces_one : (tin : Triangulation) (layer : ℕ) (segments : List SheetSegment) (ps qs : List Piece) → IsSound tin
    → ArePiecesOfAll tin layer segments ps → ArePiecesOfAll tin layer segments qs → ps ≡ qs
pieces_one tin layer [] ps qs sound x y = x ∙ sym y
pieces_one tin layer (segment ∷ segments) ps qs sound (own, rest, is, one, others) (own', rest', too, one', others') =
    is ∙ (ap₂ (λ (a b : List Piece). a ++ b) (segment_one tin layer segment own own' sound one one')
    (pieces_one tin layer segments rest rest' sound others others') ∙ sym too)
