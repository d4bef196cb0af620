-- Copies of pieces, in their direction or turned, have the same relations.
use Rattle.std.proofs.Common.{◌≡◌, ◌≢◌, ◌⊎◌, inl, inr, ℕ, ◌*◌, ℤ, pos, ◌+ℤ◌, ◌*ℤ◌, sym, ap, subst, ◌∙◌}
use Rattle.std.proofs.Common.{arith}
use Rattle.integer_ring.proofs.Ring.{num, ◌⊕◌, ◌⊗◌}
use Rattle.integer_ring.proofs.Claims.{◌≐◌, solve}
use Rattle.plane_base.specs.Plane.{Point, whole}
use Rattle.plane_base.specs.declared.shapes.Pt.{Pt}
use Rattle.tin_base.specs.declared.pieces.Piece.{Piece}
use Rattle.tin_base.specs.declared.relations.Rel.{Rel}
use Rattle.tin_base.specs.Triangulation.{Triangulation}
use Rattle.tin_base.specs.Segments.{Spot, Part, spot_at, IsBefore, IsShared, IsPart}
use Rattle.tin_base.specs.Pieces.{IsPieceOf, first_point, last_point}
use Rattle.tin_base.specs.Relations.{IsAnEnd, HaveRelation}
use Rattle.tin_base.proofs.SegmentSpots.Ends.{mirrored, mirror_later}
use Rattle.meet_rel.proofs.Alike.{alike, first_turned}
use Rattle.meet_rel.proofs.ClipEnds.{same_or_different, different_not}
use Rattle.meet_rel.proofs.Ways.{AreDifferent}
use Rattle.topo_check.specs.Changes.{HadRelation, HasRelation}
use Rattle.topo_check.specs.InsideKinds.{IsCopy, IsAsOrTurned}

-- ---- the part of a segment from its other end
axis : (k x l y : ℤ) → k *ℤ x +ℤ (l *ℤ y +ℤ pos 0) ≡ l *ℤ y +ℤ (k *ℤ x +ℤ pos 0)
axis = solve 4 (λ k x l y. k ⊗ x ⊕ (l ⊗ y ⊕ num (pos 0)) ≐ l ⊗ y ⊕ (k ⊗ x ⊕ num (pos 0))) tt

abbrev point : ℤ → ℤ → ℤ → Point
point x y w = record { x = x; y = y; w = w }

point_by : (x y w x' y' w' : ℤ) → x ≡ x' → y ≡ y' → w ≡ w' → point x y w ≡ point x' y' w'
point_by x y w x' y' w' e f g = ap (λ z. point z y w) e ∙ ap (λ z. point x' z w) f ∙ ap (λ z. point x' y' z) g

spot_mirrored : (a b : Pt) (s : Spot) → spot_at a b s ≡ spot_at b a (mirrored s)
spot_mirrored a b s = point_by _ _ _ _ _ _ (axis (pos s.of_a) a.x (pos s.of_b) b.x)
    (axis (pos s.of_a) a.y (pos s.of_b) b.y) (axis (pos s.of_a) (pos 1) (pos s.of_b) (pos 1))

shared_mirrored : (tin : Triangulation) (a b : Pt) (t : ℕ) (s : Spot) → IsShared tin a b t s
    → IsShared tin b a t (mirrored s)
shared_mirrored tin a b t s h = grind (arith, spot_mirrored)

before_mirrored : (f l : Spot) → IsBefore f l → IsBefore (mirrored l) (mirrored f)
before_mirrored f l h = grind (arith)

part_mirrored : (tin : Triangulation) (a b : Pt) (t : ℕ) (f l : Spot) → IsPart tin a b t f l
    → IsPart tin b a t (mirrored l) (mirrored f)
part_mirrored tin a b t f l part = record {
  in_range = part.in_range;
  has_first = shared_mirrored tin a b t l part.has_last;
  has_last = shared_mirrored tin a b t f part.has_first;
  differ = before_mirrored f l part.differ;
  none_before = λ s h. mirror_later (mirrored s) l (part.none_after (mirrored s) (shared_mirrored tin b a t s h));
  none_after = λ s h. mirror_later f (mirrored s) (part.none_before (mirrored s) (shared_mirrored tin b a t s h));
}

-- ---- a piece of the same segment and triangle
piece_same : (tin : Triangulation) (p q : Piece) (s : Part) → p.tri ≡ q.tri → p.a ≡ q.a → p.b ≡ q.b → IsPieceOf tin p s
    → IsPieceOf tin q s
piece_same tin p q s t e f of = grind (arith)

had_same : (tin : Triangulation) (p q r : Piece) (was : Rel) → p.tri ≡ q.tri → p.a ≡ q.a → p.b ≡ q.b
    → HadRelation tin was q r → HadRelation tin was p r
had_same tin p q r was t e f h = λ s u of_s of_u.
    subst (λ (c : Pt). HaveRelation was (spot_at c p.b s.first) (spot_at c p.b s.last) (first_point r u)
    (last_point r u)) (sym e)
    (subst (λ (d : Pt). HaveRelation was (spot_at q.a d s.first) (spot_at q.a d s.last) (first_point r u)
    (last_point r u)) (sym f) (h s u (piece_same tin p q s t e f of_s) of_u))

-- the part from the other end
abbrev part_turned : Part → Part
part_turned s = record { triangle = s.triangle; first = mirrored s.last; last = mirrored s.first }

piece_turned : (tin : Triangulation) (p q : Piece) (s : Part) → p.tri ≡ q.tri → p.a ≡ q.b → p.b ≡ q.a → p.a ≢ p.b
    → IsPieceOf tin p s → IsPieceOf tin q (part_turned s)
piece_turned tin p q s t e f differ of = record {
  triangle = of.triangle ∙ t;
  of_point = λ same. absurd (differ (e ∙ sym same ∙ sym f));
  of_segment = λ _.
      subst (λ (n : ℕ). IsPart tin q.a q.b n (mirrored s.last) (mirrored s.first)) t
      (subst (λ (d : Pt). IsPart tin q.a d p.tri (mirrored s.last) (mirrored s.first)) e
      (subst (λ (c : Pt). IsPart tin c p.a p.tri (mirrored s.last) (mirrored s.first)) f
      (part_mirrored tin p.a p.b p.tri s.first s.last (of.of_segment differ))));
}

had_turned : (tin : Triangulation) (p q r : Piece) (was : Rel) → p.tri ≡ q.tri → p.a ≡ q.b → p.b ≡ q.a → p.a ≢ p.b
    → HadRelation tin was q r → HadRelation tin was p r
had_turned tin p q r was t e f differ h = λ s u of_s of_u.
    subst (λ (c : Pt). HaveRelation was (spot_at c p.b s.first) (spot_at c p.b s.last) (first_point r u)
    (last_point r u)) (sym e)
    (subst (λ (d : Pt). HaveRelation was (spot_at q.b d s.first) (spot_at q.b d s.last) (first_point r u)
    (last_point r u)) (sym f)
    (subst (λ (x : Point). HaveRelation was x (spot_at q.b q.a s.last) (first_point r u) (last_point r u))
    (sym (spot_mirrored q.b q.a s.first))
    (subst (λ (y : Point). HaveRelation was (spot_at q.a q.b (mirrored s.first)) y (first_point r u) (last_point r u))
    (sym (spot_mirrored q.b q.a s.last))
    (first_turned (spot_at q.a q.b (mirrored s.last)) (spot_at q.a q.b (mirrored s.first)) (first_point r u)
    (last_point r u) was (h (part_turned s) u (piece_turned tin p q s t e f differ of_s) of_u)))))

had_copy : (tin : Triangulation) (p q r : Piece) (was : Rel) → p.tri ≡ q.tri → IsAsOrTurned p.a p.b q.a q.b
    → HadRelation tin was q r → HadRelation tin was p r
had_copy tin p q r was t (inl e) h = had_same tin p q r was t e.0 e.1 h
had_copy tin p q r was t (inr e) h = go (same_or_different p.a p.b)
  where
    go : (p.a ≡ p.b) ⊎ AreDifferent p.a p.b → HadRelation tin was p r
    go (inl same) = had_same tin p q r was t (same ∙ e.1) (sym same ∙ e.0) h
    go (inr differ) = had_turned tin p q r was t e.0 e.1 (different_not p.a p.b differ) h

has_copy : (p q r : Piece) (now : Rel) → IsAsOrTurned p.ia p.ib q.ia q.ib → HasRelation now q r → HasRelation now p r
has_copy p q r now (inl e) h = grind (arith)
has_copy p q r now (inr e) h = grind (arith, first_turned)

pub copy_of : (tin : Triangulation) (p q : Piece) → p.tri ≡ q.tri → IsAsOrTurned p.a p.b q.a q.b
    → IsAsOrTurned p.ia p.ib q.ia q.ib → IsCopy tin p q
copy_of tin p q t exact rounded = record {
  had = λ was r h. had_copy tin p q r was t exact h;
  has =
      λ now r h. has_copy p q r now rounded h;
}

pub copy_itself : (tin : Triangulation) (p : Piece) → IsCopy tin p p
copy_itself tin p = record { had = λ was r h. h; has = λ now r h. h }

-- ---- the two in the other order
end_exchanged : (p q e f r : Point) → IsAnEnd p q e f r → IsAnEnd e f p q r
end_exchanged p q e f r (inl k) = inr (inr (inl k))
end_exchanged p q e f r (inr (inl k)) = inr (inr (inr k))
end_exchanged p q e f r (inr (inr (inl k))) = inl k
end_exchanged p q e f r (inr (inr (inr k))) = inr (inl k)

exchanged : (p q e f : Point) (relation : Rel) → HaveRelation relation p q e f → HaveRelation relation e f p q
exchanged p q e f =
    alike p q e f e f p q
    (record {
      forth = λ r c. record { positive = c.positive; first = c.second; second = c.first };
      back = λ r c. record { positive = c.positive; first = c.second; second = c.first };
      end_forth = λ r. end_exchanged p q e f r;
      end_back = λ r. end_exchanged e f p q r;
    })

pub had_exchanged : (tin : Triangulation) (was : Rel) (p q : Piece) → HadRelation tin was p q → HadRelation tin was q p
had_exchanged tin was p q h = λ s t of_s of_t. exchanged (first_point p t) (last_point p t) (first_point q s)
    (last_point q s) was (h t s of_t of_s)

pub has_exchanged : (now : Rel) (p q : Piece) → HasRelation now p q → HasRelation now q p
has_exchanged now p q h = exchanged (whole p.ia) (whole p.ib) (whole q.ia) (whole q.ib) now h

-- ---- copies in the place of both
pub copies_had : (tin : Triangulation) (was : Rel) (p q p' q' : Piece) → IsCopy tin p p' → IsCopy tin q q'
    → HadRelation tin was p' q' → HadRelation tin was p q
copies_had tin was p q p' q' first second h =
    had_exchanged tin was q p (second.had was p (had_exchanged tin was p q' (first.had was q' h)))

pub copies_have : (tin : Triangulation) (now : Rel) (p q p' q' : Piece) → IsCopy tin p p' → IsCopy tin q q'
    → HasRelation now p' q' → HasRelation now p q
copies_have tin now p q p' q' first second h =
    has_exchanged now q p (second.has now p (has_exchanged now p q' (first.has now q' h)))
