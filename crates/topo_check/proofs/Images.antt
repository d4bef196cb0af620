-- The boxes of images: each has an image of each point of its piece, and so pieces whose boxes are apart are apart in
-- both frames.
use Rattle.std.proofs.Common.{◌≡◌, ℕ, ℤ, pos, ◌+ℤ◌, ◌-ℤ◌, ◌*ℤ◌, ◌≤ℤ◌, ◌<ℤ◌, List, [], ◌∷◌, length, sym, subst}
use Rattle.std.proofs.Common.{refl, ◌∙◌, arith}
use Rattle.integer_ring.proofs.Ring.{num, ◌⊕◌, ◌⊖◌, ◌⊗◌}
use Rattle.integer_ring.proofs.Order.{nonneg_pos}
use Rattle.integer_ring.proofs.Claims.{◌≼◌, gap, ◌⊞◌, ◌⊠◌, ◌because◌, ◌⇒◌, follows}
use Rattle.plane_base.specs.Plane.{Point, Same, weighted_sum, IsMix, corners_of}
use Rattle.plane_base.specs.declared.shapes.Rect.{Rect}
use Rattle.plane_base.specs.declared.shapes.Tri.{Tri}
use Rattle.plane_base.specs.Boxes.{HasPoint, IsIn, AreApart, box_of_triangle, common_of, box_of_boxes}
use Rattle.plane_base.proofs.Bounds.BoxLemmas.{moved_in, three_places, segment_in, segment_has, segment_least, inside_in}
use Rattle.plane_base.proofs.Bounds.BoxLemmas.{joined_has, joined_least, common_within, common_has, outer_has, ordered_with}
use Rattle.plane_base.proofs.Bounds.BoxLemmas.{none_in_both, in_larger}
use Rattle.plane_base.proofs.MixLaws.Mixes.{same_refl, same_sym, weighed-place}
use Rattle.tin_base.specs.declared.frames.Frame.TheVariants.{Source, Target}
use Rattle.tin_base.specs.declared.pieces.Piece.{Piece}
use Rattle.tin_base.specs.declared.relations.Rel.TheVariants.{Apart}
use Rattle.tin_base.specs.Triangulation.{Triangulation, places, numbers_of}
use Rattle.tin_base.specs.Soundness.{IsSound}
use Rattle.tin_base.specs.Limits.{IsWithinLimits}
use Rattle.tin_base.specs.Segments.{Part}
use Rattle.tin_base.specs.Relations.{IsBetween}
use Rattle.tin_base.specs.Pieces.{IsPieceOf, IsPieceInside, first_point, last_point}
use Rattle.tin_base.proofs.FrameImages.Agreement.{all_images_agree}
use Rattle.meet_rel.proofs.PieceClips.{range_of}
use Rattle.meet_rel.proofs.ClipEnds.{piece_ends}
use Rattle.topo_check.specs.Changes.{HadRelation, HasRelation}
use Rattle.topo_check.specs.InsideBoxes.{IsExactBox, rounded_box_of}
use Rattle.topo_check.specs.InsideImages.{displacement_of, moved_by, HasImage, IsImageBox}
use Rattle.topo_check.proofs.InBoxes.{are_corners, among_corners, among_within, around_triangle}

-- ---- pieces whose boxes are apart were apart, and are
pub images_had : (tin : Triangulation) (p q : Piece) (r s : Rect) → IsSound tin → IsImageBox tin p r → IsImageBox tin q s
    → AreApart r s → HadRelation tin Apart p q
images_had tin p q r s sound i j apart part other h k = λ point common.
    let x = i.images part h point common.positive common.first in
    let y = j.images other k point common.positive common.second in
    none_in_both r s apart x.image x.positive x.is_in
    (moved_in s x.image y.image x.positive y.positive
    (all_images_agree tin sound point x.image y.image common.positive x.positive y.positive x.is_image y.is_image)
    y.is_in)

pub images_has : (tin : Triangulation) (p q : Piece) (r s : Rect) → IsImageBox tin p r → IsImageBox tin q s
    → AreApart r s → HasRelation Apart p q
images_has tin p q r s i j apart = λ point common.
    none_in_both r s apart point common.positive
    (segment_in r p.ia p.ib (outer_has r (rounded_box_of p) p.ia i.rounded (segment_has p.ia p.ib).0)
    (outer_has r (rounded_box_of p) p.ib i.rounded (segment_has p.ia p.ib).1) point common.positive common.first)
    (segment_in s q.ia q.ib (outer_has s (rounded_box_of q) q.ia j.rounded (segment_has q.ia q.ib).0)
    (outer_has s (rounded_box_of q) q.ib j.rounded (segment_has q.ia q.ib).1) point common.positive common.second)

-- ---- a mix of points goes no further than the points, and no less far
low_moved : (e d k l m a b c x y z : ℤ) → pos 0 ≤ℤ k → pos 0 ≤ℤ l → pos 0 ≤ℤ m → d ≤ℤ (x -ℤ a) → d ≤ℤ (y -ℤ b)
    → d ≤ℤ (z -ℤ c)
    → (e *ℤ (k *ℤ pos 1 +ℤ (l *ℤ pos 1 +ℤ (m *ℤ pos 1 +ℤ pos 0)))) ≤ℤ (k *ℤ a +ℤ (l *ℤ b +ℤ (m *ℤ c +ℤ pos 0)))
    → ((e +ℤ d) *ℤ (k *ℤ pos 1 +ℤ (l *ℤ pos 1 +ℤ (m *ℤ pos 1 +ℤ pos 0))))
    ≤ℤ (k *ℤ x +ℤ (l *ℤ y +ℤ (m *ℤ z +ℤ pos 0)))
low_moved =
    follows 11 (λ e d k l m a b c x y z. num (pos 0) ≼ k ⇒ num (pos 0) ≼ l ⇒ num (pos 0) ≼ m ⇒ d ≼ x ⊖ a ⇒ d ≼ y ⊖ b
    ⇒ d ≼ z ⊖ c
    ⇒ e ⊗ (k ⊗ num (pos 1) ⊕ (l ⊗ num (pos 1) ⊕ (m ⊗ num (pos 1) ⊕ num (pos 0))))
    ≼ k ⊗ a ⊕ (l ⊗ b ⊕ (m ⊗ c ⊕ num (pos 0)))
    ⇒ (e ⊕ d) ⊗ (k ⊗ num (pos 1) ⊕ (l ⊗ num (pos 1) ⊕ (m ⊗ num (pos 1) ⊕ num (pos 0))))
    ≼ k ⊗ x ⊕ (l ⊗ y ⊕ (m ⊗ z ⊕ num (pos 0)))
    because gap 0 ⊠ gap 3 ⊞ gap 1 ⊠ gap 4 ⊞ gap 2 ⊠ gap 5 ⊞ gap 6) tt

high_moved : (e d k l m a b c x y z : ℤ) → pos 0 ≤ℤ k → pos 0 ≤ℤ l → pos 0 ≤ℤ m → (x -ℤ a) ≤ℤ d → (y -ℤ b) ≤ℤ d
    → (z -ℤ c) ≤ℤ d
    → (k *ℤ a +ℤ (l *ℤ b +ℤ (m *ℤ c +ℤ pos 0))) ≤ℤ (e *ℤ (k *ℤ pos 1 +ℤ (l *ℤ pos 1 +ℤ (m *ℤ pos 1 +ℤ pos 0))))
    → (k *ℤ x +ℤ (l *ℤ y +ℤ (m *ℤ z +ℤ pos 0)))
    ≤ℤ ((e +ℤ d) *ℤ (k *ℤ pos 1 +ℤ (l *ℤ pos 1 +ℤ (m *ℤ pos 1 +ℤ pos 0))))
high_moved =
    follows 11 (λ e d k l m a b c x y z. num (pos 0) ≼ k ⇒ num (pos 0) ≼ l ⇒ num (pos 0) ≼ m ⇒ x ⊖ a ≼ d ⇒ y ⊖ b ≼ d
    ⇒ z ⊖ c ≼ d
    ⇒ k ⊗ a ⊕ (l ⊗ b ⊕ (m ⊗ c ⊕ num (pos 0)))
    ≼ e ⊗ (k ⊗ num (pos 1) ⊕ (l ⊗ num (pos 1) ⊕ (m ⊗ num (pos 1) ⊕ num (pos 0))))
    ⇒ k ⊗ x ⊕ (l ⊗ y ⊕ (m ⊗ z ⊕ num (pos 0)))
    ≼ (e ⊕ d) ⊗ (k ⊗ num (pos 1) ⊕ (l ⊗ num (pos 1) ⊕ (m ⊗ num (pos 1) ⊕ num (pos 0))))
    because gap 0 ⊠ gap 3 ⊞ gap 1 ⊠ gap 4 ⊞ gap 2 ⊠ gap 5 ⊞ gap 6) tt

pub record HasDisplacements (box : Rect) (t u : Tri) : Type 0 where
  pub first : HasPoint box (displacement_of t.a u.a)
  pub second : HasPoint box (displacement_of t.b u.b)
  pub third : HasPoint box (displacement_of t.c u.c)

mix_moves : (t u : Tri) (exact ways : Rect) (ks : List ℕ) → length ks ≡ 3 → HasDisplacements ways t u
    → IsIn exact (weighted_sum ks (corners_of t)) → IsIn (moved_by ways exact) (weighted_sum ks (corners_of u))
mix_moves t u exact ways (k ∷ l ∷ m ∷ []) e h i =
    let a = h.first in let b = h.second in let c = h.third in
    record {
      left = low_moved exact.x0 ways.x0 (pos k) (pos l) (pos m) t.a.x t.b.x t.c.x u.a.x u.b.x u.c.x (nonneg_pos k)
          (nonneg_pos l) (nonneg_pos m) a.left b.left c.left i.left;
      right = high_moved exact.x1 ways.x1 (pos k) (pos l) (pos m) t.a.x t.b.x t.c.x u.a.x u.b.x u.c.x (nonneg_pos k)
          (nonneg_pos l) (nonneg_pos m) a.right b.right c.right i.right;
      bottom = low_moved exact.y0 ways.y0 (pos k) (pos l) (pos m) t.a.y t.b.y t.c.y u.a.y u.b.y u.c.y (nonneg_pos k)
          (nonneg_pos l) (nonneg_pos m) a.bottom b.bottom c.bottom i.bottom;
      top = high_moved exact.y1 ways.y1 (pos k) (pos l) (pos m) t.a.y t.b.y t.c.y u.a.y u.b.y u.c.y (nonneg_pos k)
          (nonneg_pos l) (nonneg_pos m) a.top b.top c.top i.top;
    }
mix_moves t u exact ways ks e h i = absurd (omega (arith, e))

-- ---- the box of a piece
-- the triangle in both frames
pub record IsTriangleOf (tin : Triangulation) (n : ℕ) (t u : Tri) : Type 0 where
  pub source : corners_of t ≡ places tin Source (numbers_of tin n)
  pub target : corners_of u ≡ places tin Target (numbers_of tin n)

image_of : (tin : Triangulation) (piece : Piece) (t u : Tri) (exact ways : Rect) (r : Point) → IsPieceInside tin piece
    → IsWithinLimits tin → IsTriangleOf tin piece.tri t u → HasDisplacements ways t u → pos 0 <ℤ r.w
    → IsMix r (corners_of t) → IsIn exact r → HasImage tin (common_of (moved_by ways exact) (box_of_triangle u)) r
image_of tin piece t u exact ways r inside limits are far hr mix in_exact =
    let ks = mix.0 in let range = range_of tin piece inside in
    let s = weighted_sum ks (corners_of t) in let q = weighted_sum ks (corners_of u) in
    let hs = weighed-place ks (corners_of t) mix.1 (three_places t) mix.2 in
    let hq = weighed-place ks (corners_of u) mix.1 (three_places u) mix.2 in
    record {
      image = q;
      positive = hq;
      is_image = (
        piece.tri,
        range,
        (
          ks,
          mix.1 ∙ sym (limits.three piece.tri range),
          mix.2,
          subst (λ (ps : List Point). Same r (weighted_sum ks ps)) are.source mix.3,
          subst (λ (ps : List Point). Same q (weighted_sum ks ps)) are.target (same_refl q),
        ),
      );
      is_in = common_has (moved_by ways exact) (box_of_triangle u) q
          (mix_moves t u exact ways ks mix.1 far (moved_in exact s r hs hr (same_sym r s mix.3) in_exact))
          (inside_in u q hq (ks, mix.1, mix.2, same_refl q));
    }

pub image_boxed : (tin : Triangulation) (piece : Piece) (t u : Tri) (exact ways : Rect) → IsPieceInside tin piece
    → IsWithinLimits tin → IsTriangleOf tin piece.tri t u → HasDisplacements ways t u → IsExactBox tin piece exact
    → HasPoint (box_of_triangle u) piece.ia → HasPoint (box_of_triangle u) piece.ib
    → IsImageBox tin piece (box_of_boxes (common_of (moved_by ways exact) (box_of_triangle u)) (rounded_box_of piece))
image_boxed tin piece t u exact ways inside limits are far is ha hb =
    let range = range_of tin piece inside in
    record {
      ordered = ordered_with box piece.ia
          (outer_has box (rounded_box_of piece) piece.ia (joined_has common (rounded_box_of piece)).1
          (segment_has piece.ia piece.ib).0);
      rounded = (joined_has common (rounded_box_of piece)).1;
      images = images;
      among = among_within tin Target (box_of_triangle u) box
          (joined_least (box_of_triangle u) common (rounded_box_of piece)
          (common_within (moved_by ways exact) (box_of_triangle u)).1
          (segment_least (box_of_triangle u) piece.ia piece.ib ha hb))
          (among_corners tin Target (u.a ∷ u.b ∷ u.c ∷ []) (box_of_triangle u)
          (are_corners tin Target u (numbers_of tin piece.tri) (limits.three piece.tri range)
          (limits.in_range piece.tri range) are.target) (around_triangle u));
    }
  where
    common : Rect
    common = common_of (moved_by ways exact) (box_of_triangle u)

    box : Rect
    box = box_of_boxes (common_of (moved_by ways exact) (box_of_triangle u)) (rounded_box_of piece)

    images : (part : Part) → IsPieceOf tin piece part → (r : Point) → pos 0 <ℤ r.w
        → IsBetween (first_point piece part) (last_point piece part) r
        → HasImage tin (box_of_boxes (common_of (moved_by ways exact) (box_of_triangle u)) (rounded_box_of piece)) r
    images part of r hr between =
        let it = (piece_ends tin piece (record { a = piece.a; b = piece.b; tri = t }) part
        (record { a_is = refl; b_is = refl; tri_is = are.source }) of).forth r hr between in
        let i = image_of tin piece t u exact ways r inside limits are far hr it.inside
        (is.encloses part of r hr between) in
        record {
          image = i.image;
          positive = i.positive;
          is_image = i.is_image;
          is_in = in_larger box common i.image i.positive (joined_has common (rounded_box_of piece)).0 i.is_in;
        }
