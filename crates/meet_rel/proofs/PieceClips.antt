-- The clips of pieces in a triangulation.
use Rattle.std.proofs.Common.{◌<◌, pos, ◌<ℤ◌, List, [], ◌∷◌, length, refl, sym, subst, arith}
use Rattle.plane_base.specs.Plane.{Point, IsMix, whole, corners_of, turn_of, IsNear, IsNearAll, IsNearTri}
use Rattle.plane_base.specs.declared.shapes.Pt.{Pt}
use Rattle.plane_base.specs.declared.shapes.Tri.{Tri}
use Rattle.tin_base.specs.declared.frames.Frame.TheVariants.{Source}
use Rattle.tin_base.specs.declared.pieces.Piece.{Piece}
use Rattle.tin_base.specs.Triangulation.{Triangulation}
use Rattle.tin_base.specs.Images.{IsInSome}
use Rattle.tin_base.specs.Limits.{IsWithinLimits}
use Rattle.tin_base.specs.Pieces.{IsPieceInside, first_point, last_point}
use Rattle.tin_base.proofs.TriangleLemmas.Closeness.{near_inside}
use Rattle.meet_rel.specs.declared.clips.Clip.{Clip}
use Rattle.meet_rel.specs.Near.{AreNear}
use Rattle.meet_rel.specs.Clips.{IsProper, AreClose}
use Rattle.meet_rel.proofs.Scale.{mix_first}
use Rattle.meet_rel.proofs.ClipEnds.{IsClipOf, piece_ends, has_ends}
use Rattle.tin_base.proofs.TriangleLemmas.NearTriangles.{corner_axis, second_axis, third_axis}

at_a : (t : Tri) → IsMix (whole t.a) (corners_of t)
at_a t = (1 ∷ 0 ∷ 0 ∷ [], refl, omega arith, (corner_axis t.a.x t.b.x t.c.x, corner_axis t.a.y t.b.y t.c.y))

at_b : (t : Tri) → IsMix (whole t.b) (corners_of t)
at_b t = (0 ∷ 1 ∷ 0 ∷ [], refl, omega arith, (second_axis t.a.x t.b.x t.c.x, second_axis t.a.y t.b.y t.c.y))

at_c : (t : Tri) → IsMix (whole t.c) (corners_of t)
at_c t = (0 ∷ 0 ∷ 1 ∷ [], refl, omega arith, (third_axis t.a.x t.b.x t.c.x, third_axis t.a.y t.b.y t.c.y))

pub range_of : (tin : Triangulation) (piece : Piece) → IsPieceInside tin piece → piece.tri < length tin.triangles
range_of tin piece h = let k = h.is_piece in let e = has_ends tin piece k.0 k.1 in e.in_range

-- a whole point inside is near the corners of any triangle
near_tri : (tin : Triangulation) (piece : Piece) (clip : Clip) (p : Pt) → IsWithinLimits tin → IsPieceInside tin piece
    → IsClipOf tin piece clip → IsInSome tin Source (whole p) → IsNearTri clip.tri p
near_tri tin piece clip p limits h is in_p =
    (near clip.tri.a (at_a clip.tri), near clip.tri.b (at_b clip.tri), near clip.tri.c (at_c clip.tri))
  where
    near : (q : Pt) → IsMix (whole q) (corners_of clip.tri) → IsNear q p
    near q m = near_inside tin q p limits (
      piece.tri,
      range_of tin piece h,
      subst
          (λ (ps : List Point). IsMix (whole q) ps) is.tri_is m,
    ) in_p

in_a : (tin : Triangulation) (piece : Piece) (clip : Clip) → IsPieceInside tin piece → IsClipOf tin piece clip
    → IsInSome tin Source (whole clip.a)
in_a tin piece clip h is = subst (λ (p : Pt). IsInSome tin Source (whole p)) (sym is.a_is) h.begins

in_b : (tin : Triangulation) (piece : Piece) (clip : Clip) → IsPieceInside tin piece → IsClipOf tin piece clip
    → IsInSome tin Source (whole clip.b)
in_b tin piece clip h is = subst (λ (p : Pt). IsInSome tin Source (whole p)) (sym is.b_is) h.ends

pub proper_of : (tin : Triangulation) (piece : Piece) (clip : Clip) → IsWithinLimits tin → IsPieceInside tin piece
    → IsClipOf tin piece clip → IsNearAll clip.tri.a clip.tri.b clip.tri.c
    → pos 0 <ℤ turn_of (whole clip.tri.a) (whole clip.tri.b) (whole clip.tri.c) → IsProper clip
proper_of tin piece clip limits h is near positive =
    let k = h.is_piece in
    let ends = piece_ends tin piece clip k.0 is k.1 in
    let f = first_point piece k.0 in
    let a = in_a tin piece clip h is in let b = in_b tin piece clip h is in
    record {
      near = near;
      near_a = near_tri tin piece clip clip.a limits h is a;
      near_b = near_tri tin piece clip clip.b limits h is b;
      near_ab = near_inside tin clip.a clip.b limits a b;
      positive = positive;
      point = f;
      point_positive = ends.first_positive;
      has_point = ends.forth f ends.first_positive (mix_first f (last_point piece k.0));
    }

-- the ends of segments of pieces are near each other
pub ends_near : (tin : Triangulation) (p q : Piece) → IsWithinLimits tin → IsPieceInside tin p → IsPieceInside tin q
    → AreNear p.a p.b q.a q.b
ends_near tin p q limits hp hq = (
  (near p.a p.b hp.begins hp.ends, near p.a q.a hp.begins hq.begins, near p.b q.a hp.ends hq.begins),
  (near p.a p.b hp.begins hp.ends, near p.a q.b hp.begins hq.ends, near p.b q.b hp.ends hq.ends),
  near q.a q.b hq.begins hq.ends,
)
  where
    near : (x y : Pt) → IsInSome tin Source (whole x) → IsInSome tin Source (whole y) → IsNear x y
    near x y hx hy = near_inside tin x y limits hx hy

pub close_of : (tin : Triangulation) (p q : Piece) (c d : Clip) → IsWithinLimits tin → IsPieceInside tin p
    → IsPieceInside tin q → IsClipOf tin p c → IsClipOf tin q d → AreClose c d
close_of tin p q c d limits hp hq ic id =
    let ca = in_a tin p c hp ic in let cb = in_b tin p c hp ic in let da = in_a tin q d hq id in let db =
    in_b tin q d hq id in
    let near = λ (x y : Pt). λ (hx : IsInSome tin Source (whole x)). λ (hy : IsInSome tin Source (whole y)). near_inside
    tin x y limits hx hy in
    record {
      ends = (
        (near c.a c.b ca cb, near c.a d.a ca da, near c.b d.a cb da),
        (near c.a c.b ca cb, near c.a d.b ca db, near c.b d.b cb db),
        near d.a d.b da db,
      );
      p_c = near_tri tin p c d.a limits hp ic da;
      p_d = near_tri tin p c d.b limits hp ic db;
      q_a = near_tri tin q d c.a limits hq id ca;
      q_b = near_tri tin q d c.b limits hq id cb;
    }
