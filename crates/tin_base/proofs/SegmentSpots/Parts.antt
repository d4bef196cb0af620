-- The part of a triangle: it exists where the triangle has two points of a segment, and two triangles with two common
-- points of it have one part.
use Rattle.std.proofs.Common.{ℕ, ◌+◌, ◌*◌, ◌<◌, ◌≤◌, ℤ, pos, ◌≤ℤ◌, ◌<ℤ◌, List, [], ◌∷◌, length, sym, subst, arith}
use Rattle.plane_base.specs.Plane.{Point, turn_of, IsMix, whole}
use Rattle.plane_base.specs.declared.shapes.Pt.{Pt}
use Rattle.plane_base.proofs.TriangleLaws.InTriangle.{turns_of_mix, mix_of_turns}
use Rattle.tin_base.specs.declared.frames.Frame.TheVariants.{Source}
use Rattle.tin_base.specs.Triangulation.{Triangulation, place, corner_at, numbers_of, places}
use Rattle.tin_base.specs.Soundness.{turn_of_three}
use Rattle.tin_base.specs.Segments.{Spot, spot_at, IsBefore, IsNotAfter, IsShared, IsPart}
use Rattle.tin_base.proofs.SegmentSpots.Spots.{one, spot-w}
use Rattle.tin_base.proofs.PieceChains.WaySteps.{turn_mixed}
use Rattle.tin_base.proofs.SegmentSpots.Ends.{IsSpot, IsKeptAt, AreKeptAt, last_of_three, mirrored, mirror_later, mirror_three}
use Rattle.tin_base.proofs.SegmentSpots.Ends.{no_later_trans, before_trans_left, before_trans_right}

-- ---- a triangle has a spot exactly where its three turns are not negative there
record Sides (a b : Pt) (corners : List Point) : Type 0 where
  u : ℤ
  v : ℤ
  w : ℤ
  x : ℤ
  y : ℤ
  z : ℤ
  into : (s : Spot) → IsSpot s → IsMix (spot_at a b s) corners → AreKeptAt u v w x y z s
  back : (s : Spot) → IsSpot s → AreKeptAt u v w x y z s → IsMix (spot_at a b s) corners

sides_of : (a b : Pt) (c d e : Point) → pos 0 <ℤ c.w → pos 0 <ℤ d.w → pos 0 <ℤ e.w → pos 0 <ℤ turn_of c d e
    → Sides a b (c ∷ d ∷ e ∷ [])
sides_of a b c d e hc hd he t =
    record {
      u = turn_of c d (whole a);
      v = turn_of c d (whole b);
      w = turn_of d e (whole a);
      x = turn_of d e (whole b);
      y = turn_of e c (whole a);
      z = turn_of e c (whole b);
      into = λ s some m.
          let r = turns_of_mix c d e (spot_at a b s) hc hd he (spot-w a b s some) t m in
          (kept c d s r.0, (kept d e s r.1, kept e c s r.2));
      back = λ s some k. mix_of_turns c d e (spot_at a b s) hc hd he (spot-w a b s some) t (turned c d s k.0)
          (turned d e s (k.1).0) (turned e c s (k.1).1);
    }
  where
    kept : (f g : Point) (s : Spot) → pos 0 ≤ℤ turn_of f g (spot_at a b s)
        → IsKeptAt (turn_of f g (whole a)) (turn_of f g (whole b)) s
    kept f g s h = subst (λ (n : ℤ). pos 0 ≤ℤ n) (sym (turn_mixed f g (whole a) (whole b) s.of_a s.of_b)) h

    turned : (f g : Point) (s : Spot) → IsKeptAt (turn_of f g (whole a)) (turn_of f g (whole b)) s
        → pos 0 ≤ℤ turn_of f g (spot_at a b s)
    turned f g s h = subst (λ (n : ℤ). pos 0 ≤ℤ n) (turn_mixed f g (whole a) (whole b) s.of_a s.of_b) h

sides : (tin : Triangulation) (a b : Pt) (ns : List ℕ) → pos 0 <ℤ turn_of_three (places tin Source ns)
    → Sides a b (places tin Source ns)
sides tin a b (i ∷ j ∷ k ∷ []) d = sides_of a b (place Source (corner_at tin i)) (place Source (corner_at tin j))
    (place Source (corner_at tin k)) one one one d
sides tin a b ns d = absurd d.lt

-- ---- a part that reaches from before r to after s
pub record Reaching (tin : Triangulation) (a b : Pt) (t : ℕ) (r s : Spot) : Type 0 where
  pub first : Spot
  pub last : Spot
  pub part : IsPart tin a b t first last
  pub from : IsNotAfter first r
  pub upto : IsNotAfter s last

other_some : (s : Spot) → IsSpot s → IsSpot (mirrored s)
other_some s h = let k : 0 < s.of_a + s.of_b = h in omega arith

le_refl : (n : ℕ) → n ≤ n
le_refl n = omega arith

pub part_of : (tin : Triangulation) (a b : Pt) (t : ℕ) (r s : Spot) → t < length tin.triangles
    → pos 0 <ℤ turn_of_three (places tin Source (numbers_of tin t)) → IsShared tin a b t r → IsShared tin a b t s
    → IsBefore r s → Reaching tin a b t r s
part_of tin a b t r s ht d has_r has_s before = go (sides tin a b (numbers_of tin t) d)
  where
    go : Sides a b (places tin Source (numbers_of tin t)) → Reaching tin a b t r s
    go i =
        let kept = i.into r has_r.some has_r.inside in
        let e = last_of_three i.u i.v i.w i.x i.y i.z r has_r.some kept in
        let f = last_of_three i.v i.u i.x i.w i.z i.y (mirrored r) (other_some r has_r.some)
        (mirror_three i.u i.v i.w i.x i.y i.z r kept) in
        let first = mirrored f.spot in
        let first_r : IsNotAfter first r = mirror_later (mirrored r) f.spot f.from in
        let first_some : IsSpot first = other_some f.spot f.some in
        let s_last : IsNotAfter s e.spot = e.only s has_s.some (i.into s has_s.some has_s.inside) in
        record {
          first = first;
          last = e.spot;
          from = first_r;
          upto = s_last;
          part = record {
            in_range = ht;
            has_first = record {
              some = first_some;
              inside =
                  i.back first first_some (mirror_three i.v i.u i.x i.w i.z i.y f.spot
                  (f.upto f.spot f.some f.from (le_refl (f.spot.of_b * f.spot.of_a))));
            };
            has_last = record {
              some = e.some;
              inside =
                  i.back e.spot e.some (e.upto e.spot e.some e.from (le_refl (e.spot.of_b * e.spot.of_a)));
            };
            differ = before_trans_left first r e.spot first_some first_r
                (before_trans_right r s e.spot e.some before s_last);
            none_before = λ p h. mirror_later (mirrored p) f.spot
                (f.only (mirrored p) (other_some p h.some)
                (mirror_three i.u i.v i.w i.x i.y i.z p (i.into p h.some h.inside)));
            none_after = λ p h. e.only p h.some (i.into p h.some h.inside);
          };
        }

-- a triangle has, with two spots, each spot between them
pub between_in : (tin : Triangulation) (a b : Pt) (t : ℕ) (r s x : Spot)
    → pos 0 <ℤ turn_of_three (places tin Source (numbers_of tin t)) → IsShared tin a b t r → IsShared tin a b t s
    → IsSpot x → IsNotAfter r x → IsNotAfter x s → IsShared tin a b t x
between_in tin a b t r s x d has_r has_s some h k = go (sides tin a b (numbers_of tin t) d)
  where
    go : Sides a b (places tin Source (numbers_of tin t)) → IsShared tin a b t x
    go i =
        let e = last_of_three i.u i.v i.w i.x i.y i.z r has_r.some (i.into r has_r.some has_r.inside) in
        let s_last : IsNotAfter s e.spot = e.only s has_s.some (i.into s has_s.some has_s.inside) in
        record { some = some; inside = i.back x some (e.upto x some h (no_later_trans x s e.spot has_s.some k s_last)) }
