-- A piece is its clip: its exact ends are the ends of what its triangle has of its segment.
use Rattle.std.proofs.Common.{◌≡◌, ◌≢◌, ◌⊎◌, inl, inr, ℕ, ◌+◌, ◌<◌, pos, ◌<ℤ◌, List, [], ◌∷◌}
use Rattle.std.proofs.Common.{length, sym, subst, arith}
use Rattle.plane_base.specs.Plane.{Point, Same, IsMix, whole, corners_of}
use Rattle.plane_base.specs.declared.shapes.Pt.{Pt}
use Rattle.plane_base.proofs.MixLaws.Mixes.{same_refl, same_sym, same_trans, Between, between_weights, weights_between}
use Rattle.plane_base.proofs.MixLaws.Mixes.{mix_moved, mixes_mix, turn_on_side}
use Rattle.tin_base.specs.declared.frames.Frame.TheVariants.{Source}
use Rattle.tin_base.specs.declared.pieces.Piece.{Piece}
use Rattle.tin_base.specs.Triangulation.{Triangulation, numbers_of, places, IsInTriangle}
use Rattle.tin_base.specs.Segments.{Spot, Part, at_a, spot_at, IsShared, IsPart}
use Rattle.tin_base.specs.Pieces.{IsPieceOf, first_point, last_point}
use Rattle.tin_base.specs.declared.relations.Rel.TheVariants.{Apart}
use Rattle.tin_base.specs.Relations.{HaveRelation}
use Rattle.tin_base.proofs.SegmentSpots.Spots.{one, spot-w, spot_first}
use Rattle.tin_base.proofs.TriangleLemmas.Closeness.{places_stand}
use Rattle.tin_base.proofs.PieceChains.Overlap.{at_twice}
use Rattle.meet_rel.specs.declared.clips.Clip.{Clip}
use Rattle.meet_rel.specs.Clips.{IsOf, AreEnds}
use Rattle.meet_rel.proofs.Axes.{same_or_not}
use Rattle.meet_rel.proofs.Scale.{IsOn, between_of, mix_first}
use Rattle.meet_rel.proofs.Ways.{AreDifferent, way, different_x, different_y, on_line, up_spot}

-- the clip of a piece
pub record IsClipOf (tin : Triangulation) (piece : Piece) (clip : Clip) : Type 0 where
  pub a_is : clip.a ≡ piece.a
  pub b_is : clip.b ≡ piece.b
  pub tri_is : corners_of clip.tri ≡ places tin Source (numbers_of tin piece.tri)

-- ---- two points are the same or differ
pub same_or_different : (a b : Pt) → (a ≡ b) ⊎ AreDifferent a b
same_or_different a b = grind (arith, same_or_not, AreDifferent, different_x, different_y)

pub different_not : (a b : Pt) → AreDifferent a b → a ≢ b
different_not a b d e = grind (arith, AreDifferent)

-- ---- spots
abbrev spot_between : (a b : Pt) (s : Spot) → 0 < s.of_a + s.of_b → Between (whole a) (whole b) (spot_at a b s)
spot_between a b s some = record { k = s.of_a; l = s.of_b; some = some; same = same_refl (spot_at a b s) }

spot_mix : (a b : Pt) (s : Spot) → 0 < s.of_a + s.of_b → IsMix (spot_at a b s) (whole a ∷ whole b ∷ [])
spot_mix a b s some = weights_between (whole a) (whole b) (spot_at a b s) (spot_between a b s some)

-- ---- the part of a segment
part_ends : (tin : Triangulation) (a b : Pt) (t : ℕ) (clip : Clip) (first last : Spot) → clip.a ≡ a → clip.b ≡ b
    → corners_of clip.tri ≡ places tin Source (numbers_of tin t) → AreDifferent a b → IsPart tin a b t first last
    → AreEnds clip (spot_at a b first) (spot_at a b last)
part_ends tin a b t clip first last ea eb et d part =
    record {
      first_positive = spot-w a b first some_first;
      last_positive = spot-w a b last some_last;
      forth = λ r hr m. to_clip r
          (mixes_mix r (f ∷ l ∷ []) (whole a ∷ whole b ∷ [])
          (spot-w a b first some_first, (spot-w a b last some_last, tt)) (one, (one, tt))
          (spot_mix a b first some_first, (spot_mix a b last some_last, tt)) m)
          (mixes_mix r (f ∷ l ∷ []) (places tin Source (numbers_of tin t))
          (spot-w a b first some_first, (spot-w a b last some_last, tt))
          (places_stand tin Source (numbers_of tin t)) (has_f.inside, (has_l.inside, tt)) m);
      back = λ r hr of. of_clip r hr (of_between r of) (subst (λ (ps : List Point). IsMix r ps) et of.inside);
    }
  where
    f : Point
    f = spot_at a b first

    l : Point
    l = spot_at a b last

    has_f : IsShared tin a b t first
    has_f = part.has_first

    has_l : IsShared tin a b t last
    has_l = part.has_last

    some_first : 0 < first.of_a + first.of_b
    some_first = has_f.some

    some_last : 0 < last.of_a + last.of_b
    some_last = has_l.some

    to_clip : (r : Point) → IsMix r (whole a ∷ whole b ∷ []) → IsMix r (places tin Source (numbers_of tin t))
        → IsOf clip r
    to_clip r m i = grind arith

    of_between : (r : Point) → IsOf clip r → IsMix r (whole a ∷ whole b ∷ [])
    of_between r of = subst (λ (p : Pt). IsMix r (whole a ∷ whole p ∷ [])) eb
        (subst (λ (p : Pt). IsMix r (whole p ∷ whole clip.b ∷ [])) ea of.between)

    of_clip : (r : Point) → pos 0 <ℤ r.w → IsMix r (whole a ∷ whole b ∷ [])
        → IsMix r (places tin Source (numbers_of tin t)) → IsMix r (spot_at a b first ∷ spot_at a b last ∷ [])
    of_clip r hr m i =
        let w = between_weights (whole a) (whole b) r m in
        let s : Spot = record { of_a = w.k; of_b = w.l } in
        let q = spot_at a b s in
        let hq = spot-w a b s w.some in
        let shared : IsShared tin a b t s = record {
          some = w.some;
          inside =
              mix_moved r q (places tin Source (numbers_of tin t)) hr (same_sym r q w.same) i;
        } in
        mix_moved q r (spot_at a b first ∷ spot_at a b last ∷ []) hq w.same
        (between_of (way a b d) (spot_at a b first) (spot_at a b last) q (on_spot first some_first)
        (on_spot last some_last) (on_spot s w.some)
        (up_spot a b d first s (part.none_before s shared)) (up_spot a b d s last (part.none_after s shared)))
      where
        on_spot : (s : Spot) → 0 < s.of_a + s.of_b → IsOn (way a b d) (spot_at a b s)
        on_spot s some = on_line a b d (spot_at a b s) (spot-w a b s some)
            (turn_on_side (whole a) (whole b) (spot_at a b s) one one (spot_mix a b s some))

-- ---- the point of a segment from a point to itself
pub some_a : 0 < at_a.of_a + at_a.of_b
some_a = omega arith

-- a segment from a point to itself has this point alone
pub one_point : (a b : Pt) (r : Point) → a ≡ b → IsMix r (whole a ∷ whole b ∷ []) → Same r (whole a)
one_point a b r e m = at_twice r (whole a) one (subst (λ (p : Pt). IsMix r (whole a ∷ whole p ∷ [])) (sym e) m)

point_ends : (tin : Triangulation) (a b : Pt) (t : ℕ) (clip : Clip) → clip.a ≡ a → clip.b ≡ b
    → corners_of clip.tri ≡ places tin Source (numbers_of tin t) → a ≡ b → IsInTriangle tin Source t (whole a)
    → AreEnds clip (spot_at a b at_a) (spot_at a b at_a)
point_ends tin a b t clip ea eb et e inside =
    record {
      first_positive = hf;
      last_positive = hf;
      forth = λ r hr m. there r hr (same_trans r f (whole a) hf (at_twice r f hf m) (spot_first a b));
      back = λ r hr of. mix_moved f r (f ∷ f ∷ []) hf
          (same_trans r (whole a) f one (one_point a b r e (of_between r of)) (same_sym f (whole a) (spot_first a b)))
          (mix_first f f);
    }
  where
    f : Point
    f = spot_at a b at_a

    hf : pos 0 <ℤ (spot_at a b at_a).w
    hf = spot-w a b at_a some_a

    of_between : (r : Point) → IsOf clip r → IsMix r (whole a ∷ whole b ∷ [])
    of_between r of = subst (λ (p : Pt). IsMix r (whole a ∷ whole p ∷ [])) eb
        (subst (λ (p : Pt). IsMix r (whole p ∷ whole clip.b ∷ [])) ea of.between)

    there : (r : Point) → pos 0 <ℤ r.w → Same r (whole a) → IsOf clip r
    there r hr s = record {
      between = mix_moved (whole a) r (whole clip.a ∷ whole clip.b ∷ []) one s
          (subst (λ (p : Pt). IsMix (whole a) (whole p ∷ whole clip.b ∷ [])) (sym ea)
          (mix_first (whole a) (whole clip.b)));
      inside = mix_moved (whole a) r (corners_of clip.tri) one s
          (subst (λ (ps : List Point). IsMix (whole a) ps) (sym et) inside);
    }

pub piece_ends : (tin : Triangulation) (piece : Piece) (clip : Clip) (part : Part) → IsClipOf tin piece clip
    → IsPieceOf tin piece part → AreEnds clip (first_point piece part) (last_point piece part)
piece_ends tin piece clip part is h = go (same_or_different piece.a piece.b)
  where
    go : (piece.a ≡ piece.b) ⊎ AreDifferent piece.a piece.b
        → AreEnds clip (first_point piece part) (last_point piece part)
    go (inl e) =
        let p = h.of_point e in
        subst (λ (s : Spot). AreEnds clip (spot_at piece.a piece.b s) (spot_at piece.a piece.b part.last))
        (sym p.begins)
        (subst (λ (s : Spot). AreEnds clip (spot_at piece.a piece.b at_a) (spot_at piece.a piece.b s)) (sym p.ends)
        (point_ends tin piece.a piece.b piece.tri clip is.a_is is.b_is is.tri_is e p.has_point))
    go (inr d) = part_ends tin piece.a piece.b piece.tri clip part.first part.last is.a_is is.b_is is.tri_is d
        (h.of_segment (different_not piece.a piece.b d))

-- ---- the triangle of a piece has its exact ends
pub record HasEnds (tin : Triangulation) (piece : Piece) (part : Part) : Type 0 where
  pub in_range : piece.tri < length tin.triangles
  pub first : IsInTriangle tin Source piece.tri (first_point piece part)
  pub last : IsInTriangle tin Source piece.tri (last_point piece part)
  pub first_positive : pos 0 <ℤ (first_point piece part).w
  pub last_positive : pos 0 <ℤ (last_point piece part).w

pub has_ends : (tin : Triangulation) (piece : Piece) (part : Part) → IsPieceOf tin piece part → HasEnds tin piece part
has_ends tin piece part h = go (same_or_different piece.a piece.b)
  where
    at_point : IsInTriangle tin Source piece.tri (whole piece.a)
        → IsInTriangle tin Source piece.tri (spot_at piece.a piece.b at_a)
    at_point m = mix_moved (whole piece.a) (spot_at piece.a piece.b at_a) (places tin Source (numbers_of tin piece.tri))
        one (spot_first piece.a piece.b) m

    go : (piece.a ≡ piece.b) ⊎ AreDifferent piece.a piece.b → HasEnds tin piece part
    go (inl e) = grind (arith, at_point, spot-w, some_a)
    go (inr d) =
        let p = h.of_segment (different_not piece.a piece.b d) in
        let f = p.has_first in let l = p.has_last in
        record {
          in_range = p.in_range;
          first = f.inside;
          last = l.inside;
          first_positive = spot-w piece.a piece.b part.first f.some;
          last_positive = spot-w piece.a piece.b part.last l.some;
        }

-- ---- a piece is on its segment
on_segment : (tin : Triangulation) (piece : Piece) (part : Part) → IsPieceOf tin piece part → (r : Point)
    → IsMix r (first_point piece part ∷ last_point piece part ∷ []) → IsMix r (whole piece.a ∷ whole piece.b ∷ [])
on_segment tin piece part h r m = go (same_or_different piece.a piece.b)
  where
    between : 0 < part.first.of_a + part.first.of_b → 0 < part.last.of_a + part.last.of_b
        → IsMix r (whole piece.a ∷ whole piece.b ∷ [])
    between f l = mixes_mix r (first_point piece part ∷ last_point piece part ∷ []) (whole piece.a ∷ whole piece.b ∷ [])
        (spot-w piece.a piece.b part.first f, (spot-w piece.a piece.b part.last l, tt)) (one, (one, tt))
        (spot_mix piece.a piece.b part.first f, (spot_mix piece.a piece.b part.last l, tt)) m

    go : (piece.a ≡ piece.b) ⊎ AreDifferent piece.a piece.b → IsMix r (whole piece.a ∷ whole piece.b ∷ [])
    go (inl e) = grind (arith, between, some_a)
    go (inr d) = let p = h.of_segment (different_not piece.a piece.b d) in between p.has_first.some p.has_last.some

-- so pieces of segments that have no common point have none
pub apart_pieces : (tin : Triangulation) (p q : Piece)
    → HaveRelation Apart (whole p.a) (whole p.b) (whole q.a) (whole q.b) → (s t : Part) → IsPieceOf tin p s → IsPieceOf tin q t
    → HaveRelation Apart (first_point p s) (last_point p s) (first_point q t) (last_point q t)
apart_pieces tin p q apart s t hs ht r c = apart r (record {
  positive = c.positive;
  first = on_segment tin p s hs r c.first;
  second = on_segment tin q t ht r c.second;
})

pub different_of : (a b : Pt) → a ≢ b → AreDifferent a b
different_of a b n = grind (arith, same_or_different, AreDifferent)
