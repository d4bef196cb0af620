-- Clips whose triangles have their segments whole have the relation of these segments.
use Rattle.std.proofs.Common.{◌≡◌, ◌⊎◌, inl, inr, [], ◌∷◌, arith}
use Rattle.plane_base.specs.Plane.{Point, IsMix, whole, corners_of}
use Rattle.plane_base.specs.declared.shapes.Pt.{Pt}
use Rattle.plane_base.proofs.MixLaws.Mixes.{mixes_mix, turn_on_side}
use Rattle.tin_base.specs.declared.relations.Rel.{Rel}
use Rattle.tin_base.specs.Relations.{HaveRelation}
use Rattle.tin_base.proofs.SegmentSpots.Spots.{one}
use Rattle.meet_rel.specs.declared.clips.Clip.{Clip}
use Rattle.meet_rel.specs.Clips.{AreEnds, IsWhole}
use Rattle.meet_rel.proofs.Scale.{IsOn, mix_first, mix_last}
use Rattle.meet_rel.proofs.Ways.{AreDifferent, way, on_line, up_ends}
use Rattle.meet_rel.proofs.EqualSegments.{HaveSamePoints, HaveSameEnds, same_ends, replaced}
use Rattle.meet_rel.proofs.ClipEnds.{same_or_different, one_point}

-- ---- one clip
on_ends : (u v : Pt) (d : AreDifferent u v) (p : Pt) → IsMix (whole p) (whole u ∷ whole v ∷ [])
    → IsOn (way u v d) (whole p)
on_ends u v d p m = on_line u v d (whole p) one (turn_on_side (whole u) (whole v) (whole p) one one m)

whole_points : (clip : Clip) (f l : Point) → IsWhole clip → AreEnds clip f l
    → HaveSamePoints f l (whole clip.a) (whole clip.b)
whole_points clip f l w ends = record {
  f_positive = ends.first_positive;
  l_positive = ends.last_positive;
  a_positive = one;
  b_positive = one;
  forth = λ r hr m. (ends.forth r hr m).between;
  back = λ r hr m. ends.back r hr (record {
    between = m;
    inside = mixes_mix r (whole clip.a ∷ whole clip.b ∷ []) (corners_of clip.tri) (one, (one, tt))
        (one, (one, (one, tt))) (w.begins, (w.ends, tt)) m;
  });
}

whole_ends : (clip : Clip) (f l : Point) → HaveSamePoints f l (whole clip.a) (whole clip.b)
    → HaveSameEnds f l (whole clip.a) (whole clip.b)
whole_ends clip f l h = go (same_or_different clip.a clip.b)
  where
    go : (clip.a ≡ clip.b) ⊎ AreDifferent clip.a clip.b → HaveSameEnds f l (whole clip.a) (whole clip.b)
    go (inl e) = grind (arith, one_point, mix_first, mix_last)
    go (inr d) = same_ends (way clip.a clip.b d) f l (whole clip.a) (whole clip.b)
        (on_ends clip.a clip.b d clip.a (mix_first (whole clip.a) (whole clip.b)))
        (on_ends clip.a clip.b d clip.b (mix_last (whole clip.a) (whole clip.b))) (up_ends clip.a clip.b d) h

-- ---- two clips
pub whole_told : (p q : Clip) (relation : Rel) → IsWhole p → IsWhole q
    → HaveRelation relation (whole p.a) (whole p.b) (whole q.a) (whole q.b)
    → (f l g h : Point) → AreEnds p f l → AreEnds q g h → HaveRelation relation f l g h
whole_told p q relation hp hq have f l g h ends ends' =
    let first = whole_points p f l hp ends in let second = whole_points q g h hq ends' in
    replaced (whole p.a) (whole p.b) (whole q.a) (whole q.b) f l g h first (whole_ends p f l first) second
    (whole_ends q g h second) relation have
