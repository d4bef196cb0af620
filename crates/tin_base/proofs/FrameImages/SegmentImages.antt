-- Segments go to segments, and two segments keep their relation.
use Rattle.std.proofs.Common.{◌↔◌, inl, inr, ℕ, ◌<◌, pos, ◌<ℤ◌, length}
use Rattle.plane_base.specs.Plane.{Point, Same, weighted_sum}
use Rattle.plane_base.proofs.MixLaws.Mixes.{same_refl, same_trans}
use Rattle.tin_base.specs.declared.frames.Frame.TheVariants.{Source, Target}
use Rattle.tin_base.specs.declared.relations.Rel.{Rel}
use Rattle.tin_base.specs.declared.relations.Rel.TheVariants.{Apart, Touching, Crossing, Overlapping}
use Rattle.tin_base.specs.Triangulation.{Triangulation, numbers_of, places, IsInTriangle}
use Rattle.tin_base.specs.Soundness.{IsSound}
use Rattle.tin_base.specs.Images.{AreLikeMixes, IsImage}
use Rattle.tin_base.specs.Relations.{IsBetween, IsCommonPoint, IsOnlyCommonPoint, IsAnEnd, HaveRelation}
use Rattle.tin_base.specs.CarriedSegments.{IsCarried, ImagesAreBetween, EachBetweenIsImage}
use Rattle.tin_base.proofs.FrameImages.Alike.{alike_of}
use Rattle.tin_base.proofs.FrameImages.Agreement.{images_agree, image_moved, images_differ, alike_back, alike_forth}
use Rattle.tin_base.proofs.FrameImages.CornerMixes.{between_images}

-- an image of a point is the like mix in each triangle that has the point
like_in : (tin : Triangulation) (t : ℕ) (p r : Point) → IsSound tin → t < length tin.triangles → pos 0 <ℤ p.w
    → IsInTriangle tin Source t p → IsImage tin p r → AreLikeMixes tin Source (numbers_of tin t) p r
like_in tin t p r sound ht hp in_t image =
    let q = alike_of tin Source (numbers_of tin t) p in_t in
    let m = q.2 in (
      m.0,
      m.1,
      m.2,
      m.3,
      same_trans r q.0 (weighted_sum m.0 (places tin Target (numbers_of tin t))) q.1
          (images_agree tin Source p r q.0 sound hp image (t, ht, m)) m.4,
    )

between_moved : (p q r s : Point) → pos 0 <ℤ s.w → Same r s → IsBetween p q s → IsBetween p q r
between_moved p q r s h same m = (m.0, m.1, m.2, same_trans r s _ h same m.3)

pub images_between : (tin : Triangulation) (p q p' q' : Point) → IsSound tin → IsCarried tin p q p' q'
    → ImagesAreBetween tin p q p' q'
images_between tin p q p' q' sound c r r' hr hr' between image =
    let ns = numbers_of tin c.triangle in
    let s = between_images tin Source ns p q p' q' r c.positive c.positive_end c.positive_image c.positive_image_end
    (like_in tin c.triangle p p' sound c.in_range c.positive c.begins c.image_begins)
    (like_in tin c.triangle q q' sound c.in_range c.positive_end c.ends c.image_ends) between in
    between_moved p' q' r' s.0 s.1 (images_agree tin Source r r' s.0 sound hr image (c.triangle, c.in_range, s.3)) s.2

pub each_between : (tin : Triangulation) (p q p' q' : Point) → IsSound tin → IsCarried tin p q p' q'
    → EachBetweenIsImage tin p q p' q'
each_between tin p q p' q' sound c r' hr' between =
    let ns = numbers_of tin c.triangle in
    let s = between_images tin Target ns p' q' p q r' c.positive_image c.positive_image_end c.positive c.positive_end
    (alike_back tin ns p p' (like_in tin c.triangle p p' sound c.in_range c.positive c.begins c.image_begins))
    (alike_back tin ns q q' (like_in tin c.triangle q q' sound c.in_range c.positive_end c.ends c.image_ends))
    between in
    (s.0, s.1, s.2, (c.triangle, c.in_range, alike_forth tin ns s.0 r' s.3))

-- each point of the segment has an image, between the images of the ends
each_has : (tin : Triangulation) (p q p' q' r : Point) → IsSound tin → IsCarried tin p q p' q' → IsBetween p q r
    → (r' : Point) × (pos 0 <ℤ r'.w) × IsBetween p' q' r' × IsImage tin r r'
each_has tin p q p' q' r sound c between =
    let ns = numbers_of tin c.triangle in
    let s = between_images tin Source ns p q p' q' r c.positive c.positive_end c.positive_image c.positive_image_end
    (like_in tin c.triangle p p' sound c.in_range c.positive c.begins c.image_begins)
    (like_in tin c.triangle q q' sound c.in_range c.positive_end c.ends c.image_ends) between in
    (s.0, s.1, s.2, (c.triangle, c.in_range, s.3))

-- ---- a relation that takes the common points of two segments to those of two others
record Takes (Im : Point → Point → Type 0) (p q e f p' q' e' f' : Point) : Type 0 where
  forth : (r : Point) → IsCommonPoint p q e f r → (r' : Point) × IsCommonPoint p' q' e' f' r' × Im r r'
  back : (r' : Point) → IsCommonPoint p' q' e' f' r' → (r : Point) × IsCommonPoint p q e f r × Im r r'
  agree : (r s r' s' : Point) → pos 0 <ℤ r.w → pos 0 <ℤ s.w → pos 0 <ℤ r'.w → pos 0 <ℤ s'.w → Im r r' → Im s s'
      → Same r s → Same r' s'
  differ : (r s r' s' : Point) → pos 0 <ℤ r.w → pos 0 <ℤ s.w → pos 0 <ℤ r'.w → pos 0 <ℤ s'.w → Im r r' → Im s s'
      → Same r' s' → Same r s
  at_p : Im p p'
  at_q : Im q q'
  at_e : Im e e'
  at_f : Im f f'
  hp : pos 0 <ℤ p.w
  hq : pos 0 <ℤ q.w
  he : pos 0 <ℤ e.w
  hf : pos 0 <ℤ f.w
  hp' : pos 0 <ℤ p'.w
  hq' : pos 0 <ℤ q'.w
  he' : pos 0 <ℤ e'.w
  hf' : pos 0 <ℤ f'.w

other_way : (Im : Point → Point → Type 0) (p q e f p' q' e' f' : Point) → Takes Im p q e f p' q' e' f'
    → Takes (λ r s. Im s r) p' q' e' f' p q e f
other_way Im p q e f p' q' e' f' t =
    record {
      forth = t.back;
      back = t.forth;
      agree = λ r' s' r s hr' hs' hr hs i j same. t.differ r s r' s' hr hs hr' hs' i j same;
      differ = λ r' s' r s hr' hs' hr hs i j same. t.agree r s r' s' hr hs hr' hs' i j same;
      at_p = t.at_p;
      at_q = t.at_q;
      at_e = t.at_e;
      at_f = t.at_f;
      hp = t.hp';
      hq = t.hq';
      he = t.he';
      hf = t.hf';
      hp' = t.hp;
      hq' = t.hq;
      he' = t.he;
      hf' = t.hf;
    }

end_taken : (Im : Point → Point → Type 0) (p q e f p' q' e' f' r r' : Point) → Takes Im p q e f p' q' e' f'
    → pos 0 <ℤ r.w → pos 0 <ℤ r'.w → Im r r' → IsAnEnd p q e f r → IsAnEnd p' q' e' f' r'
end_taken Im p q e f p' q' e' f' r r' t hr hr' i (inl s) = inl (t.agree r p r' p' hr t.hp hr' t.hp' i t.at_p s)
end_taken Im p q e f p' q' e' f' r r' t hr hr' i (inr (inl s)) =
    inr (inl (t.agree r q r' q' hr t.hq hr' t.hq' i t.at_q s))
end_taken Im p q e f p' q' e' f' r r' t hr hr' i (inr (inr (inl s))) =
    inr (inr (inl (t.agree r e r' e' hr t.he hr' t.he' i t.at_e s)))
end_taken Im p q e f p' q' e' f' r r' t hr hr' i (inr (inr (inr s))) =
    inr (inr (inr (t.agree r f r' f' hr t.hf hr' t.hf' i t.at_f s)))

only_taken : (Im : Point → Point → Type 0) (p q e f p' q' e' f' r r' : Point) → Takes Im p q e f p' q' e' f' → Im r r'
    → IsCommonPoint p' q' e' f' r' → IsOnlyCommonPoint p q e f r → IsOnlyCommonPoint p' q' e' f' r'
only_taken Im p q e f p' q' e' f' r r' t i h only = (
  h,
  λ s' k. let b = t.back s' k in let c = b.1 in let o =
      only.0 in t.agree b.0 r s' r' c.positive o.positive k.positive h.positive b.2 i (only.1 b.0 c),
)

taken : (Im : Point → Point → Type 0) (p q e f p' q' e' f' : Point) → Takes Im p q e f p' q' e' f' → (relation : Rel)
    → HaveRelation relation p q e f → HaveRelation relation p' q' e' f'
taken Im p q e f p' q' e' f' t Apart none = λ r' h. let b = t.back r' h in none b.0 b.1
taken Im p q e f p' q' e' f' t Touching h =
    let r = h.0 in
    let o : IsCommonPoint p q e f r = (h.1).0 in
    let a = t.forth r o in
    let c = a.1 in (
      a.0,
      only_taken Im p q e f p' q' e' f' r a.0 t a.2 a.1 h.1,
      end_taken Im p q e f p' q' e' f' r a.0 t o.positive
          c.positive a.2 h.2,
    )
taken Im p q e f p' q' e' f' t Crossing h =
    let r = h.0 in
    let o : IsCommonPoint p q e f r = (h.1).0 in
    let a = t.forth r o in
    let c = a.1 in (
      a.0,
      only_taken Im p q e f p' q' e' f' r a.0 t a.2 a.1 h.1,
      λ k. h.2 (end_taken (λ r s. Im s r) p' q' e' f' p q e f a.0 r (other_way Im p q e f p' q' e' f' t) c.positive
          o.positive a.2 k),
    )
taken Im p q e f p' q' e' f' t Overlapping h =
    let a = t.forth h.0 h.2 in let b = t.forth h.1 h.3 in
    let ha = a.1 in let hb = b.1 in let hr = h.2 in let hs = h.3 in (
      a.0,
      b.0,
      a.1,
      b.1,
      λ same. h.4 (t.differ h.0 h.1 a.0 b.0 hr.positive hs.positive ha.positive hb.positive a.2 b.2
          same),
    )

-- ---- images do
takes : (tin : Triangulation) (p q p' q' e f e' f' : Point) → IsSound tin → IsCarried tin p q p' q'
    → IsCarried tin e f e' f' → Takes (λ r s. IsImage tin r s) p q e f p' q' e' f'
takes tin p q p' q' e f e' f' sound c d =
    record {
      forth = λ r h.
          let s = each_has tin p q p' q' r sound c h.first in (
            s.0,
            record {
              positive = s.1;
              first = s.2;
              second =
                  images_between tin e f e' f' sound d r s.0 h.positive s.1 h.second s.3;
            },
            s.3,
          );
      back = λ r' h.
          let s = each_between tin p q p' q' sound c r' h.positive h.first in
          let t = each_between tin e f e' f' sound d r' h.positive h.second in (
            s.0,
            record {
              positive = s.1;
              first = s.2;
              second =
                  between_moved e f s.0 t.0 t.1 (images_differ tin sound s.0 t.0 r' r' s.1 t.1 h.positive h.positive s.3
                  t.3
                  (same_refl r')) t.2;
            },
            s.3,
          );
      agree = λ r s r' s' hr hs hr' hs' i j same. images_agree tin Source r r' s' sound hr i
          (image_moved tin Source s r s' hs same j);
      differ = λ r s r' s' hr hs hr' hs' i j same. images_differ tin sound r s r' s' hr hs hr' hs' i j same;
      at_p = c.image_begins;
      at_q = c.image_ends;
      at_e = d.image_begins;
      at_f = d.image_ends;
      hp = c.positive;
      hq = c.positive_end;
      he = d.positive;
      hf = d.positive_end;
      hp' = c.positive_image;
      hq' = c.positive_image_end;
      he' = d.positive_image;
      hf' = d.positive_image_end;
    }

pub relation_kept : (tin : Triangulation) (p q p' q' e f e' f' : Point) → IsSound tin → IsCarried tin p q p' q'
    → IsCarried tin e f e' f' → (relation : Rel) → HaveRelation relation p q e f ↔ HaveRelation relation p' q' e' f'
relation_kept tin p q p' q' e f e' f' sound c d relation =
    let t = takes tin p q p' q' e f e' f' sound c d in (
      taken (λ r s. IsImage tin r s) p q e f p' q' e' f' t relation,
      taken (λ r s. IsImage tin s r) p' q' e' f' p q e f (other_way (λ r s. IsImage tin r s) p q e f p' q' e' f' t)
          relation,
    )
