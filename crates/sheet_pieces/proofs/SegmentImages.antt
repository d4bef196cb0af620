-- The images of the pieces of a segment are together the image of the segment.
use Rattle.std.proofs.Common.{◌≡◌, ◌≢◌, ◌⊎◌, inl, inr, ◌↔◌, ℕ, zero, suc, ◌+◌, ◌-◌, ◌*◌, ◌<◌, ◌≤◌, ℤ, pos, ◌+ℤ◌, ◌*ℤ◌}
use Rattle.std.proofs.Common.{◌≤ℤ◌, ◌<ℤ◌, List, [], ◌∷◌, length, ap, sym, subst, arith}
use Rattle.std.proofs.lemmas.Int.{ints}
use Rattle.integer_ring.proofs.Ring.{num, neg, ◌⊕◌, ◌⊖◌, ◌⊗◌}
use Rattle.integer_ring.proofs.Order.{nonneg_pos}
use Rattle.integer_ring.proofs.Claims.{◌≐◌, ◌≼◌, ◌≺◌, gap, over, eqn, ◌⊞◌, ◌⊠◌, ◌because◌, ◌otherwise◌, ◌⇒◌, follows}
use Rattle.integer_ring.proofs.Claims.{solve}
use Rattle.plain_laws.proofs.Weights.{two_positive, weight_above}
use Rattle.plane_base.specs.Plane.{Point, Same, IsMix, whole}
use Rattle.plane_base.specs.declared.shapes.Pt.{Pt}
use Rattle.plane_base.proofs.MixLaws.Mixes.{same_refl, same_sym, same_trans, Between, between_weights, weights_between}
use Rattle.plane_base.proofs.MixLaws.Mixes.{mixes_mix, mix_moved}
use Rattle.tin_base.specs.declared.frames.Frame.TheVariants.{Source}
use Rattle.tin_base.specs.Triangulation.{Triangulation, IsInTriangle}
use Rattle.tin_base.specs.Soundness.{IsSound}
use Rattle.tin_base.specs.Images.{IsImage}
use Rattle.tin_base.specs.Relations.{IsBetween}
use Rattle.tin_base.specs.CarriedSegments.{IsCarried}
use Rattle.tin_base.specs.Segments.{Spot, spot_at, at_a, IsBefore, IsNotAfter, IsInside, IsPart, Part, part_at}
use Rattle.tin_base.specs.Segments.{ArePieces, ArePiecesAt}
use Rattle.tin_base.proofs.FrameImages.Agreement.{each_has_image}
use Rattle.tin_base.proofs.FrameImages.SegmentImages.{images_between, each_between}
use Rattle.tin_base.proofs.PieceChains.Chain.{covered}
use Rattle.tin_base.proofs.SegmentSpots.Spots.{one, spot-w, spot_of_point}
use Rattle.affine_image.proofs.PlaceImages.{image_moved}
use Rattle.sheet_pieces.specs.SegmentImages.{IsImageOfSome, IsOnImageOf, PieceImagesAreTheImage}
use Rattle.sheet_pieces.proofs.PartSequences.{same_or}

-- ---- a spot between two others is a mix of them
-- k of f and l of g are as s, on one axis; k + s2·g1 = s1·g2 and l + s1·f2 = s2·f1
mix_axis : (k l f1 f2 g1 g2 s1 s2 a b c d : ℤ) → k +ℤ s2 *ℤ g1 ≡ s1 *ℤ g2 → l +ℤ s1 *ℤ f2 ≡ s2 *ℤ f1
    → (s1 *ℤ a +ℤ (s2 *ℤ b +ℤ pos 0)) *ℤ (k *ℤ (f1 *ℤ c +ℤ (f2 *ℤ d +ℤ pos 0))
    +ℤ (l *ℤ (g1 *ℤ c +ℤ (g2 *ℤ d +ℤ pos 0)) +ℤ pos 0))
    ≡ (k *ℤ (f1 *ℤ a +ℤ (f2 *ℤ b +ℤ pos 0)) +ℤ (l *ℤ (g1 *ℤ a +ℤ (g2 *ℤ b +ℤ pos 0)) +ℤ pos 0))
    *ℤ (s1 *ℤ c +ℤ (s2 *ℤ d +ℤ pos 0))
mix_axis =
    follows 12 (λ k l f1 f2 g1 g2 s1 s2 a b c d. k ⊕ s2 ⊗ g1 ≐ s1 ⊗ g2 ⇒ l ⊕ s1 ⊗ f2 ≐ s2 ⊗ f1
    ⇒ (s1 ⊗ a ⊕ (s2 ⊗ b ⊕ num (pos 0))) ⊗ (k ⊗ (f1 ⊗ c ⊕ (f2 ⊗ d ⊕ num (pos 0)))
    ⊕ (l ⊗ (g1 ⊗ c ⊕ (g2 ⊗ d ⊕ num (pos 0))) ⊕ num (pos 0)))
    ≐ (k ⊗ (f1 ⊗ a ⊕ (f2 ⊗ b ⊕ num (pos 0))) ⊕ (l ⊗ (g1 ⊗ a ⊕ (g2 ⊗ b ⊕ num (pos 0))) ⊕ num (pos 0)))
    ⊗ (s1 ⊗ c ⊕ (s2 ⊗ d ⊕ num (pos 0)))
    because eqn 1 (k ⊗ (a ⊗ d ⊖ b ⊗ c)) ⊞ eqn 0 (neg (l ⊗ (a ⊗ d ⊖ b ⊗ c)))) tt

-- one of the two weights is weight_above 0
some_weight : (k l f1 f2 g1 g2 s1 s2 : ℤ) → k +ℤ s2 *ℤ g1 ≡ s1 *ℤ g2 → l +ℤ s1 *ℤ f2 ≡ s2 *ℤ f1 → pos 0 ≤ℤ k
    → pos 0 ≤ℤ l
    → pos 0 ≤ℤ (f1 +ℤ f2) → pos 0 ≤ℤ (g1 +ℤ g2) → pos 0 <ℤ (s1 +ℤ s2) → (f2 *ℤ g1) <ℤ (g2 *ℤ f1) → pos 0 <ℤ (k +ℤ l)
some_weight =
    follows 8 (λ k l f1 f2 g1 g2 s1 s2. k ⊕ s2 ⊗ g1 ≐ s1 ⊗ g2 ⇒ l ⊕ s1 ⊗ f2 ≐ s2
    ⊗ f1 ⇒ num (pos 0) ≼ k ⇒ num (pos 0) ≼ l
    ⇒ num (pos 0) ≼ f1 ⊕ f2 ⇒ num (pos 0) ≼ g1 ⊕ g2 ⇒ num (pos 0) ≺ s1 ⊕ s2 ⇒ f2 ⊗ g1 ≺ g2 ⊗ f1 ⇒ num (pos 0) ≺ k ⊕ l
    otherwise over 7 ⊠ gap 6 ⊞ over 6 ⊞ gap 8 ⊠ (gap 4 ⊞ gap 5) ⊞ gap 2 ⊠ gap 5 ⊞ gap 3 ⊠ gap 4 ⊞ eqn 0 (neg (f1 ⊕ f2))
    ⊞ eqn 1 (neg (g1 ⊕ g2))) tt

-- what is left of a number
left : (m n : ℕ) → m ≤ n → (k : ℕ) × (k + m ≡ n)
left m n h = (n - m, omega arith)

below : (m n : ℕ) → m < n → pos m <ℤ pos n
below m n h = omega (arith, ints)

both : (m n : ℕ) → pos 0 ≤ℤ (pos m +ℤ pos n)
both m n = omega (arith, ints)

spot_between : (a b : Pt) (f g s : Spot) → IsBefore f g → 0 < s.of_a + s.of_b → IsNotAfter f s → IsNotAfter s g
    → IsBetween (spot_at a b f) (spot_at a b g) (spot_at a b s)
spot_between a b f g s before some from upto =
    let k = left (s.of_b * g.of_a) (g.of_b * s.of_a) upto in
    let l = left (f.of_b * s.of_a) (s.of_b * f.of_a) from in
    by_weights k.0 l.0 (k_in_z k.0 k.1) (l_in_z l.0 l.1)
  where
    k_in_z : (k : ℕ) → k + s.of_b * g.of_a ≡ g.of_b * s.of_a
        → pos k +ℤ pos s.of_b *ℤ pos g.of_a ≡ pos s.of_a *ℤ pos g.of_b
    k_in_z k e = let f : k + s.of_b * g.of_a ≡ s.of_a * g.of_b = omega (arith, e) in ap pos f

    l_in_z : (l : ℕ) → l + f.of_b * s.of_a ≡ s.of_b * f.of_a
        → pos l +ℤ pos s.of_a *ℤ pos f.of_b ≡ pos s.of_b *ℤ pos f.of_a
    l_in_z l e = let g' : l + s.of_a * f.of_b ≡ s.of_b * f.of_a = omega (arith, e) in ap pos g'

    by_weights : (k l : ℕ) → pos k +ℤ pos s.of_b *ℤ pos g.of_a ≡ pos s.of_a *ℤ pos g.of_b
        → pos l +ℤ pos s.of_a *ℤ pos f.of_b ≡ pos s.of_b *ℤ pos f.of_a
        → IsBetween (spot_at a b f) (spot_at a b g) (spot_at a b s)
    by_weights k l ek el =
        let f1 = pos f.of_a in let f2 = pos f.of_b in let g1 = pos g.of_a in let g2 = pos g.of_b in let s1 =
        pos s.of_a in let s2 = pos s.of_b in
        weights_between (spot_at a b f) (spot_at a b g) (spot_at a b s) (record {
          k = k;
          l = l;
          some = weight_above k l (some_weight (pos k) (pos l) f1 f2 g1 g2 s1 s2 ek el (nonneg_pos k) (nonneg_pos l)
              (both f.of_a f.of_b) (both g.of_a g.of_b)
              (two_positive s.of_a s.of_b some) (below (f.of_b * g.of_a) (g.of_b * f.of_a) before));
          same = (
            mix_axis (pos k) (pos l) f1 f2 g1 g2 s1 s2 a.x b.x (pos 1) (pos 1) ek el,
            mix_axis (pos k) (pos l) f1 f2 g1 g2 s1 s2 a.y b.y (pos 1) (pos 1) ek el,
          );
        })

-- ---- one piece
carried : (tin : Triangulation) (a b : Pt) (t : ℕ) (f l : Spot) (first last : Point) → IsPart tin a b t f l
    → IsImage tin (spot_at a b f) first → IsImage tin (spot_at a b l) last
    → pos 0 <ℤ first.w → pos 0 <ℤ last.w → IsCarried tin (spot_at a b f) (spot_at a b l) first last
carried tin a b t f l first last part is_first is_last first_positive last_positive =
    let has_first = part.has_first in let has_last = part.has_last in
    record {
      triangle = t;
      in_range = part.in_range;
      begins = has_first.inside;
      ends = has_last.inside;
      image_begins = is_first;
      image_ends = is_last;
      positive = spot-w a b f has_first.some;
      positive_end = spot-w a b l has_last.some;
      positive_image = first_positive;
      positive_image_end = last_positive;
    }

-- the image of a spot of a part is on the part's image
on_image : (tin : Triangulation) (a b : Pt) (t : ℕ) (part : Part) (s : Spot) (r : Point) → IsSound tin
    → IsPart tin a b t part.first part.last → 0 < s.of_a + s.of_b
    → IsNotAfter part.first s → IsNotAfter s part.last → IsImage tin (spot_at a b s) r → pos 0 <ℤ r.w
    → IsOnImageOf tin a b part r
on_image tin a b t part s r sound is some from upto image positive =
    let has_first = is.has_first in let has_last = is.has_last in
    let first = each_has_image tin (spot_at a b part.first) (spot-w a b part.first has_first.some)
    (t, is.in_range, has_first.inside) in
    let last = each_has_image tin (spot_at a b part.last) (spot-w a b part.last has_last.some)
    (t, is.in_range, has_last.inside) in
    record {
      first = first.0;
      last = last.0;
      is_first = first.2;
      is_last = last.2;
      first_positive = first.1;
      last_positive = last.1;
      between = images_between tin (spot_at a b part.first) (spot_at a b part.last) first.0 last.0 sound
          (carried tin a b t part.first part.last first.0 last.0 is first.2 last.2 first.1 last.1)
          (spot_at a b s) r (spot-w a b s some) positive
          (spot_between a b part.first part.last s is.differ some from upto) image;
    }

-- a mix of two spots is a point of the segment
spots_mix : (a b : Pt) (f l : Spot) (p : Point) → 0 < f.of_a + f.of_b → 0 < l.of_a + l.of_b
    → IsBetween (spot_at a b f) (spot_at a b l) p → IsBetween (whole a) (whole b) p
spots_mix a b f l p some_f some_l between =
    mixes_mix p (spot_at a b f ∷ spot_at a b l ∷ []) (whole a ∷ whole b ∷ [])
    (spot-w a b f some_f, (spot-w a b l some_l, tt)) (one, (one, tt))
    (mix f some_f, (mix l some_l, tt)) between
  where
    mix : (s : Spot) → 0 < s.of_a + s.of_b → IsMix (spot_at a b s) (whole a ∷ whole b ∷ [])
    mix s some = weights_between (whole a) (whole b) (spot_at a b s)
        (record { k = s.of_a; l = s.of_b; some = some; same = same_refl (spot_at a b s) })

-- a point of the part's image is the image of a point of the segment
image_of_some : (tin : Triangulation) (a b : Pt) (t : ℕ) (part : Part) (r : Point) → IsSound tin
    → IsPart tin a b t part.first part.last → pos 0 <ℤ r.w → IsOnImageOf tin a b part r → IsImageOfSome tin a b r
image_of_some tin a b t part r sound is positive on =
    let has_first = is.has_first in let has_last = is.has_last in
    let p = each_between tin (spot_at a b part.first) (spot_at a b part.last) on.first on.last sound
    (carried tin a b t part.first part.last on.first on.last is on.is_first on.is_last on.first_positive
    on.last_positive) r positive on.between in
    (p.0, p.1, spots_mix a b part.first part.last p.0 has_first.some has_last.some p.2, p.3)

-- ---- a segment of two ends
abbrev OnSome : Triangulation → Pt → Pt → List Part → Point → Type 0
OnSome tin a b parts r = (i : ℕ) × (i < length parts) × IsOnImageOf tin a b (part_at parts i) r

way_forth : (tin : Triangulation) (a b : Pt) (parts : List Part) (r : Point) → IsSound tin → a ≢ b → IsInside tin a b
    → ArePieces tin a b parts → pos 0 <ℤ r.w → IsImageOfSome tin a b r → OnSome tin a b parts r
way_forth tin a b parts r sound differ inside pieces positive image =
    by_weights (between_weights (whole a) (whole b) image.0 image.2)
  where
    by_weights : Between (whole a) (whole b) image.0 → OnSome tin a b parts r
    by_weights mix =
        let s : Spot = record { of_a = mix.k; of_b = mix.l } in
        let at = covered tin a b parts sound differ inside pieces s mix.some in
        let i = at.0 in
        let moved : IsImage tin (spot_at a b s) r =
        image_moved tin image.0 (spot_at a b s) r image.1 (same_sym image.0 (spot_at a b s) mix.same) image.3 in (
          i,
          at.1,
          on_image tin a b (part_at parts i).triangle (part_at parts i) s r sound (pieces.part i at.1) mix.some
              at.2 at.3 moved positive,
        )

way_back : (tin : Triangulation) (a b : Pt) (parts : List Part) (r : Point) → IsSound tin → ArePieces tin a b parts
    → pos 0 <ℤ r.w → OnSome tin a b parts r → IsImageOfSome tin a b r
way_back tin a b parts r sound pieces positive on =
    image_of_some tin a b (part_at parts on.0).triangle (part_at parts on.0) r sound (pieces.part on.0 on.1) positive
    on.2

-- ---- a segment from a point to itself
end_axis : (x w : ℤ) → x *ℤ (pos 1 *ℤ w +ℤ (pos 0 *ℤ w +ℤ pos 0)) ≡ (pos 1 *ℤ x +ℤ (pos 0 *ℤ x +ℤ pos 0)) *ℤ w
end_axis = solve 2 (λ x w. x ⊗ (num (pos 1) ⊗ w ⊕ (num (pos 0) ⊗ w ⊕ num (pos 0)))
    ≐ (num (pos 1) ⊗ x ⊕ (num (pos 0) ⊗ x ⊕ num (pos 0))) ⊗ w) tt

itself : (r : Point) → IsBetween r r r
itself r = weights_between r r r (record {
  k = 1;
  l = 0;
  some = omega arith;
  same =
      (end_axis r.x r.w, end_axis r.y r.w);
})

point_forth : (tin : Triangulation) (a : Pt) (parts : List Part) (r : Point) → IsInside tin a a
    → ArePiecesAt tin a parts → pos 0 <ℤ r.w → IsImageOfSome tin a a r → OnSome tin a a parts r
point_forth tin a [] r inside none positive image = absurd (none (inside (whole a) one (itself (whole a))))
point_forth tin a (part ∷ []) r inside pieces positive image = (
  0,
  omega arith,
  record {
    first = r;
    last = r;
    is_first = at_spot part.first;
    is_last = at_spot part.last;
    first_positive = positive;
    last_positive = positive;
    between = itself r;
  },
)
  where
    at_point : Between (whole a) (whole a) image.0 → Same (whole a) image.0
    at_point mix =
        let s : Spot = record { of_a = mix.k; of_b = mix.l } in
        same_sym image.0 (whole a) (same_trans image.0 (spot_at a a s) (whole a) (spot-w a a s mix.some) mix.same
        (spot_of_point a s))

    at_spot : (s : Spot) → IsImage tin (spot_at a a s) r
    at_spot s =
        image_moved tin image.0 (spot_at a a s) r image.1
        (same_trans (spot_at a a s) (whole a) image.0 one (spot_of_point a s)
        (at_point (between_weights (whole a) (whole a) image.0 image.2))) image.3
point_forth tin a (part ∷ next ∷ parts) r inside pieces positive image = absurd pieces

point_carried : (tin : Triangulation) (a : Pt) (t : ℕ) (f l : Spot) (first last : Point) → t < length tin.triangles
    → IsInTriangle tin Source t (whole a) → 0 < f.of_a + f.of_b → 0 < l.of_a + l.of_b
    → IsImage tin (spot_at a a f) first → IsImage tin (spot_at a a l) last → pos 0 <ℤ first.w → pos 0 <ℤ last.w
    → IsCarried tin (spot_at a a f) (spot_at a a l) first last
point_carried tin a t f l first last in_range has some_f some_l is_first is_last first_positive last_positive = record {
  triangle = t;
  in_range = in_range;
  begins = mix_moved (whole a) (spot_at a a f) _ one (spot_of_point a f) has;
  ends = mix_moved (whole a) (spot_at a a l) _ one (spot_of_point a l) has;
  image_begins = is_first;
  image_ends = is_last;
  positive = spot-w a a f some_f;
  positive_end = spot-w a a l some_l;
  positive_image = first_positive;
  positive_image_end = last_positive;
}

some_spot : (s : Spot) → s ≡ at_a → 0 < s.of_a + s.of_b
some_spot s e = subst (λ (x : Spot). 0 < x.of_a + x.of_b) (sym e) (omega arith)

point_back : (tin : Triangulation) (a : Pt) (parts : List Part) (r : Point) → IsSound tin → ArePiecesAt tin a parts
    → pos 0 <ℤ r.w → OnSome tin a a parts r → IsImageOfSome tin a a r
point_back tin a [] r sound none positive (i, within, on) = absurd (omega arith)
point_back tin a (part ∷ []) r sound pieces positive (zero, within, on) =
    let f = some_spot part.first pieces.3 in
    let l = some_spot part.last pieces.4 in
    let p = each_between tin (spot_at a a part.first) (spot_at a a part.last) on.first on.last sound
    (point_carried tin a part.triangle part.first part.last on.first on.last pieces.0 pieces.1 f l on.is_first
    on.is_last on.first_positive on.last_positive) r positive on.between in
    (p.0, p.1, spots_mix a a part.first part.last p.0 f l p.2, p.3)
point_back tin a (part ∷ []) r sound pieces positive (suc i, within, on) = absurd (omega arith)
point_back tin a (part ∷ next ∷ parts) r sound pieces positive on = absurd pieces

-- ---- any segment
pub piece_images_are_the_image : PieceImagesAreTheImage
piece_images_are_the_image tin a b parts sound inside pieces r positive = by_ends (same_or a b)
  where
    point : (b : Pt) → a ≡ b → IsInside tin a b → ArePiecesAt tin a parts
        → IsImageOfSome tin a b r ↔ OnSome tin a b parts r
    point b e inside pieces =
        subst (λ (q : Pt). IsImageOfSome tin a q r ↔ OnSome tin a q parts r) e (
          point_forth tin a parts r (subst (λ (q : Pt). IsInside tin a q) (sym e) inside) pieces positive,
          point_back tin
              a parts r sound pieces positive,
        )

    by_ends : (a ≡ b) ⊎ (a ≢ b) → IsImageOfSome tin a b r ↔ OnSome tin a b parts r
    by_ends (inl e) = point b e inside (pieces.0 e)
    by_ends (inr differ) = (
      way_forth tin a b parts r sound differ inside (pieces.1 differ) positive,
      way_back tin a b
          parts r sound (pieces.1 differ) positive,
    )
