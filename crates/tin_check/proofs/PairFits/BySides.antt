-- Two triangles with a side in common fit together where it runs in opposite directions: its corners' numbers show it.
use Rattle.std.proofs.Common.{◌≡◌, ◌⊎◌, ◌↔◌, inl, inr, ℕ, ℤ, pos, ◌<ℤ◌, Bool, true, false, ◌||◌, IsTrue, eqb, List, []}
use Rattle.std.proofs.Common.{◌∷◌, length, map, get_or, Option, Some, refl, sym, ◌∙◌, ap, subst, arith}
use Rattle.std.proofs.lemmas.Int.{ints}
use Rattle.std.proofs.lemmas.Bool.{eq-eqb, eqb-true}
use Rattle.std.proofs.lemmas.Bool.Decides.{eqb_tells}
use Rattle.plane_base.specs.Plane.{Point, turn_of, whole, corners_of}
use Rattle.plane_base.specs.declared.shapes.Pt.{Pt}
use Rattle.plane_base.specs.declared.shapes.Tri.{Tri}
use Rattle.plane_base.proofs.MixLaws.Turns.{turn_twice}
use Rattle.tin_base.specs.declared.frames.Frame.{Frame}
use Rattle.tin_base.specs.Triangulation.{Triangulation, x_in, y_in, corner_at, numbers_of, places}
use Rattle.tin_base.specs.Soundness.{turn_of_three, turn_in, has, DoFit}
use Rattle.tin_check.specs.CommonPoints.{MeetOnlyIn}
use Rattle.tin_check.specs.Marks.{points_of, marked_of, IsAmong, next_of, IsCounted}
use Rattle.std.specs.Prelude.{IfSome}
use Rattle.tin_check.specs.declared.pairs.NumberedSide.{NumberedSide}
use Rattle.tin_check.specs.InsideNumbers.{AreCounted, IsMarkedSide}
use Rattle.tin_check.proofs.TriangleTests.Tests.{IsPositive, side_tells}
use Rattle.tin_check.proofs.TriangleTests.CornerShifts.{counted_same, first_meet, second_meet, through, IsSide, fits_at_side}
use Rattle.tin_check.proofs.CallerLemmas.CornerMarks.{told}

-- ---- a side by its numbers
-- the side from i to j has both corners in common with the other triangle, whose numbers are us, and the third corner
-- is none of these
pub record IsCommonSide (ns us : List ℕ) (i j : ℕ) : Type 0 where
  pub third : ℕ
  pub counted : AreCounted ns i j third
  pub first_common : has us i ≡ true
  pub second_common : has us j ≡ true
  pub third_apart : has us third ≡ false

common_side : (ns us : List ℕ) (marks : List Bool) (i j : ℕ) → length ns ≡ 3 → marks ≡ map (has us) ns
    → IsMarkedSide marks ns i j → IsCommonSide ns us i j
common_side [] us marks i j three e side = absurd (omega (arith, three))
common_side (a ∷ []) us marks i j three e side = absurd (omega (arith, three))
common_side (a ∷ b ∷ []) us marks i j three e side = absurd (omega (arith, three))
common_side (a ∷ b ∷ c ∷ d ∷ ns) us marks i j three e side = absurd (omega (arith, three))
common_side (a ∷ b ∷ c ∷ []) us marks i j three e side =
    go (subst (λ (ms : List Bool). IsMarkedSide ms (a ∷ b ∷ c ∷ []) i j) e side)
  where
    it : (x y z : ℕ) → AreCounted (a ∷ b ∷ c ∷ []) x y z → has us x ≡ true → has us y ≡ true → has us z ≡ false → i ≡ x
        → j ≡ y → IsCommonSide (a ∷ b ∷ c ∷ []) us i j
    it x y z counted f g h p q =
        subst (λ (n : ℕ). IsCommonSide (a ∷ b ∷ c ∷ []) us n j) (sym p)
        (subst (λ (n : ℕ). IsCommonSide (a ∷ b ∷ c ∷ []) us x n) (sym q)
        (record { third = z; counted = counted; first_common = f; second_common = g; third_apart = h }))

    go : IsMarkedSide (map (has us) (a ∷ b ∷ c ∷ [])) (a ∷ b ∷ c ∷ []) i j → IsCommonSide (a ∷ b ∷ c ∷ []) us i j
    go (inl (f, g, h, p, q)) = it a b c (inl refl) f g h p q
    go (inr (inl (f, g, h, p, q))) = it b c a (inr (inl refl)) f g h p q
    go (inr (inr (f, g, h, p, q))) = it c a b (inr (inr refl)) f g h p q

-- ---- the triangle of three numbers
abbrev pub point_of : Triangulation → Frame → ℕ → Pt
point_of tin frame n = record { x = x_in frame (corner_at tin n); y = y_in frame (corner_at tin n) }

abbrev pub tri_of : Triangulation → Frame → ℕ → ℕ → ℕ → Tri
tri_of tin frame i j k = record { a = point_of tin frame i; b = point_of tin frame j; c = point_of tin frame k }

-- ---- corners in common
-- a number of three is one of them
one_of : (i j k x : ℕ) → has (i ∷ j ∷ k ∷ []) x ≡ true → (x ≡ i) ⊎ ((x ≡ j) ⊎ (x ≡ k))
one_of i j k x h = go (eqb_tells i x) (eqb_tells j x) (eqb_tells k x)
  where
    go : ((eqb i x ≡ true) × (i ≡ x)) ⊎ ((eqb i x ≡ false) × (i ≡ x → ⊥))
        → ((eqb j x ≡ true) × (j ≡ x)) ⊎ ((eqb j x ≡ false) × (j ≡ x → ⊥))
        → ((eqb k x ≡ true) × (k ≡ x)) ⊎ ((eqb k x ≡ false) × (k ≡ x → ⊥)) → (x ≡ i) ⊎ ((x ≡ j) ⊎ (x ≡ k))
    go (inl e) f g = inl (sym e.1)
    go (inr e) (inl f) g = inr (inl (sym f.1))
    go (inr e) (inr f) (inl g) = inr (inr (sym g.1))
    go (inr e) (inr f) (inr g) = absurd (no (eqb i x) (eqb j x) (eqb k x) e.0 f.0 g.0 h)
      where
        no : (a b c : Bool) → a ≡ false → b ≡ false → c ≡ false → (a || (b || (c || false))) ≡ true → ⊥
        no a b c e f g h = cc

one_counted : (ns : List ℕ) (i j k x : ℕ) → AreCounted ns i j k → has ns x ≡ true → (x ≡ i) ⊎ ((x ≡ j) ⊎ (x ≡ k))
one_counted ns i j k x (inl e) h = one_of i j k x (subst (λ (l : List ℕ). has l x ≡ true) e h)
one_counted ns i j k x (inr (inl e)) h = turned (one_of k i j x (subst (λ (l : List ℕ). has l x ≡ true) e h))
  where
    turned : (x ≡ k) ⊎ ((x ≡ i) ⊎ (x ≡ j)) → (x ≡ i) ⊎ ((x ≡ j) ⊎ (x ≡ k))
    turned (inl h) = inr (inr h)
    turned (inr (inl h)) = inl h
    turned (inr (inr h)) = inr (inl h)
one_counted ns i j k x (inr (inr e)) h = turned (one_of j k i x (subst (λ (l : List ℕ). has l x ≡ true) e h))
  where
    turned : (x ≡ j) ⊎ ((x ≡ k) ⊎ (x ≡ i)) → (x ≡ i) ⊎ ((x ≡ j) ⊎ (x ≡ k))
    turned (inl h) = inr (inl h)
    turned (inr (inl h)) = inr (inr h)
    turned (inr (inr h)) = inl h

-- ---- the triangle, counted from the common side on
-- what holds of the triangle of some numbers
record IsTurned (tin : Triangulation) (frame : Frame) (ns us : List ℕ) (i j k : ℕ) : Type 0 where
  tri : Tri
  is : corners_of tri ≡ places tin frame ns
  counted : IsCounted tri (tri_of tin frame i j k)
  side : IsSide (marked_of (map (has us) ns) (points_of tri)) (tri_of tin frame i j k)

marked_first : (a b c : Bool) (p q r : Pt) → a ≡ true → b ≡ true → c ≡ false
    → marked_of (a ∷ b ∷ c ∷ []) (p ∷ q ∷ r ∷ []) ≡ p ∷ q ∷ []
marked_first a b c p q r e f g = rw (e, f, g) refl

marked_last : (a b c : Bool) (p q r : Pt) → a ≡ false → b ≡ true → c ≡ true
    → marked_of (a ∷ b ∷ c ∷ []) (p ∷ q ∷ r ∷ []) ≡ q ∷ r ∷ []
marked_last a b c p q r e f g = rw (e, f, g) refl

marked_ends : (a b c : Bool) (p q r : Pt) → a ≡ true → b ≡ false → c ≡ true
    → marked_of (a ∷ b ∷ c ∷ []) (p ∷ q ∷ r ∷ []) ≡ p ∷ r ∷ []
marked_ends a b c p q r e f g = rw (e, f, g) refl

turned_of : (tin : Triangulation) (frame : Frame) (ns us : List ℕ) (i j : ℕ) → (s : IsCommonSide ns us i j)
    → IsTurned tin frame ns us i j s.third
turned_of tin frame ns us i j s = go s.counted
  where
    k : ℕ
    k = s.third

    go : AreCounted ns i j s.third → IsTurned tin frame ns us i j s.third
    go (inl e) =
        subst (λ (l : List ℕ). IsTurned tin frame l us i j s.third) (sym e)
        (record {
          tri = tri_of tin frame i j k;
          is = refl;
          counted = inl refl;
          side = inl (marked_first (has us i) (has us j) (has us k) (point_of tin frame i) (point_of tin frame j)
              (point_of tin frame k) s.first_common s.second_common s.third_apart);
        })
    go (inr (inl e)) =
        subst (λ (l : List ℕ). IsTurned tin frame l us i j s.third) (sym e)
        (record {
          tri = tri_of tin frame k i j;
          is = refl;
          counted = inr (inl refl);
          side = inl (marked_last (has us k) (has us i) (has us j) (point_of tin frame k) (point_of tin frame i)
              (point_of tin frame j) s.third_apart s.first_common s.second_common);
        })
    go (inr (inr e)) =
        subst (λ (l : List ℕ). IsTurned tin frame l us i j s.third) (sym e)
        (record {
          tri = tri_of tin frame j k i;
          is = refl;
          counted = inr (inr refl);
          side = inr (marked_ends (has us j) (has us k) (has us i) (point_of tin frame j) (point_of tin frame k)
              (point_of tin frame i) s.second_common s.third_apart s.first_common);
        })

pub positive_of : (tin : Triangulation) (frame : Frame) (ns : List ℕ) (t : Tri) → corners_of t ≡ places tin frame ns
    → pos 0 <ℤ turn_of_three (places tin frame ns) → IsPositive t
positive_of tin frame ns t e d = subst (λ (ps : List Point). pos 0 <ℤ turn_of_three ps) (sym e) d

-- ---- the triangle, counted from a corner on
pub record IsTurnedTo (tin : Triangulation) (frame : Frame) (ns : List ℕ) (i j k : ℕ) : Type 0 where
  pub tri : Tri
  pub is : corners_of tri ≡ places tin frame ns
  pub counted : IsCounted tri (tri_of tin frame i j k)

pub turned_to : (tin : Triangulation) (frame : Frame) (ns : List ℕ) (i j k : ℕ) → AreCounted ns i j k
    → IsTurnedTo tin frame ns i j k
turned_to tin frame ns i j k (inl e) = subst (λ (l : List ℕ). IsTurnedTo tin frame l i j k) (sym e)
    (record { tri = tri_of tin frame i j k; is = refl; counted = inl refl })
turned_to tin frame ns i j k (inr (inl e)) =
    subst (λ (l : List ℕ). IsTurnedTo tin frame l i j k) (sym e)
    (record { tri = tri_of tin frame k i j; is = refl; counted = inr (inl refl) })
turned_to tin frame ns i j k (inr (inr e)) =
    subst (λ (l : List ℕ). IsTurnedTo tin frame l i j k) (sym e)
    (record { tri = tri_of tin frame j k i; is = refl; counted = inr (inr refl) })

-- ---- the answer
not_flat : (z : ℤ) → pos 0 <ℤ z → z ≡ pos 0 → ⊥
not_flat z h e = absurd (omega (arith, ints))

-- two corners of a triangle that is not flat differ
apart_first : (t : Tri) → IsPositive t → t.a ≡ t.b → ⊥
apart_first t d e = not_flat (turn_of (whole t.a) (whole t.a) (whole t.c))
    (subst (λ (p : Pt). pos 0 <ℤ turn_of (whole t.a) (whole p) (whole t.c)) (sym e) d)
    (turn_twice (whole t.a) (whole t.c))

-- a triangle that is counted from the end of the common side on
one_side : (r s : Tri) (same : Bool) → IsPositive r → IsPositive s → r.b ≡ s.a
    → (r.a ≡ s.a) ⊎ ((r.a ≡ s.b) ⊎ (r.a ≡ s.c)) → IsTrue same ↔ (r.a ≡ s.b)
    → IsTrue same ↔ MeetOnlyIn (corners_of r) (corners_of s) (whole r.a ∷ whole r.b ∷ [])
one_side r s same d d' h k i = side_tells r s same d d' h (among k) i
  where
    among : (r.a ≡ s.a) ⊎ ((r.a ≡ s.b) ⊎ (r.a ≡ s.c)) → IsAmong (points_of s) r.a
    among (inl e) = inl e
    among (inr (inl e)) = inr (inl e)
    among (inr (inr e)) = inr (inr (inl e))

-- the side from i to j, and the other triangle from j on: they have only the side in common where it goes on to i
pub side_tells_on : (tin : Triangulation) (frame : Frame) (t u i j e f : ℕ) → pos 0 <ℤ turn_in tin frame t
    → pos 0 <ℤ turn_in tin frame u → IsCommonSide (numbers_of tin t) (numbers_of tin u) i j
    → AreCounted (numbers_of tin u) j e f
    → IsTrue (eqb e i) ↔ DoFit tin frame t u
side_tells_on tin frame t u i j e f ht hu side counted =
    told tin frame t u x.tri y.tri (eqb e i) x.is y.is
    (fits_at_side x.tri y.tri r (marked_of (map (has us) ns) (points_of x.tri)) (eqb e i) x.side
    (through (one_side r s (eqb e i) positive_r positive_s refl at same) meet))
  where
    ns : List ℕ
    ns = numbers_of tin t

    us : List ℕ
    us = numbers_of tin u

    x : IsTurned tin frame ns us i j side.third
    x = turned_of tin frame ns us i j side

    y : IsTurnedTo tin frame us j e f
    y = turned_to tin frame us j e f counted

    r : Tri
    r = tri_of tin frame i j side.third

    s : Tri
    s = tri_of tin frame j e f

    positive_r : IsPositive r
    positive_r = let is = counted_same x.tri r x.counted in is.positive (positive_of tin frame ns x.tri x.is ht)

    positive_s : IsPositive s
    positive_s = let is = counted_same y.tri s y.counted in is.positive (positive_of tin frame us y.tri y.is hu)

    positive_next : IsPositive (next_of s)
    positive_next = let is = counted_same s (next_of s) (inr (inl refl)) in is.positive positive_s

    which : (i ≡ j) ⊎ ((i ≡ e) ⊎ (i ≡ f))
    which = one_counted us j e f i counted side.first_common

    at : (r.a ≡ s.a) ⊎ ((r.a ≡ s.b) ⊎ (r.a ≡ s.c))
    at = go which
      where
        go : (i ≡ j) ⊎ ((i ≡ e) ⊎ (i ≡ f)) → (r.a ≡ s.a) ⊎ ((r.a ≡ s.b) ⊎ (r.a ≡ s.c))
        go (inl h) = inl (ap (point_of tin frame) h)
        go (inr (inl h)) = inr (inl (ap (point_of tin frame) h))
        go (inr (inr h)) = inr (inr (ap (point_of tin frame) h))

    same : IsTrue (eqb e i) ↔ (r.a ≡ s.b)
    same = (λ yes. sym (ap (point_of tin frame) (eqb-true e i yes)), λ h. go which h)
      where
        go : (i ≡ j) ⊎ ((i ≡ e) ⊎ (i ≡ f)) → r.a ≡ s.b → IsTrue (eqb e i)
        go (inl k) h = absurd (apart_first r positive_r (ap (point_of tin frame) k))
        go (inr (inl k)) h = eq-eqb e i (sym k)
        go (inr (inr k)) h = absurd (apart_first (next_of s) positive_next (sym h ∙ ap (point_of tin frame) k))

    meet : MeetOnlyIn (corners_of r) (corners_of s) (whole r.a ∷ whole r.b ∷ [])
        ↔ MeetOnlyIn (corners_of x.tri) (corners_of y.tri) (whole r.a ∷ whole r.b ∷ [])
    meet = through (second_meet r y.tri s (whole r.a ∷ whole r.b ∷ []) y.counted)
        (first_meet x.tri r y.tri (whole r.a ∷ whole r.b ∷ []) x.counted)

-- the common side, as it was read
pub side_read : (tin : Triangulation) (rows : List (List ℕ)) (t u : ℕ) (marks : List Bool) (found : Option NumberedSide)
    (side : NumberedSide) → rows ≡ tin.triangles → length (numbers_of tin t) ≡ 3
    → marks ≡ map (has (numbers_of tin u)) (numbers_of tin t)
    → IfSome found (λ s. IsMarkedSide marks (get_or rows t []) s.from s.to) → found ≡ Some side
    → IsCommonSide (numbers_of tin t) (numbers_of tin u) side.from side.to
side_read tin rows t u marks found side is three same marked e =
    let it : IsMarkedSide marks (get_or rows t []) side.from side.to =
    subst (λ (o : Option NumberedSide). IfSome o (λ s. IsMarkedSide marks (get_or rows t []) s.from s.to)) e marked in
    common_side (numbers_of tin t) (numbers_of tin u) marks side.from side.to three same
    (subst (λ (xs : List (List ℕ)). IsMarkedSide marks (get_or xs t []) side.from side.to) is it)
