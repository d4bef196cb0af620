-- A side and a triangle that is not its own: what turns and common numbers say of their common points.
use Rattle.std.proofs.Common.{◌≡◌, ◌⊎◌, inl, inr, ℕ, zero, suc, ◌+◌, ◌<◌, ◌≤◌, ℤ, pos, ◌+ℤ◌, ◌*ℤ◌, ◌≤ℤ◌, ◌<ℤ◌}
use Rattle.std.proofs.Common.{List, [], ◌∷◌, length, get_or, Option, Some, IfSome, Bool, true, false, not, IsTrue, ◌↔◌}
use Rattle.std.proofs.Common.{refl, sym, ap, ◌∙◌, subst, arith}
use Rattle.std.proofs.lemmas.Int.{ints}
use lib.Signed.{lt_z_yes}
use Rattle.integer_ring.proofs.Ring.{num, ◌⊕◌, ◌⊗◌}
use Rattle.integer_ring.proofs.Claims.{◌≐◌, ◌≼◌, ◌≺◌, never, gap, over, eqn, ◌⊞◌, ◌⊠◌, ◌because◌, ◌⇒◌, follows}
use Rattle.plane_base.specs.Plane.{Point, Same, turn_of, IsMix, IsNearTri, whole, corners_of}
use Rattle.plane_base.specs.declared.shapes.Pt.{Pt}
use Rattle.plane_base.specs.declared.shapes.Tri.{Tri}
use Rattle.plane_base.proofs.MixLaws.Points.{turn, solve_at}
use Rattle.plane_base.proofs.MixLaws.Turns.{turn_same, turn_cycle, turn_twice}
use Rattle.plane_base.proofs.TriangleLaws.InTriangle.{turns_of_mix}
use Rattle.plane_base.proofs.MixLaws.Mixes.{mixed, mix_swapped, between_weights, between-w, turn_between}
use Rattle.tin_base.specs.declared.frames.Frame.{Frame}
use Rattle.tin_base.specs.Triangulation.{Triangulation, place, corner_at, numbers_of, places}
use Rattle.tin_base.specs.Soundness.{has, common, turn_in}
use Rattle.tin_base.specs.Limits.{IsWithinLimits}
use Rattle.tin_base.proofs.TriangleLemmas.TriangleCorners.{near_points}
use Rattle.border_law.specs.Borders.{common_with_side, MeetAtCorner}
use Rattle.tin_check.specs.declared.pairs.Corners.{Corners}
use Rattle.tin_check.specs.CommonPoints.{HaveCommonPoint, MeetOnlyIn}
use Rattle.tin_check.specs.Marks.{points_of, IsAmong, AreNearTris}
use Rattle.tin_check.specs.InsideNumbers.{AreCounted, AreFrom}
use Rattle.tin_check.proofs.TriangleTests.Places.{mix_next, side_ab_in}
use Rattle.tin_check.proofs.PairFits.ByCorner.{from_read, from_counted, counted_positive}
use Rattle.tin_check.proofs.CallerLemmas.CornerMarks.{IsCorner, corner_of}

one : pos 0 <ℤ pos 1
one = lt_z_yes tt

-- ---- a segment from w that turns away from a line through w has no other point on the line's left
not_left : (v t s k l tw tz : ℤ) → pos 0 <ℤ v → pos 0 ≤ℤ t → pos 0 <ℤ s → v *ℤ t ≡ s *ℤ (k *ℤ tw +ℤ l *ℤ tz)
    → tw ≡ pos 0 → tz <ℤ pos 0 → pos 0 <ℤ l → ⊥
not_left = follows 7 (λ v t s k l tw tz. num (pos 0) ≺ v ⇒ num (pos 0) ≼ t ⇒ num (pos 0) ≺ s
    ⇒ v ⊗ t ≐ s ⊗ (k ⊗ tw ⊕ l ⊗ tz) ⇒ tw ≐ num (pos 0) ⇒ tz ≺ num (pos 0) ⇒ num (pos 0) ≺ l ⇒ never
    because gap 0 ⊠ gap 1 ⊞ eqn 3 (num (pos 1)) ⊞ eqn 4 (s ⊗ k) ⊞ gap 2 ⊠ (gap 6 ⊠ over 5 ⊞ over 6) ⊞ over 2) tt

alone_axis : (x v k a s z t : ℤ) → x *ℤ (k *ℤ s +ℤ (pos 0 *ℤ t +ℤ pos 0)) ≡ (k *ℤ a +ℤ (pos 0 *ℤ z +ℤ pos 0)) *ℤ v
    → x *ℤ (k *ℤ s +ℤ pos 0) ≡ (k *ℤ a +ℤ pos 0) *ℤ v
alone_axis = follows 7 (λ x v k a s z t. x ⊗ (k ⊗ s ⊕ (num (pos 0) ⊗ t ⊕ num (pos 0)))
    ≐ (k ⊗ a ⊕ (num (pos 0) ⊗ z ⊕ num (pos 0))) ⊗ v ⇒ x ⊗ (k ⊗ s ⊕ num (pos 0)) ≐ (k ⊗ a ⊕ num (pos 0)) ⊗ v
    because eqn 0 (num (pos 1))) tt

only_first : (p q w z x : Point) → pos 0 <ℤ w.w → pos 0 <ℤ z.w → pos 0 <ℤ x.w → turn_of p q w ≡ pos 0
    → turn_of p q z <ℤ pos 0 → pos 0 ≤ℤ turn_of p q x → IsMix x (w ∷ z ∷ []) → IsMix x (w ∷ [])
only_first p q w z x hw hz hx on away left m =
    let b = between_weights w z x m in go b.k b.l b.some b.same (between-w w z x b hw hz)
  where
    some : (l : ℕ) → pos 0 <ℤ pos (suc l)
    some l = omega (arith, ints)

    go : (k l : ℕ) → 0 < k + l → Same x (mixed k l w z) → pos 0 <ℤ (mixed k l w z).w → IsMix x (w ∷ [])
    go k zero h same hm = (
      k ∷ [],
      refl,
      omega arith,
      (
        alone_axis x.x x.w (pos k) w.x w.w z.x z.w same.0,
        alone_axis x.y x.w (pos k) w.y w.w z.y z.w same.1,
      ),
    )
    go k (suc l) h same hm = absurd (not_left (mixed k (suc l) w z).w (turn_of p q x) x.w (pos k) (pos (suc l))
        (turn_of p q w) (turn_of p q z) hm left hx
        (turn_same p q x (mixed k (suc l) w z) same ∙ ap (λ (y : ℤ). x.w *ℤ y) (turn_between p q w z k (suc l))) on away
        (some l))

turn_end : (a b : Point) → turn_of a b a ≡ pos 0
turn_end = solve_at 2 0 (λ a b. turn a b a ≐ num (pos 0)) tt

outside_meets : (a b c z x : Point) → pos 0 <ℤ a.w → pos 0 <ℤ b.w → pos 0 <ℤ c.w → pos 0 <ℤ z.w → pos 0 <ℤ x.w
    → pos 0 <ℤ turn_of a b c → (turn_of a b z <ℤ pos 0) ⊎ (turn_of a z c <ℤ pos 0) → IsMix x (a ∷ z ∷ [])
    → IsMix x (a ∷ b ∷ c ∷ []) → IsMix x (a ∷ [])
outside_meets a b c z x ha hb hc hz hx d out on inside =
    let t = turns_of_mix a b c x ha hb hc hx d inside in go t.0 t.2 out
  where
    go : pos 0 ≤ℤ turn_of a b x → pos 0 ≤ℤ turn_of c a x → (turn_of a b z <ℤ pos 0) ⊎ (turn_of a z c <ℤ pos 0)
        → IsMix x (a ∷ [])
    go first third (inl away) = only_first a b a z x ha hz hx (turn_end a b) away first on
    go first third (inr away) = only_first c a a z x ha hz hx (turn_cycle c a a ∙ turn_twice a c)
        (subst (λ (y : ℤ). y <ℤ pos 0) (sym (turn_cycle c a z)) away) third on

-- ---- in the words of the triangulation
counted_mix : (tin : Triangulation) (frame : Frame) (ns : List ℕ) (i j k : ℕ) (x : Point) → AreCounted ns i j k
    → IsMix x (places tin frame ns) → IsMix x (places tin frame (i ∷ j ∷ k ∷ []))
counted_mix tin frame ns i j k x counted m = go counted
  where
    at : ℕ → Point
    at n = place frame (corner_at tin n)

    listed : (ms : List ℕ) → ns ≡ ms → IsMix x (places tin frame ms)
    listed ms e = subst (λ (os : List ℕ). IsMix x (places tin frame os)) e m

    go : AreCounted ns i j k → IsMix x (places tin frame (i ∷ j ∷ k ∷ []))
    go (inl e) = listed (i ∷ j ∷ k ∷ []) e
    go (inr (inl e)) = mix_next x (place frame (corner_at tin k)) (place frame (corner_at tin i))
        (place frame (corner_at tin j)) (listed (k ∷ i ∷ j ∷ []) e)
    go (inr (inr e)) = mix_next x (place frame (corner_at tin k)) (place frame (corner_at tin i))
        (place frame (corner_at tin j)) (mix_next x (place frame (corner_at tin j)) (place frame (corner_at tin k))
        (place frame (corner_at tin i)) (listed (j ∷ k ∷ i ∷ []) e))

pub away_meets : (tin : Triangulation) (frame : Frame) (rows : List (List ℕ)) (t corner end : ℕ) (found : Option Corners)
    (at : Corners) (r : Tri) (p : Pt) → rows ≡ tin.triangles → IsWithinLimits tin → t < length tin.triangles
    → pos 0 <ℤ turn_in tin frame t
    → IfSome found (λ s. AreFrom (get_or rows t []) corner s.first s.second s.third) → found ≡ Some at
    → corners_of r ≡ places tin frame (at.first ∷ at.second ∷ at.third ∷ []) → whole p ≡ place frame (corner_at tin end)
    → (turn_of (whole r.a) (whole r.b) (whole p) <ℤ pos 0) ⊎ (turn_of (whole r.a) (whole p) (whole r.c) <ℤ pos 0)
    → MeetOnlyIn (places tin frame (corner ∷ end ∷ [])) (places tin frame (numbers_of tin t))
    (places tin frame (corner ∷ []))
away_meets tin frame rows t corner end found at r p is limits ht d from e is_r is_p out x hx on inside =
    subst (λ (q : Point). IsMix x (q ∷ [])) here
    (outside_meets (whole r.a) (whole r.b) (whole r.c) (whole p) x one one one one hx
    (counted_positive tin frame t at.first at.second at.third r counted is_r d) out
    (subst (λ (q : Point). IsMix x (q ∷ whole p ∷ [])) (sym here)
    (subst (λ (q : Point). IsMix x (place frame (corner_at tin corner) ∷ q ∷ [])) (sym is_p) on))
    (subst (λ (qs : List Point). IsMix x qs) (sym is_r)
    (counted_mix tin frame (numbers_of tin t) at.first at.second at.third x counted inside)))
  where
    it : AreFrom (numbers_of tin t) corner at.first at.second at.third
    it = from_read tin rows t corner found at is from e

    counted : AreCounted (numbers_of tin t) at.first at.second at.third
    counted = from_counted (numbers_of tin t) corner at.first at.second at.third (limits.three t ht) it

    first_of : (qs rs : List Point) (q s : Point) → q ∷ qs ≡ s ∷ rs → q ≡ s
    first_of qs rs q s f = cc

    here : whole r.a ≡ place frame (corner_at tin corner)
    here = first_of (whole r.b ∷ whole r.c ∷ [])
        (place frame (corner_at tin at.second) ∷ place frame (corner_at tin at.third) ∷ [])
        (whole r.a) (place frame (corner_at tin at.first)) is_r
        ∙ ap (λ (n : ℕ). place frame (corner_at tin n)) (sym it.0)

-- ---- a triangle and a side are near each other
pub near_side : (tin : Triangulation) (frame : Frame) (t m n : ℕ) (r : Tri) (p q : Pt) → IsWithinLimits tin
    → t < length tin.triangles → m < length tin.corners → n < length tin.corners
    → corners_of r ≡ places tin frame (numbers_of tin t) → whole p ≡ place frame (corner_at tin m)
    → whole q ≡ place frame (corner_at tin n) → AreNearTris r (record { a = p; b = q; c = q })
near_side tin frame t m n r p q limits ht hm hn e ep eq c d hc hd =
    let x = any c hc in let y = any d hd in
    near_points tin frame x.number y.number c d limits x.in_range y.in_range x.stands y.stands
  where
    of_p : (c : Pt) → c ≡ p → IsCorner tin frame c
    of_p c f = record { number = m; in_range = hm; stands = ap (λ (s : Pt). whole s) f ∙ ep }

    of_q : (c : Pt) → c ≡ q → IsCorner tin frame c
    of_q c f = record { number = n; in_range = hn; stands = ap (λ (s : Pt). whole s) f ∙ eq }

    of_r : (c : Pt) → IsAmong (points_of r) c → IsCorner tin frame c
    of_r c h = corner_of tin frame (numbers_of tin t) (points_of r) c (λ i k. limits.in_range t ht i 0 k) e h

    any : (c : Pt) → IsAmong (r.a ∷ r.b ∷ r.c ∷ p ∷ q ∷ q ∷ []) c → IsCorner tin frame c
    any c (inl f) = of_r c (inl f)
    any c (inr (inl f)) = of_r c (inr (inl f))
    any c (inr (inr (inl f))) = of_r c (inr (inr (inl f)))
    any c (inr (inr (inr (inl f)))) = of_p c f
    any c (inr (inr (inr (inr (inl f))))) = of_q c f
    any c (inr (inr (inr (inr (inr (inl f)))))) = of_q c f
    any c (inr (inr (inr (inr (inr (inr h)))))) = absurd h

-- so both ends are near each corner, and each other
pub near_ends : (r : Tri) (p q : Pt) → AreNearTris r (record { a = p; b = q; c = q }) → IsNearTri r p × IsNearTri r q
near_ends r p q near = (
  (near r.a p (inl refl) at_p, near r.b p (inr (inl refl)) at_p, near r.c p (inr (inr (inl refl))) at_p),
  (near r.a q (inl refl) at_q, near r.b q (inr (inl refl)) at_q, near r.c q (inr (inr (inl refl))) at_q),
)
  where
    at_p : IsAmong (r.a ∷ r.b ∷ r.c ∷ p ∷ q ∷ q ∷ []) p
    at_p = inr (inr (inr (inl refl)))

    at_q : IsAmong (r.a ∷ r.b ∷ r.c ∷ p ∷ q ∷ q ∷ []) q
    at_q = inr (inr (inr (inr (inl refl))))

-- ---- no common point
pub clear_by : (tin : Triangulation) (frame : Frame) (t m n : ℕ) (r : Tri) (p q : Pt)
    → corners_of r ≡ places tin frame (numbers_of tin t) → whole p ≡ place frame (corner_at tin m)
    → whole q ≡ place frame (corner_at tin n)
    → (HaveCommonPoint (whole p ∷ whole q ∷ []) (corners_of r) → ⊥)
    → HaveCommonPoint (places tin frame (m ∷ n ∷ [])) (places tin frame (numbers_of tin t)) → ⊥
clear_by tin frame t m n r p q e ep eq none (x, hx, on, inside) = none (
  x,
  hx,
  subst (λ (s : Point). IsMix x (s ∷ whole q ∷ [])) (sym ep)
      (subst (λ (s : Point). IsMix x (place frame (corner_at tin m) ∷ s ∷ [])) (sym eq) on),
  subst (λ (qs : List Point). IsMix x qs) (sym e) inside,
)

pub beyond_clear : (r : Tri) (p q : Pt)
    → (HaveCommonPoint (corners_of r) (whole p ∷ whole q ∷ whole q ∷ []) → ⊥)
    → HaveCommonPoint (whole p ∷ whole q ∷ []) (corners_of r) → ⊥
beyond_clear r p q none (x, hx, on, inside) = none (x, hx, inside, side_ab_in x (whole p) (whole q) (whole q) on)

-- ---- what is common, by the numbers
first_common : (i j : ℕ) (us : List ℕ) → has us i ≡ true → has us j ≡ false → common (i ∷ j ∷ []) us ≡ i ∷ []
first_common i j us e f = rw (e, f) refl

second_common : (i j : ℕ) (us : List ℕ) → has us i ≡ false → has us j ≡ true → common (i ∷ j ∷ []) us ≡ j ∷ []
second_common i j us e f = rw (e, f) refl

none_common : (i j : ℕ) (us : List ℕ) → has us i ≡ false → has us j ≡ false → common (i ∷ j ∷ []) us ≡ []
none_common i j us e f = rw (e, f) refl

one_only : (k : ℕ) (cs : List ℕ) → cs ≡ k ∷ [] → length cs ≤ 1
one_only k cs e = let f : length cs ≡ 1 = ap length e in omega arith

none_at_all : (cs : List ℕ) → cs ≡ [] → length cs ≤ 1
none_at_all cs e = let f : length cs ≡ 0 = ap length e in omega arith

exchanged : (p q x : Point) → IsMix x (p ∷ q ∷ []) → IsMix x (q ∷ p ∷ [])
exchanged p q x m = mix_swapped x p q m

pub meets_first : (tin : Triangulation) (frame : Frame) (i j u : ℕ) → has (numbers_of tin u) i ≡ true
    → has (numbers_of tin u) j ≡ false
    → MeetOnlyIn (places tin frame (i ∷ j ∷ [])) (places tin frame (numbers_of tin u)) (places tin frame (i ∷ []))
    → MeetAtCorner tin frame i j u
meets_first tin frame i j u e f only = record {
  one = one_only i (common_with_side tin i j u) (first_common i j (numbers_of tin u) e f);
  meet = λ x hx on inside. subst (λ (cs : List ℕ). IsMix x (places tin frame cs))
      (sym (first_common i j (numbers_of tin u) e f)) (only x hx on inside);
}

pub meets_second : (tin : Triangulation) (frame : Frame) (i j u : ℕ) → has (numbers_of tin u) i ≡ false
    → has (numbers_of tin u) j ≡ true
    → MeetOnlyIn (places tin frame (j ∷ i ∷ [])) (places tin frame (numbers_of tin u)) (places tin frame (j ∷ []))
    → MeetAtCorner tin frame i j u
meets_second tin frame i j u e f only = record {
  one = one_only j (common_with_side tin i j u) (second_common i j (numbers_of tin u) e f);
  meet = λ x hx on inside. subst (λ (cs : List ℕ). IsMix x (places tin frame cs))
      (sym (second_common i j (numbers_of tin u) e f))
      (only x hx (exchanged (place frame (corner_at tin i)) (place frame (corner_at tin j)) x on) inside);
}

pub meets_none : (tin : Triangulation) (frame : Frame) (i j u : ℕ) → has (numbers_of tin u) i ≡ false
    → has (numbers_of tin u) j ≡ false
    → (HaveCommonPoint (places tin frame (i ∷ j ∷ [])) (places tin frame (numbers_of tin u)) → ⊥)
    → MeetAtCorner tin frame i j u
meets_none tin frame i j u e f none = record {
  one = none_at_all (common_with_side tin i j u) (none_common i j (numbers_of tin u) e f);
  meet = λ x hx on inside. absurd (none (x, hx, on, inside));
}

-- a test of a number, as it was read
pub read_has : (tin : Triangulation) (rows : List (List ℕ)) (t n : ℕ) (b : Bool) → rows ≡ tin.triangles
    → b ≡ has (get_or rows t []) n → has (numbers_of tin t) n ≡ b
read_has tin rows t n b is e = ap (λ (ns : List (List ℕ)). has (get_or ns t []) n) (sym is) ∙ sym e

pub not_found : {P : Type 0} (found : Bool) → IsTrue (not found) → IsTrue found ↔ P → P → ⊥
not_found found denies i p = go found denies (i.1 p)
  where
    go : (b : Bool) → IsTrue (not b) → IsTrue b → ⊥
    go b h k = cc
