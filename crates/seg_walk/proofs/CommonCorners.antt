-- Where a segment leaves a triangle: each other triangle that has the spot shares the corners that the spot is
-- between.
use Rattle.std.proofs.Common.{◌≡◌, ◌≢◌, ◌⊎◌, inl, inr, ⊎_elim, ℕ, zero, suc, ◌+◌, ◌<◌, ℤ, pos, ◌+ℤ◌, ◌*ℤ◌, ◌<ℤ◌, Bool}
use Rattle.std.proofs.Common.{true, false, List, [], ◌∷◌, length, get_or, refl, sym, ◌∙◌, subst, arith}
use Rattle.std.proofs.lemmas.Int.{ints}
use Rattle.integer_ring.proofs.Ring.{num, neg, ◌⊕◌, ◌⊗◌}
use Rattle.integer_ring.proofs.Claims.{◌≐◌, eqn, ◌⊞◌, ◌because◌, ◌⇒◌, follows}
use Rattle.integer_ring.proofs.Signs.{≡_of_mul}
use Rattle.plane_base.specs.Plane.{Point, Same, turn_of, whole}
use Rattle.plane_base.specs.declared.shapes.Pt.{Pt}
use Rattle.plane_base.proofs.MixLaws.Turns.{turn_cycle, turn_twice, turn_same}
use Rattle.plane_base.proofs.MixLaws.Mixes.{same_refl, mixed, between_weights, weights_between, turn_on_side}
use Rattle.tin_base.specs.declared.frames.Frame.TheVariants.{Source}
use Rattle.tin_base.specs.Triangulation.{Triangulation, numbers_of, IsInTriangle}
use Rattle.tin_base.specs.Soundness.{has, common_of, IsSound}
use Rattle.tin_base.specs.Limits.{IsWithinLimits}
use Rattle.tin_base.specs.Segments.{Spot, spot_at, IsShared}
use Rattle.tin_base.proofs.SegmentSpots.Spots.{one, spot-w}
use Rattle.tin_base.proofs.PieceChains.WaySteps.{turn_mixed}
use Rattle.tin_base.proofs.FrameImages.Weights.{HasAll, common_in_first, common_in_second}
use Rattle.tin_index.specs.Sides.{HasCorner, corner_of, next_of, IsAcross}
use Rattle.tin_index.proofs.Corners.{Numbered, numbered}
use Rattle.seg_walk.specs.InsideExits.{place_at, IsOnLine, IsLeftAt}
use Rattle.tin_base.proofs.TriangleLemmas.Members.{has_first_of_two, has_second_of_two, one_of_three}
use Rattle.tin_base.proofs.PieceChains.Overlap.{in_more}

-- ---- weights on a line
moved : (v w t s z : ℤ) → v *ℤ t ≡ w *ℤ s → t ≡ pos 0 → z ≡ s → z *ℤ w ≡ pos 0 *ℤ w
moved = follows 5 (λ v w t s z. v ⊗ t ≐ w ⊗ s ⇒ t ≐ num (pos 0) ⇒ z ≐ s ⇒ z ⊗ w ≐ num (pos 0)
    ⊗ w because eqn 2 w ⊞ eqn 0 (neg (num (pos 1))) ⊞ eqn 1 v) tt

-- where a mix of two points is on a line, their turns with it cancel out
line_zero : (x y p q r : Point) (k l : ℕ) → pos 0 <ℤ p.w → Same p (mixed k l q r) → turn_of x y p ≡ pos 0
    → pos k *ℤ turn_of x y q +ℤ pos l *ℤ turn_of x y r ≡ pos 0
line_zero x y p q r k l hp same none =
    let m = mixed k l q r in
    ≡_of_mul (pos k *ℤ turn_of x y q +ℤ pos l *ℤ turn_of x y r) (pos 0) p.w hp
    (moved m.w p.w (turn_of x y p) (turn_of x y m) (pos k *ℤ turn_of x y q +ℤ pos l *ℤ turn_of x y r)
    (turn_same x y p m same) none (turn_mixed x y q r k l))

above : (k : ℕ) → 0 < k → pos 0 <ℤ pos k
above k h = omega (arith, ints)

alone : (k l u v : ℤ) → k *ℤ u +ℤ l *ℤ v ≡ pos 0 → v ≡ pos 0 → u *ℤ k ≡ pos 0 *ℤ k
alone = follows 4 (λ k l u v. k ⊗ u ⊕ l ⊗ v ≐ num (pos 0) ⇒ v ≐ num (pos 0) ⇒ u ⊗ k ≐ num (pos 0)
    ⊗ k because eqn 0 (num (pos 1)) ⊞ eqn 1 (neg l)) tt

-- the one turn is 0 where the other is
first_zero : (k l : ℕ) (u v : ℤ) → 0 < k → pos k *ℤ u +ℤ pos l *ℤ v ≡ pos 0 → v ≡ pos 0 → u ≡ pos 0
first_zero k l u v h e z = ≡_of_mul u (pos 0) (pos k) (above k h) (alone (pos k) (pos l) u v e z)

exchanged : (k l u v : ℤ) → k *ℤ u +ℤ l *ℤ v ≡ pos 0 → l *ℤ v +ℤ k *ℤ u ≡ pos 0
exchanged = follows 4 (λ k l u v. k ⊗ u ⊕ l ⊗ v ≐ num (pos 0) ⇒ l ⊗ v ⊕ k ⊗ u ≐ num (pos 0) because eqn 0 (num (pos 1)))
    tt

second_zero : (k l : ℕ) (u v : ℤ) → 0 < l → pos k *ℤ u +ℤ pos l *ℤ v ≡ pos 0 → u ≡ pos 0 → v ≡ pos 0
second_zero k l u v h e z = first_zero l k v u h (exchanged (pos k) (pos l) u v e) z

no_first : (l u v : ℤ) → pos 0 *ℤ u +ℤ l *ℤ v ≡ pos 0 → v *ℤ l ≡ pos 0 *ℤ l
no_first = follows 3 (λ l u v. num (pos 0) ⊗ u ⊕ l ⊗ v ≐ num (pos 0) ⇒ v ⊗ l ≐ num (pos 0)
    ⊗ l because eqn 0 (num (pos 1))) tt

-- the first weight is above 0 where the second turn is not 0
some_first : (k l : ℕ) (u v : ℤ) → 0 < k + l → pos k *ℤ u +ℤ pos l *ℤ v ≡ pos 0 → (v ≡ pos 0 → ⊥) → 0 < k
some_first zero l u v some e out = absurd (out
    (≡_of_mul v (pos 0) (pos l) (above l (omega arith)) (no_first (pos l) u v e)))
some_first (suc k) l u v some e out = omega arith

some_second : (k l : ℕ) (u v : ℤ) → 0 < k + l → pos k *ℤ u +ℤ pos l *ℤ v ≡ pos 0 → (u ≡ pos 0 → ⊥) → 0 < l
some_second k l u v some e out = some_first l k v u (omega arith) (exchanged (pos k) (pos l) u v e) out

-- ---- the corners of a triangle, from one of them on
record Sided (tin : Triangulation) (ns : List ℕ) (c d : ℕ) : Type 0 where
  e : ℕ
  positive : pos 0 <ℤ turn_of (place_at tin c) (place_at tin d) (place_at tin e)
  only : (n : ℕ) → has ns n ≡ true → (c ≡ n) ⊎ ((d ≡ n) ⊎ (e ≡ n))

sided_list : (tin : Triangulation) (i j l k : ℕ) → k < 3
    → pos 0 <ℤ turn_of (place_at tin i) (place_at tin j) (place_at tin l)
    → Sided tin (i ∷ j ∷ l ∷ []) (get_or (i ∷ j ∷ l ∷ []) k 0) (get_or (i ∷ j ∷ l ∷ []) (next_of k) 0)
sided_list tin i j l zero h t = record { e = l; positive = t; only = λ n m. one_of_three i j l n m }
sided_list tin i j l (suc zero) h t =
    record {
      e = i;
      positive = subst (λ (z : ℤ). pos 0 <ℤ z) (turn_cycle (place_at tin i) (place_at tin j) (place_at tin l)) t;
      only = λ n m. ⊎_elim (λ e. inr (inr e)) (λ r. ⊎_elim (λ e. inl e) (λ e. inr (inl e)) r) (one_of_three i j l n m);
    }
sided_list tin i j l (suc (suc zero)) h t =
    record {
      e = j;
      positive = subst (λ (z : ℤ). pos 0 <ℤ z) (turn_cycle (place_at tin j) (place_at tin l) (place_at tin i))
          (subst (λ (z : ℤ). pos 0 <ℤ z) (turn_cycle (place_at tin i) (place_at tin j) (place_at tin l)) t);
      only = λ n m. ⊎_elim (λ e. inr (inl e)) (λ r. ⊎_elim (λ e. inr (inr e)) (λ e. inl e) r) (one_of_three i j l n m);
    }
sided_list tin i j l (suc (suc (suc k))) h t = absurd (omega arith)

sided : (tin : Triangulation) (t k : ℕ) → IsWithinLimits tin → IsSound tin → t < length tin.triangles → k < 3
    → Sided tin (numbers_of tin t) (corner_of tin t k) (corner_of tin t (next_of k))
sided tin t k limits sound ht hk = go (numbered tin t limits sound ht)
  where
    go : Numbered tin (numbers_of tin t) → Sided tin (numbers_of tin t) (corner_of tin t k)
        (corner_of tin t (next_of k))
    go s = subst (λ (ns : List ℕ). Sided tin ns (get_or ns k 0) (get_or ns (next_of k) 0)) (sym s.is)
        (sided_list tin s.i s.j s.k k hk s.positive)

-- ---- a triangle without a corner of another has of this one only the side opposite

without : (ns us cs : List ℕ) (c d e : ℕ) → HasAll ns cs → HasAll us cs
    → ((n : ℕ) → has ns n ≡ true → (c ≡ n) ⊎ ((d ≡ n) ⊎ (e ≡ n))) → (has us c ≡ true → ⊥) → HasAll (d ∷ e ∷ []) cs
without ns us [] c d e in_ns in_us only out = tt
without ns us (n ∷ cs) c d e in_ns in_us only out =
    grind (arith, has_first_of_two, has_second_of_two, (without ns us cs c d e in_ns.1 in_us.1 only out))

-- a triangle that has a point of another, which is not on the side opposite to a corner, has this corner
keeps_corner : (tin : Triangulation) (t u c d e : ℕ) (p : Point) → IsSound tin → t ≢ u → t < length tin.triangles
    → u < length tin.triangles → ((n : ℕ) → has (numbers_of tin t) n ≡ true → (c ≡ n) ⊎ ((d ≡ n) ⊎ (e ≡ n)))
    → pos 0 <ℤ p.w → IsInTriangle tin Source t p → IsInTriangle tin Source u p
    → (turn_of (place_at tin d) (place_at tin e) p ≡ pos 0 → ⊥) → HasCorner tin u c
keeps_corner tin t u c d e p sound differ ht hu only hp in_t in_u off = go (has (numbers_of tin u) c) refl
  where
    no_true : false ≡ true → ⊥
    no_true h = cc

    go : (b : Bool) → has (numbers_of tin u) c ≡ b → HasCorner tin u c
    go true h = h
    go false h =
        let fit = sound.fit Source t u differ ht hu in
        let all = without (numbers_of tin t) (numbers_of tin u) (common_of tin t u) c d e
        (common_in_first (numbers_of tin t) (numbers_of tin u))
        (common_in_second (numbers_of tin t) (numbers_of tin u)) only (λ f. no_true (sym h ∙ f)) in
        absurd (off (turn_on_side (place_at tin d) (place_at tin e) p one one
        (in_more tin (d ∷ e ∷ []) (common_of tin t u) p all (fit.meet p hp in_t in_u))))

not_zero : (z : ℤ) → pos 0 <ℤ z → z ≡ pos 0 → ⊥
not_zero z h e = absurd (omega (arith, ints))

turn_back : (x y : Point) → turn_of x y x ≡ pos 0
turn_back x y = turn_cycle x y x ∙ turn_cycle y x x ∙ turn_twice x y

turn_end : (x y : Point) → turn_of x y y ≡ pos 0
turn_end x y = turn_cycle x y y ∙ turn_twice y x

-- ---- at the spot where a triangle is left
record Weights (tin : Triangulation) (a b : Pt) (c d : ℕ) (x : Spot) : Type 0 where
  k : ℕ
  l : ℕ
  some : 0 < k + l
  same : Same (spot_at a b x) (mixed k l (place_at tin c) (place_at tin d))
  cancel : pos k *ℤ turn_of (whole a) (whole b) (place_at tin c) +ℤ pos l
      *ℤ turn_of (whole a) (whole b) (place_at tin d) ≡ pos 0

weights : (tin : Triangulation) (a b : Pt) (t k : ℕ) (x : Spot) → IsLeftAt tin a b t k x
    → Weights tin a b (corner_of tin t k) (corner_of tin t (next_of k)) x
weights tin a b t k x left =
    let has_x = left.has in
    let c = place_at tin (corner_of tin t k) in let d = place_at tin (corner_of tin t (next_of k)) in
    let p = spot_at a b x in
    let w = spot-w a b x has_x.some in
    let i = between_weights c d p left.on_side in
    let on_ab : turn_of (whole a) (whole b) p ≡ pos 0 =
    turn_on_side (whole a) (whole b) p one one
    (weights_between (whole a) (whole b) p (record {
      k = x.of_a;
      l = x.of_b;
      some = has_x.some;
      same =
          same_refl p;
    })) in
    record {
      k = i.k;
      l = i.l;
      some = i.some;
      same = i.same;
      cancel =
          line_zero (whole a) (whole b) p c d i.k i.l w i.same on_ab;
    }

has_first : (tin : Triangulation) (a b : Pt) (t k u : ℕ) (x : Spot) → IsWithinLimits tin → IsSound tin
    → IsLeftAt tin a b t k x → (w : Weights tin a b (corner_of tin t k) (corner_of tin t (next_of k)) x) → 0 < w.k
    → t ≢ u → u < length tin.triangles → IsShared tin a b u x → HasCorner tin u (corner_of tin t k)
has_first tin a b t k u x limits sound left w h differ hu in_u = go (sided tin t k limits sound left.in_range left.side)
  where
    c : ℕ
    c = corner_of tin t k

    d : ℕ
    d = corner_of tin t (next_of k)

    go : Sided tin (numbers_of tin t) (corner_of tin t k) (corner_of tin t (next_of k))
        → HasCorner tin u (corner_of tin t k)
    go s =
        let has_x = left.has in
        let p = spot_at a b x in let hp = spot-w a b x has_x.some in
        let pc = place_at tin (corner_of tin t k) in let pd = place_at tin (corner_of tin t (next_of k)) in let pe =
        place_at tin s.e in
        keeps_corner tin t u (corner_of tin t k) (corner_of tin t (next_of k)) s.e p sound differ left.in_range hu
        s.only hp has_x.inside in_u.inside
        (λ none. not_zero (turn_of pd pe pc) (subst (λ (z : ℤ). pos 0 <ℤ z) (turn_cycle pc pd pe) s.positive)
        (first_zero w.k w.l (turn_of pd pe pc) (turn_of pd pe pd) h (line_zero pd pe p pc pd w.k w.l hp w.same none)
        (turn_back pd pe)))

has_second : (tin : Triangulation) (a b : Pt) (t k u : ℕ) (x : Spot) → IsWithinLimits tin → IsSound tin
    → IsLeftAt tin a b t k x → (w : Weights tin a b (corner_of tin t k) (corner_of tin t (next_of k)) x) → 0 < w.l
    → t ≢ u → u < length tin.triangles → IsShared tin a b u x → HasCorner tin u (corner_of tin t (next_of k))
has_second tin a b t k u x limits sound left w h differ hu in_u =
    go (sided tin t k limits sound left.in_range left.side)
  where
    go : Sided tin (numbers_of tin t) (corner_of tin t k) (corner_of tin t (next_of k))
        → HasCorner tin u (corner_of tin t (next_of k))
    go s =
        let has_x = left.has in
        let p = spot_at a b x in let hp = spot-w a b x has_x.some in
        let pc = place_at tin (corner_of tin t k) in let pd = place_at tin (corner_of tin t (next_of k)) in let pe =
        place_at tin s.e in
        keeps_corner tin t u (corner_of tin t (next_of k)) s.e (corner_of tin t k) p sound differ left.in_range hu
        (λ n m. ⊎_elim (λ e. inr (inr e)) (λ r. ⊎_elim (λ e. inl e) (λ e. inr (inl e)) r) (s.only n m)) hp
        has_x.inside in_u.inside
        (λ none. not_zero (turn_of pe pc pd) (subst (λ (z : ℤ). pos 0 <ℤ z) (sym (turn_cycle pe pc pd)) s.positive)
        (second_zero w.k w.l (turn_of pe pc pc) (turn_of pe pc pd) h (line_zero pe pc p pc pd w.k w.l hp w.same none)
        (turn_end pe pc)))

-- the line goes through the first corner: the spot is there
pub shares_first : (tin : Triangulation) (a b : Pt) (t k u : ℕ) (x : Spot) → IsWithinLimits tin → IsSound tin
    → IsLeftAt tin a b t k x → IsOnLine tin a b (corner_of tin t k) → t ≢ u → u < length tin.triangles
    → IsShared tin a b u x → HasCorner tin u (corner_of tin t k)
shares_first tin a b t k u x limits sound left on differ hu in_u =
    let w = weights tin a b t k x left in
    has_first tin a b t k u x limits sound left w
    (some_first w.k w.l (turn_of (whole a) (whole b) (place_at tin (corner_of tin t k)))
    (turn_of (whole a) (whole b) (place_at tin (corner_of tin t (next_of k)))) w.some w.cancel
    (λ z. left.crossed on z)) differ hu in_u

-- it does not go through the first corner, as where it goes through the second: the spot is not at the first
pub shares_second : (tin : Triangulation) (a b : Pt) (t k u : ℕ) (x : Spot) → IsWithinLimits tin → IsSound tin
    → IsLeftAt tin a b t k x → (IsOnLine tin a b (corner_of tin t k) → ⊥) → t ≢ u → u < length tin.triangles
    → IsShared tin a b u x → HasCorner tin u (corner_of tin t (next_of k))
shares_second tin a b t k u x limits sound left off differ hu in_u =
    let w = weights tin a b t k x left in
    has_second tin a b t k u x limits sound left w
    (some_second w.k w.l (turn_of (whole a) (whole b) (place_at tin (corner_of tin t k)))
    (turn_of (whole a) (whole b) (place_at tin (corner_of tin t (next_of k)))) w.some w.cancel off) differ hu in_u

-- it goes through neither
pub shares_side : (tin : Triangulation) (a b : Pt) (t k u : ℕ) (x : Spot) → IsWithinLimits tin → IsSound tin
    → IsLeftAt tin a b t k x → (IsOnLine tin a b (corner_of tin t k) → ⊥)
    → (IsOnLine tin a b (corner_of tin t (next_of k)) → ⊥) → t ≢ u → u < length tin.triangles → IsShared tin a b u x
    → IsAcross tin t k u
shares_side tin a b t k u x limits sound left off off' differ hu in_u =
    let w = weights tin a b t k x left in
    record {
      in_range = hu;
      differs = λ e. differ (sym e);
      first = has_first tin a b t k u x limits sound left w
          (some_first w.k w.l (turn_of (whole a) (whole b) (place_at tin (corner_of tin t k)))
          (turn_of (whole a) (whole b) (place_at tin (corner_of tin t (next_of k)))) w.some w.cancel off') differ hu
          in_u;
      second = shares_second tin a b t k u x limits sound left off differ hu in_u;
    }
