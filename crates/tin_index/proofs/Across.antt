-- At most one other triangle has both corners of a side: two to the left of it would overlap, and so would two to the
-- right.
use Rattle.std.proofs.Common.{◌≡◌, ◌≢◌, ◌⊎◌, inl, inr, ⊎_elim, ℕ, zero, suc, ◌<◌, ◌≤◌, ℤ, pos, ◌<ℤ◌, true, false}
use Rattle.std.proofs.Common.{List, [], ◌∷◌, length, get_or, sym, ◌∙◌, subst, arith}
use Rattle.std.proofs.lemmas.Bool.Decides.{eqb_tells}
use Rattle.std.proofs.lemmas.Bool.{cases_eq, eq-eqb, or_right, or_left}
use Rattle.std.proofs.lemmas.Grind.{get_or_default_zero}
use Rattle.std.proofs.lemmas.List.Elements.{Contains-get_or}
use Rattle.plane_base.specs.Plane.{Point, turn_of, IsMix}
use Rattle.plane_base.proofs.MixLaws.Turns.{turn_cycle}
use Rattle.plane_base.proofs.MixLaws.Mixes.{turn_on_side}
use Rattle.tin_base.specs.declared.frames.Frame.TheVariants.{Source}
use Rattle.tin_base.specs.Triangulation.{Triangulation, place, corner_at, numbers_of, places}
use Rattle.tin_base.specs.Soundness.{has, common_of, DoFit, IsSound}
use Rattle.tin_base.specs.Limits.{IsWithinLimits}
use Rattle.tin_base.proofs.SegmentSpots.Spots.{one}
use Rattle.tin_base.proofs.FrameImages.Weights.{HasAll}
use Rattle.tin_index.specs.Sides.{HasCorner, corner_of, next_of, IsAcross, IsStar}
use Rattle.tin_index.specs.InsideSides.{IsOtherWith}
use Rattle.tin_index.proofs.Corners.{Numbered, numbered, read_differ, own}
use Rattle.plane_base.proofs.TriangleLaws.LeftOfSide.{overlap_at_side}
use Rattle.tin_base.proofs.PieceChains.Overlap.{in_more}
use Rattle.tin_base.proofs.TriangleLemmas.Members.{one_of_three, has_first, has_second, has_third, has_common}
use Rattle.plain_laws.proofs.Booleans.{or_rest}

-- three corners to the left of the way from corner c to corner d: f is the third of them
record LeftOf (tin : Triangulation) (ns : List ℕ) (c d : ℕ) : Type 0 where
  f : ℕ
  positive : pos 0 <ℤ turn_of (place Source (corner_at tin c)) (place Source (corner_at tin d))
      (place Source (corner_at tin f))
  into : (p : Point) → IsMix p (places tin Source (c ∷ d ∷ f ∷ [])) → IsMix p (places tin Source ns)

-- ---- corners by name
no_true : {P : Type 0} → false ≡ true → P
no_true e = cc

-- the first number, or one of the others
first_or : (n c : ℕ) (ns : List ℕ) → has (n ∷ ns) c ≡ true → (n ≡ c) ⊎ (has ns c ≡ true)
first_or n c ns h = grind (arith, eqb_tells, or_rest)

-- of two numbers at most, c and d are all
only_two : (cs : List ℕ) (c d : ℕ) → length cs ≤ 2 → has cs c ≡ true → has cs d ≡ true → c ≢ d → HasAll (c ∷ d ∷ []) cs
only_two [] c d few hc hd differ = no_true hc
only_two (x ∷ []) c d few hc hd differ = grind (arith, ⊎_elim, no_true, first_or)
only_two (x ∷ y ∷ z ∷ cs) c d few hc hd differ = absurd (omega arith)
only_two (x ∷ y ∷ []) c d few hc hd differ = grind (arith, first_or, or_left, eq-eqb, or_right, ⊎_elim, no_true, HasAll)

-- ---- each triangle with both corners is to the left of the way from the one to the other, or of the way back
hands : (tin : Triangulation) (ns : List ℕ) (c d : ℕ) → Numbered tin ns → c ≢ d → has ns c ≡ true → has ns d ≡ true
    → LeftOf tin ns c d ⊎ LeftOf tin ns d c
hands tin ns c d s differ hc hd =
    subst (λ (ms : List ℕ). LeftOf tin ms c d ⊎ LeftOf tin ms d c) (sym s.is)
    (go s.i s.j s.k s.positive (subst (λ (ms : List ℕ). has ms c ≡ true) s.is hc)
    (subst (λ (ms : List ℕ). has ms d ≡ true) s.is hd))
  where
    at : ℕ → Point
    at n = place Source (corner_at tin n)

    left : (ms : List ℕ) (m n l e f : ℕ) → m ≡ e → n ≡ f
        → pos 0 <ℤ turn_of (place Source (corner_at tin m)) (place Source (corner_at tin n))
        (place Source (corner_at tin l)) → HasAll ms (m ∷ n ∷ l ∷ []) → LeftOf tin ms e f
    left ms m n l e f is_e is_f t all =
        subst (λ (x : ℕ). LeftOf tin ms x f) is_e
        (subst (λ (x : ℕ). LeftOf tin ms m x) is_f
        (record { f = l; positive = t; into = λ p mix. in_more tin ms (m ∷ n ∷ l ∷ []) p all mix }))

    go : (i j k : ℕ) → pos 0 <ℤ turn_of (place Source (corner_at tin i)) (place Source (corner_at tin j))
        (place Source (corner_at tin k)) → has (i ∷ j ∷ k ∷ []) c ≡ true → has (i ∷ j ∷ k ∷ []) d ≡ true
        → LeftOf tin (i ∷ j ∷ k ∷ []) c d ⊎ LeftOf tin (i ∷ j ∷ k ∷ []) d c
    go i j k t hc hd = by (one_of_three i j k c hc) (one_of_three i j k d hd)
      where
        t' : pos 0 <ℤ turn_of (place Source (corner_at tin j)) (place Source (corner_at tin k))
            (place Source (corner_at tin i))
        t' = subst (λ (n : ℤ). pos 0 <ℤ n) (turn_cycle (place Source (corner_at tin i)) (place Source (corner_at tin j))
            (place Source (corner_at tin k))) t

        t'' : pos 0 <ℤ turn_of (place Source (corner_at tin k)) (place Source (corner_at tin i))
            (place Source (corner_at tin j))
        t'' = subst (λ (n : ℤ). pos 0 <ℤ n) (turn_cycle (place Source (corner_at tin j))
            (place Source (corner_at tin k)) (place Source (corner_at tin i))) t'

        in_i : has (i ∷ j ∷ k ∷ []) i ≡ true
        in_i = has_first i j k

        in_j : has (i ∷ j ∷ k ∷ []) j ≡ true
        in_j = has_second i j k

        in_k : has (i ∷ j ∷ k ∷ []) k ≡ true
        in_k = has_third i j k

        by : (i ≡ c) ⊎ ((j ≡ c) ⊎ (k ≡ c)) → (i ≡ d) ⊎ ((j ≡ d) ⊎ (k ≡ d))
            → LeftOf tin (i ∷ j ∷ k ∷ []) c d ⊎ LeftOf tin (i ∷ j ∷ k ∷ []) d c
        by (inl e) (inl f) = absurd (differ (sym e ∙ f))
        by (inl e) (inr (inl f)) = inl (left (i ∷ j ∷ k ∷ []) i j k c d e f t (in_i, (in_j, (in_k, tt))))
        by (inl e) (inr (inr f)) = inr (left (i ∷ j ∷ k ∷ []) k i j d c f e t'' (in_k, (in_i, (in_j, tt))))
        by (inr (inl e)) (inl f) = inr (left (i ∷ j ∷ k ∷ []) i j k d c f e t (in_i, (in_j, (in_k, tt))))
        by (inr (inl e)) (inr (inl f)) = absurd (differ (sym e ∙ f))
        by (inr (inl e)) (inr (inr f)) = inl (left (i ∷ j ∷ k ∷ []) j k i c d e f t' (in_j, (in_k, (in_i, tt))))
        by (inr (inr e)) (inl f) = inl (left (i ∷ j ∷ k ∷ []) k i j c d e f t'' (in_k, (in_i, (in_j, tt))))
        by (inr (inr e)) (inr (inl f)) = inr (left (i ∷ j ∷ k ∷ []) j k i d c f e t' (in_j, (in_k, (in_i, tt))))
        by (inr (inr e)) (inr (inr f)) = absurd (differ (sym e ∙ f))

-- ---- two triangles are not on the same hand
clash : (tin : Triangulation) (t u c d : ℕ) → IsSound tin → t ≢ u → t < length tin.triangles → u < length tin.triangles
    → c ≢ d → HasCorner tin t c → HasCorner tin t d → HasCorner tin u c → HasCorner tin u d
    → LeftOf tin (numbers_of tin t) c d → LeftOf tin (numbers_of tin u) c d → ⊥
clash tin t u c d sound differ ht hu two tc td uc ud of_t of_u =
    overlap_at_side (place Source (corner_at tin c)) (place Source (corner_at tin d))
    (place Source (corner_at tin of_t.f)) (place Source (corner_at tin of_u.f)) one one one one of_t.positive
    of_u.positive
    (λ p hp in_t in_u. turn_on_side (place Source (corner_at tin c)) (place Source (corner_at tin d)) p one one
    (in_more tin (c ∷ d ∷ []) (common_of tin t u) p all (fit.meet p hp (of_t.into p in_t) (of_u.into p in_u))))
  where
    fit : DoFit tin Source t u
    fit = sound.fit Source t u differ ht hu

    all : HasAll (c ∷ d ∷ []) (common_of tin t u)
    all = only_two (common_of tin t u) c d fit.two_common (has_common (numbers_of tin t) (numbers_of tin u) c tc uc)
        (has_common (numbers_of tin t) (numbers_of tin u) d td ud) two

at_most_two : (tin : Triangulation) (t u v c d : ℕ) → IsWithinLimits tin → IsSound tin → t ≢ u → t ≢ v → u ≢ v
    → t < length tin.triangles → u < length tin.triangles → v < length tin.triangles → c ≢ d
    → HasCorner tin t c → HasCorner tin t d → HasCorner tin u c → HasCorner tin u d → HasCorner tin v c
    → HasCorner tin v d → ⊥
at_most_two tin t u v c d limits sound tu tv uv ht hu hv differ tc td uc ud vc vd =
    go (hand t ht tc td) (hand u hu uc ud) (hand v hv vc vd)
  where
    hand : (w : ℕ) → w < length tin.triangles → HasCorner tin w c → HasCorner tin w d
        → LeftOf tin (numbers_of tin w) c d ⊎ LeftOf tin (numbers_of tin w) d c
    hand w hw wc wd = hands tin (numbers_of tin w) c d (numbered tin w limits sound hw) differ wc wd

    back : d ≢ c
    back e = differ (sym e)

    go : LeftOf tin (numbers_of tin t) c d ⊎ LeftOf tin (numbers_of tin t) d c
        → LeftOf tin (numbers_of tin u) c d ⊎ LeftOf tin (numbers_of tin u) d c
        → LeftOf tin (numbers_of tin v) c d ⊎ LeftOf tin (numbers_of tin v) d c → ⊥
    go (inl x) (inl y) z = clash tin t u c d sound tu ht hu differ tc td uc ud x y
    go (inr x) (inr y) z = clash tin t u d c sound tu ht hu back td tc ud uc x y
    go (inl x) (inr y) (inl z) = clash tin t v c d sound tv ht hv differ tc td vc vd x z
    go (inl x) (inr y) (inr z) = clash tin u v d c sound uv hu hv back ud uc vd vc y z
    go (inr x) (inl y) (inl z) = clash tin u v c d sound uv hu hv differ uc ud vc vd y z
    go (inr x) (inl y) (inr z) = clash tin t v d c sound tv ht hv back td tc vd vc x z

-- ---- the other triangle at a side
next_below : (k : ℕ) → k < 3 → (next_of k < 3) × (k ≢ next_of k)
next_below (suc (suc (suc k))) h = absurd (omega arith)
next_below k h = (omega arith, λ e. absurd (omega arith))

pub one_across : (tin : Triangulation) (t k u v : ℕ) → IsWithinLimits tin → IsSound tin → t < length tin.triangles
    → k < 3 → IsAcross tin t k u → IsAcross tin t k v → u ≡ v
one_across tin t k u v limits sound ht hk in_u in_v = ⊎_elim (λ e. e) two (cases_eq u v)
  where
    next : (next_of k < 3) × (k ≢ next_of k)
    next = next_below k hk

    two : (u ≡ v → ⊥) → u ≡ v
    two differ =
        absurd (at_most_two tin t u v (corner_of tin t k) (corner_of tin t (next_of k)) limits sound
        (λ e. in_u.differs (sym e)) (λ e. in_v.differs (sym e)) differ ht in_u.in_range in_v.in_range
        (read_differ tin t k (next_of k) limits sound ht hk next.0 next.1) (own tin t k limits sound ht hk)
        (own tin t (next_of k) limits sound ht next.0) in_u.first in_u.second in_v.first in_v.second)

-- a triangle of a corner's star that has the second one
pub found_with : (tin : Triangulation) (t c d i : ℕ) (star : List ℕ) → IsStar tin c star → i < length star
    → (get_or star i 0 ≢ t) × HasCorner tin (get_or star i 0) d → IsOtherWith tin t c d (get_or star i 0)
found_with tin t c d i star s h other = grind (arith, get_or, Contains-get_or)

pub none_with : (tin : Triangulation) (t c d : ℕ) (star : List ℕ) → IsStar tin c star
    → ((i : ℕ) → i < length star → (get_or star i 0 ≢ t) × HasCorner tin (get_or star i 0) d → ⊥) → (u : ℕ)
    → IsOtherWith tin t c d u → ⊥
none_with tin t c d star s none u other = grind (arith, get_or, get_or_default_zero)

-- what has both corners of a side is across it, whichever of the two is named first
pub across_of : (tin : Triangulation) (t k c d u : ℕ) → c ≡ corner_of tin t k → d ≡ corner_of tin t (next_of k)
    → IsOtherWith tin t c d u → IsAcross tin t k u
across_of tin t k c d u e f o = record {
  in_range = o.in_range;
  differs = o.differs;
  first = subst (λ (x : ℕ). HasCorner tin u x) e o.first;
  second = subst (λ (x : ℕ). HasCorner tin u x) f o.second;
}

pub across_turned : (tin : Triangulation) (t k c d u : ℕ) → c ≡ corner_of tin t k → d ≡ corner_of tin t (next_of k)
    → IsOtherWith tin t d c u → IsAcross tin t k u
across_turned tin t k c d u e f o = across_of tin t k c d u e f (record {
  in_range = o.in_range;
  differs = o.differs;
  first = o.second;
  second = o.first;
})
