-- The offset that a point's turns with the sides of its triangle give, and how large it is.
use Rattle.std.proofs.Common.{◌≡◌, ℕ, ◌<◌, ◌≤◌, ◌*◌, ◌-◌, ℤ, pos, negsuc, ◌+ℤ◌, ◌*ℤ◌, ◌≤ℤ◌, ◌<ℤ◌, neg_ℤ, unsigned_abs, SFits}
use Rattle.std.specs.List.{All}
use Rattle.std.proofs.Common.{zero, suc, List, [], ◌∷◌, length, get_or, sum, refl, sym, ap, ap₂, ◌∙◌, subst, arith}
use Rattle.std.proofs.lemmas.Int.{ints}
use Rattle.std.proofs.Math.ListN.{length-map}
use lib.Signed.{lt_z_yes}
use mir.Syntax.{w64}
use Rattle.integer_ring.proofs.Ring.{num, ◌⊕◌, ◌⊗◌}
use Rattle.integer_ring.proofs.Claims.{◌≐◌, ◌≼◌, gap, eqn, ◌⊞◌, ◌⊠◌, ◌because◌, ◌⇒◌, follows}
use Rattle.frac128.specs.Rounding.{half_up_of}
use Rattle.mm_decimal.specs.declared.limits.TheConstants.{LIMIT}
use Rattle.plane_base.specs.Plane.{Point, Same, turn_of, weighted_sum, whole, corners_of, holds_of}
use Rattle.plane_base.specs.declared.shapes.Pt.{Pt}
use Rattle.plane_base.specs.declared.shapes.Tri.{Tri}
use Rattle.plane_base.proofs.MixLaws.Turns.{turn_split}
use Rattle.plane_base.proofs.TriangleLaws.InTriangle.{turns_of_mix}
use Rattle.plane_base.proofs.MixLaws.Proportions.{weights_are_turns}
use Rattle.tin_base.specs.declared.frames.Frame.TheVariants.{Source}
use Rattle.tin_base.specs.Triangulation.{Triangulation, place, corner_at, places, numbers_of, IsInTriangle}
use Rattle.tin_base.proofs.FrameImages.Weights.{total-ones}
use Rattle.frac128.proofs.Nearest.{within}
use Rattle.tin_base.specs.Limits.{IsWithinLimits}
use Rattle.affine_image.proofs.HeightLemmas.{rise_fits}
use Rattle.affine_image.proofs.HalfUp.{rounded_not_below, rounded_not_above}
use Rattle.tin_height.specs.Offsets.{offset_in, weighed_offset, IsRoundedOffset, AreOffsets}
use Rattle.tin_height.specs.InsideOffsets.{mixed_by_turns}

-- ---- between the least and the greatest offset
one : pos 0 <ℤ pos 1
one = lt_z_yes tt

low : (u v r d a b c l : ℤ) → pos 0 ≤ℤ u → pos 0 ≤ℤ v → pos 0 ≤ℤ r
    → pos 1 *ℤ d ≡ pos 1 *ℤ r +ℤ pos 1 *ℤ u +ℤ pos 1 *ℤ v → l ≤ℤ a → l ≤ℤ b → l ≤ℤ c
    → (l *ℤ d) ≤ℤ (u *ℤ a +ℤ v *ℤ b +ℤ r *ℤ c)
low =
    follows 8 (λ u v r d a b c l.
    num (pos 0) ≼ u ⇒ num (pos 0) ≼ v ⇒ num (pos 0) ≼ r
    ⇒ num (pos 1) ⊗ d ≐ num (pos 1) ⊗ r ⊕ num (pos 1) ⊗ u ⊕ num (pos 1) ⊗ v ⇒ l ≼ a ⇒ l ≼ b ⇒ l ≼ c
    ⇒ l ⊗ d ≼ u ⊗ a ⊕ v ⊗ b ⊕ r ⊗ c because gap 0 ⊠ gap 4 ⊞ gap 1 ⊠ gap 5 ⊞ gap 2 ⊠ gap 6 ⊞ eqn 3 l) tt

high : (u v r d a b c l : ℤ) → pos 0 ≤ℤ u → pos 0 ≤ℤ v → pos 0 ≤ℤ r
    → pos 1 *ℤ d ≡ pos 1 *ℤ r +ℤ pos 1 *ℤ u +ℤ pos 1 *ℤ v → a ≤ℤ l → b ≤ℤ l → c ≤ℤ l
    → (u *ℤ a +ℤ v *ℤ b +ℤ r *ℤ c) ≤ℤ (l *ℤ d)
high =
    follows 8 (λ u v r d a b c l.
    num (pos 0) ≼ u ⇒ num (pos 0) ≼ v ⇒ num (pos 0) ≼ r
    ⇒ num (pos 1) ⊗ d ≐ num (pos 1) ⊗ r ⊕ num (pos 1) ⊗ u ⊕ num (pos 1) ⊗ v ⇒ a ≼ l ⇒ b ≼ l ⇒ c ≼ l
    ⇒ u ⊗ a ⊕ v ⊗ b ⊕ r ⊗ c ≼ l ⊗ d because gap 0 ⊠ gap 4 ⊞ gap 1 ⊠ gap 5 ⊞ gap 2 ⊠ gap 6 ⊞ eqn 3 (num (negsuc 0) ⊗ l)) tt

below_limit : (z : ℤ) → unsigned_abs z ≤ 2 * LIMIT → z ≤ℤ pos (2 * LIMIT)
below_limit z h = omega (arith, ints)

above_limit : (z : ℤ) → unsigned_abs z ≤ 2 * LIMIT → neg_ℤ (pos (2 * LIMIT)) ≤ℤ z
above_limit z h = omega (arith, ints)

between : (r : ℤ) → neg_ℤ (pos (2 * LIMIT)) ≤ℤ r → r ≤ℤ pos (2 * LIMIT) → unsigned_abs r ≤ 2 * LIMIT
between r h k = omega (arith, ints)

mixed_small : (t : Tri) (p : Pt) (a b c : ℤ) → pos 0 <ℤ turn_of (whole t.a) (whole t.b) (whole t.c) → holds_of t p
    → unsigned_abs a ≤ 2 * LIMIT → unsigned_abs b ≤ 2 * LIMIT → unsigned_abs c ≤ 2 * LIMIT
    → unsigned_abs (half_up_of (mixed_by_turns t p a b c) (turn_of (whole t.a) (whole t.b) (whole t.c))) ≤ 2 * LIMIT
mixed_small t p a b c h inside x y z =
    let d = turn_of (whole t.a) (whole t.b) (whole t.c) in
    let s = turns_of_mix (whole t.a) (whole t.b) (whole t.c) (whole p) one one one one h inside in
    let split = turn_split (whole t.a) (whole t.b) (whole t.c) (whole p) in
    between (half_up_of (mixed_by_turns t p a b c) d)
    (rounded_not_below (mixed_by_turns t p a b c) d (neg_ℤ (pos (2 * LIMIT))) h
    (low _ _ _ d a b c _ s.1 s.2 s.0 split (above_limit a x) (above_limit b y) (above_limit c z)))
    (rounded_not_above (mixed_by_turns t p a b c) d (pos (2 * LIMIT)) h
    (high _ _ _ d a b c _ s.1 s.2 s.0 split (below_limit a x) (below_limit b y) (below_limit c z)))

-- the rounded mix of three offsets, how large it is, and that 64 bits hold it
pub record IsRounded (t : Tri) (p : Pt) (a b c r : ℤ) : Type 0 where
  pub value : r ≡ half_up_of (mixed_by_turns t p a b c) (turn_of (whole t.a) (whole t.b) (whole t.c))
  pub size : unsigned_abs r ≤ 2 * LIMIT
  pub fits : SFits w64 r

pub rounded : (t : Tri) (p : Pt) (a b c r mixed turn : ℤ) → pos 0 <ℤ turn_of (whole t.a) (whole t.b) (whole t.c)
    → holds_of t p → unsigned_abs a ≤ 2 * LIMIT → unsigned_abs b ≤ 2 * LIMIT → unsigned_abs c ≤ 2 * LIMIT
    → mixed ≡ mixed_by_turns t p a b c → turn ≡ turn_of (whole t.a) (whole t.b) (whole t.c)
    → r ≡ half_up_of mixed turn → IsRounded t p a b c r
rounded t p a b c r mixed turn h inside x y z mixes turns rounds =
    let is = rounds ∙ ap₂ half_up_of mixes turns in
    let small : unsigned_abs r ≤ 2 * LIMIT = subst (λ (i : ℤ). unsigned_abs i ≤ 2 * LIMIT) (sym is)
    (mixed_small t p a b c h inside x y z) in
    record { value = is; size = small; fits = rise_fits r small }

-- ---- the offset
on_offset : (k l m u v r d a b c : ℤ)
    → (k *ℤ pos 1 +ℤ (l *ℤ pos 1 +ℤ (m *ℤ pos 1 +ℤ pos 0))) *ℤ u ≡ pos 1 *ℤ (k *ℤ d)
    → (k *ℤ pos 1 +ℤ (l *ℤ pos 1 +ℤ (m *ℤ pos 1 +ℤ pos 0))) *ℤ v ≡ pos 1 *ℤ (l *ℤ d)
    → (k *ℤ pos 1 +ℤ (l *ℤ pos 1 +ℤ (m *ℤ pos 1 +ℤ pos 0))) *ℤ r ≡ pos 1 *ℤ (m *ℤ d)
    → (u *ℤ a +ℤ v *ℤ b +ℤ r *ℤ c) *ℤ (k *ℤ pos 1 +ℤ (l *ℤ pos 1 +ℤ (m *ℤ pos 1 +ℤ pos 0)))
    ≡ (k *ℤ a +ℤ (l *ℤ b +ℤ (m *ℤ c +ℤ pos 0))) *ℤ d
on_offset =
    follows 10 (λ k l m u v r d a b c.
    (k ⊗ num (pos 1) ⊕ (l ⊗ num (pos 1) ⊕ (m ⊗ num (pos 1) ⊕ num (pos 0)))) ⊗ u ≐ num (pos 1) ⊗ (k ⊗ d)
    ⇒ (k ⊗ num (pos 1) ⊕ (l ⊗ num (pos 1) ⊕ (m ⊗ num (pos 1) ⊕ num (pos 0)))) ⊗ v ≐ num (pos 1) ⊗ (l ⊗ d)
    ⇒ (k ⊗ num (pos 1) ⊕ (l ⊗ num (pos 1) ⊕ (m ⊗ num (pos 1) ⊕ num (pos 0)))) ⊗ r ≐ num (pos 1) ⊗ (m ⊗ d)
    ⇒ (u ⊗ a ⊕ v ⊗ b ⊕ r ⊗ c) ⊗ (k ⊗ num (pos 1) ⊕ (l ⊗ num (pos 1) ⊕ (m ⊗ num (pos 1) ⊕ num (pos 0))))
    ≐ (k ⊗ a ⊕ (l ⊗ b ⊕ (m ⊗ c ⊕ num (pos 0)))) ⊗ d because eqn 0 a ⊞ eqn 1 b ⊞ eqn 2 c) tt

-- the mix of three offsets, by the turns and by the weights
same_mix : (t : Tri) (p : Pt) (ks : List ℕ) (offsets : List ℤ) (f g h : ℕ) → length ks ≡ 3
    → Same (whole p) (weighted_sum ks (corners_of t))
    → mixed_by_turns t p (offset_in offsets f) (offset_in offsets g) (offset_in offsets h) *ℤ pos (sum ks)
    ≡ weighed_offset offsets ks (f ∷ g ∷ h ∷ []) *ℤ turn_of (whole t.a) (whole t.b) (whole t.c)
same_mix t p (k ∷ l ∷ m ∷ []) offsets f g h e same =
    let i = weights_are_turns (whole t.a) (whole t.b) (whole t.c) (whole p) k l m same in
    ap (λ (z : ℤ). mixed_by_turns t p (offset_in offsets f) (offset_in offsets g) (offset_in offsets h) *ℤ z)
    (sym (total-ones (k ∷ l ∷ m ∷ []) (f ∷ g ∷ h ∷ []) e))
    ∙ on_offset (pos k) (pos l) (pos m) _ _ _ (turn_of (whole t.a) (whole t.b) (whole t.c)) (offset_in offsets f)
    (offset_in offsets g) (offset_in offsets h) i.of_a i.of_b i.of_c
same_mix t p ks offsets f g h e same = absurd (omega arith)

pub offset_is : (tin : Triangulation) (offsets : List ℤ) (tri : ℕ) (t : Tri) (p : Pt) (f g h : ℕ) (offset : ℤ)
    → tri < length tin.triangles → numbers_of tin tri ≡ f ∷ g ∷ h ∷ []
    → corners_of t ≡ places tin Source (numbers_of tin tri) → IsInTriangle tin Source tri (whole p)
    → pos 0 <ℤ turn_of (whole t.a) (whole t.b) (whole t.c)
    → offset ≡ half_up_of (mixed_by_turns t p (offset_in offsets f) (offset_in offsets g) (offset_in offsets h))
    (turn_of (whole t.a) (whole t.b) (whole t.c))
    → IsRoundedOffset tin offsets p offset
offset_is tin offsets tri t p f g h offset ht three et (ks, fit, some, same) positive is =
    let ns = numbers_of tin tri in
    let long : length ks ≡ length ns = fit ∙ length-map ns (λ n. place Source (corner_at tin n)) in (
      mixed_by_turns t p (offset_in offsets f) (offset_in offsets g) (offset_in offsets h),
      turn_of (whole t.a) (whole t.b) (whole t.c),
      positive,
      (
        tri,
        ht,
        ks,
        long,
        some,
        same,
        same_mix t p ks offsets f g h (long ∙ ap length three)
            (subst (λ (ps : List Point). Same (whole p) (weighted_sum ks ps)) (sym et) same)
            ∙ ap (λ (numbers : List ℕ). weighed_offset offsets ks numbers *ℤ turn_of (whole t.a) (whole t.b) (whole t.c))
            (sym three),
      ),
      is,
    )

-- ---- the offset of a corner
pub offset_small : (offsets : List ℤ) → All (λ offset. unsigned_abs offset ≤ 2 * LIMIT) offsets → (n : ℕ)
    → unsigned_abs (offset_in offsets n) ≤ 2 * LIMIT
offset_small [] small n = omega arith
offset_small (offset ∷ offsets) small zero = small 0 (pos 0) (omega arith)
offset_small (offset ∷ offsets) small (suc n) =
    offset_small offsets (λ i d within. small (suc i) d (omega (arith, within))) n

-- ---- the numbers of a triangle's corners
pub three_numbers : (ns : List ℕ) → length ns ≡ 3 → ns ≡ get_or ns 0 0 ∷ get_or ns 1 0 ∷ get_or ns 2 0 ∷ []
three_numbers (a ∷ b ∷ c ∷ []) e = refl
three_numbers ns e = absurd (omega arith)

pub corner_below : (tin : Triangulation) (offsets : List ℤ) (triangles : List (List ℕ)) (tri k : ℕ)
    → triangles ≡ tin.triangles → IsWithinLimits tin → AreOffsets tin offsets → tri < length tin.triangles → k < 3
    → get_or (get_or triangles tri []) k 0 < length offsets
corner_below tin offsets triangles tri k same limits h ht few =
    let within : k < length (numbers_of tin tri) = omega (arith, limits.three tri ht, few) in
    let here : get_or (numbers_of tin tri) k 0 < length tin.corners = limits.in_range tri ht k 0 within in
    let there : get_or (get_or triangles tri []) k 0 < length tin.corners =
    subst (λ (ts : List (List ℕ)). get_or (get_or ts tri []) k 0 < length tin.corners) (sym same) here in
    omega (arith, h.each, there)
