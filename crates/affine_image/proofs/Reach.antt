-- A rounded image is between what the target places of the corners are between: in reach, and near each other such
-- image.
use Rattle.std.proofs.Common.{◌≡◌, ℕ, ◌<◌, ℤ, pos, ◌+ℤ◌, ◌-ℤ◌, ◌*ℤ◌, ◌≤ℤ◌, ◌<ℤ◌, neg_ℤ, List, [], ◌∷◌, length, sum, All}
use Rattle.std.proofs.Common.{negsuc, refl, sym, subst, arith}
use Rattle.std.proofs.lemmas.Int.{ints}
use Rattle.integer_ring.proofs.Ring.{num, ◌⊕◌, ◌⊗◌}
use Rattle.integer_ring.proofs.Order.{nonneg_pos}
use Rattle.integer_ring.proofs.Signs.{≤_of_mul}
use Rattle.integer_ring.proofs.Claims.{◌≐◌, ◌≼◌, ◌≺◌, gap, eqn, ◌⊞◌, ◌⊠◌, ◌because◌, ◌⇒◌, follows}
use Rattle.frac128.specs.Rounding.{half_up_of}
use Rattle.plane_base.specs.Plane.{Point, Same, weighted_sum, IsNear}
use Rattle.plane_base.specs.declared.shapes.Pt.{Pt}
use Rattle.plane_base.specs.declared.shapes.TheConstants.{SPAN}
use Rattle.tin_base.specs.declared.frames.Frame.TheVariants.{Target}
use Rattle.tin_base.specs.declared.limits.TheConstants.{REACH}
use Rattle.tin_base.specs.Triangulation.{Triangulation, x_in, y_in, corner_at, places, numbers_of}
use Rattle.tin_base.specs.Limits.{IsWithinLimits}
use Rattle.tin_base.proofs.FrameImages.Alike.{mix-w}
use Rattle.affine_image.specs.RoundedImages.{IsRoundedImageAt}
use Rattle.affine_image.specs.Laws.{RoundedImagesAreInReach, RoundedImagesAreNear}
use Rattle.affine_image.proofs.HalfUp.{rounded_not_below, rounded_not_above}
use Rattle.affine_image.proofs.Near.{turned}

-- three weights
low_of : (l k i j a b c : ℤ) → pos 0 ≤ℤ k → pos 0 ≤ℤ i → pos 0 ≤ℤ j → l ≤ℤ a → l ≤ℤ b → l ≤ℤ c
    → (l *ℤ (k *ℤ pos 1 +ℤ (i *ℤ pos 1 +ℤ (j *ℤ pos 1 +ℤ pos 0)))) ≤ℤ (k *ℤ a +ℤ (i *ℤ b +ℤ (j *ℤ c +ℤ pos 0)))
low_of =
    follows 7 (λ l k i j a b c. num (pos 0) ≼ k ⇒ num (pos 0) ≼ i ⇒ num (pos 0) ≼ j ⇒ l ≼ a ⇒ l ≼ b ⇒ l ≼ c
    ⇒ l ⊗ (k ⊗ num (pos 1) ⊕ (i ⊗ num (pos 1) ⊕ (j ⊗ num (pos 1) ⊕ num (pos 0)))) ≼ k ⊗ a
    ⊕ (i ⊗ b ⊕ (j ⊗ c ⊕ num (pos 0))) because gap 0 ⊠ gap 3 ⊞ gap 1 ⊠ gap 4 ⊞ gap 2 ⊠ gap 5) tt

high_of : (m k i j a b c : ℤ) → pos 0 ≤ℤ k → pos 0 ≤ℤ i → pos 0 ≤ℤ j → a ≤ℤ m → b ≤ℤ m → c ≤ℤ m
    → (k *ℤ a +ℤ (i *ℤ b +ℤ (j *ℤ c +ℤ pos 0))) ≤ℤ (m *ℤ (k *ℤ pos 1 +ℤ (i *ℤ pos 1 +ℤ (j *ℤ pos 1 +ℤ pos 0))))
high_of =
    follows 7 (λ m k i j a b c. num (pos 0) ≼ k ⇒ num (pos 0) ≼ i ⇒ num (pos 0) ≼ j ⇒ a ≼ m ⇒ b ≼ m ⇒ c ≼ m
    ⇒ k ⊗ a ⊕ (i ⊗ b ⊕ (j ⊗ c ⊕ num (pos 0))) ≼ m
    ⊗ (k ⊗ num (pos 1) ⊕ (i ⊗ num (pos 1) ⊕ (j ⊗ num (pos 1) ⊕ num (pos 0)))) because gap 0 ⊠ gap 3 ⊞ gap 1 ⊠ gap 4
    ⊞ gap 2 ⊠ gap 5) tt

-- x/w and y/v of one value
low_same : (l x w y v : ℤ) → pos 0 <ℤ w → x *ℤ v ≡ y *ℤ w → (l *ℤ v) ≤ℤ y → ((l *ℤ w) *ℤ v) ≤ℤ (x *ℤ v)
low_same = follows 5 (λ l x w y v. num (pos 0) ≺ w ⇒ x ⊗ v ≐ y ⊗ w ⇒ l ⊗ v ≼ y ⇒ (l ⊗ w) ⊗ v ≼ x
    ⊗ v because gap 2 ⊠ gap 0 ⊞ eqn 1 (num (negsuc 0))) tt

high_same : (m x w y v : ℤ) → pos 0 <ℤ w → x *ℤ v ≡ y *ℤ w → y ≤ℤ (m *ℤ v) → (x *ℤ v) ≤ℤ ((m *ℤ w) *ℤ v)
high_same = follows 5 (λ m x w y v. num (pos 0) ≺ w ⇒ x ⊗ v ≐ y ⊗ w ⇒ y ≼ m ⊗ v ⇒ x ⊗ v ≼ (m ⊗ w)
    ⊗ v because gap 2 ⊠ gap 0 ⊞ eqn 1 (num (pos 1))) tt

on_axis : (l m x w y v : ℤ) → pos 0 <ℤ w → pos 0 <ℤ v → x *ℤ v ≡ y *ℤ w → (l *ℤ v) ≤ℤ y → y ≤ℤ (m *ℤ v)
    → (l ≤ℤ half_up_of x w) × (half_up_of x w ≤ℤ m)
on_axis l m x w y v hw hv e low high = (
  rounded_not_below x w l hw (≤_of_mul (l *ℤ w) x v hv (low_same l x w y v hw e low)),
  rounded_not_above x w m hw (≤_of_mul x (m *ℤ w) v hv (high_same m x w y v hw e high)),
)

-- ---- all corners are in a box of the target frame
-- from the one corner of the box to the other
pub record Box : Type 0 where
  pub low : Pt
  pub high : Pt

abbrev pub IsInBox : Box → ℤ → ℤ → Type 0
IsInBox box x y = (box.low.x ≤ℤ x) × (x ≤ℤ box.high.x) × (box.low.y ≤ℤ y) × (y ≤ℤ box.high.y)

abbrev pub AreInBox : Triangulation → Box → Type 0
AreInBox tin box = (n : ℕ) → n < length tin.corners
    → IsInBox box (x_in Target (corner_at tin n)) (y_in Target (corner_at tin n))

of_corners : (tin : Triangulation) (box : Box) (ks ns : List ℕ) (r : Point) → length ks ≡ length ns → length ns ≡ 3
    → All (λ n. n < length tin.corners) ns → AreInBox tin box → 0 < sum ks → pos 0 <ℤ r.w
    → Same r (weighted_sum ks (places tin Target ns)) → IsInBox box (half_up_of r.x r.w) (half_up_of r.y r.w)
of_corners tin box (k ∷ i ∷ j ∷ []) (a ∷ b ∷ c ∷ []) r e three within are some hr same =
    let v = mix-w tin Target (k ∷ i ∷ j ∷ []) (a ∷ b ∷ c ∷ []) refl some in
    let q = weighted_sum (k ∷ i ∷ j ∷ []) (places tin Target (a ∷ b ∷ c ∷ [])) in
    let ra = are a (within 0 a (omega arith)) in let rb = are b (within 1 b (omega arith)) in let rc =
    are c (within 2 c (omega arith)) in
    let at_a = corner_at tin a in let at_b = corner_at tin b in let at_c = corner_at tin c in
    let kp = nonneg_pos k in let ip = nonneg_pos i in let jp = nonneg_pos j in
    let x = on_axis box.low.x box.high.x r.x r.w q.x q.w hr v same.0
    (low_of box.low.x (pos k) (pos i) (pos j) (x_in Target at_a) (x_in Target at_b) (x_in Target at_c) kp ip jp ra.0
    rb.0 rc.0)
    (high_of box.high.x (pos k) (pos i) (pos j) (x_in Target at_a) (x_in Target at_b) (x_in Target at_c) kp ip jp ra.1
    rb.1 rc.1) in
    let y = on_axis box.low.y box.high.y r.y r.w q.y q.w hr v same.1
    (low_of box.low.y (pos k) (pos i) (pos j) (y_in Target at_a) (y_in Target at_b) (y_in Target at_c) kp ip jp ra.2
    rb.2 rc.2)
    (high_of box.high.y (pos k) (pos i) (pos j) (y_in Target at_a) (y_in Target at_b) (y_in Target at_c) kp ip jp ra.3
    rb.3 rc.3) in
    (x.0, x.1, y.0, y.1)
of_corners tin box ks [] r e three within are some hr same = absurd (omega arith)
of_corners tin box ks (a ∷ []) r e three within are some hr same = absurd (omega arith)
of_corners tin box ks (a ∷ b ∷ []) r e three within are some hr same = absurd (omega arith)
of_corners tin box ks (a ∷ b ∷ c ∷ d ∷ ns) r e three within are some hr same = absurd (omega arith)
of_corners tin box [] (a ∷ b ∷ c ∷ []) r e three within are some hr same = absurd (omega arith)
of_corners tin box (k ∷ []) (a ∷ b ∷ c ∷ []) r e three within are some hr same = absurd (omega arith)
of_corners tin box (k ∷ i ∷ []) (a ∷ b ∷ c ∷ []) r e three within are some hr same = absurd (omega arith)
of_corners tin box (k ∷ i ∷ j ∷ l ∷ ks) (a ∷ b ∷ c ∷ []) r e three within are some hr same = absurd (omega arith)

-- then each rounded image is
in_box : (tin : Triangulation) (box : Box) (p : Point) (image : Pt) → IsWithinLimits tin → AreInBox tin box
    → IsRoundedImageAt tin p image → IsInBox box image.x image.y
in_box tin box p image limits are i =
    let r = i.0 in let t = i.2.0 in let m = i.2.2 in
    let there = of_corners tin box m.0 (numbers_of tin t) r m.1 (limits.three t i.2.1) (limits.in_range t i.2.1) are m.2
    i.1 m.4 in
    subst (λ (q : Pt). IsInBox box q.x q.y) (sym i.3) there

-- ---- the box of the reach
abbrev reach : Box
reach = record { low = record { x = neg_ℤ REACH; y = neg_ℤ REACH }; high = record { x = REACH; y = REACH } }

pub rounded_images_are_in_reach : RoundedImagesAreInReach
rounded_images_are_in_reach tin p image limits i =
    let box = in_box tin reach p image limits
    (λ n h. let at = limits.in_reach Target n h in (at.0.0, at.0.1, at.1.0, at.1.1)) i in
    ((box.0, box.1), (box.2, box.3))

-- ---- the box of all that is near a point
abbrev around : Pt → Box
around p = record {
  low = record { x = p.x -ℤ SPAN +ℤ pos 1; y = p.y -ℤ SPAN +ℤ pos 1 };
  high =
      record { x = p.x +ℤ SPAN -ℤ pos 1; y = p.y +ℤ SPAN -ℤ pos 1 };
}

near_in : (a b : ℤ) → (a -ℤ b) <ℤ SPAN → (b -ℤ a) <ℤ SPAN → ((a -ℤ SPAN +ℤ pos 1) ≤ℤ b) × (b ≤ℤ (a +ℤ SPAN -ℤ pos 1))
near_in a b h k = (omega (arith, ints), omega (arith, ints))

near_out : (a b : ℤ) → (a -ℤ SPAN +ℤ pos 1) ≤ℤ b → b ≤ℤ (a +ℤ SPAN -ℤ pos 1) → ((a -ℤ b) <ℤ SPAN) × ((b -ℤ a) <ℤ SPAN)
near_out a b h k = (omega (arith, ints), omega (arith, ints))

near_around : (p q : Pt) → IsNear p q → IsInBox (around p) q.x q.y
near_around p q h = let x = near_in p.x q.x h.0 h.1 in let y = near_in p.y q.y h.2 h.3 in (x.0, x.1, y.0, y.1)

around_near : (p q : Pt) → IsInBox (around p) q.x q.y → IsNear p q
around_near p q h = let x = near_out p.x q.x h.0 h.1 in let y = near_out p.y q.y h.2 h.3 in (x.0, x.1, y.0, y.1)

abbrev target_at : Triangulation → ℕ → Pt
target_at tin n = record { x = x_in Target (corner_at tin n); y = y_in Target (corner_at tin n) }

corners_near : (tin : Triangulation) (m n : ℕ) → IsWithinLimits tin → m < length tin.corners → n < length tin.corners
    → IsNear (target_at tin m) (target_at tin n)
corners_near tin m n limits hm hn = let there = limits.near Target m n hm hn in let back =
    limits.near Target n m hn hm in (there.0, back.0, there.1, back.1)

-- a rounded image is near each corner
corner_near : (tin : Triangulation) (n : ℕ) (p : Point) (image : Pt) → IsWithinLimits tin → n < length tin.corners
    → IsRoundedImageAt tin p image → IsNear (target_at tin n) image
corner_near tin n p image limits hn i = around_near (target_at tin n) image
    (in_box tin (around (target_at tin n)) p image limits
    (λ m hm. near_around (target_at tin n) (target_at tin m) (corners_near tin n m limits hn hm)) i)

pub rounded_images_are_near : RoundedImagesAreNear
rounded_images_are_near tin p q image also limits i j =
    around_near image also (in_box tin (around image) q also limits
    (λ n hn. near_around image (target_at tin n)
    (turned (target_at tin n) image (corner_near tin n p image limits hn i))) j)
