-- The parameters at which a number that goes evenly from u to v is not negative.
use Rattle.std.proofs.Common.{◌≡◌, ◌≢◌, ◌↔◌, Bool, IsTrue, ◌==◌, sym, subst, refl, arith, ℤ, pos, negsuc, ◌+ℤ◌, ◌-ℤ◌}
use Rattle.std.proofs.Common.{◌*ℤ◌, ◌≤ℤ◌, ◌<ℤ◌}
use Rattle.std.proofs.lemmas.Int.{ints}
use Rattle.std.proofs.Common.{Equal}
use Rattle.std.specs.Ordering.{MatchOrdering, ordering_index}
use Rattle.std.specs.declared.cmp.Ordering.{Ordering}
use Rattle.integer_ring.proofs.Ring.{num, neg, ◌⊕◌, ◌⊖◌, ◌⊗◌}
use Rattle.integer_ring.proofs.Signs.{≡_of_mul}
use Rattle.integer_ring.proofs.Claims.{◌≐◌, ◌≼◌, ◌≺◌, never, gap, over, eqn, ◌⊞◌, ◌⊠◌, ◌because◌, ◌otherwise◌, ◌⇒◌}
use Rattle.integer_ring.proofs.Claims.{follows}
use Rattle.frac128.specs.Fractions.{IsBelow, IsSameValue, IsFrom, IsUpTo}
use Rattle.frac128.specs.declared.frac.Frac.{Frac}
use Rattle.plane_base.specs.InsideCourses.{value_at, IsZeroAt}
use Rattle.plane_base.specs.Slices.{IsParam, IsWithin}

-- ---- the ends of the way
from_start : (f : Frac) (n d : ℤ) → f.num ≡ pos 0 → pos 0 ≤ℤ n → IsFrom f n d
from_start f n d e h = follows 4 (λ x y n d. num (pos 0) ≺ y ⇒ x ≐ num (pos 0) ⇒ num (pos 0) ≼ n ⇒ x ⊗ d ≼ n
    ⊗ y because gap 2 ⊠ gap 0 ⊞ eqn 1 d) tt f.num f.den n d f.positive e h

up_to_end : (f : Frac) (n d : ℤ) → f.num ≡ f.den → n ≤ℤ d → IsUpTo f n d
up_to_end f n d e h = follows 4 (λ x y n d. num (pos 0) ≺ y ⇒ x ≐ y ⇒ n ≼ d ⇒ n ⊗ y ≼ x
    ⊗ d because gap 2 ⊠ gap 0 ⊞ eqn 1 (neg d)) tt f.num f.den n d f.positive e h

-- ---- with the fraction f at which the number is 0
pub left_rises : (u v : ℤ) (f e : Frac) (n d : ℤ) → u <ℤ v → value_at u v f.num f.den ≡ pos 0 → e.num ≡ e.den
    → IsParam n d → (pos 0 ≤ℤ value_at u v n d) ↔ IsWithin f e n d
left_rises u v f e n d h z end p = (
  λ k. (
    follows 6 (λ u v x y n d. u ≺ v ⇒ num (pos 0) ≺ y ⇒ (y ⊖ x) ⊗ u ⊕ x ⊗ v ≐ num (pos 0) ⇒ num (pos 0) ≼ (d ⊖ n) ⊗ u
        ⊕ n ⊗ v ⇒ x ⊗ d ≼ n ⊗ y
        otherwise gap 3 ⊠ gap 1 ⊞ eqn 2 d ⊞ gap 0 ⊠ over 4 ⊞ over 0) tt u v f.num f.den n d h f.positive z k,
    up_to_end e n d end p.2,
  ),
  λ k. follows 6 (λ u v x y n d. u ≺ v ⇒ num (pos 0) ≺ y ⇒ (y ⊖ x) ⊗ u ⊕ x ⊗ v ≐ num (pos 0) ⇒ x ⊗ d ≼ n
      ⊗ y ⇒ num (pos 0) ≼ (d ⊖ n) ⊗ u ⊕ n ⊗ v
      otherwise gap 0 ⊠ gap 3 ⊞ eqn 2 (neg d) ⊞ over 4 ⊠ gap 1 ⊞ over 1) tt u v f.num f.den n d h f.positive z k.0,
)

pub left_falls : (u v : ℤ) (s f : Frac) (n d : ℤ) → v <ℤ u → value_at u v f.num f.den ≡ pos 0 → s.num ≡ pos 0
    → IsParam n d → (pos 0 ≤ℤ value_at u v n d) ↔ IsWithin s f n d
left_falls u v s f n d h z start p = (
  λ k. (
    from_start s n d start p.1,
    follows 6 (λ u v x y n d. v ≺ u ⇒ num (pos 0) ≺ y ⇒ (y ⊖ x) ⊗ u ⊕ x ⊗ v ≐ num (pos 0) ⇒ num (pos 0) ≼ (d ⊖ n) ⊗ u
        ⊕ n ⊗ v ⇒ n ⊗ y ≼ x ⊗ d
        otherwise gap 3 ⊠ gap 1 ⊞ eqn 2 d ⊞ gap 0 ⊠ over 4 ⊞ over 0) tt u v f.num f.den n d h f.positive z k,
  ),
  λ k. follows 6 (λ u v x y n d. v ≺ u ⇒ num (pos 0) ≺ y ⇒ (y ⊖ x) ⊗ u ⊕ x ⊗ v ≐ num (pos 0) ⇒ n ⊗ y ≼ x
      ⊗ d ⇒ num (pos 0) ≼ (d ⊖ n) ⊗ u ⊕ n ⊗ v
      otherwise gap 0 ⊠ gap 3 ⊞ eqn 2 (neg d) ⊞ over 4 ⊠ gap 1 ⊞ over 1) tt u v f.num f.den n d h f.positive z k.1,
)

pub left_never : (u v : ℤ) (s e : Frac) (n d : ℤ) → u ≡ v → u <ℤ pos 0 → s.num ≡ s.den → e.num ≡ pos 0 → IsParam n d
    → (pos 0 ≤ℤ value_at u v n d) ↔ IsWithin s e n d
left_never u v s e n d h below es ee p = (
  λ k. absurd (follows 4 (λ u v n d. u ≐ v ⇒ u ≺ num (pos 0) ⇒ num (pos 0) ≺ d ⇒ num (pos 0) ≼ (d ⊖ n) ⊗ u ⊕ n
      ⊗ v ⇒ never because gap 3 ⊞ eqn 0 (neg n) ⊞ over 1 ⊠ gap 2 ⊞ over 2) tt u v n d h below p.0 k),
  λ k. absurd (follows 6 (λ a b x y n d. a ≐ b ⇒ x
      ≐ num (pos 0) ⇒ num (pos 0) ≺ b ⇒ num (pos 0) ≺ y ⇒ num (pos 0) ≺ d ⇒ a ⊗ d ≼ n ⊗ b ⇒ n ⊗ y ≼ x ⊗ d ⇒ never
      because gap 5 ⊠ gap 3 ⊞ eqn 0 (neg (d ⊗ y)) ⊞ gap 6 ⊠ gap 2 ⊞ eqn 1 (d ⊗ b) ⊞ over 2 ⊠ gap 4 ⊠ gap 3 ⊞ over 4 ⊠
      gap 3 ⊞ over 3) tt s.num s.den e.num e.den n d es ee s.positive e.positive p.0 k.0 k.1),
)

pub left_always : (u v : ℤ) (s e : Frac) (n d : ℤ) → u ≡ v → pos 0 ≤ℤ u → s.num ≡ pos 0 → e.num ≡ e.den → IsParam n d
    → (pos 0 ≤ℤ value_at u v n d) ↔ IsWithin s e n d
left_always u v s e n d h k es ee p = (
  λ _. (from_start s n d es p.1, up_to_end e n d ee p.2),
  λ _. follows 4 (λ u v n d. u ≐ v ⇒ num (pos 0) ≼ u ⇒ num (pos 0) ≺ d ⇒ num (pos 0) ≼ (d ⊖ n) ⊗ u ⊕ n
      ⊗ v because gap 1 ⊠ gap 2 ⊞ eqn 0 n) tt u v n d h k p.0,
)

-- where it is not negative at either end, it is not negative between them
pub left_between : (u v n d : ℤ) → pos 0 ≤ℤ u → pos 0 ≤ℤ v → IsParam n d → pos 0 ≤ℤ value_at u v n d
left_between u v n d h k p = follows 4 (λ u v n d. num (pos 0) ≼ u ⇒ num (pos 0) ≼ v ⇒ num (pos 0) ≼ n ⇒ n
    ≼ d ⇒ num (pos 0) ≼ (d ⊖ n) ⊗ u ⊕ n ⊗ v because gap 3 ⊠ gap 0 ⊞ gap 2 ⊠ gap 1) tt u v n d h k p.1 p.2

-- ---- where the number is 0, and nowhere else
pub zero_falls : (u v x y : ℤ) → x ≡ u → y ≡ u -ℤ v → (y -ℤ x) *ℤ u +ℤ x *ℤ v ≡ pos 0
zero_falls = follows 4 (λ u v x y. x ≐ u ⇒ y ≐ u ⊖ v ⇒ (y ⊖ x) ⊗ u ⊕ x ⊗ v
    ≐ num (pos 0) because eqn 1 u ⊞ eqn 0 (neg (u ⊖ v))) tt

pub zero_rises : (u v x y : ℤ) → x ≡ pos 0 -ℤ u → y ≡ v -ℤ u → (y -ℤ x) *ℤ u +ℤ x *ℤ v ≡ pos 0
zero_rises = follows 4 (λ u v x y. x ≐ num (pos 0) ⊖ u ⇒ y ≐ v ⊖ u ⇒ (y ⊖ x) ⊗ u ⊕ x ⊗ v
    ≐ num (pos 0) because eqn 1 u ⊞ eqn 0 (v ⊖ u)) tt

pub once_falls : (u v x y n d : ℤ) → x ≡ u → y ≡ u -ℤ v → (d -ℤ n) *ℤ u +ℤ n *ℤ v ≡ pos 0 → n *ℤ y ≡ x *ℤ d
once_falls = follows 6 (λ u v x y n d. x ≐ u ⇒ y ≐ u ⊖ v ⇒ (d ⊖ n) ⊗ u ⊕ n ⊗ v ≐ num (pos 0) ⇒ n ⊗ y ≐ x
    ⊗ d because eqn 0 (neg d) ⊞ eqn 1 n ⊞ eqn 2 (num (negsuc 0))) tt

pub once_rises : (u v x y n d : ℤ) → x ≡ pos 0 -ℤ u → y ≡ v -ℤ u → (d -ℤ n) *ℤ u +ℤ n *ℤ v ≡ pos 0 → n *ℤ y ≡ x *ℤ d
once_rises = follows 6 (λ u v x y n d. x ≐ num (pos 0) ⊖ u ⇒ y ≐ v ⊖ u ⇒ (d ⊖ n) ⊗ u ⊕ n ⊗ v ≐ num (pos 0) ⇒ n ⊗ y ≐ x
    ⊗ d because eqn 0 (neg d) ⊞ eqn 1 n ⊞ eqn 2 (num (pos 1))) tt

-- ---- the number is 0 at each fraction of that value
zero_where : (u v x y n d : ℤ) → pos 0 <ℤ y → value_at u v x y ≡ pos 0 → x *ℤ d ≡ n *ℤ y → value_at u v n d ≡ pos 0
zero_where u v x y n d hy z e =
    ≡_of_mul (value_at u v n d) (pos 0) y hy
    (follows 6 (λ u v x y n d. (y ⊖ x) ⊗ u ⊕ x ⊗ v ≐ num (pos 0) ⇒ x ⊗ d ≐ n ⊗ y ⇒ ((d ⊖ n) ⊗ u ⊕ n ⊗ v) ⊗ y
    ≐ num (pos 0) ⊗ y
    because eqn 0 d ⊞ eqn 1 (neg (v ⊖ u))) tt u v x y n d z e)

-- as the code tests it: f is where the number is 0, o how f compares with g, and the answer r whether they are equal
pub zero_by_order : (u v : ℤ) (f g : Frac) (o : Ordering) (r : Bool) → u ≢ v → value_at u v f.num f.den ≡ pos 0
    → ((n d : ℤ) → value_at u v n d ≡ pos 0 → n *ℤ f.den ≡ f.num *ℤ d)
    → MatchOrdering o (IsBelow f g) (IsSameValue f g) (IsBelow g f) → r ≡ (ordering_index o == 1)
    → IsTrue r ↔ IsZeroAt u v g
zero_by_order u v f g o r differ z once cases e =
    (λ h. (differ, there o cases (subst IsTrue e h)), λ k. subst IsTrue (sym e) (back o cases (once g.num g.den k.1)))
  where
    there : (o : Ordering) → MatchOrdering o (IsBelow f g) (IsSameValue f g) (IsBelow g f)
        → IsTrue (ordering_index o == 1) → value_at u v g.num g.den ≡ pos 0
    there Equal k h = zero_where u v f.num f.den g.num g.den f.positive z k
    there o k h = cc

    back : (o : Ordering) → MatchOrdering o (IsBelow f g) (IsSameValue f g) (IsBelow g f)
        → g.num *ℤ f.den ≡ f.num *ℤ g.den → IsTrue (ordering_index o == 1)
    back Equal k h = refl
    back o k h = absurd (omega (arith, ints, k, h))
