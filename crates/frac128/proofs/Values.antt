-- The values of fractions are in a total order.
use Rattle.std.proofs.Common.{◌≡◌, ◌*ℤ◌, Less, Equal, Greater, sym, subst}
use Rattle.std.specs.Ordering.{MatchOrdering}
use Rattle.std.specs.Cmp.{IsTotalOrder, int_cmp_is, int_ranks}
use Rattle.std.specs.declared.cmp.Ordering.{Ordering}
use Rattle.std.proofs.lemmas.Cmp.{int_cmp_total}
use Rattle.integer_ring.proofs.Order.{≤_of_<, ≤_of_≡}
use Rattle.integer_ring.proofs.Signs.{frac-<-≤_trans, frac-≤-<_trans, frac-≡_trans}
use Rattle.frac128.specs.Fractions.{IsBelow, IsSameValue, order_of}
use Rattle.frac128.specs.declared.frac.Frac.{Frac}

cases : (a b : Frac) → MatchOrdering (order_of a b) (IsBelow a b) (IsSameValue a b) (IsBelow b a)
cases a b = int_ranks (a.num *ℤ b.den) (b.num *ℤ a.den)

below_of : (a b : Frac) → order_of a b ≡ Less → IsBelow a b
below_of a b e = subst (λ (o : Ordering). MatchOrdering o (IsBelow a b) (IsSameValue a b) (IsBelow b a)) e (cases a b)

same_of : (a b : Frac) → order_of a b ≡ Equal → IsSameValue a b
same_of a b e = subst (λ (o : Ordering). MatchOrdering o (IsBelow a b) (IsSameValue a b) (IsBelow b a)) e (cases a b)

is_order : (a b : Frac) (o : Ordering) → MatchOrdering o (IsBelow a b) (IsSameValue a b) (IsBelow b a)
    → o ≡ order_of a b
is_order a b o m = int_cmp_is (a.num *ℤ b.den) (b.num *ℤ a.den) o m

below_trans : (a b c : Frac) → IsBelow a b → IsBelow b c → IsBelow a c
below_trans a b c h k = frac-<-≤_trans a.num a.den b.num b.den c.num c.den a.positive b.positive c.positive h
    (≤_of_< (b.num *ℤ c.den) (c.num *ℤ b.den) k)

-- with a of the value of b: what is so of b and c is so of a and c
alike : (a b c : Frac) → IsSameValue a b → (o : Ordering)
    → MatchOrdering o (IsBelow b c) (IsSameValue b c) (IsBelow c b)
    → MatchOrdering o (IsBelow a c) (IsSameValue a c) (IsBelow c a)
alike a b c e Less m = frac-≤-<_trans a.num a.den b.num b.den c.num c.den a.positive b.positive c.positive
    (≤_of_≡ (a.num *ℤ b.den) (b.num *ℤ a.den) e) m
alike a b c e Equal m = frac-≡_trans a.num a.den b.num b.den c.num c.den b.positive e m
alike a b c e Greater m = frac-<-≤_trans c.num c.den b.num b.den a.num a.den c.positive b.positive a.positive m
    (≤_of_≡ (b.num *ℤ a.den) (a.num *ℤ b.den) (sym e))

pub values_are_in_total_order : IsTotalOrder order_of
values_are_in_total_order =
    record {
      antisymm = λ a b. int_cmp_total.antisymm (a.num *ℤ b.den) (b.num *ℤ a.den);
      trans = λ a b c h k. sym (is_order a c Less (below_trans a b c (below_of a b h) (below_of b c k)));
      congr = λ a b c h. sym (is_order a c (order_of b c) (alike a b c (same_of a b h) (order_of b c) (cases b c)));
    }
