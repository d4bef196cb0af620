-- Answers to the goals of `is_below` in src/nearest.rt.
use Rattle.std.proofs.Common.{◌<◌, ◌*◌, ◌/◌, ◌%◌, ◌↔◌, ℕ, IsTrue, nat_lt, rules, sym, subst}
use Rattle.seg_gap.proofs.WholeParts.{HasWhole, whole_of, whole_below, below_by_whole, below_by_left}
use Rattle.seg_gap.proofs.nearest.is_below.Goals as goal

by_test : (i j : ℕ) → IsTrue (nat_lt i j) ↔ (i < j)
by_test i j = search rules

pub returns-then-whole-other_whole : goal.returns-then-whole-other_whole
returns-then-whole-other_whole c =
    let one = c.args.one in let other = c.args.other in
    let first = whole_of one.num one.den one.some in
    let second = whole_of other.num other.den other.some in
    let test = by_test (one.num / one.den) (other.num / other.den) in (
      λ h. below_by_whole _ _ _ _ _ _ _ _ first second (test.0 h),
      λ h. test.1 (whole_below _ _ _ _ _ _ _ _ first second c.if-whole-other_whole.true h),
    )

pub returns-else-whole-other_whole : goal.returns-else-whole-other_whole
returns-else-whole-other_whole c =
    let one = c.args.one in let other = c.args.other in
    let first = whole_of one.num one.den one.some in
    let second = whole_of other.num other.den other.some in
    let equal = subst (λ (q : ℕ). HasWhole other.num other.den q (other.num % other.den))
    (sym c.if-whole-other_whole.false) second in
    let left = below_by_left _ _ _ _ _ _ _ first equal in
    let test = by_test (one.num % one.den * other.den) (other.num % other.den * one.den) in
    (λ h. left.0 (test.0 h), λ h. test.1 (left.1 h))
