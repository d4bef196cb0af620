-- Answers to the goals of `square_of` in src/nearest.rt.
use Rattle.std.proofs.Common.{◌≡◌, ℕ, ℤ, pos, ◌+ℤ◌, unsigned_abs, refl, arith, rules, FitsSigned, ap, ◌∙◌}
use Rattle.std.proofs.lemmas.Int.{to_z-of_z, ints}
use mir.Syntax.{w128}
use Rattle.integer_ring.proofs.Order.{≤_of_<}
use Rattle.seg_gap.specs.InsideEnds.{dot_of}
use Rattle.seg_gap.proofs.Feet.{at_most_by, above_by, sum_some}
use Rattle.seg_gap.proofs.Sides.{whole_turn_is}
use Rattle.seg_gap.proofs.Squares.{own_magnitude, magnitude_squared, dot_nonneg, square_of_end, square_swapped}
use Rattle.seg_gap.proofs.Squares.{square_of_foot}
use Rattle.seg_gap.proofs.nearest.square_of.Goals as goal

whole_num : (num : ℕ) (result z : ℤ) → num ≡ unsigned_abs result → result ≡ z → pos (unsigned_abs z) ≡ z → pos num ≡ z
whole_num num result z e f is = ap (λ (n : ℕ). pos n) (e ∙ ap unsigned_abs f) ∙ is

pub returns-then-from_c-le0 : goal.returns-then-from_c-le0
returns-then-from_c-le0 c =
    let p = c.args.p in let a = c.args.c in let b = c.args.d in
    let f : FitsSigned w128 c.dot-from_c.result = search rules in
    let g : FitsSigned w128 c.dot.result = search rules in
    record {
      end_is = c.whole_square.ensures.end;
      least =
          square_of_end p a b _ _
          (at_most_by c.dot-from_c.result (dot_of a p b) c.dot-from_c.ensures.value
          (simp to_z-of_z at c.if-from_c-le0.true))
          (whole_num c.whole_square.result.num c.dot.result (dot_of a p p) (simp to_z-of_z at c.whole_square.ensures.num)
          c.dot.ensures.value (own_magnitude (dot_of a p p) (dot_nonneg a p))) c.whole_square.ensures.den;
    }

pub returns-then-from_d-le0 : goal.returns-then-from_d-le0
returns-then-from_d-le0 c =
    let p = c.args.p in let a = c.args.c in let b = c.args.d in
    let f : FitsSigned w128 c.dot-from_d.result = search rules in
    let g : FitsSigned w128 c.dot-then-from_d-le0.result = search rules in
    record {
      end_is = c.whole_square-then-from_d-le0.ensures.end;
      least =
          square_swapped p a b _ _
          (square_of_end p b a _ _
          (at_most_by c.dot-from_d.result (dot_of b p a) c.dot-from_d.ensures.value
          (simp to_z-of_z at c.if-from_d-le0.true))
          (whole_num c.whole_square-then-from_d-le0.result.num c.dot-then-from_d-le0.result (dot_of b p p)
          (simp to_z-of_z at c.whole_square-then-from_d-le0.ensures.num)
          c.dot-then-from_d-le0.ensures.value (own_magnitude (dot_of b p p) (dot_nonneg b p)))
          c.whole_square-then-from_d-le0.ensures.den);
    }

pub returns-else-from_d-le0 : goal.returns-else-from_d-le0
returns-else-from_d-le0 c =
    let p = c.args.p in let a = c.args.c in let b = c.args.d in
    let f : FitsSigned w128 c.dot-from_c.result = search rules in
    let g : FitsSigned w128 c.dot-from_d.result = search rules in
    let t : FitsSigned w128 c.turn.result = search rules in
    let m = c.dot-from_c.ensures.size in let n = c.dot-from_d.ensures.size in
    let s : FitsSigned w128 (c.dot-from_c.result +ℤ c.dot-from_d.result) = omega (arith, ints) in
    let from = above_by c.dot-from_c.result (dot_of a p b) c.dot-from_c.ensures.value
    (simp to_z-of_z at c.if-from_c-le0.false) in
    let to = above_by c.dot-from_d.result (dot_of b p a) c.dot-from_d.ensures.value
    (simp to_z-of_z at c.if-from_d-le0.false) in
    let sum = dot_of a p b +ℤ dot_of b p a in
    record {
      end_is = c.height_square.ensures.end;
      least =
          square_of_foot p a b c.turn.result _ _ from to (c.turn.ensures.value ∙ whole_turn_is a b p)
          (ap (λ (n : ℕ). pos n) (simp to_z-of_z at c.height_square.ensures.num) ∙ magnitude_squared c.turn.result)
          (whole_num c.height_square.result.den (c.dot-from_c.result +ℤ c.dot-from_d.result) sum
          (simp to_z-of_z at c.height_square.ensures.den)
          (rw (c.dot-from_c.ensures.value, c.dot-from_d.ensures.value) refl)
          (own_magnitude sum (≤_of_< (pos 0) sum (sum_some (dot_of a p b) (dot_of b p a) from to))));
    }
