-- Answers to the goals of `handle_number` in src/handle_counts.rt.
use Rattle.std.proofs.Common.{arith, refl, ◌+◌, ◌*◌}
use Rattle.std.proofs.lemmas.List.Sums.{fold_more}
use Rattle.dxf_copies.specs.Rendering.{digit_of}
use Rattle.dxf_copies.proofs.Numbers.{handle_short, digit_at, below_all, one_digit}
use Rattle.dxf_copies.proofs.handle_counts.handle_number.Goals as goal

pub overflow_mul-number : goal.overflow_mul-number
overflow_mul-number c =
    let short = handle_short c.args.text.now c.requires in
    omega (arith, below_all c.loop-byte.number c.loop-byte.byte-index c.loop-byte.invariant.small (omega arith))

pub overflow_add-number : goal.overflow_add-number
overflow_add-number c =
    let short = handle_short c.args.text.now c.requires in omega (
      arith,
      c.digit_of.ensures,
      digit_at c.args.text.now c.loop-byte.byte-index c.requires c.loop-byte-test.true,
      below_all c.loop-byte.number c.loop-byte.byte-index c.loop-byte.invariant.small (omega arith),
    )

pub returns-clause-small : goal.returns-clause-small
returns-clause-small c =
    let short = handle_short c.args.text.now c.requires in
    below_all c.loop-byte.number c.loop-byte.byte-index c.loop-byte.invariant.small (omega arith)

pub loop-byte-preserved : goal.loop-byte-preserved
loop-byte-preserved c =
    let small = digit_at c.args.text.now c.loop-byte.byte-index c.requires c.loop-byte-test.true in
    let step = fold_more (λ number byte. 16 * number + digit_of byte) 0 c.args.text.now c.loop-byte.byte-index 0
    c.loop-byte-test.true in
    record {
      so_far = rw (step, ← c.loop-byte.invariant.so_far, ← c.digit_of.ensures) refl;
      small = one_digit c.loop-byte.number c.digit_of.result c.loop-byte.byte-index c.loop-byte.invariant.small
          (rw c.digit_of.ensures small);
    }
