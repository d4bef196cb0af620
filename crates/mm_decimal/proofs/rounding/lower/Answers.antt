-- Answers to the goals of `lower` in src/rounding.rt.
use Rattle.std.proofs.Common.{◌≡◌, false}
use Rattle.mm_decimal.proofs.CutRounds.{both_ways, rounded_up, rounded_down, exact_up, exact_down, rounded_none}
use Rattle.mm_decimal.proofs.CutRounds.{exact_none}
use Rattle.mm_decimal.proofs.rounding.lower.Goals as goal
use Rattle.mm_decimal.proofs.rounding.lower.Goals.{then-upper, else-upper}

pub returns-then-places-gt18-clause-size : goal.returns-then-places-gt18-clause-size
returns-then-places-gt18-clause-size c number h =
    let kept = c.args.kept in
    rounded_none c.args.negative kept.top kept.dropped kept.lost number c.args.places c.if-places-gt18.true h

pub returns-then-places-gt18-clause-exact : goal.returns-then-places-gt18-clause-exact
returns-then-places-gt18-clause-exact c number h =
    let kept = c.args.kept in
    both_ways c.is_exact.ensures (exact_none c.args.negative kept.top kept.dropped kept.lost number c.args.places
    c.if-places-gt18.true h)

pub returns-clause-size : goal.returns-clause-size
returns-clause-size c number h =
    let kept = c.args.kept in
    elim c.if-upper.branch [
      | then-upper w ↦ rw w.result-is (rounded_up c.args.negative c.is_upper-upper.result kept.top kept.dropped
          kept.lost number c.args.places c.requires.places h
          c.power_of_ten-unit.result c.power_of_ten-unit.ensures.value c.is_upper-upper.ensures w.if-upper.true)
      | else-upper w ↦ rw w.result-is (rounded_down c.args.negative c.is_upper-upper.result kept.top kept.dropped
          kept.lost number c.args.places c.requires.places h
          c.power_of_ten-unit.result c.power_of_ten-unit.ensures.value c.is_upper-upper.ensures
          (λ t. let not_upper : c.is_upper-upper.result ≡ false = w.if-upper.false in cc))
    ]

pub returns-clause-exact : goal.returns-clause-exact
returns-clause-exact c number h =
    let kept = c.args.kept in
    elim c.if-upper.branch [
      | then-upper w ↦ rw w.result-is (both_ways c.is_exact-2.ensures
          (exact_up c.args.negative c.is_upper-upper.result kept.top kept.dropped kept.lost number c.args.places
          c.requires.places h
          c.power_of_ten-unit.result c.power_of_ten-unit.ensures.value c.is_upper-upper.ensures w.if-upper.true))
      | else-upper w ↦ rw w.result-is (both_ways c.is_exact-2.ensures
          (exact_down c.args.negative c.is_upper-upper.result kept.top kept.dropped kept.lost number c.args.places
          c.requires.places h
          c.power_of_ten-unit.result c.power_of_ten-unit.ensures.value c.is_upper-upper.ensures
          (λ t. let not_upper : c.is_upper-upper.result ≡ false = w.if-upper.false in cc)))
    ]
