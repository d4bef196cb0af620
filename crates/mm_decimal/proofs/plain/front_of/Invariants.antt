-- The invariant and the measure of the loop of `front_of` in src/plain.rt.
use Rattle.std.proofs.Common.{length, ◌-◌, ◌^◌, ◌<◌, ◌≤◌, take}
use Rattle.mm_decimal.specs.InsidePlainNumerals.{Write}
use Rattle.mm_decimal.proofs.plain.front_of.Given as goal

abbrev pub invariant-loop-count : goal.invariant-loop-count
invariant-loop-count l = (l.count ≤ length l.text) × Write (take l.count l.text) l.number × (l.number < 10 ^ l.count)

abbrev pub decreases-loop-count : goal.decreases-loop-count
decreases-loop-count l = length l.text - l.count
