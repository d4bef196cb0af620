-- The invariant and the measure of the loop of `front_of` in src/plain_codes.rt.
use Rattle.std.proofs.Common.{◌≡◌, ◌-◌, ◌≤◌, length, take}
use Rattle.std.specs.Str.Parse.{AllDigits, digits_value}
use Rattle.dxf_pairs.proofs.plain_codes.front_of.Given as goal

abbrev pub invariant-loop-count : goal.invariant-loop-count
invariant-loop-count l = record {
  few : l.count ≤ 4;
  within : l.count ≤ length l.text;
  digits : AllDigits 10 (take l.count l.text);
  number : l.number ≡ digits_value 10 (take l.count l.text);
}

abbrev pub decreases-loop-count : goal.decreases-loop-count
decreases-loop-count l = 4 - l.count
