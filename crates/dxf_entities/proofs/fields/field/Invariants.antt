-- The invariant and the measure of the loop of `field` in src/fields.rt.
use Rattle.std.proofs.Common.{◌≡◌, ◌≤◌, ◌-◌, ◌++◌, length, drop}
use Rattle.dxf_entities.proofs.Lists.{list_of, coded_fields}
use Rattle.dxf_entities.proofs.fields.field.Given as goal

abbrev pub invariant-loop-at : goal.invariant-loop-at
invariant-loop-at l = record {
  within : l.at ≤ length l.pairs;
  fields : list_of l.found ++ coded_fields l.code (drop l.at l.pairs) ≡ coded_fields l.code l.pairs;
}

abbrev pub decreases-loop-at : goal.decreases-loop-at
decreases-loop-at l = length l.pairs - l.at
