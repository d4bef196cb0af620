-- The invariants of `seed_of` in src/section_places.rt.
use Rattle.std.proofs.Common.{◌≡◌, drop}
use Rattle.dxf_entities.specs.SectionPlaces.{seed_from}
use Rattle.dxf_entities.specs.Seeds.{seed_of}
use Rattle.dxf_entities.proofs.section_places.seed_of.Given as goal

abbrev pub invariant-loop-number : goal.invariant-loop-number
invariant-loop-number l = seed_from l.bytes l.place (drop l.number l.pairs) ≡ seed_of l.bytes l.pairs
