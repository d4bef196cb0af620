-- Answers to the goals of `part_of` in src/shares.rt.
use Rattle.std.proofs.Common.{◌*ℤ◌, rules, SFits}
use Rattle.std.proofs.lemmas.Int.{to_z-of_z}
use mir.Syntax.{w64}
use Rattle.topo_check.proofs.WholeParts.{part_fits}
use Rattle.topo_check.proofs.shares.part_of.Goals as goal

pub returns : goal.returns
returns c =
    let z = c.args.way in let n = c.args.count in
    let hz = c.ranges.way in let hn = c.ranges.count in
    let product : SFits w64 (n *ℤ z) = part_fits n z c.requires.some c.requires.most c.requires.short in
    let hq : SFits w64 c.div_euclid.result = search rules in
    simp to_z-of_z (simp to_z-of_z at c.div_euclid.ensures)
