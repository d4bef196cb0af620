-- Answers to the goals of `share_of` in src/shares.rt.
use Rattle.std.proofs.Common.{◌≡◌, ◌⊎◌, ℤ, pos, ◌+ℤ◌, ◌*ℤ◌, ◌≤ℤ◌, rules, SFits, sym, subst}
use Rattle.std.proofs.lemmas.Int.{to_z-of_z}
use Rattle.std.specs.Int.{int_div_euclid}
use Rattle.integer_ring.proofs.Floor.{floor-≤}
use mir.Syntax.{w64}
use Rattle.topo_check.specs.declared.parts.TheConstants.{PARTS}
use Rattle.topo_check.proofs.WholeParts.{parts_some, parts_most, parts_up}
use Rattle.topo_check.proofs.shares.share_of.Goals as goal

pub next_part-requires : goal.next_part-requires
next_part-requires c =
    let n = c.args.share.num in let d = c.args.share.den in let q = c.parts_in-down.result in
    let hq : SFits w64 q = search rules in
    let is : q ≡ int_div_euclid (n *ℤ PARTS) d = c.parts_in-down.ensures in
    simp to_z-of_z (subst (λ (y : ℤ). y ≤ℤ PARTS) (sym is) (parts_most n d c.requires))

pub invariant_of-result : goal.invariant_of-result
invariant_of-result c =
    let n = c.args.share.num in let d = c.args.share.den in let q = c.parts_in-down.result in let up =
    c.next_part.result in
    let hq : SFits w64 q = search rules in let hu : SFits w64 up = search rules in
    let is : q ≡ int_div_euclid (n *ℤ PARTS) d = c.parts_in-down.ensures in
    record {
      some = simp to_z-of_z (subst (λ (y : ℤ). pos 0 ≤ℤ y) (sym is) (parts_some n d c.requires));
      order = simp to_z-of_z (simp to_z-of_z at c.next_part.ensures.from);
      most = simp to_z-of_z c.next_part.ensures.most;
    }

pub returns : goal.returns
returns c =
    let n = c.args.share.num in let d = c.args.share.den in let q = c.parts_in-down.result in let up =
    c.next_part.result in
    let hq : SFits w64 q = search rules in let hu : SFits w64 up = search rules in
    let is : q ≡ int_div_euclid (n *ℤ PARTS) d = c.parts_in-down.ensures in
    let next : (up ≡ q +ℤ pos 1) ⊎ (up ≡ PARTS) = simp to_z-of_z at c.next_part.ensures.next in
    record {
      down = simp to_z-of_z (subst (λ (y : ℤ). (y *ℤ d) ≤ℤ (n *ℤ PARTS)) (sym is)
          (floor-≤ (n *ℤ PARTS) d c.args.share.positive));
      up = simp to_z-of_z (parts_up n d up c.requires (subst (λ (y : ℤ). (up ≡ y +ℤ pos 1) ⊎ (up ≡ PARTS)) is next));
    }
