-- Answers to the goals of `Tin::tri` in src/tins.rt.
use Rattle.std.proofs.Common.{rules, lit<, ◌≡◌, List, [], ◌∷◌, ap, arith}
use Rattle.std.proofs.lemmas.Grind.{common_steps}
use Rattle.plane_base.specs.Plane.{Point, whole}
use Rattle.tin_base.specs.Triangulation.{places, numbers_of}
use Rattle.tin_base.specs.Soundness.{turn_of_three}
use Rattle.tin_base.specs.TinFields.{view_of}
use Rattle.tin_base.proofs.TriangleLemmas.TriangleCorners.{near_reads}
use Rattle.tin_base.proofs.tins.Tin.tri.Goals as goal

pub returns-clause-near : goal.returns-clause-near
returns-clause-near c =
    let tin = view_of c.self.inside in
    let numbers = c.index-numbers.result.now in
    let within = c.index-numbers.ensures in
    let near = near_reads tin c.args.frame c.args.triangle in (
      near 0 1 numbers c.index.result.now c.index-2.result.now c.at.result c.at-2.result c.self.invariant (search rules)
          (lit< tt) (lit< tt) within c.index.ensures c.index-2.ensures c.at.ensures c.at-2.ensures,
      near 0 2 numbers c.index.result.now c.index-3.result.now c.at.result c.at-3.result c.self.invariant (search rules)
          (lit< tt) (lit< tt) within c.index.ensures c.index-3.ensures c.at.ensures c.at-3.ensures,
      near 1 2 numbers c.index-2.result.now c.index-3.result.now c.at-2.result c.at-3.result c.self.invariant
          (search rules) (lit< tt) (lit< tt) within c.index-2.ensures c.index-3.ensures c.at-2.ensures c.at-3.ensures,
    )

pub returns-clause-turn : goal.returns-clause-turn
returns-clause-turn c =
    let there : (whole c.at.result ∷ whole c.at-2.result ∷ whole c.at-3.result ∷ [])
    ≡ places c.args.self.now c.args.frame (numbers_of c.args.self.now c.args.triangle) =
    grind (arith, common_steps) in
    ap (λ (points : List Point). turn_of_three points) there
