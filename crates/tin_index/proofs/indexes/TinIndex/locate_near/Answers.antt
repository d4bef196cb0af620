-- Answers to the goals of `TinIndex::locate_near` in src/indexes.rt.
use Rattle.std.proofs.Common.{refl, subst, arith}
use Rattle.tin_base.specs.Triangulation.{Triangulation}
use Rattle.tin_index.specs.InsideLocations.{IsOnlyIn}
use Rattle.tin_index.proofs.indexes.TinIndex.locate_near.Goals as goal

pub returns-then-is_inside-clause-least : goal.returns-then-is_inside-clause-least
returns-then-is_inside-clause-least c =
    λ other below has.
    let alone : IsOnlyIn c.args.self.now c.args.guess c.args.p =
    subst (λ (tin : Triangulation). IsOnlyIn tin c.args.guess c.args.p) c.self.view_is
    (c.if-is_inside.ensures refl) in
    let within = alone.in_range in
    let same = alone.only other (omega arith) has in
    absurd (omega (arith, same))
