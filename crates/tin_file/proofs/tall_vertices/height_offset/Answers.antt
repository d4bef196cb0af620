-- Answers to the goals of `height_offset` in src/tall_vertices.rt.
use Rattle.std.proofs.Common.{rules, ℤ, ◌-ℤ◌, SFits, refl, arith}
use Rattle.std.proofs.lemmas.Int.{ints, to_z-of_z}
use mir.Syntax.{w64}
use Rattle.tin_base.specs.Limits.{IsInReach}
use Rattle.tin_file.proofs.tall_vertices.height_offset.Goals as goal

short : (a b : ℤ) → IsInReach a → IsInReach b → SFits w64 (a -ℤ b)
short a b h i = omega (arith, ints, h.0, h.1, i.0, i.1)

pub overflow_sub-result : goal.overflow_sub-result
overflow_sub-result c =
    let source = c.in-Ok-Ok.source in let target = c.in-Ok-Ok.target in
    let f : SFits w64 source.mm = search rules in let g : SFits w64 target.mm = search rules in
    simp to_z-of_z (short target.mm source.mm (c.requires.target target c.in-Ok-Ok.is-1)
    (c.requires.source source c.in-Ok-Ok.is-0))

pub returns-in-Ok-Ok-clause-offset : goal.returns-in-Ok-Ok-clause-offset
returns-in-Ok-Ok-clause-offset c =
    let source = c.in-Ok-Ok.source in let target = c.in-Ok-Ok.target in
    let f : SFits w64 source.mm = search rules in let g : SFits w64 target.mm = search rules in
    let s = short target.mm source.mm (c.requires.target target c.in-Ok-Ok.is-1)
    (c.requires.source source c.in-Ok-Ok.is-0) in
    simp to_z-of_z (rw (c.in-Ok-Ok.is-0, c.in-Ok-Ok.is-1, c.loss.ensures.value, c.loss-in-Ok-Ok.ensures.value) refl)
