-- Answers to the goals of `earlier_end` in src/lines.rt.
use Rattle.std.proofs.Common.{rules, SFits, ◌∙◌, ap₂}
use Rattle.std.proofs.lemmas.Int.{to_z-of_z}
use Rattle.std.specs.Int.{int_min}
use mir.Syntax.{w64}
use Rattle.meet_rel.proofs.lines.earlier_end.Goals as goal

pub returns : goal.returns
returns c =
    let a = c.ranges.a in let b = c.ranges.b in let d = c.ranges.c in let e = c.ranges.d in
    let f : SFits w64 c.max.result = search rules in let g : SFits w64 c.max-2.result = search rules in
    let h : SFits w64 c.min.result = search rules in
    simp to_z-of_z ((simp to_z-of_z at c.min.ensures.value)
    ∙ ap₂ int_min (simp to_z-of_z at c.max.ensures.value) (simp to_z-of_z at c.max-2.ensures.value))
