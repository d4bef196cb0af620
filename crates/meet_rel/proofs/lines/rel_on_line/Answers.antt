-- Answers to the goals of `rel_on_line` in src/lines.rt.
use Rattle.std.proofs.Common.{rules, SFits, sym, ◌∙◌}
use Rattle.std.proofs.lemmas.Bool.{false≢true}
use Rattle.std.proofs.lemmas.Int.{to_z-of_z}
use mir.Syntax.{w64}
use Rattle.meet_rel.proofs.Axes.{by_first, by_second}
use Rattle.meet_rel.proofs.lines.rel_on_line.Goals as goal

pub returns-then-are_all_equal : goal.returns-then-are_all_equal
returns-then-are_all_equal c =
    let a = c.args.a in let b = c.args.b in let d = c.args.c in let e = c.args.d in
    let fa : SFits w64 a.x = search rules in let fb : SFits w64 b.x = search rules in
    let fd : SFits w64 d.x = search rules in let fe : SFits w64 e.x = search rules in
    let ga : SFits w64 a.y = search rules in let gb : SFits w64 b.y = search rules in
    let gd : SFits w64 d.y = search rules in let ge : SFits w64 e.y = search rules in
    let h = (simp to_z-of_z at c.are_all_equal.ensures).0 c.if-are_all_equal.true in
    let k = simp to_z-of_z at c.rel_on_axis.ensures in
    by_second a b d e h.0 h.1 h.2 c.rel_on_axis.result k

pub returns-else-are_all_equal : goal.returns-else-are_all_equal
returns-else-are_all_equal c =
    let a = c.args.a in let b = c.args.b in let d = c.args.c in let e = c.args.d in
    let fa : SFits w64 a.x = search rules in let fb : SFits w64 b.x = search rules in
    let fd : SFits w64 d.x = search rules in let fe : SFits w64 e.x = search rules in
    let h = simp to_z-of_z at c.are_all_equal.ensures in
    let k = simp to_z-of_z at c.rel_on_axis-else-are_all_equal.ensures in
    by_first a b d e c.requires (λ i j l. false≢true (sym c.if-are_all_equal.false ∙ h.1 (i, j, l)))
    c.rel_on_axis-else-are_all_equal.result k
