-- Answers to the goals of `edge_param` in src/edges.rt.
use Rattle.std.proofs.Common.{sym, ◌∙◌}
use Rattle.plane_base.proofs.CommonParts.Slices.{along_is}
use Rattle.plane_base.proofs.edges.edge_param.Goals as goal

pub returns-clause-meets : goal.returns-clause-meets
returns-clause-meets c =
    let z = c.zero_of.result in
    along_is c.args.a c.args.b c.args.p c.args.q c.course_of.result.start c.course_of.result.end z.num z.den
    c.course_of.ensures.start c.course_of.ensures.end ∙ c.zero_of.ensures.zero

pub returns-clause-once : goal.returns-clause-once
returns-clause-once c = λ n d e.
    c.zero_of.ensures.once n d (sym (along_is c.args.a c.args.b c.args.p c.args.q c.course_of.result.start
    c.course_of.result.end n d c.course_of.ensures.start c.course_of.ensures.end) ∙ e)
