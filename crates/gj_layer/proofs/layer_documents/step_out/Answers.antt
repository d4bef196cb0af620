-- Answers to the goals of `step_out` in src/layer_documents.rt.
use Rattle.std.proofs.Common.{length, sym, ap, subst, arith}
use Rattle.gj_layer.specs.Paths.{Part, joint_part}
use Rattle.gj_layer.specs.InsideNodes.{Holds}
use Rattle.gj_layer.specs.InsideFrames.{IsBare, part_with_own}
use Rattle.gj_layer.proofs.OpenObjects.OpenWalks.{end_there, ending_some, ending_none, edits_within}
use Rattle.gj_layer.proofs.layer_documents.step_out.Goals as goal

pub end_object-requires-clause-edits : goal.end_object-requires-clause-edits
end_object-requires-clause-edits c = grind (arith, end_there, ending_some, edits_within, c.in-Some.is)

pub returns-in_ok-end_object-in-Some-clause-goes : goal.returns-in_ok-end_object-in-Some-clause-goes
returns-in_ok-end_object-in-Some-clause-goes c nodes bytes frames exact wanted going =
    let ends = end_there exact nodes bytes c.args.frame wanted c.requires.ended frames c.args.pass.now going in
    let (own, own_is, is) = ending_some c.args.frame.ending c.in-Some.ending ends.own (length ends.before.paths)
    ends.before c.in-Some.is ends.ending_is in
    ends.onward c.end_object.new.pass
    (subst (λ o. Holds c.end_object.new.pass (joint_part ends.before (part_with_own o (length ends.before.paths) ends.done)))
    (sym own_is)
    (c.in_ok-end_object-in-Some.ensures.holds own ends.before ends.done is
    (λ b. ap (λ (p : Part). p.edits) (ends.bare (subst IsBare (sym own_is) b))) ends.held))

pub returns-in-None-clause-goes : goal.returns-in-None-clause-goes
returns-in-None-clause-goes c nodes bytes frames exact wanted going =
    let ends = end_there exact nodes bytes c.args.frame wanted c.requires.ended frames c.args.pass.now going in
    let none = ending_none c.args.frame.ending ends.own (length ends.before.paths) ends.before c.in-None.is
    ends.ending_is in
    ends.onward c.args.pass.now
    (subst (λ o. Holds c.args.pass.now (joint_part ends.before (part_with_own o (length ends.before.paths) ends.done))) (sym none)
    ends.held)
