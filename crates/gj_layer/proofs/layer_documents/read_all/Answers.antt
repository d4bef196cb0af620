-- Answers to the goals of `read_all` in src/layer_documents.rt.
use Rattle.std.proofs.Common.{◌∷◌, subst, List, arith}
use Rattle.gj_layer.specs.declared.frames.OpenFrame.{OpenFrame}
use Rattle.gj_layer.specs.InsideNodes.{HasRoom}
use Rattle.gj_layer.specs.InsideFrames.{Going, left_in}
use Rattle.gj_layer.proofs.OpenObjects.OpenWalks.{room_less}
use Rattle.gj_layer.proofs.layer_documents.read_all.Goals as goal

pub step_in-requires-clause-going : goal.step_in-requires-clause-going
step_in-requires-clause-going c = grind (arith, c.in-Some.ensures, c.loop-frame.invariant.going)

pub step_out-requires-clause-going : goal.step_out-requires-clause-going
step_out-requires-clause-going c = grind (arith, c.in-Some.ensures, c.loop-frame.invariant.going)

pub loop-frame-preserved : goal.loop-frame-preserved
loop-frame-preserved c = record {
  room = c.in_ok-step_out.ensures.room (left_in c.pop.new.self)
      (room_less c.loop-frame.pass (left_in (c.in-Some.frame ∷ c.pop.new.self)) (left_in c.pop.new.self)
      (subst (λ (fs : List OpenFrame). HasRoom c.loop-frame.pass (left_in fs)) c.in-Some.ensures
      c.loop-frame.invariant.room) (omega arith));
  going = λ wanted begun.
      c.in_ok-step_out.ensures.goes c.args.doc.now.nodes c.args.bytes.now c.pop.new.self c.args.exact wanted
      (subst (λ (fs : List OpenFrame). Going c.args.exact c.args.doc.now.nodes c.args.bytes.now fs c.loop-frame.pass wanted)
      c.in-Some.ensures (c.loop-frame.invariant.going wanted begun));
}
