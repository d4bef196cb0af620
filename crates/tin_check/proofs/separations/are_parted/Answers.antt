-- Answers to the goals of `are_parted` in src/separations.rt.
use Rattle.std.proofs.Common.{FitsSigned, rules, inl, inr, refl}
use Rattle.std.proofs.lemmas.Int.{to_z-of_z}
use mir.Syntax.{w128}
use Rattle.tin_check.proofs.TriangleTests.TurnTests.{near_three, parted_meet}
use Rattle.tin_check.proofs.separations.are_parted.Goals as goal

pub turn-requires : goal.turn-requires
turn-requires c =
    record {
      near = near_three c.args.t.now c.args.u.now c.args.t.now.a c.args.t.now.b c.args.u.now.b c.requires.near
          (inl refl) (inr (inl refl)) (inr (inr (inr (inr (inl refl)))));
    }

pub turn-requires-2 : goal.turn-requires-2
turn-requires-2 c =
    record {
      near = near_three c.args.t.now c.args.u.now c.args.t.now.a c.args.t.now.b c.args.u.now.c c.requires.near
          (inl refl) (inr (inl refl)) (inr (inr (inr (inr (inr (inl refl))))));
    }

pub turn-requires-3 : goal.turn-requires-3
turn-requires-3 c =
    record {
      near = near_three c.args.t.now c.args.u.now c.args.t.now.a c.args.t.now.c c.args.u.now.b c.requires.near
          (inl refl) (inr (inr (inl refl))) (inr (inr (inr (inr (inl refl)))));
    }

pub turn-requires-4 : goal.turn-requires-4
turn-requires-4 c =
    record {
      near = near_three c.args.t.now c.args.u.now c.args.t.now.a c.args.t.now.c c.args.u.now.c c.requires.near
          (inl refl) (inr (inr (inl refl))) (inr (inr (inr (inr (inr (inl refl))))));
    }

pub returns : goal.returns
returns c =
    let be : FitsSigned w128 c.turn.result = search rules in
    let bf : FitsSigned w128 c.turn-2.result = search rules in
    let ce : FitsSigned w128 c.turn-3.result = search rules in
    let cf : FitsSigned w128 c.turn-4.result = search rules in
    let told = simp to_z-of_z at c.do_part.ensures in
    λ yes.
    parted_meet c.args.t.now c.args.u.now c.turn.result c.turn-2.result c.turn-3.result c.turn-4.result c.requires.same
    c.requires.t_positive c.requires.u_positive
    c.turn.ensures.value c.turn-2.ensures.value c.turn-3.ensures.value c.turn-4.ensures.value (told yes)
