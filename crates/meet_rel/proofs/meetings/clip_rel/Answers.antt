-- Answers to the goals of `clip_rel` in src/meetings.rt.
use Rattle.std.proofs.Common.{◌≡◌, pos, rules, SFits, sym, ◌∙◌, ap, to_z, of_z}
use Rattle.std.proofs.lemmas.Int.{to_z-of_z}
use mir.Syntax.{w128}
use Rattle.plane_base.specs.Plane.{turn_of, whole}
use Rattle.meet_rel.proofs.Crossings.{apart_by_first, apart_by_second}
use Rattle.meet_rel.proofs.TurnTests.{other_equal, side_moved}
use Rattle.meet_rel.proofs.ByCuts.{one_side, apart_told}
use Rattle.meet_rel.proofs.WholeClips.{whole_told}
use Rattle.meet_rel.proofs.meetings.clip_rel.Goals as goal

pub returns-then-are_whole : goal.returns-then-are_whole
returns-then-are_whole c =
    whole_told c.args.p.now c.args.q.now c.args.relation (c.are_whole.ensures.p c.if-are_whole.true)
    (c.are_whole.ensures.q c.if-are_whole.true) c.requires.relation

pub returns-then-of_start-ne0 : goal.returns-then-of_start-ne0
returns-then-of_start-ne0 c =
    let p = c.args.p.now in let q = c.args.q.now in let s = c.turn-of_start.result in let t = c.turn-of_end.result in
    let fs : SFits w128 s = search rules in let ft : SFits w128 t = search rules in
    let e : s ≡ t = sym (to_z-of_z w128 s fs) ∙ ap (to_z w128) c.if-of_start-of_end.false ∙ to_z-of_z w128 t ft in
    apart_told p q (apart_by_second p.a p.b q.a q.b
    (side_moved s t _ _ c.turn-of_start.ensures.value c.turn-of_end.ensures.value
    (one_side s t e (λ (z : s ≡ pos 0). c.if-of_start-ne0.true (ap (of_z w128) z)))))

pub returns-then-turn-ne0 : goal.returns-then-turn-ne0
returns-then-turn-ne0 c =
    let p = c.args.p.now in let q = c.args.q.now in let s = c.turn-of_start.result in let t =
    c.turn-of_end.result in let u = c.turn.result in
    let fs : SFits w128 s = search rules in let ft : SFits w128 t = search rules in
    let e : s ≡ t = sym (to_z-of_z w128 s fs) ∙ ap (to_z w128) c.if-of_start-of_end.false ∙ to_z-of_z w128 t ft in
    let same : turn_of (whole q.a) (whole q.b) (whole p.a) ≡ turn_of (whole q.a) (whole q.b) (whole p.b) =
    other_equal p.a p.b q.a q.b (sym c.turn-of_start.ensures.value ∙ e ∙ c.turn-of_end.ensures.value) in
    apart_told p q (apart_by_first p.a p.b q.a q.b
    (one_side (turn_of (whole q.a) (whole q.b) (whole p.a)) (turn_of (whole q.a) (whole q.b) (whole p.b)) same
    (λ (z : turn_of (whole q.a) (whole q.b) (whole p.a) ≡ pos 0). c.if-turn-ne0.true
    (ap (of_z w128) (c.turn.ensures.value ∙ z)))))

pub rel_of_cuts-requires-clause-line : goal.rel_of_cuts-requires-clause-line
rel_of_cuts-requires-clause-line c =
    let p = c.args.p.now in let q = c.args.q.now in let s = c.turn-of_start.result in let t =
    c.turn-of_end.result in let u = c.turn.result in
    let fs : SFits w128 s = search rules in let ft : SFits w128 t = search rules in let fu : SFits w128 u =
    search rules in
    let e : s ≡ t = sym (to_z-of_z w128 s fs) ∙ ap (to_z w128) c.if-of_start-of_end.false ∙ to_z-of_z w128 t ft in
    let zs : s ≡ pos 0 = sym (to_z-of_z w128 s fs) ∙ ap (to_z w128) c.if-of_start-ne0.false in
    let zu : u ≡ pos 0 = sym (to_z-of_z w128 u fu) ∙ ap (to_z w128) c.if-turn-ne0.false in
    let of_c : turn_of (whole p.a) (whole p.b) (whole q.a) ≡ pos 0 = sym c.turn-of_start.ensures.value ∙ zs in
    let of_d : turn_of (whole p.a) (whole p.b) (whole q.b) ≡ pos 0 = sym c.turn-of_end.ensures.value ∙ sym e ∙ zs in
    let of_a : turn_of (whole q.a) (whole q.b) (whole p.a) ≡ pos 0 = sym c.turn.ensures.value ∙ zu in
    record { of_c = of_c; of_d = of_d; of_a = of_a; of_b = sym (other_equal p.a p.b q.a q.b (of_c ∙ sym of_d)) ∙ of_a }
