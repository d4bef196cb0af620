-- Answers to the goals of `piece_rel` in src/pieces.rt.
use Rattle.std.proofs.Common.{◌≡◌, rules, subst}
use Rattle.plane_base.specs.Plane.{whole}
use Rattle.tin_base.specs.declared.relations.Rel.{Rel}
use Rattle.tin_base.specs.declared.relations.Rel.TheVariants.{Apart}
use Rattle.tin_base.specs.Pieces.{first_point, last_point}
use Rattle.tin_base.specs.Relations.{HaveRelation}
use Rattle.meet_rel.proofs.ClipEnds.{piece_ends, apart_pieces}
use Rattle.meet_rel.proofs.PieceClips.{ends_near, close_of}
use Rattle.meet_rel.proofs.pieces.piece_rel.Goals as goal

pub returns-then-are_of_one : goal.returns-then-are_of_one
returns-then-are_of_one c = λ s t hs ht.
    let i = c.clip_of.ensures in let j = c.clip_of-then-are_of_one.ensures in let p = c.args.p.now in let q =
    c.args.q.now in
    c.rel_on_one.ensures (first_point p s) (last_point p s) (first_point q t) (last_point q t)
    (piece_ends c.args.tin.now p c.clip_of.result s (record { a_is = i.a; b_is = i.b; tri_is = i.tri }) hs)
    (piece_ends c.args.tin.now q c.clip_of-then-are_of_one.result t
    (record { a_is = j.a; b_is = j.b; tri_is = j.tri }) ht)

pub rel-relation-requires : goal.rel-relation-requires
rel-relation-requires c = ends_near c.args.tin.now c.args.p.now c.args.q.now c.show_soundness.ensures.limits c.requires.p
    c.requires.q

pub returns-then-eq : goal.returns-then-eq
returns-then-eq c =
    let p = c.args.p.now in let q = c.args.q.now in
    let apart : c.rel-relation.result ≡ Apart = search rules in
    apart_pieces c.args.tin.now p q
    (subst (λ (r : Rel). HaveRelation r (whole p.a) (whole p.b) (whole q.a) (whole q.b)) apart c.rel-relation.ensures)

pub clip_rel-requires-clause-close : goal.clip_rel-requires-clause-close
clip_rel-requires-clause-close c =
    let i = c.clip_of-2.ensures in let j = c.clip_of-3.ensures in
    close_of c.args.tin.now c.args.p.now c.args.q.now c.clip_of-2.result c.clip_of-3.result i.limits c.requires.p
    c.requires.q
    (record { a_is = i.a; b_is = i.b; tri_is = i.tri }) (record { a_is = j.a; b_is = j.b; tri_is = j.tri })

pub returns : goal.returns
returns c = λ s t hs ht.
    let i = c.clip_of-2.ensures in let j = c.clip_of-3.ensures in let p = c.args.p.now in let q = c.args.q.now in
    c.clip_rel.ensures (first_point p s) (last_point p s) (first_point q t) (last_point q t)
    (piece_ends c.args.tin.now p c.clip_of-2.result s (record { a_is = i.a; b_is = i.b; tri_is = i.tri }) hs)
    (piece_ends c.args.tin.now q c.clip_of-3.result t (record { a_is = j.a; b_is = j.b; tri_is = j.tri }) ht)
