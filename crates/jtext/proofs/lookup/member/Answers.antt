-- Answers to the goals of `member` in src/lookup.rt.
use Rattle.std.proofs.Common.{◌≡◌, ℕ, ◌+◌, ◌∙◌, sym, ap, arith}
use Rattle.std.specs.Prelude.{Err}
use Rattle.jtext.specs.Values.{Json}
use Rattle.jtext.specs.Nodes.{node_count, inner_place}
use Rattle.jtext.specs.Places.{entries_at}
use Rattle.jtext.specs.Characters.{units_of}
use Rattle.jtext.proofs.CallerLemmas.MemberLoops.{object_there, object_next, going_in, some_next, next_member, next_bounds}
use Rattle.jtext.proofs.CallerLemmas.MemberLoops.{next_number, key_place, second_found, going_first, going_other}
use Rattle.jtext.proofs.lookup.member.Goals.{then-same_text+in-None, else-same_text}
use Rattle.jtext.proofs.lookup.member.Goals as goal

pub overflow_add-at : goal.overflow_add-at
overflow_add-at c =
    let there = object_there c.args.doc.now c.args.bytes.now c.args.object c.requires.read c.requires.kind in
    let next = object_next c.args.doc.now.nodes c.args.bytes.now c.args.object there.1.0 there.1.1 there.1.2
    c.next_behind-end.result (λ node here. c.next_behind-end.ensures node (rw c.items-nodes.ensures here))
    there.1.3 in
    omega (arith, next, c.next_behind-end.type_inv)

pub loop-at-init : goal.loop-at-init
loop-at-init c = record {
  same_nodes = c.items-nodes.ensures;
  going = λ start blank members s. going_in c.args.doc.now.nodes c.args.bytes.now c.args.key.now c.args.object start
      blank members c.next_behind-end.result
      (λ node there. c.next_behind-end.ensures node (rw c.items-nodes.ensures there)) s;
}

pub same_text-requires-clause-node : goal.same_text-requires-clause-node
same_text-requires-clause-node c =
    let (entries, n) = some_next c.args.doc.now c.args.bytes.now c.args.key.now c.args.object c.next_behind-end.result
    c.loop-at.at c.loop-at.found c.requires.read c.requires.kind c.loop-at.invariant.going c.loop-at-test.true in
    omega (
      arith,
      next_bounds c.args.doc.now.nodes c.args.bytes.now c.args.key.now c.next_behind-end.result c.loop-at.at
          c.loop-at.found entries n,
    )

pub bounds-nodes-at : goal.bounds-nodes-at
bounds-nodes-at c =
    let (entries, n) = some_next c.args.doc.now c.args.bytes.now c.args.key.now c.args.object c.next_behind-end.result
    c.loop-at.at c.loop-at.found c.requires.read c.requires.kind c.loop-at.invariant.going c.loop-at-test.true in
    rw c.items-nodes.ensures (omega (
      arith,
      next_bounds c.args.doc.now.nodes c.args.bytes.now c.args.key.now
          c.next_behind-end.result c.loop-at.at c.loop-at.found entries n,
    ))

pub next_behind-at-requires : goal.next_behind-at-requires
next_behind-at-requires c =
    let (entries, n) = some_next c.args.doc.now c.args.bytes.now c.args.key.now c.args.object c.next_behind-end.result
    c.loop-at.at c.loop-at.found c.requires.read c.requires.kind c.loop-at.invariant.going c.loop-at-test.true in
    rw c.items-nodes.ensures (next_bounds c.args.doc.now.nodes c.args.bytes.now c.args.key.now c.next_behind-end.result
    c.loop-at.at c.loop-at.found entries n)

pub returns-in-Some : goal.returns-in-Some
returns-in-Some c start blank members s =
    let entries = entries_at (c.args.object + 1) (inner_place start blank) members in
    let n = next_member c.args.doc.now.nodes c.args.bytes.now c.args.key.now c.next_behind-end.result c.loop-at.at
    c.loop-at.found entries (c.loop-at.invariant.going start blank members s) c.loop-at-test.true in
    let same : units_of n.entry.key ≡ c.args.key.now =
    (c.same_text.ensures n.entry.key_start (Json.quoted n.entry.key) n.key_there).0 c.if-same_text.true in
    let place : c.from.result ≡ n.entry.key_start =
    rw c.items-nodes.ensures at c.from.ensures
    ∙ key_place c.args.doc.now.nodes c.args.bytes.now c.args.key.now c.next_behind-end.result c.loop-at.at
    c.loop-at.found entries n in
    ap (λ (p : ℕ). Err (record { at = p })) place
    ∙ sym (second_found c.args.doc.now.nodes c.args.bytes.now c.args.key.now c.next_behind-end.result c.loop-at.at
    c.loop-at.found entries n same c.in-Some.field-0 c.in-Some.is)

pub loop-at-smaller : goal.loop-at-smaller
loop-at-smaller c =
    let (entries, n) = some_next c.args.doc.now c.args.bytes.now c.args.key.now c.args.object c.next_behind-end.result
    c.loop-at.at c.loop-at.found c.requires.read c.requires.kind c.loop-at.invariant.going c.loop-at-test.true in
    let next : c.next_behind-at.result ≡ c.loop-at.at + 1 + node_count n.entry.value =
    next_number c.args.doc.now.nodes c.args.bytes.now c.args.key.now c.next_behind-end.result c.loop-at.at
    c.loop-at.found entries n c.next_behind-at.result
    (λ node there. c.next_behind-at.ensures node (rw c.items-nodes.ensures there)) in
    omega (arith, next)

pub loop-at-preserved : goal.loop-at-preserved
loop-at-preserved c = record {
  same_nodes = c.items-nodes.ensures;
  going = λ start blank members s.
      let entries = entries_at (c.args.object + 1) (inner_place start blank) members in
      let n = next_member c.args.doc.now.nodes c.args.bytes.now c.args.key.now c.next_behind-end.result c.loop-at.at
      c.loop-at.found entries (c.loop-at.invariant.going start blank members s) c.loop-at-test.true in
      let next : c.next_behind-at.result ≡ c.loop-at.at + 1 + node_count n.entry.value =
      next_number c.args.doc.now.nodes c.args.bytes.now c.args.key.now c.next_behind-end.result c.loop-at.at
      c.loop-at.found entries n c.next_behind-at.result
      (λ node there. c.next_behind-at.ensures node (rw c.items-nodes.ensures there)) in
      let said = c.same_text.ensures n.entry.key_start (Json.quoted n.entry.key) n.key_there in
      elim c.if-same_text.branch [
        | then-same_text+in-None w ↦ rw w.found-is
            (going_first c.args.doc.now.nodes c.args.bytes.now c.args.key.now c.next_behind-end.result c.loop-at.at
            c.loop-at.found entries n (said.0 w.if-same_text.true) w.in-None.is c.next_behind-at.result next)
        | else-same_text w ↦ rw w.found-is (going_other c.args.doc.now.nodes c.args.bytes.now c.args.key.now
            c.next_behind-end.result c.loop-at.at c.loop-at.found entries n
            (λ same. let is = said.1 same in let no_answer = w.if-same_text.false in cc) c.next_behind-at.result next)
      ];
}
