-- Answers to the goals of `sides_in_order` in src/side_orders.rt.
use Rattle.std.proofs.Common.{◌≡◌, ◌<◌, ◌++◌, ℕ, List, length, map, sym, ap, ◌∙◌, subst, arith}
use Rattle.std.specs.Prelude.{All}
use Rattle.number_groups.specs.declared.groups.Entry.{Entry}
use Rattle.number_groups.specs.Groups.{numbers_under}
use Rattle.tin_check.specs.InsideBorders.{side_at}
use Rattle.tin_check.specs.declared.side_orders.TheConstants.{KEYS}
use Rattle.tin_check.proofs.BorderLemmas.SideOrders.{numbered_small, more_taken, all_taken}
use Rattle.tin_check.proofs.side_orders.sides_in_order.Goals as goal

pub put_sides-requires : goal.put_sides-requires
put_sides-requires c =
    let same : c.at.result.now ≡ numbers_under c.loop-key.key c.in_ok-entries.entries.items =
    c.at.ensures ∙ c.in_ok-groups.ensures.each c.loop-key.key c.loop-key-test.true
    ∙ ap (λ (es : List Entry). numbers_under c.loop-key.key es) c.deref.ensures.value in
    subst (λ (ns : List ℕ). All (λ n. n < length c.args.sides.now) ns) (sym same)
    (numbered_small KEYS (length c.args.sides.now) c.loop-key.key c.in_ok-entries.entries.items
    c.in_ok-entries.ensures)

pub loop-key-preserved : goal.loop-key-preserved
loop-key-preserved c =
    let same : c.at.result.now ≡ numbers_under c.loop-key.key c.in_ok-entries.entries.items =
    c.at.ensures ∙ c.in_ok-groups.ensures.each c.loop-key.key c.loop-key-test.true
    ∙ ap (λ (es : List Entry). numbers_under c.loop-key.key es) c.deref.ensures.value in
    more_taken c.args.tin.now c.args.sides.now KEYS c.loop-key.key c.in_ok-entries.entries.items
    c.loop-key.ordered.items c.put_sides.new.ordered.items c.requires.sides c.in_ok-entries.ensures
    c.loop-key.invariant
    (c.in_ok-put_sides.ensures
    ∙ ap (λ (ns : List ℕ). c.loop-key.ordered.items ++ map (side_at c.args.sides.now) ns) same)

pub returns-clause-more : goal.returns-clause-more
returns-clause-more c =
    all_taken c.args.tin.now c.args.sides.now KEYS c.loop-key.key c.in_ok-entries.entries.items
    c.loop-key.ordered.items (omega (arith, c.loop-key-test.false)) c.in_ok-entries.ensures c.loop-key.invariant

pub returns-clause-sides : goal.returns-clause-sides
returns-clause-sides c = c.loop-key.invariant.are
