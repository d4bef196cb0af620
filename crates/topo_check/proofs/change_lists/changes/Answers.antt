-- Answers to the goals of `changes` in src/change_lists.rt.
use Rattle.std.proofs.Common.{◌≡◌, ◌<◌, ◌≤◌, map, List, length, subst, arith}
use Rattle.topo_check.specs.declared.comparisons.ChangedPair.{ChangedPair}
use Rattle.topo_check.specs.InsidePairs.{change_of}
use Rattle.topo_check.proofs.PairOrder.{collected_moved, too_many, in_range, all_listed}
use Rattle.topo_check.proofs.change_lists.changes.Goals as goal

pub returns-then-len-most-clause-too_many : goal.returns-then-len-most-clause-too_many
returns-then-len-most-clause-too_many c = λ _.
    let moved = collected_moved c.args.tin.now c.args.pieces.now c.args.most c.in_ok-pairs.pairs.items
    c.sort.new.pairs.items c.sort.ensures.same c.in_ok-pairs.ensures in
    let more : c.args.most < length c.sort.new.pairs.items =
    omega (arith, c.if-len-most.true, c.len.ensures, c.sort.new.pairs.ok.0) in
    too_many c.args.tin.now c.args.pieces.now c.args.most c.sort.new.pairs.items moved c.sort.ensures.ascending more

pub list-requires : goal.list-requires
list-requires c =
    let moved = collected_moved c.args.tin.now c.args.pieces.now c.args.most c.in_ok-pairs.pairs.items
    c.sort.new.pairs.items c.sort.ensures.same c.in_ok-pairs.ensures in
    rw c.deref.ensures.value (in_range c.args.tin.now c.args.pieces.now c.args.most c.sort.new.pairs.items moved)

pub returns-clause-ok : goal.returns-clause-ok
returns-clause-ok c =
    let moved = collected_moved c.args.tin.now c.args.pieces.now c.args.most c.in_ok-pairs.pairs.items
    c.sort.new.pairs.items c.sort.ensures.same c.in_ok-pairs.ensures in
    let few : length c.sort.new.pairs.items ≤ c.args.most =
    omega (arith, c.if-len-most.false, c.len.ensures, c.sort.new.pairs.ok.0) in
    all_listed c.args.tin.now c.args.pieces.now c.args.most c.sort.new.pairs.items c.in_ok-changes.changes.items moved
    c.sort.ensures.ascending few
    (subst (λ (ys : List ChangedPair). c.in_ok-changes.changes.items ≡ map (change_of c.args.pieces.now) ys)
    c.deref.ensures.value c.in_ok-changes.ensures)
