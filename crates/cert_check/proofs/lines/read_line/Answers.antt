-- Answers to the goals of `read_line` in src/lines.rt.
use Rattle.std.proofs.Common.{◌≤◌, length, arith}
use Rattle.cert_check.proofs.FewNumbers.{none_within, too_many}
use Rattle.cert_check.proofs.LineLaws.{on_none}
use Rattle.cert_check.proofs.LineNumbers.{read_more, read_last}
use Rattle.cert_check.proofs.lines.read_line.Goals as goal

pub loop-ended-preserved : goal.loop-ended-preserved
loop-ended-preserved c =
    read_more c.args.text.now c.loop-ended.rest.now c.loop-ended.numbers.items c.push.new.self.items
    c.in-Some.ended.number c.in-Some.ended.last c.in-Some.ended.rest.now c.loop-ended.invariant c.if-ended.false
    c.in-Some.ensures.some c.in_ok-push.ensures.items

pub returns-then-ended-clause-some : goal.returns-then-ended-clause-some
returns-then-ended-clause-some c =
    read_last c.args.text.now c.loop-ended.rest.now c.loop-ended.numbers.items c.push.new.self.items
    c.in-Some.ended.number c.in-Some.ended.last c.in-Some.ended.rest.now c.loop-ended.invariant c.if-ended.true
    c.in-Some.ensures.some c.in_ok-push.ensures.items

pub returns-clause-none : goal.returns-clause-none
returns-clause-none c =
    let so_far = c.loop-ended.invariant in
    none_within c.args.text.now c.args.most
    (on_none c.args.text.now c.loop-ended.rest.now so_far.on c.in_default.ensures.none)

pub returns-then-len-most-clause-none : goal.returns-then-len-most-clause-none
returns-then-len-most-clause-none c =
    let full : c.args.most ≤ length c.loop-ended.numbers.items = omega (arith, c.if-len-most.true, c.len.ensures) in
    too_many c.args.text.now c.loop-ended.rest.now c.loop-ended.numbers.items c.args.most c.loop-ended.invariant full
