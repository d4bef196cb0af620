-- Answers to the goals of `plain` in src/plain.rt.
use Rattle.std.proofs.Common.{refl, ◌-◌, take, drop, length, true, false}
use Rattle.std.proofs.lemmas.List.{take_rest}
use Rattle.mm_decimal.proofs.PlainReads.{some_read, reads_bare, reads_minus}
use Rattle.mm_decimal.proofs.plain.plain.Goals as goal

pub returns-in-Some : goal.returns-in-Some
returns-in-Some c =
    let text = c.args.text.now in
    some_read c.read_of.result true c.in-Some.size text c.read_of.ensures.limit c.read_of.ensures.read
    (reads_minus text (take (length text - 1) (drop 1 text)) c.in-Some.size (c.if-begins_with.ensures.first refl)
    (take_rest text 1) c.in-Some.ensures.plain c.in-Some.ensures.short)

pub returns-in-Some-size_of : goal.returns-in-Some-size_of
returns-in-Some-size_of c =
    let text = c.args.text.now in
    let read = c.read_of-in-Some-size_of in
    some_read read.result false c.in-Some-size_of.size text read.ensures.limit read.ensures.read
    (reads_bare text c.in-Some-size_of.size c.in-Some-size_of.ensures.plain c.in-Some-size_of.ensures.short)
