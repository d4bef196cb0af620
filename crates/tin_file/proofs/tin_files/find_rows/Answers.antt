-- Answers to the goals of `find_rows` in src/tin_files.rt.
use Rattle.std.proofs.Common.{arith}
use Rattle.tin_file.specs.Keys.{needed_list, and_then}
use Rattle.tin_file.specs.Vertices.{few}
use Rattle.tin_file.proofs.FileRows.FoundRows.{few_pass, too_many, with_rows}
use Rattle.tin_file.proofs.tin_files.find_rows.Goals as goal

pub returns-then-len-most-clause-rows : goal.returns-then-len-most-clause-rows
returns-then-len-most-clause-rows c members h =
    too_many c.args.doc.now.nodes c.args.bytes.now c.args.list c.args.most c.find_list.new.numbers.items
    (needed_list c.args.which members)
    (c.in_ok-find_list.ensures members h) (omega
    (arith, c.if-len-most.true, c.len.ensures, c.find_list.new.numbers.ok.0))

pub returns-clause-rows : goal.returns-clause-rows
returns-clause-rows c members h =
    with_rows c.args.doc.now.nodes c.args.bytes.now c.find_list.new.numbers
    (and_then (few c.args.list c.args.most) (needed_list c.args.which members))
    (few_pass c.args.doc.now.nodes c.args.bytes.now c.args.list c.args.most c.find_list.new.numbers.items
    (needed_list c.args.which members)
    (c.in_ok-find_list.ensures members h) (omega
    (arith, c.if-len-most.false, c.len.ensures, c.find_list.new.numbers.ok.0)))
