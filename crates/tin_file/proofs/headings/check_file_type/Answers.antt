-- Answers to the goals of `check_file_type` in src/headings.rt.
use Rattle.tin_file.specs.Headings.{file_type_of, file_type}
use Rattle.tin_file.specs.Keys.{needed_value}
use Rattle.tin_file.specs.InsideNodes.{IsThere}
use Rattle.tin_file.specs.declared.faults.Top.TheVariants as tops
use Rattle.std.proofs.Common.{◌≡◌}
use Rattle.tin_file.proofs.DocumentValues.There.{node_within, members_there}
use Rattle.tin_file.proofs.DocumentValues.MemberFinds.{value_found}
use Rattle.tin_file.proofs.FileRows.RowLists.{passed_on}
use Rattle.tin_file.proofs.DocumentValues.Sequels.{equals_is, fault_stays, then_made}
use Rattle.tin_file.proofs.headings.check_file_type.Goals as goal

pub check_file_type_value-requires-clause-node : goal.check_file_type_value-requires-clause-node
check_file_type_value-requires-clause-node c =
    let nodes = c.args.doc.now.nodes in let bytes = c.args.bytes.now in
    let (members, h) = members_there c.args.doc.now bytes c.requires.read c.requires.object in
    node_within nodes bytes c.in_ok-value.value
    (value_found nodes bytes c.in_ok-value.value (needed_value tops.FileType members) (c.in_ok-value.ensures members h))

pub returns : goal.returns
unfolding file_type
returns c members h =
    then_made (IsThere c.args.doc.now.nodes c.args.bytes.now) (λ one other. one ≡ other) file_type_of
    c.in_ok-value.value (needed_value tops.FileType members) c.check_file_type_value.result
    (c.in_ok-value.ensures members h) (λ is there. equals_is c.check_file_type_value.result (file_type_of is)
    (c.check_file_type_value.ensures is there))

pub returns-in_err-value : goal.returns-in_err-value
unfolding file_type
returns-in_err-value c members h =
    let fault = c.in_err-value.field-0.0 in
    rw (passed_on fault c.from_residual.result c.from_residual.ensures.1)
    (fault_stays (IsThere c.args.doc.now.nodes c.args.bytes.now) (λ one other. one ≡ other) file_type_of fault
    (needed_value tops.FileType members) (c.in_err-value.ensures members h))
