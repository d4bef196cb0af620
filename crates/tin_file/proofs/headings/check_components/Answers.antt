-- Answers to the goals of `check_components` in src/headings.rt.
use Rattle.std.proofs.Common.{◌≡◌, List, subst, sym}
use Rattle.jtext.specs.Values.{Json}
use Rattle.tin_file.specs.Headings.{components, components_in}
use Rattle.tin_file.specs.Keys.{needed_list}
use Rattle.tin_file.specs.InsideNodes.{AreThere, AreNodes}
use Rattle.tin_file.specs.declared.faults.Top.TheVariants as tops
use Rattle.tin_file.proofs.DocumentValues.There.{members_there}
use Rattle.tin_file.proofs.DocumentValues.MemberFinds.{values_found}
use Rattle.tin_file.proofs.FileRows.RowLists.{passed_on}
use Rattle.tin_file.proofs.DocumentValues.Sequels.{equals_is, fault_stays, then_made}
use Rattle.tin_file.proofs.headings.check_components.Goals as goal

pub check_components_in-requires-clause-nodes : goal.check_components_in-requires-clause-nodes
check_components_in-requires-clause-nodes c =
    let nodes = c.args.doc.now.nodes in let bytes = c.args.bytes.now in
    let (members, h) = members_there c.args.doc.now bytes c.requires.read c.requires.object in
    subst (AreNodes nodes bytes) (sym c.deref.ensures.value)
    (values_found nodes bytes c.find_list.new.numbers.items (needed_list tops.Components members)
    (c.in_ok-find_list.ensures members h))

pub returns : goal.returns
unfolding components
returns c members h =
    let nodes = c.args.doc.now.nodes in let bytes = c.args.bytes.now in
    then_made (λ (done : Unit {0}) (values : List Json). AreThere nodes bytes c.find_list.new.numbers.items values)
    (λ one other. one ≡ other) components_in c.in_ok-find_list.field-0 (needed_list tops.Components members)
    c.check_components_in.result (c.in_ok-find_list.ensures members h)
    (λ values there. equals_is c.check_components_in.result (components_in values)
    (c.check_components_in.ensures values (subst (λ numbers. AreThere nodes bytes numbers values)
    (sym c.deref.ensures.value) there)))

pub returns-in_err-find_list : goal.returns-in_err-find_list
unfolding components
returns-in_err-find_list c members h =
    let fault = c.in_err-find_list.field-0.0 in
    rw (passed_on fault c.from_residual.result c.from_residual.ensures.1)
    (fault_stays (λ (done : Unit {0}) (values : List Json). AreThere c.args.doc.now.nodes c.args.bytes.now
    c.find_list.new.numbers.items values) (λ one other. one ≡ other) components_in fault
    (needed_list tops.Components members) (c.in_err-find_list.ensures members h))
