-- Answers to the goals of `find_triangle_columns` in src/headings.rt.
use Rattle.std.proofs.Common.{◌≡◌, List, subst, sym}
use Rattle.jtext.specs.Values.{Json}
use Rattle.tin_file.specs.Headings.{triangle_columns, triangle_columns_in}
use Rattle.tin_file.specs.Keys.{needed_list}
use Rattle.tin_file.specs.InsideNodes.{AreThere, AreNodes}
use Rattle.tin_file.specs.declared.faults.Top.TheVariants as tops
use Rattle.tin_file.proofs.DocumentValues.There.{members_there}
use Rattle.tin_file.proofs.DocumentValues.MemberFinds.{values_found}
use Rattle.tin_file.proofs.FileRows.RowLists.{passed_on}
use Rattle.tin_file.proofs.DocumentValues.Sequels.{equals_is, fault_stays, then_made}
use Rattle.tin_file.proofs.headings.find_triangle_columns.Goals as goal

pub read_triangle_columns-requires-clause-nodes : goal.read_triangle_columns-requires-clause-nodes
read_triangle_columns-requires-clause-nodes c =
    let nodes = c.args.doc.now.nodes in let bytes = c.args.bytes.now in
    let (members, h) = members_there c.args.doc.now bytes c.requires.read c.requires.object in
    subst (AreNodes nodes bytes) (sym c.deref.ensures.value)
    (values_found nodes bytes c.find_list.new.numbers.items (needed_list tops.TrianglesColumns members)
    (c.in_ok-find_list.ensures members h))

pub returns-clause-columns : goal.returns-clause-columns
unfolding triangle_columns
returns-clause-columns c members h =
    let nodes = c.args.doc.now.nodes in let bytes = c.args.bytes.now in
    then_made (λ (done : Unit {0}) (values : List Json). AreThere nodes bytes c.find_list.new.numbers.items values)
    (λ one other. one ≡ other) triangle_columns_in c.in_ok-find_list.field-0
    (needed_list tops.TrianglesColumns members)
    c.read_triangle_columns.result (c.in_ok-find_list.ensures members h)
    (λ values there. equals_is c.read_triangle_columns.result (triangle_columns_in values)
    (c.read_triangle_columns.ensures.columns values
    (subst (λ numbers. AreThere nodes bytes numbers values) (sym c.deref.ensures.value) there)))

pub returns-in_err-find_list-clause-columns : goal.returns-in_err-find_list-clause-columns
unfolding triangle_columns
returns-in_err-find_list-clause-columns c members h =
    let fault = c.in_err-find_list.field-0.0 in
    rw (passed_on fault c.from_residual.result c.from_residual.ensures.1)
    (fault_stays (λ (done : Unit {0}) (values : List Json). AreThere c.args.doc.now.nodes c.args.bytes.now
    c.find_list.new.numbers.items values) (λ one other. one ≡ other) triangle_columns_in fault
    (needed_list tops.TrianglesColumns members) (c.in_err-find_list.ensures members h))
