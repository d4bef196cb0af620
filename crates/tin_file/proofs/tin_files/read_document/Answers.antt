-- Answers to the goals of `read_document` in src/tin_files.rt.
use Rattle.std.proofs.Common.{◌≡◌, sym, ap, ◌∙◌, subst}
use Rattle.tin_file.specs.Headings.{heading}
use Rattle.tin_file.specs.TinFiles.{rows_of, reading}
use Rattle.tin_file.specs.InsideNodes.{Equals}
use Rattle.tin_file.proofs.DocumentValues.There.{there_within}
use Rattle.tin_file.proofs.DocumentValues.Sequels.{fault_stays, then_made}
use Rattle.tin_file.proofs.FileRows.RowLists.{passed_on}
use Rattle.tin_file.proofs.DocumentValues.TopValue.{whole_there, is_no_object, object_kind, object_members}
use Rattle.tin_file.proofs.tin_files.read_document.Goals as goal

pub holds_object-requires : goal.holds_object-requires
holds_object-requires c =
    let (whole, read) = c.requires in
    there_within c.args.doc.now.nodes c.args.bytes.now 0 whole.value
    (whole_there whole c.args.doc.now c.args.bytes.now read)

pub returns-then-not-holds_object : goal.returns-then-not-holds_object
returns-then-not-holds_object c whole read =
    is_no_object c.args.how whole.value (sym c.if-not-holds_object.true
    ∙ c.holds_object.ensures c.args.bytes.now whole.value (whole_there whole c.args.doc.now c.args.bytes.now read))

pub read_heading-requires-clause-object : goal.read_heading-requires-clause-object
read_heading-requires-clause-object c =
    let (whole, read) = c.requires in
    object_kind whole c.args.doc.now c.args.bytes.now read c.holds_object.result c.holds_object.ensures
    c.if-not-holds_object.false

pub returns-in_err-columns : goal.returns-in_err-columns
returns-in_err-columns c whole read =
    let (members, h, (blank, value_is)) = object_members whole c.args.doc.now c.args.bytes.now read
    c.holds_object.result c.holds_object.ensures c.if-not-holds_object.false in
    let fault = c.in_err-columns.field-0.0 in
    rw (passed_on fault c.from_residual.result c.from_residual.ensures.1, ap (reading c.args.how) value_is)
    (fault_stays (λ one other. one ≡ other) (λ one other. one ≡ other) (rows_of c.args.how members) fault
    (heading c.args.how members) (c.in_err-columns.ensures.heading members h))

pub read_rows-requires-clause-object : goal.read_rows-requires-clause-object
read_rows-requires-clause-object c =
    let (whole, read) = c.requires in
    object_kind whole c.args.doc.now c.args.bytes.now read c.holds_object.result c.holds_object.ensures
    c.if-not-holds_object.false

pub returns : goal.returns
returns c whole read =
    let (members, h, (blank, value_is)) = object_members whole c.args.doc.now c.args.bytes.now read
    c.holds_object.result c.holds_object.ensures c.if-not-holds_object.false in
    rw (ap (reading c.args.how) value_is)
    (then_made (λ one other. one ≡ other) (λ one other. one ≡ other) (rows_of c.args.how members)
    c.in_ok-columns.columns (heading c.args.how members) c.read_rows.result
    (c.in_ok-columns.ensures.heading members h)
    (λ columns same. subst (λ cs. Equals c.read_rows.result (rows_of c.args.how members cs)) same
    (c.read_rows.ensures members h)))
