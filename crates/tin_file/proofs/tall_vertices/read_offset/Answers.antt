-- Answers to the goals of `read_offset` in src/tall_vertices.rt.
use Rattle.std.proofs.Common.{length, sym, ◌∙◌, get_or, subst}
use Rattle.jtext.specs.Values.{null}
use Rattle.tin_file.specs.InsideTallRows.{IsOffsetBelow}
use Rattle.tin_file.proofs.DocumentValues.There.{node_at_place, there_at}
use Rattle.tin_file.proofs.CallerLemmas.RowsRead.{number_reach}
use Rattle.tin_file.proofs.VerticalComponent.TallElements.{own_offset_so, height_offset_so}
use Rattle.tin_file.proofs.tall_vertices.read_offset.Goals as goal

pub read_number-own-requires : goal.read_number-own-requires
read_number-own-requires c =
    node_at_place c.args.doc.now.nodes c.args.bytes.now c.args.values.now c.in-Offset.z 0 c.requires.nodes
    (subst (IsOffsetBelow (length c.args.values.now)) c.in-Offset.is c.requires.places)

pub read_number-source-requires : goal.read_number-source-requires
read_number-source-requires c =
    let below = subst (IsOffsetBelow (length c.args.values.now)) c.in-Heights.is c.requires.places in
    node_at_place c.args.doc.now.nodes c.args.bytes.now c.args.values.now c.in-Heights.source_z 0 c.requires.nodes
    below.0

pub read_number-target-requires : goal.read_number-target-requires
read_number-target-requires c =
    let below = subst (IsOffsetBelow (length c.args.values.now)) c.in-Heights.is c.requires.places in
    node_at_place c.args.doc.now.nodes c.args.bytes.now c.args.values.now c.in-Heights.target_z 0 c.requires.nodes
    below.1

pub height_offset-requires-clause-source : goal.height_offset-requires-clause-source
height_offset-requires-clause-source c read is =
    let (all, h) = c.requires.nodes in
    let below = subst (IsOffsetBelow (length c.args.values.now)) c.in-Heights.is c.requires.places in
    number_reach c.args.how c.args.row (get_or all c.in-Heights.source_z null) read
    (sym (c.read_number-source.ensures _ (there_at c.args.doc.now.nodes c.args.bytes.now c.args.values.now all
    c.in-Heights.source_z 0 null h below.0)) ∙ is)

pub height_offset-requires-clause-target : goal.height_offset-requires-clause-target
height_offset-requires-clause-target c read is =
    let (all, h) = c.requires.nodes in
    let below = subst (IsOffsetBelow (length c.args.values.now)) c.in-Heights.is c.requires.places in
    number_reach c.args.how c.args.row (get_or all c.in-Heights.target_z null) read
    (sym (c.read_number-target.ensures _ (there_at c.args.doc.now.nodes c.args.bytes.now c.args.values.now all
    c.in-Heights.target_z 0 null h below.1)) ∙ is)

pub returns-in-Offset-clause-offset : goal.returns-in-Offset-clause-offset
returns-in-Offset-clause-offset c all h =
    let below = subst (IsOffsetBelow (length c.args.values.now)) c.in-Offset.is c.requires.places in
    c.own_offset.ensures.offset
    ∙ own_offset_so c.args.how c.args.columns c.args.row all c.in-Offset.z c.in-Offset.is c.read_number-own.result
    (c.read_number-own.ensures _ (there_at c.args.doc.now.nodes c.args.bytes.now c.args.values.now all c.in-Offset.z 0
    null h below))

pub returns-in-Heights-clause-offset : goal.returns-in-Heights-clause-offset
returns-in-Heights-clause-offset c all h =
    let below = subst (IsOffsetBelow (length c.args.values.now)) c.in-Heights.is c.requires.places in
    c.height_offset.ensures.offset
    ∙ height_offset_so c.args.how c.args.columns c.args.row all c.in-Heights.source_z c.in-Heights.target_z
    c.in-Heights.is c.read_number-source.result c.read_number-target.result
    (c.read_number-source.ensures _ (there_at c.args.doc.now.nodes c.args.bytes.now c.args.values.now all
    c.in-Heights.source_z 0 null h below.0))
    (c.read_number-target.ensures _ (there_at c.args.doc.now.nodes c.args.bytes.now c.args.values.now all
    c.in-Heights.target_z 0 null h below.1))
