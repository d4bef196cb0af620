-- Answers to the goals of `same_text` in src/lookup.rt.
use Rattle.std.proofs.Common.{◌≡◌, ◌+◌, ◌-◌, ◌∙◌, get_or}
use Rattle.std.specs.Prelude.{slice_range}
use Rattle.jtext.specs.declared.document.Kind.TheVariants.{Text}
use Rattle.jtext.proofs.CallerLemmas.TextNodes.{marks_there, says_value, no_node}
use Rattle.jtext.proofs.lookup.same_text.Goals as goal

pub between_marks-requires-clause-marks : goal.between_marks-requires-clause-marks
between_marks-requires-clause-marks c =
    let kind : (get_or c.args.doc.now.nodes c.args.node no_node).kind ≡ Text = rw c.items.ensures at c.in-Text.is in
    let there = marks_there c.args.doc.now c.args.bytes.now c.args.node no_node c.requires.read c.requires.node kind in
    rw c.items.ensures there.0

pub between_marks-requires-clause-within : goal.between_marks-requires-clause-within
between_marks-requires-clause-within c =
    let kind : (get_or c.args.doc.now.nodes c.args.node no_node).kind ≡ Text = rw c.items.ensures at c.in-Text.is in
    let there = marks_there c.args.doc.now c.args.bytes.now c.args.node no_node c.requires.read c.requires.node kind in
    rw c.items.ensures there.1

pub returns-in-Text : goal.returns-in-Text
returns-in-Text c start value s =
    let kind : (get_or c.args.doc.now.nodes c.args.node no_node).kind ≡ Text = rw c.items.ensures at c.in-Text.is in
    let raw : c.between_marks.result.now ≡ slice_range c.args.bytes.now
    ((get_or c.args.doc.now.nodes c.args.node no_node).start + 1)
    ((get_or c.args.doc.now.nodes c.args.node no_node).end - 1) =
    rw c.items.ensures at c.between_marks.ensures in
    says_value c.args.doc.now.nodes c.args.bytes.now c.args.node start value no_node c.args.text.now c.says.result
    c.requires.node s kind
    (λ chars all is. c.says.ensures chars all (raw ∙ is))
