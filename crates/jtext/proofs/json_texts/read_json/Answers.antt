-- Answers to the goals of `read_json` in src/json_texts.rt.
use Rattle.std.proofs.Common.{◌≡◌, ◌∙◌, sym, subst, true, false}
use Rattle.jtext.specs.Texts.{IsBad}
use Rattle.jtext.proofs.CodeReads.Reaches.{end_read, end_bad}
use Rattle.jtext.proofs.json_texts.read_json.Goals as goal

pub returns-then-is_end-clause-ok : goal.returns-then-is_end-clause-ok
returns-then-is_end-clause-ok c =
    let ends = c.is_end.ensures.0 c.if-is_end.true in
    let (whole, is, same) = end_read c.args.bytes.now c.loop-at.place c.loop-at.pass.stack c.loop-at.pass.nodes.items
    c.loop-at.at c.loop-at.invariant c.loop-at-test.false ends.0 ends.1 in
    (whole, record { text = is; nodes = c.of.ensures ∙ same })

pub returns-else-is_end-clause-bad : goal.returns-else-is_end-clause-bad
returns-else-is_end-clause-bad c place is =
    let same : c.loop-at.at ≡ place = cc in
    subst (IsBad c.args.bytes.now) same
    (end_bad c.args.bytes.now c.loop-at.place c.loop-at.pass.stack c.loop-at.pass.nodes.items c.loop-at.at
    c.loop-at.invariant c.loop-at-test.false
    (λ end. let ends : false ≡ true = sym c.if-is_end.false ∙ c.is_end.ensures.1 end in cc))
