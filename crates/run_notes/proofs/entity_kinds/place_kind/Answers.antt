-- Answers to the goals of `place_kind` in src/entity_kinds.rt.
use Rattle.std.proofs.Common.{ap}
use Rattle.run_notes.specs.declared.entity_kinds.TheConstants.{MOST_KINDS}
use Rattle.run_notes.proofs.FrequentKinds.{placed-put}
use Rattle.run_notes.proofs.entity_kinds.place_kind.Goals as goal

pub returns : goal.returns
returns c = placed-put MOST_KINDS c.number_before-at.result c.args.name.now c.args.count
    (record { name = c.in_ok-from_str.field-0; count = c.args.count }) c.args.kinds.now.items c.deref.result.now
    c.insert.new.self.items c.truncate.new.self.items c.deref.ensures.value c.number_before-at.ensures.place
    (ap (λ text. (text, c.args.count)) c.in_ok-from_str.ensures.ok) c.in_ok-insert.ensures.items
    c.truncate.ensures.items
