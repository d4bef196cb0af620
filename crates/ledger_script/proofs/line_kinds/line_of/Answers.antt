-- Answers to the goals of `line_of` in src/line_kinds.rt.
use Rattle.std.proofs.Common.{rules, ◌≡◌, None, codes, sym}
use Rattle.text_fields.specs.Fields.{after_word}
use Rattle.ledger_script.specs.InsideLineKinds.{decision_of, run_of}
use Rattle.ledger_script.proofs.LineReadings.{decision-takes, run-takes, no-line}
use Rattle.ledger_script.proofs.line_kinds.line_of.Goals as goal

pub returns-in-Some-decision_of : goal.returns-in-Some-decision_of
returns-in-Some-decision_of c =
    decision-takes c.args.line.now c.in-Some-decision_of.run' c.in-Some-decision_of.place c.in-Some-decision_of.mark
    (search rules)

pub returns-in-Some-run_of : goal.returns-in-Some-run_of
returns-in-Some-run_of c =
    let takes = run-takes (codes "list ") c.args.line.now c.in-Some-run_of.run' (sym c.in-Some-run_of.ensures) in
    (takes.small, takes.whole)

pub returns-in-Some-run_of-2 : goal.returns-in-Some-run_of-2
returns-in-Some-run_of-2 c =
    let takes = run-takes (codes "clear ") c.args.line.now c.in-Some-run_of-2.run' (sym c.in-Some-run_of-2.ensures) in
    (takes.small, takes.whole)

pub returns-in-None : goal.returns-in-None
returns-in-None c =
    let entry : after_word (codes "enter ") c.args.line.now ≡ None = search rules in
    let decision : decision_of c.args.line.now ≡ None = search rules in
    let list : run_of (codes "list ") c.args.line.now ≡ None = search rules in
    let clear : run_of (codes "clear ") c.args.line.now ≡ None = search rules in
    no-line c.args.line.now entry decision list clear
