-- Answers to the goals of `text_is_json` in src/premises.rt.
use Rattle.std.proofs.Common.{◌<◌, ◌^◌, length, rules}
use Rattle.fault_runs.proofs.premises.text_is_json.Goals as goal

pub returns : goal.returns
returns c =
    let few : length c.args.faults.now < 2 ^ 64 = search rules in
    c.faults_are_json.ensures c.args.lines c.args.faults.now c.faults_fit.ensures few
