-- Answers to the goals of `faults_are_json` in src/laws.rt.
use Rattle.fault_runs.proofs.FaultsJson.{faults_json}
use Rattle.fault_runs.proofs.laws.faults_are_json.Goals as goal

pub returns : goal.returns
returns c = faults_json
