-- The text of faults on the map is that of their value, and of no other.
use Rattle.std.proofs.Common.{inr, inl, refl, sym}
use Rattle.jtext.specs.Texts.{IsWhole}
use Rattle.jtext.proofs.CallerLemmas.OneValue.{one_value}
use Rattle.fault_runs.specs.FaultsText.{faults_text}
use Rattle.fault_runs.specs.FaultsValue.{faults_whole}
use Rattle.fault_runs.specs.Laws.{FaultsAreJson, faults_depth}
use Rattle.fault_runs.proofs.FaultSpellings.{faults_spelled}
use Rattle.fault_runs.proofs.FaultsValid.{faults_are}

pub faults_json : FaultsAreJson
faults_json lines faults held few =
    let whole : IsWhole faults_depth (faults_whole lines faults) (faults_text lines faults) = record {
      before = tt;
      value = faults_are 0 lines faults few held;
      after = (inr (inr (inl refl)), tt);
      all = sym (faults_spelled lines faults);
    } in
    record {
      whole = whole;
      one = λ depth other is. one_value depth faults_depth (faults_text lines faults) other (faults_whole lines faults) is
          whole;
    }
