-- What is known of the refusal of a triangulation by its text.
use Rattle.tin_check.specs.declared.faults.CheckFault.{CheckFault}
use Rattle.tin_file.specs.declared.faults.TinFault.{TinFault}
use Rattle.runs.specs.declared.status.Status.{Status}
use Rattle.runs.specs.declared.refusal.Refusal.TheVariants.{Tin, Check}
use Rattle.runs.specs.Refusals.{status_of}
use Rattle.runs.specs.Counts.{ShelfCounts}
use Rattle.runs.specs.Causes.{HasCauses}
use Rattle.runs.proofs.Faults.{IsOfTin, of_text, of_check, not_read, tin_understood}

-- in a mode that may end as a refused triangulation does
module _ (lacks : Type 0) (may_be : Status → Type 0) (counts : ShelfCounts)
    (may_end : (status : Status) → IsOfTin status → may_be status) where
  pub fault_causes : (fault : TinFault) → HasCauses lacks may_be counts (Tin fault)
  fault_causes fault = record {
    understood = tin_understood (status_of (Tin fault)) (of_text fault);
    read = λ e. absurd (not_read (status_of (Tin fault)) (of_text fault) e);
    tin_long = λ e. cc;
    layers_long = λ e. cc;
    written_long = λ e. cc;
    cert_long = λ e. cc;
    may_end = may_end (status_of (Tin fault)) (of_text fault);
  }

  pub check_causes : (fault : CheckFault) → HasCauses lacks may_be counts (Check fault)
  check_causes fault = record {
    understood = tin_understood (status_of (Check fault)) (of_check fault);
    read = λ e. absurd (not_read (status_of (Check fault)) (of_check fault) e);
    tin_long = λ e. cc;
    layers_long = λ e. cc;
    written_long = λ e. cc;
    cert_long = λ e. cc;
    may_end = may_end (status_of (Check fault)) (of_check fault);
  }
