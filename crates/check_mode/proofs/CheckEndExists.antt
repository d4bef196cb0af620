-- A file that gives a sound triangulation is checked, and one that does not is refused.
use Rattle.std.proofs.Common.{◌⊎◌, inl, inr, ℕ, List, [], ◌∷◌, Result, Ok, Err, codes, refl}
use Rattle.shelf_io.specs.Files.{Files}
use Rattle.sheet_base.specs.declared.flags.How.{How}
use Rattle.tin_base.specs.Triangulation.{Triangulation}
use Rattle.runs.specs.declared.status.Status.{Status}
use Rattle.runs.specs.declared.status.Status.TheVariants.{Same}
use Rattle.runs.specs.declared.refusal.Refusal.{Refusal}
use Rattle.runs.specs.Triangulations.{IsTinRefused}
use Rattle.runs.specs.Laws.{IsTinEnd, TinEndExists}
use Rattle.check_mode.specs.Checks.{sound_text, IsChecked}
use Rattle.check_mode.specs.Laws.{CheckEndExists}

by_end : (files : Files) (how : How) (name : List ℕ) (end : Result Triangulation Refusal)
    → IsTinEnd files how name end
    → ((status : Status) × (made : Files) × IsChecked files how name status made)
    ⊎ ((refusal : Refusal) × IsTinRefused files how name refusal)
by_end files how name (Ok tin) is = inl (
  Same,
  (codes "-", sound_text tin) ∷ [],
  record { tin = tin; ready = is; status_is = refl; made_is = refl },
)
by_end files how name (Err refusal) is = inr (refusal, is)

pub check_end_exists : TinEndExists → CheckEndExists
check_end_exists ends files how name = let (end, is) = ends files how name in by_end files how name end is
