-- A check is refused as its triangulation is.
use Rattle.std.proofs.Common.{ℕ, List, Option}
use Rattle.shelf_io.specs.Files.{Files}
use Rattle.sheet_base.specs.declared.flags.How.{How}
use Rattle.runs.specs.declared.refusal.Refusal.{Refusal}
use Rattle.runs.specs.Loads.{IsTinUnready}
use Rattle.runs.specs.Causes.{by_the_files, unread, no_room}
use Rattle.runs.proofs.TinRefusals.{without_file, without_read, without_room, unready}
use Rattle.check_mode.specs.Checks.{MayRefuseCheckOver}

pub check_refused : (told : Option Files) (how : How) (name : List ℕ) (rose passed : Type 0) (refusal : Refusal)
    → IsTinUnready told how name rose passed refusal → MayRefuseCheckOver told how name rose refusal
check_refused told how name rose passed refusal why =
    elim (unready told how name rose passed refusal why) [
      | without_file is ↦ by_the_files is
      | without_read rises is ↦ unread rises is
      | without_room is ↦ no_room is
    ]
