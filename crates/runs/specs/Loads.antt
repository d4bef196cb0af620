-- Why a file is not loaded, or no sound triangulation.
use Rattle.std.specs.Prelude.{◌≡◌, ℕ, List, Option, IfSome}
use Rattle.shelf_io.specs.Files.{Files}
use Rattle.shelf_io.specs.Load.{LacksName, IsLonger}
use Rattle.sheet_base.specs.declared.flags.How.{How}
use Rattle.runs.specs.declared.loads.TheConstants.{MOST_BYTES}
use Rattle.runs.specs.declared.refusal.Refusal.{Refusal}
use Rattle.runs.specs.declared.refusal.Refusal.TheVariants.{TinUnread, TinLong, NoMemory}
use Rattle.runs.specs.Triangulations.{HasFileOver, IsTextRefused}

-- where the shelf states its files, the file of this name has more bytes than `most`
abbrev pub IsOver : Option Files → List ℕ → ℕ → Type 0
IsOver told name most = IfSome told (IsLonger name most)

-- why a file is not loaded: `unread` where it is missing or a read failed, `long` where it has more than `most` bytes
pub data IsUnloaded (told : Option Files) (name : List ℕ) (most : ℕ) (unread long : Refusal)
    (shelf_rose given_passed : Type 0) (refusal : Refusal) : Type 0 where
  missing : refusal ≡ unread → LacksName told name
      → IsUnloaded told name most unread long shelf_rose given_passed refusal
  read_failed : refusal ≡ unread → shelf_rose → IsUnloaded told name most unread long shelf_rose given_passed refusal
  too_long : refusal ≡ long → IsOver told name most → given_passed
      → IsUnloaded told name most unread long shelf_rose given_passed refusal
  no_memory : refusal ≡ NoMemory → IsUnloaded told name most unread long shelf_rose given_passed refusal

-- why no sound triangulation is loaded: its file is not, or its text gives none
pub data IsTinUnready (told : Option Files) (how : How) (name : List ℕ) (shelf_rose given_passed : Type 0)
    (refusal : Refusal) : Type 0 where
  not_loaded : IsUnloaded told name MOST_BYTES TinUnread TinLong shelf_rose given_passed refusal
      → IsTinUnready told how name shelf_rose given_passed refusal
  no_tin : (text : List ℕ) → HasFileOver told name text → IsTextRefused how text refusal
      → IsTinUnready told how name shelf_rose given_passed refusal
