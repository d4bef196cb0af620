-- Why a job is refused before anything is written.
use Rattle.std.specs.Prelude.{◌≡◌, ◌≢◌, ◌⊎◌}
use Rattle.runs.specs.declared.status.Status.{Status}
use Rattle.runs.specs.declared.status.Status.TheVariants.{Words, Read, Memory}
use Rattle.runs.specs.declared.refusal.Refusal.{Refusal}
use Rattle.runs.specs.declared.refusal.Refusal.TheVariants.{TinLong, LayersLong, WrittenLong, CertLong}
use Rattle.runs.specs.declared.loads.TheConstants.{MOST_BYTES, MOST_VERIFIED}
use Rattle.runs.specs.Refusals.{status_of}
use Rattle.runs.specs.Counts.{ShelfCounts, HasFailed, HasGivenMore}

-- by its files, by the read fault of a file that is reached, or because memory ran out
pub data MayRefuse (by_files reaches : Refusal → Type 0) (shelf_rose : Type 0) (refusal : Refusal) : Type 0 where
  by_the_files : by_files refusal → MayRefuse by_files reaches shelf_rose refusal
  unread : shelf_rose → reaches refusal → MayRefuse by_files reaches shelf_rose refusal
  no_room : status_of refusal ≡ Memory → MayRefuse by_files reaches shelf_rose refusal

-- What a shelf's counts say of a refusal, whether or not the shelf states its files, where a wanted file may be missing,
-- and which statuses there are.
pub record HasCauses (lacks : Type 0) (may_be : Status → Type 0) (counts : ShelfCounts) (refusal : Refusal) : Type 0
  where
    -- the words are understood
    pub understood : status_of refusal ≢ Words
    -- a read failed, or a file is missing
    pub read : status_of refusal ≡ Read → HasFailed counts ⊎ lacks
    -- a file, or all layers, have too many bytes
    pub tin_long : refusal ≡ TinLong → HasGivenMore MOST_BYTES counts
    pub layers_long : refusal ≡ LayersLong → HasGivenMore MOST_BYTES counts
    -- a written layer, or a certificate, has too many
    pub written_long : refusal ≡ WrittenLong → HasGivenMore MOST_VERIFIED counts
    pub cert_long : refusal ≡ CertLong → HasGivenMore MOST_VERIFIED counts
    -- the mode may end so
    pub may_end : may_be (status_of refusal)
