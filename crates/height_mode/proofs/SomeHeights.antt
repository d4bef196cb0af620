-- Moving a list of points ends, whatever the files are.
use Rattle.std.proofs.Common.{◌≡◌, ◌⊎◌, inl, inr, ⊎_elim, ℕ, ◌+◌, List, [], ◌∷◌, length, Option, None, Some, Result, Ok, Err}
use Rattle.std.proofs.Common.{codes, refl, arith}
use Rattle.std.proofs.lemmas.Bool.{cases_lt}
use Rattle.shelf_io.specs.Files.{Files, bytes_of}
use Rattle.sheet_base.specs.declared.faults.LayerFault.{LayerFault}
use Rattle.tin_base.specs.Soundness.{IsSound}
use Rattle.tin_check.specs.Faults.{OutcomeExists as FaultExists}
use Rattle.tin_file.specs.Laws.{TallOutcomeExists}
use Rattle.tin_file.specs.declared.tall_files.Tall.{Tall}
use Rattle.tin_height.specs.Points.{points_read}
use Rattle.tin_height.specs.PointTexts.{text_with_heights}
use Rattle.tin_height.specs.Raises.{AreRaised, IsFirstOutside, IsRaisedOrOutside, RaisedExist}
use Rattle.tin_height.specs.declared.points.Points.{Points}
use Rattle.tin_height.specs.declared.raises.Raised.{Raised}
use Rattle.runs.specs.declared.loads.TheConstants.{MOST_BYTES}
use Rattle.runs.specs.declared.status.Status.{Status}
use Rattle.runs.specs.declared.status.Status.TheVariants.{Same}
use Rattle.runs.specs.declared.refusal.Refusal.{Refusal}
use Rattle.runs.specs.declared.refusal.Refusal.TheVariants.{TinUnread, TinLong, Tin, Check, LayerUnread, LayersLong, Layer}
use Rattle.runs.specs.declared.refusal.Refusal.TheVariants.{Outside}
use Rattle.runs.specs.Output.{name_in}
use Rattle.runs.specs.Triangulations.{HasFile}
use Rattle.height_mode.specs.declared.heights.HeightJob.{HeightJob}
use Rattle.height_mode.specs.Talls.{HasTall, IsTallRefused}
use Rattle.height_mode.specs.Heights.{moved_files, IsAtHand}
use Rattle.height_mode.specs.Laws.{IsHeightsEnd, HeightsExist}
use Rattle.height_mode.proofs.OneTall.{IsTallEnd}
use Rattle.height_mode.proofs.SomeTall.{tall_end_exists}

abbrev HasEnd : Files → HeightJob → Type 0
HasEnd files heights = (end : Result (Status × Files) Refusal) × IsHeightsEnd files heights end

module _ (raised : RaisedExist) (files : Files) (heights : HeightJob) where
  by_points : (tall : Tall) (bytes : List ℕ) → IsAtHand files heights tall bytes → (points : Points)
      → points_read heights.how bytes ≡ Ok points → IsRaisedOrOutside tall.tin tall.offsets points.rows
      → HasEnd files heights
  by_points tall bytes hand points read (inl (raised_points, are)) = (
    Ok (
      Same,
      moved_files heights tall.tin (text_with_heights bytes 0 points.rows raised_points) (length points.rows) points.inexact,
    ),
    record {
      tall = tall;
      bytes = bytes;
      text = text_with_heights bytes 0 points.rows raised_points;
      count = length points.rows;
      inexact = points.inexact;
      at_hand = hand;
      moved = record {
        points = points;
        raised = raised_points;
        read = read;
        raised_so = are;
        text_is = refl;
        count_is = refl;
        inexact_is = refl;
      };
      status_is = refl;
      made_is = refl;
    },
  )
  by_points tall bytes hand points read (inr (point, first)) = (
    Err (Outside 0 point 0),
    record {
      tall = tall;
      bytes = bytes;
      at_hand = hand;
      cause = (refl, refl, record { points = points; read = read; first = first });
    },
  )

  by_reading : (tall : Tall) (bytes : List ℕ) → IsSound tall.tin → IsAtHand files heights tall bytes
      → (answer : Result Points LayerFault) → points_read heights.how bytes ≡ answer → HasEnd files heights
  by_reading tall bytes sound hand (Ok points) read =
      by_points tall bytes hand points read (raised tall.tin tall.offsets points.rows sound)
  by_reading tall bytes sound hand (Err fault) read =
      (Err (Layer 0 fault), record { tall = tall; bytes = bytes; at_hand = hand; cause = (refl, read) })

  by_file : (tall : Tall) → HasTall files heights.how heights.tin tall → (found : Option (List ℕ))
      → bytes_of files heights.points ≡ found → HasEnd files heights
  by_file tall has None is = (Err (LayerUnread 0), (refl, (tall, has), is))
  by_file tall has (Some bytes) is =
      ⊎_elim (λ more. (Err LayersLong, ((tall, has), (bytes, is, more))))
      (λ few. let (text, stored, so) = has in
      by_reading tall bytes so.sound
      (record { tall_is = has; bytes_are = record { found = is; within = omega (arith, few) } })
      (points_read heights.how bytes) refl)
      (cases_lt MOST_BYTES (length bytes))

  by_tall : (end : Result Tall Refusal) → IsTallEnd files heights.how heights.tin end → HasEnd files heights
  by_tall (Ok tall) has = by_file tall has (bytes_of files heights.points) refl
  by_tall (Err TinUnread) is = (Err TinUnread, is)
  by_tall (Err TinLong) is = (Err TinLong, is)
  by_tall (Err (Tin fault)) is = (Err (Tin fault), is)
  by_tall (Err (Check fault)) is = (Err (Check fault), is)
  by_tall (Err refusal) is = absurd is

pub heights_exist : TallOutcomeExists → FaultExists → RaisedExist → HeightsExist
heights_exist answers faults raised files heights =
    let (end, is) = tall_end_exists answers faults files heights.how heights.tin in by_tall raised files heights end is
