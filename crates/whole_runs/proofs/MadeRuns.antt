-- What a run makes, from what it was to make and what its last call wrote.
use Rattle.std.proofs.Common.{◌≡◌, ◌≢◌, inr, ℕ, List, [], Option, IfSome}
use Rattle.shelf_io.specs.Files.{Files}
use Rattle.runs.specs.declared.status.Status.{Status}
use Rattle.runs.specs.declared.status.Status.TheVariants.{Write}
use Rattle.runs.proofs.RunEnds.{told}
use Rattle.publication.specs.Fronts.{HasWritten}
use Rattle.whole_runs.specs.Jobs.{WantNoFile}
use Rattle.whole_runs.specs.Ends.{Makes, IsToBeMade}
use Rattle.whole_runs.specs.RunEnds.{HasRunMade}
use Rattle.publication.proofs.RunEnds.{ends_so}
use Rattle.whole_runs.proofs.RunEnds.{stands_so}
use Rattle.whole_runs.proofs.KeptRuns.{run_keeps, made_keeps}
use Rattle.whole_runs.proofs.WrittenEnds.{run_done}

module _ (words : List (List ℕ)) (files : Option Files) (shelf_rose press_rose : Type 0) (whole : Files)
    (wanted result : Status) (made : Option Files) where
  pub run_made : wanted ≢ Write → IsToBeMade words wanted whole
      → IfSome files (λ f. Makes words f shelf_rose wanted whole)
      → (WantNoFile words → (f : Files) → Makes words f ⊥ wanted whole)
      → HasWritten whole wanted result made → (result ≡ Write → press_rose)
      → HasRunMade words files shelf_rose press_rose result made
  run_made other is_wanted makes untold written rose =
      let ends = told files
      (λ f is. ends_so (Makes words f shelf_rose) press_rose whole wanted result made other is written rose) makes in
      let over = λ (none : WantNoFile words) (f : Files).
      ends_so (Makes words f ⊥) press_rose whole wanted result made other (untold none f) written rose in
      record {
        ends = ends;
        done = run_done words files shelf_rose press_rose result made ends;
        kept = run_keeps words files shelf_rose press_rose result made ends;
        untold = over;
        kept_made = λ n asks. made_keeps words [] ⊥ press_rose n result made asks (over (inr (n, asks)) []);
        stands = stands_so words whole wanted result made other is_wanted written;
      }
