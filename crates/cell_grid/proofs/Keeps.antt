-- A place that is kept once.
use Rattle.std.proofs.Common.{ℕ, List, [], ◌∷◌, ◌++◌, Contains, arith}
use Rattle.std.proofs.lemmas.List.{length_push}
use Rattle.std.proofs.lemmas.List.Elements.{Contains-push, Contains-push_cases, Contains-append_left}
use Rattle.cell_grid.specs.InsideEntries.{DoesKeep}
use Rattle.cell_grid.proofs.Tells.{distinct_push}

pub keeps_new : (place : ℕ) (xs : List ℕ) → (Contains xs place → ⊥) → DoesKeep place xs (xs ++ place ∷ [])
keeps_new place xs none =
    record {
      some = Contains-push xs place;
      kept = λ k h. Contains-append_left xs (place ∷ []) k h;
      only = λ k h. Contains-push_cases xs place k h;
      once = λ d. distinct_push xs place d none;
      few = omega (arith, length_push xs place);
    }
