-- A seal that was entered is known.
use Rattle.std.proofs.Common.{◌≡◌, suc, ◌+◌, ◌<◌, Bool, true, false, cond, List, [], ◌∷◌, ◌++◌, length, Some, refl, arith, not}
use Rattle.std.specs.List.{position_or_len}
use Rattle.std.proofs.lemmas.Bool.{lt-ltb}
use Rattle.std.proofs.lemmas.Slice.Eq.{bytes_eq-Decides}
use Rattle.ledger_core.specs.declared.pairs.Seal.{Seal}
use Rattle.ledger_core.specs.declared.commands.Command.TheVariants as commands
use Rattle.ledger_core.specs.Kept.{has_seal, run_of}
use Rattle.ledger_core.specs.Histories.{runs_of}
use Rattle.ledger_core.specs.Laws.{EnteredOnce}
use Rattle.ledger_core.proofs.Ledgers.{runs-append}

-- one that passes is found before the end
found-before : {X : Type 0} (test : X → Bool) (xs ys : List X) (x : X) → test x ≡ true
    → position_or_len test (xs ++ x ∷ ys) < length (xs ++ x ∷ ys)
found-before test [] ys x passes = rw passes (omega arith)
found-before {X} test (y ∷ xs) ys x passes = by-test (test y) (found-before test xs ys x passes)
  where
    by-test : (t : Bool) → position_or_len test (xs ++ x ∷ ys) < length (xs ++ x ∷ ys)
        → cond (not t) (1 + position_or_len test (xs ++ x ∷ ys)) 0 < suc (length (xs ++ x ∷ ys))
    by-test true later = omega arith
    by-test false later = omega (arith, later)

pub entered-once : EnteredOnce
entered-once before after seal first second =
    let history = before ++ commands.Enter seal first ∷ after in
    let runs = runs_of before ++ (seal, length first.changes) ∷ runs_of after in
    let are : runs_of history ≡ runs = runs-append before (commands.Enter seal first ∷ after) in
    let at = position_or_len (has_seal seal) runs in
    let within : at < length runs =
    found-before (has_seal seal) (runs_of before) (runs_of after) (seal, length first.changes) (same-seal seal) in
    let there : run_of runs seal ≡ Some (suc at) = rw (lt-ltb _ _ within) refl in
    let known : run_of (runs_of history) seal ≡ Some (suc at) = rw are there in
    record { number = suc at; first = known; known = rw known refl; same = rw known refl }
  where
    same-seal : (seal : Seal) → has_seal seal (seal, length first.changes) ≡ true
    same-seal seal = (bytes_eq-Decides seal.bytes seal.bytes).1 refl
