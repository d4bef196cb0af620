-- The seals of runs in memory, in their table.
use Rattle.std.proofs.Common.{◌≡◌, ℕ, suc, ◌+◌, ◌≤◌, Bool, ◌||◌, true, false, cond, not, nat_lt, List, [], ◌∷◌, ◌++◌, length, map, Option, None, Some}
use Rattle.std.proofs.Common.{refl, ap, sym, ◌∙◌, arith}
use Rattle.std.specs.List.{position, position_or_len, list_any}
use Rattle.std.specs.Option.{option_map}
use Rattle.std.proofs.lemmas.List.{length-map}
use Rattle.std.proofs.lemmas.Bool.{ltb-false}
use Rattle.indexmap.specs.IndexSet.{insert_key}
use Rattle.ledger_core.specs.declared.pairs.Seal.{Seal}
use Rattle.ledger_core.specs.declared.mem_runs.RunPairs.{RunPairs}
use Rattle.ledger_core.specs.contracts.pairs.SealPartialEq.TheImpl as equality
use Rattle.ledger_core.specs.Kept.{has_seal, run_of}
use Rattle.ledger_core.specs.MemoryRuns.{seal_of, entry_of_run}

same-places : (seal : Seal) (runs : List RunPairs)
    → position_or_len ((equality.eq-value).it seal) (map seal_of runs)
    ≡ position_or_len (has_seal seal) (map entry_of_run runs)
same-places seal [] = refl
same-places seal (run ∷ runs) =
    ap (λ n. cond (not (has_seal seal (entry_of_run run))) (1 + n) 0) (same-places seal runs)

-- the run of a seal is the one at its place in the table
pub run-of-seal : (seal : Seal) (runs : List RunPairs)
    → run_of (map entry_of_run runs) seal
    ≡ option_map suc (position ((equality.eq-value).it seal) (map seal_of runs))
run-of-seal seal runs =
    rw (same-places seal runs, length-map runs seal_of, length-map runs entry_of_run) refl

any-none : {X : Type 0} (test : X → Bool) (xs : List X) → length xs ≤ position_or_len test xs → list_any test xs ≡ false
any-none test [] past = refl
any-none {X} test (x ∷ xs) past = by-test (test x) (any-none test xs) past
  where
    by-test : (t : Bool) → (length xs ≤ position_or_len test xs → list_any test xs ≡ false)
        → suc (length xs) ≤ cond (not t) (1 + position_or_len test xs) 0 → (t || list_any test xs) ≡ false
    by-test true later past = absurd (omega (arith, past))
    by-test false later past = later (omega (arith, past))

none-then : (test : Seal → Bool) (seals : List Seal) → position test seals ≡ None → list_any test seals ≡ false
none-then test seals none = by-test (nat_lt (position_or_len test seals) (length seals)) refl none
  where
    by-test : (t : Bool) → nat_lt (position_or_len test seals) (length seals) ≡ t
        → cond t (Some (position_or_len test seals)) None ≡ None → list_any test seals ≡ false
    by-test true is none = cc
    by-test false is none = any-none test seals (ltb-false _ _ is)

-- a new seal goes last
pub new-seal : (seal : Seal) (runs : List RunPairs) → run_of (map entry_of_run runs) seal ≡ None
    → insert_key ((equality.eq-value).it) (map seal_of runs) seal ≡ map seal_of runs ++ seal ∷ []
new-seal seal runs new =
    let none : position ((equality.eq-value).it seal) (map seal_of runs) ≡ None = by-option _ (sym (run-of-seal seal runs) ∙ new) in
    rw (none-then ((equality.eq-value).it seal) (map seal_of runs) none) refl
  where
    by-option : (o : Option ℕ) → option_map suc o ≡ None → o ≡ None
    by-option None is = refl
    by-option (Some n) is = cc
