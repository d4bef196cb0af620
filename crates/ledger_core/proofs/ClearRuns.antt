-- When a run is clear, and that decisions stay.
use Rattle.std.proofs.Common.{◌≡◌, ◌≢◌, ℕ, Bool, true, false, cond, List, [], ◌∷◌, refl, arith, ◌∙◌}
use Rattle.std.specs.List.{AllByRecursion}
use Rattle.std.proofs.lemmas.Bool.{and_parts, and_from, ltb-true, leb-true, lt-ltb, le-leb, both_ways}
use Rattle.ledger_core.specs.declared.pairs.PairRow.{PairRow}
use Rattle.ledger_core.specs.declared.pairs.Verdict.{Verdict}
use Rattle.ledger_core.specs.declared.pairs.Verdict.TheVariants as verdicts
use Rattle.ledger_core.specs.declared.commands.Reply.TheVariants.{Cleared, NoRun}
use Rattle.ledger_core.specs.Kept.{is_open, is_undecided, open_pairs}
use Rattle.ledger_core.specs.Replies.{has_run, clearance_of}
use Rattle.ledger_core.specs.Histories.{verdict_in}
use Rattle.ledger_core.specs.Laws.{IsClear, ClearIsDecided, DecisionsStand}
use Rattle.ledger_core.proofs.OpenPairs.{open-parts, open-from}
use Rattle.ledger_core.proofs.Verdicts.{or_verdict, verdict-append}

abbrev IsDecided : ℕ → PairRow → Type 0
IsDecided run row = row.run ≡ run → row.verdict ≢ verdicts.Undecided

-- where no pair is open, each pair of the run is decided
decided-from-none : (run : ℕ) (rows : List PairRow) → open_pairs rows run 0 ≡ [] → AllByRecursion (IsDecided run) rows
decided-from-none run [] none = tt
decided-from-none run (row ∷ rows) none = by-test (is_open run 0 row) refl (decided-from-none run rows) none
  where
    by-test : (t : Bool) → is_open run 0 row ≡ t
        → (open_pairs rows run 0 ≡ [] → AllByRecursion (IsDecided run) rows)
        → cond t (row ∷ open_pairs rows run 0) (open_pairs rows run 0) ≡ []
        → AllByRecursion (IsDecided run) (row ∷ rows)
    by-test true is later none = cc
    by-test false is later none = (
      λ of-run undecided. both_ways _ is (open-from run 0 row (record {
        of_run = of-run;
        place = omega arith;
        undecided = rw undecided refl;
      })),
      later none,
    )

undecided-is : (verdict : Verdict) → is_undecided verdict ≡ true → verdict ≡ verdicts.Undecided
undecided-is verdicts.Undecided is = refl
undecided-is verdict is = cc

-- where each pair of the run is decided, none is open
none-from-decided : (run : ℕ) (rows : List PairRow) → AllByRecursion (IsDecided run) rows → open_pairs rows run 0 ≡ []
none-from-decided run [] decided = refl
none-from-decided run (row ∷ rows) decided =
    by-test (is_open run 0 row) refl (none-from-decided run rows decided.1)
  where
    by-test : (t : Bool) → is_open run 0 row ≡ t → open_pairs rows run 0 ≡ []
        → cond t (row ∷ open_pairs rows run 0) (open_pairs rows run 0) ≡ []
    by-test true is later =
        let here = open-parts run 0 row is in
        absurd (decided.0 here.of_run (undecided-is row.verdict here.undecided))
    by-test false is later = later

nothing-waits : (rows : List PairRow) → clearance_of rows ≡ Cleared → rows ≡ []
nothing-waits [] is = refl
nothing-waits (row ∷ rows) is = cc

pub clear-is-decided : ClearIsDecided
clear-is-decided all run = (forth (has_run all run) refl, back)
  where
    forth : (t : Bool) → has_run all run ≡ t
        → cond t (clearance_of (open_pairs all.pairs run 0)) NoRun ≡ Cleared → IsClear all run
    forth true there is =
        let parts = and_parts _ _ there in
        record {
          first = ltb-true _ _ parts.0;
          last = leb-true _ _ parts.1;
          decided = decided-from-none run all.pairs (nothing-waits (open_pairs all.pairs run 0) is);
        }
    forth false there is = cc

    back : IsClear all run → cond (has_run all run) (clearance_of (open_pairs all.pairs run 0)) NoRun ≡ Cleared
    back clear =
        let there : has_run all run ≡ true =
        and_from _ _ (lt-ltb _ _ clear.first) (le-leb _ _ clear.last) in
        rw (there, none-from-decided run all.pairs clear.decided) refl

pub decisions-stand : DecisionsStand
decisions-stand history more run place decided =
    verdict-append history more run place ∙ first-stands (verdict_in history run place) _ decided
  where
    first-stands : (first other : Verdict) → first ≢ verdicts.Undecided → or_verdict first other ≡ first
    first-stands verdicts.Undecided other not = absurd (not refl)
    first-stands _ other not = refl
