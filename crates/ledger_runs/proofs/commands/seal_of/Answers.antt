-- Answers to the goals of `seal_of` in src/commands.rt.
use Rattle.std.proofs.Common.{arith, ◌≡◌, ◌+◌, ◌++◌, ◌∷◌, drop, sym, ap, ◌∙◌, subst, ℕ, List, Option, IfSome}
use Rattle.std.proofs.lemmas.Result.{err_from_is_err_and}
use Rattle.sha2.specs.Hashers.{Holds256}
use Rattle.shelf_io.specs.Count.{Rose}
use Rattle.shelf_io.specs.Files.{Files}
use Rattle.file_digests.specs.Digests.{IsDigestOf}
use Rattle.ledger_runs.specs.declared.commands.TheConstants.{MOST_LAYER}
use Rattle.ledger_runs.specs.Ends.{IsUnread}
use Rattle.ledger_runs.specs.InsideEntries.{DigestFails}
use Rattle.ledger_runs.proofs.EntryRuns.{drop-here, as-before, digested-more, sealed, layer-refused}
use Rattle.ledger_runs.proofs.GivenBytes.{passed-behind}
use Rattle.ledger_runs.proofs.commands.seal_of.Goals as goal

pub returns-in_err-next-clause-err : goal.returns-in_err-next-clause-err
returns-in_err-next-clause-err g c =
    let shelf = g.S.Shelf in
    let layers = c.args.layers.now in
    let at = c.loop-layer.layer-index in
    let now = shelf.faults c.layer_digest.new.shelf in
    let refusal = c.in_err-next.field-0.0 in
    let p = err_from_is_err_and c.from_residual.result c.from_residual.ensures.1 in
    let here : drop at layers ≡ c.layer-item.result ∷ drop (at + 1) layers =
    drop-here layers at c.layer-item.result c.loop-layer-test.true
    ∙ ap (λ (l : List ℕ). l ∷ drop (at + 1) layers) (sym c.layer-item.is) in
    let fails = as-before (λ (told : Option Files) (before : ℕ).
    IfSome told (λ all. DigestFails (IsUnread all (Rose before now)) all c.args.line c.layer-item.result refusal))
    (shelf.files c.args.shelf.now) (shelf.files c.loop-layer.shelf) (shelf.faults c.args.shelf.now)
    (shelf.faults c.loop-layer.shelf) c.loop-layer.invariant.files c.loop-layer.invariant.faults c.in_err-next.ensures.err in
    rw (p.1, p.2)
    (layer-refused (shelf.files c.args.shelf.now) (shelf.faults c.args.shelf.now) now c.args.line c.args.report.now layers at
    c.loop-layer.hasher c.layer-item.result refusal c.loop-layer.invariant.digested here fails)

pub returns-in_err-next-clause-passed : goal.returns-in_err-next-clause-passed
returns-in_err-next-clause-passed g c =
    let shelf = g.S.Shelf in
    let p = err_from_is_err_and c.from_residual.result c.from_residual.ensures.1 in
    rw (p.1, p.2)
    (λ (left : ℕ). passed-behind left (shelf.given c.args.shelf.now) (shelf.given c.loop-layer.shelf)
    (shelf.given c.layer_digest.new.shelf) c.in_err-next.field-0.0 c.loop-layer.invariant.given_later
    (c.in_err-next.ensures.passed left))

pub loop-layer-preserved : goal.loop-layer-preserved
loop-layer-preserved g c =
    let shelf = g.S.Shelf in
    let layers = c.args.layers.now in
    let at = c.loop-layer.layer-index in
    let here : drop at layers ≡ c.layer-item.result ∷ drop (at + 1) layers =
    drop-here layers at c.layer-item.result c.loop-layer-test.true
    ∙ ap (λ (l : List ℕ). l ∷ drop (at + 1) layers) (sym c.layer-item.is) in
    let is : IfSome (shelf.files c.args.shelf.now) (IsDigestOf c.layer-item.result MOST_LAYER c.in_ok-next.next) =
    subst (λ (told : Option Files). IfSome told (IsDigestOf c.layer-item.result MOST_LAYER c.in_ok-next.next))
    c.loop-layer.invariant.files c.in_ok-next.ensures.ok in
    let feeds : (message : List ℕ) → Holds256 c.loop-layer.hasher message
    → Holds256 c.update-in-loop-layer.new.self (message ++ c.in_ok-next.next) =
    λ message holds. subst (λ (piece : List ℕ). Holds256 c.update-in-loop-layer.new.self (message ++ piece))
    c.as_slice-in-loop-layer.ensures (c.update-in-loop-layer.ensures message holds) in
    record {
      files = c.in_ok-next.ensures.files ∙ c.loop-layer.invariant.files;
      faults = c.in_ok-next.ensures.faults.same ∙ c.loop-layer.invariant.faults;
      given_later = omega (arith, c.loop-layer.invariant.given_later, c.in_ok-next.ensures.given_later);
      digested = digested-more (shelf.files c.args.shelf.now) (shelf.faults c.args.shelf.now) c.args.line
          c.args.report.now layers at c.loop-layer.hasher c.update-in-loop-layer.new.self c.layer-item.result
          c.in_ok-next.next c.loop-layer.invariant.digested here is feeds;
    }

pub returns-clause-ok : goal.returns-clause-ok
returns-clause-ok g c =
    let shelf = g.S.Shelf in
    sealed (shelf.files c.args.shelf.now) (shelf.faults c.args.shelf.now) c.args.line c.args.report.now c.args.layers.now
    c.loop-layer.layer-index c.loop-layer.hasher (record { bytes = c.finalize.result }) c.loop-layer.invariant.digested
    c.loop-layer-test.false c.finalize.ensures
