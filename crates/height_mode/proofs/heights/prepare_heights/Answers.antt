-- Answers to the goals of `prepare_heights` in src/heights.rt.
use Rattle.std.proofs.Common.{◌≡◌, ◌≤◌, ◌∙◌, List, [], ◌∷◌, rules, refl, sym, ap, ap₂, subst, map}
use Rattle.runs.specs.declared.loads.TheConstants.{MOST_BYTES}
use Rattle.runs.specs.declared.output.LayerFile.{LayerFile}
use Rattle.runs.specs.declared.refusal.Refusal.TheVariants.{NoMemory}
use Rattle.runs.specs.Output.{file_of, name_in}
use Rattle.runs.proofs.BytesPassed.{passed_since}
use Rattle.runs.proofs.PassedRefusals.{handed_on}
use Rattle.runs.proofs.TinRefusals.{has_file}
use Rattle.height_mode.specs.Talls.{tall_of}
use Rattle.height_mode.proofs.HeightSteps.{tall_refused, tall_causes, list_refused, list_causes, unmoved_refused}
use Rattle.height_mode.proofs.HeightSteps.{unmoved_causes, all_moved}
use Rattle.height_mode.proofs.heights.prepare_heights.Goals as goal

pub returns-in_err-tall-clause-refused : goal.returns-in_err-tall-clause-refused
returns-in_err-tall-clause-refused g c =
    handed_on _ c.in_err-tall.field-0.0 c.from_residual.result c.from_residual.ensures.1
    (tall_refused (g.S.Shelf.files c.args.shelf.now) c.args.heights.now _ _ c.in_err-tall.field-0.0
    (rw c.text.ensures at c.in_err-tall.ensures.refused))

pub returns-in_err-tall-clause-causes : goal.returns-in_err-tall-clause-causes
returns-in_err-tall-clause-causes g c =
    handed_on _ c.in_err-tall.field-0.0 c.from_residual.result c.from_residual.ensures.1
    (tall_causes (g.S.Shelf.files c.args.shelf.now) c.args.heights.now _ c.in_err-tall.field-0.0
    (rw c.text.ensures at c.in_err-tall.ensures.refused))

pub returns-in_err-bytes-clause-refused : goal.returns-in_err-bytes-clause-refused
returns-in_err-bytes-clause-refused g c =
    handed_on _ c.in_err-bytes.field-0.0 c.from_residual-in_err-bytes.result c.from_residual-in_err-bytes.ensures.1
    (list_refused (g.S.Shelf.files c.args.shelf.now) c.args.heights.now (tall_of c.in_ok-tall.tall) _ _
    c.in_err-bytes.field-0.0 (rw c.text.ensures at c.in_ok-tall.ensures.ok)
    (rw (c.in_ok-tall.ensures.files, c.in_ok-tall.ensures.faults.same, c.text-2.ensures) at
    c.in_err-bytes.ensures.refused))

pub returns-in_err-bytes-clause-causes : goal.returns-in_err-bytes-clause-causes
returns-in_err-bytes-clause-causes g c =
    let before = c.in_ok-tall.ensures.given in
    handed_on _ c.in_err-bytes.field-0.0 c.from_residual-in_err-bytes.result c.from_residual-in_err-bytes.ensures.1
    (list_causes (g.S.Shelf.files c.args.shelf.now) c.args.heights.now _ _ c.in_err-bytes.field-0.0
    (λ past. passed_since _ _ _ _ before past)
    (rw (c.in_ok-tall.ensures.files, c.in_ok-tall.ensures.faults.same, c.text-2.ensures) at
    c.in_err-bytes.ensures.refused))

pub returns-in_err-moved-clause-refused : goal.returns-in_err-moved-clause-refused
returns-in_err-moved-clause-refused g c =
    handed_on _ c.in_err-moved.field-0.0 c.from_residual-in_err-moved.result c.from_residual-in_err-moved.ensures.1
    (unmoved_refused (g.S.Shelf.files c.args.shelf.now) c.args.heights.now (tall_of c.in_ok-tall.tall)
    c.in_ok-bytes.bytes.items _ c.in_err-moved.field-0.0 (rw c.text.ensures at c.in_ok-tall.ensures.ok)
    (has_file (g.S.Shelf.files c.args.shelf.now) c.args.heights.now.points c.in_ok-bytes.bytes.items
    (rw (c.in_ok-tall.ensures.files, c.text-2.ensures) at c.in_ok-bytes.ensures.ok)
    (subst (λ n. n ≤ MOST_BYTES) c.in_ok-bytes.bytes.ok.0 c.in_ok-bytes.ensures.within))
    (rw c.deref.ensures.value at c.in_err-moved.ensures.refused))

pub returns-in_err-moved-clause-causes : goal.returns-in_err-moved-clause-causes
returns-in_err-moved-clause-causes g c =
    handed_on _ c.in_err-moved.field-0.0 c.from_residual-in_err-moved.result c.from_residual-in_err-moved.ensures.1
    (unmoved_causes c.args.heights.now.how (tall_of c.in_ok-tall.tall) c.deref.result.now _ _
    c.in_err-moved.field-0.0 c.in_err-moved.ensures.refused)

pub returns-clause-ok : goal.returns-clause-ok
returns-clause-ok g c =
    all_moved (g.S.Shelf.files c.args.shelf.now) c.args.heights.now (tall_of c.in_ok-tall.tall)
    c.in_ok-bytes.bytes.items c.in_ok-moved.moved.text c.in_ok-moved.moved.count c.in_ok-moved.moved.inexact
    c.in_ok-written.written (rw c.text.ensures at c.in_ok-tall.ensures.ok)
    (has_file (g.S.Shelf.files c.args.shelf.now) c.args.heights.now.points c.in_ok-bytes.bytes.items
    (rw (c.in_ok-tall.ensures.files, c.text-2.ensures) at c.in_ok-bytes.ensures.ok)
    (subst (λ n. n ≤ MOST_BYTES) c.in_ok-bytes.bytes.ok.0 c.in_ok-bytes.ensures.within))
    (rw c.deref.ensures.value at c.in_ok-moved.ensures.ok) (rw c.in_ok-written.ensures.unchanged refl)
    (rw c.tin.ensures at c.in_ok-written.ensures.files)
