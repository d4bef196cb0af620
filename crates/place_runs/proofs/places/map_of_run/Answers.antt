-- Answers to the goals of `map_of_run` in src/places.rt.
use Rattle.std.proofs.Common.{rules, List, refl, sym, subst}
use Rattle.tin_base.specs.declared.pieces.Piece.{Piece}
use Rattle.topo_check.specs.Changes.{AreAllComparable}
use Rattle.runs.proofs.PassedRefusals.{handed_on}
use Rattle.migrate_mode.specs.RunChanges.{AreListed}
use Rattle.migrate_mode.specs.RunContents.{by_sides}
use Rattle.place_runs.specs.declared.change_maps.ChangeMap.{ChangeMap}
use Rattle.place_runs.specs.InsideMaps.{words_on, rings_on}
use Rattle.place_runs.specs.InsideSides.{AreSomeRingsOf}
use Rattle.place_runs.proofs.PrintedMaps.MapTexts.{printed_map}
use Rattle.place_runs.proofs.places.map_of_run.Goals as goal

pub list_changes-requires-clause-comparable : goal.list_changes-requires-clause-comparable
list_changes-requires-clause-comparable c =
    subst (λ (ps : List Piece). AreAllComparable c.args.tin.now ps) (sym c.deref.ensures.value) c.requires.comparable

pub returns-in_err-rings-clause-refused : goal.returns-in_err-rings-clause-refused
returns-in_err-rings-clause-refused c =
    let listed : AreListed c.args.tin.now c.args.placed.run.pieces.items c.in_ok-changes.changes.items = search rules in
    handed_on _ c.in_err-rings.field-0.0 c.from_residual-in_err-rings.result c.from_residual-in_err-rings.ensures.1
    (by_sides c.in_ok-changes.changes.items listed c.in_err-rings.ensures.refused)

pub returns-clause-ok : goal.returns-clause-ok
returns-clause-ok c =
    let view = c.args.view.now in
    let tin = c.args.tin.now in
    let placed = c.args.placed in
    let run = placed.run in
    let on : ChangeMap = record {
      style = c.style_of.result;
      pieces = placed.run.pieces;
      places = placed.places;
      texts = placed.texts;
      changes = c.keep_printed.new.changes;
      rings = c.in_ok-rings.rings;
    } in
    let all = c.in_ok-changes.changes.items in
    let listed : AreListed tin run.pieces.items all = search rules in
    let some : AreSomeRingsOf run.sides view.across run.sheets.items run.images.items (words_on on) (rings_on on) =
    rw (c.deref-2.ensures.value, c.deref-3.ensures.value) at c.in_ok-rings.ensures.ok in
    printed_map view tin run on all some.0 _ listed c.style_of.ensures refl c.keep_printed.ensures some.1
    (rw (c.deref-4.ensures.value, c.deref-5.ensures.value) at c.is_some_feature-changed.ensures)
