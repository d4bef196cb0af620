-- Answers to the goals of `path_places` in src/path_starts.rt.
use Rattle.std.proofs.Common.{◌≡◌, ℕ, ◌+◌, List, length, take, get_or, Option, None, sym, ◌∙◌, ap, subst}
use Rattle.sheet_base.specs.declared.paths.PathRow.{PathRow}
use Rattle.sheet_base.specs.declared.edits.Edit.{Edit}
use Rattle.sheet_base.specs.declared.paths.PathKind.TheVariants.{Dot}
use Rattle.sheet_base.specs.Sheets.{AreTiled}
use Rattle.change_places.specs.declared.path_starts.Key.TheVariants.{Path, Point}
use Rattle.change_places.specs.PathPlaces.{printed_edits, places_from}
use Rattle.change_places.specs.InsidePlaces.{AreFirsts}
use Rattle.change_places.proofs.MorePaths.{one_more_at}
use Rattle.change_places.proofs.path_starts.path_places.Goals as goal

pub loop-number-preserved : goal.loop-number-preserved
loop-number-preserved c =
    let sheet = c.args.sheet.now in
    let rows = c.paths-rows.result.now in
    let none_row : PathRow = record { kind = Dot; first = 0; past = 0 } in
    let edits = printed_edits c.args.drawing c.args.bytes.now sheet.edits in
    let kept = c.paths-rows.ensures.sheet in
    let tiled : AreTiled rows 0 (length sheet.points) =
    subst (λ (rs : List PathRow). AreTiled rs 0 (length sheet.points)) (sym c.paths-rows.ensures.paths)
    kept.tiled in
    let same : c.in_ok-edits.edits.items ≡ edits = c.in_ok-edits.ensures
    ∙ ap (printed_edits c.args.drawing c.args.bytes.now) c.edits.ensures in
    let paths : AreFirsts Path edits (length rows) c.in_ok-by_path.by_path.items =
    subst (λ (es : List Edit). AreFirsts Path es (length rows) c.in_ok-by_path.by_path.items) same
    (rw c.deref.ensures.value at c.in_ok-by_path.ensures) in
    let spots : AreFirsts Point edits (length sheet.points) c.in_ok-by_point.by_point.items
    = subst (λ (es : List Edit). AreFirsts Point es (length sheet.points) c.in_ok-by_point.by_point.items) same
    (rw (c.deref-2.ensures.value, c.points.ensures.points) at c.in_ok-by_point.ensures) in
    let begun : c.loop-number.places.items ≡ places_from edits 0 (take c.loop-number.number rows)
    = c.loop-number.invariant ∙ ap (λ (rs : List PathRow). places_from edits 0 (take c.loop-number.number rs))
    (sym c.paths-rows.ensures.paths) in
    subst (λ (rs : List PathRow). c.push.new.self.items ≡ places_from edits 0 (take (c.loop-number.number + 1) rs))
    c.paths-rows.ensures.paths
    (one_more_at edits rows c.loop-number.number (length sheet.points) none_row c.start_at-own.result
    c.start_at-first.result c.first_of.result c.in_ok-by_path.by_path.items c.in_ok-by_point.by_point.items
    c.loop-number.places.items
    c.push.new.self.items tiled c.loop-number-test.true paths spots begun
    (c.start_at-own.ensures ∙ ap (λ (starts : List (Option ℕ)). get_or starts c.loop-number.number None)
    c.deref-in-loop-number.ensures.value)
    (c.start_at-first.ensures ∙ ap (λ (starts : List (Option ℕ)). get_or starts
    (get_or rows c.loop-number.number none_row).first None) c.deref-in-loop-number-2.ensures.value)
    c.first_of.ensures c.in_ok-push.ensures.items)
