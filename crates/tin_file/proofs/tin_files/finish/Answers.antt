-- Answers to the goals of `finish` in src/tin_files.rt.
use Rattle.std.proofs.Common.{◌≡◌, ◌∙◌, List, ℕ, length, map, ap, sym, subst}
use Rattle.std.specs.Prelude.{Ok}
use Rattle.std.proofs.lemmas.List.{with_items_is, length-map}
use Rattle.tin_base.specs.declared.corners.Corner.{Corner}
use Rattle.tin_base.specs.declared.frames.Frame.TheVariants as frames
use Rattle.tin_base.specs.Triangulation.{triangulation}
use Rattle.tin_base.specs.Limits.{IsWithinLimits}
use Rattle.tin_file.specs.Corners.{counterclockwise_face, spans}
use Rattle.tin_file.specs.RowContents.{AreInReach, AreFacesOf}
use Rattle.tin_file.proofs.CallerLemmas.CompleteRows.{AreNarrow, narrow, near_all, corners_reach, triangles_faces, limits}
use Rattle.tin_file.proofs.CallerLemmas.CompleteRows.{spans_pass}
use Rattle.tin_file.proofs.tin_files.finish.Goals as goal

pub check_spans-requires : goal.check_spans-requires
check_spans-requires c =
    let (rows, faces, h) = c.requires in
    subst AreInReach (sym c.deref.ensures.value) (corners_reach c.args.vertices c.args.triangles.items rows faces h)

pub orient-requires-clause-near : goal.orient-requires-clause-near
orient-requires-clause-near c =
    near_all c.deref-2.result.now (subst AreNarrow (c.deref.ensures.value ∙ sym c.deref-2.ensures.value)
    (narrow c.deref.result.now c.in_ok-check_spans.ensures)) frames.Source

pub orient-requires-clause-faces : goal.orient-requires-clause-faces
orient-requires-clause-faces c =
    let (rows, faces, h) = c.requires in
    subst (λ (cs : List Corner). AreFacesOf cs c.deref_mut.result.now) (sym c.deref-2.ensures.value)
    (subst (AreFacesOf c.args.vertices.corners.items) (sym c.deref_mut.ensures.value)
    (triangles_faces c.args.vertices c.args.triangles.items rows faces h))

pub of-requires : goal.of-requires
of-requires c =
    let (rows, faces, h) = c.requires in
    let corners = c.args.vertices.corners.items in
    let made : c.orient.new.triangles ≡ map (counterclockwise_face corners) c.args.triangles.items =
    c.orient.ensures ∙ ap (λ (cs : List Corner). map (counterclockwise_face cs) c.deref_mut.result.now) c.deref-2.ensures.value
    ∙ ap (map (counterclockwise_face corners)) c.deref_mut.ensures.value in
    let whole : length c.orient.new.triangles ≡ c.args.triangles.len = ap length made
    ∙ length-map c.args.triangles.items (counterclockwise_face corners) ∙ sym c.args.triangles.ok.0 in
    subst (λ (ts : List (List ℕ)). IsWithinLimits (triangulation corners ts c.args.vertices.inexact))
    (sym (with_items_is c.args.triangles c.orient.new.triangles whole ∙ made))
    (limits c.args.vertices c.args.triangles.items rows faces h
    (subst AreNarrow c.deref.ensures.value (narrow c.deref.result.now c.in_ok-check_spans.ensures))
    c.args.vertices.inexact)

pub returns : goal.returns
returns c rows faces h =
    let corners = c.args.vertices.corners.items in
    let made : c.orient.new.triangles ≡ map (counterclockwise_face corners) c.args.triangles.items =
    c.orient.ensures ∙ ap (λ (cs : List Corner). map (counterclockwise_face cs) c.deref_mut.result.now) c.deref-2.ensures.value
    ∙ ap (map (counterclockwise_face corners)) c.deref_mut.ensures.value in
    let whole : length c.orient.new.triangles ≡ c.args.triangles.len = ap length made
    ∙ length-map c.args.triangles.items (counterclockwise_face corners) ∙ sym c.args.triangles.ok.0 in
    ap Ok (c.of.ensures ∙ ap (λ (ts : List (List ℕ)). triangulation corners ts c.args.vertices.inexact)
    (with_items_is c.args.triangles c.orient.new.triangles whole ∙ made))
    ∙ spans_pass c.args.vertices c.args.triangles.items rows faces h
    (subst (λ (cs : List Corner). Ok tt ≡ spans cs) c.deref.ensures.value c.in_ok-check_spans.ensures)
