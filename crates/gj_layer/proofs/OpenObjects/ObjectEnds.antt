-- The end of an object.
use Rattle.std.proofs.Common.{◌≡◌, ℕ, ◌+◌, List, [], ◌∷◌, ◌++◌, length, refl, ap, ◌∙◌, append_assoc, length-append}
use Rattle.std.proofs.Common.{true, arith}
use Rattle.std.specs.Prelude.{Option}
use Rattle.sheet_base.specs.declared.edits.Edit.{Edit}
use Rattle.sheet_base.specs.declared.edits.What.{What}
use Rattle.sheet_base.specs.declared.edits.What.TheVariants.{Bounds, Null}
use Rattle.gj_layer.specs.declared.frames.Ending.{Ending}
use Rattle.gj_layer.specs.declared.pass.PathsRead.{PathsRead}
use Rattle.gj_layer.specs.Objects.{object_part}
use Rattle.gj_layer.specs.Paths.{Part, joint_part}
use Rattle.gj_layer.specs.InsideNodes.{Holds}
use Rattle.gj_layer.specs.InsideFrames.{Own, edit_at, in_order, fronts, behinds, edit_list, own_edits, IsEndingOf}
use Rattle.gj_layer.proofs.Coordinates.PathsSoFar.{length-rows_from}

fronts-append : (place : ℕ) (one other : List Edit)
    → fronts place (one ++ other) ≡ fronts place one ++ fronts place other
fronts-append place [] other = refl
fronts-append place (edit ∷ one) other = grind (arith, (fronts-append place one other))

behinds-append : (place : ℕ) (one other : List Edit)
    → behinds place (one ++ other) ≡ behinds place one ++ behinds place other
behinds-append place [] other = refl
behinds-append place (edit ∷ one) other = grind (arith, (behinds-append place one other))

five : (a b c d e f : List Edit) → ((a ++ b) ++ c) ++ ((d ++ e) ++ f) ≡ a ++ ((b ++ c) ++ (d ++ (e ++ f)))
five a b c d e f = simp append_assoc

two_puts : (place : ℕ) (front inner one other : List Edit)
    → ((front ++ fronts place one) ++ fronts place other) ++ ((inner ++ behinds place one) ++ behinds place other)
    ≡ front ++ (fronts place (one ++ other) ++ (inner ++ behinds place (one ++ other)))
two_puts place front inner one other = grind (arith, five, fronts-append, behinds-append)

module _ (old new : PathsRead) (ending : Ending) (own : Own) (before done : Part)
    (is : IsEndingOf ending own (length before.paths) before) (bare : own.bare ≡ true → done.edits ≡ [])
    (held : Holds old (joint_part before done)) (bounds : What) (bbox crs one other : Option Edit) (past : ℕ)
    (past_is : past ≡ length old.paths.items) (bounds_is : bounds ≡ Bounds ending.first past)
    (bbox_is : edit_list bbox ≡ edit_at ending.bbox bounds) (crs_is : edit_list crs ≡ edit_at ending.crs Null)
    (ordered : edit_list one ++ edit_list other ≡ in_order (edit_list bbox) (edit_list crs)) where
  -- the object's bounds are those of its paths
  bounds_so : bounds ≡ Bounds (length before.paths) (length before.paths + length done.paths)
  bounds_so = grind (arith, length-rows_from, length-append)

  own_so : edit_list one ++ edit_list other ≡ own_edits ending bounds
  own_so = ordered ∙ ap (λ es. in_order es (edit_list crs)) bbox_is ∙ ap (in_order (edit_at ending.bbox bounds)) crs_is

  pub end_holds : new.paths.items ≡ old.paths.items → new.points.items ≡ old.points.items
      → new.heights ≡ old.heights → new.inexact ≡ old.inexact
      → new.edits.items ≡ ((before.edits ++ fronts ending.content (edit_list one)) ++ fronts ending.content (edit_list other))
      ++ ((done.edits ++ behinds ending.content (edit_list one)) ++ behinds ending.content (edit_list other))
      → Holds new (joint_part before (object_part own.holder own.type (length before.paths) own.members done))
  end_holds paths points heights inexact edits = grind (arith, two_puts, own_so, bounds_so)
