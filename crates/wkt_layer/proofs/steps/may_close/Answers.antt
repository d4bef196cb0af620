-- Answers to the goals of `may_close` in src/steps.rt.
use Rattle.std.proofs.Common.{◌∷◌, map, sym, ◌∙◌}
use Rattle.sheet_base.specs.Rings.{is_same_height, is_closed}
use Rattle.wkt_layer.specs.Numbers.{place_of, height_of}
use Rattle.wkt_layer.specs.Geometries.{last_behind}
use Rattle.wkt_layer.proofs.SheetLaws.Sheets.{both_hold, one_fails}
use Rattle.wkt_layer.proofs.steps.may_close.Goals as goal

pub returns-then-is_closed_plane : goal.returns-then-is_closed_plane
returns-then-is_closed_plane c = λ done one more held.
    both_hold (is_closed (map place_of (one ∷ more)))
    (is_same_height (height_of one) (height_of (last_behind one more)))
    c.has_level_ends.result (sym (c.is_closed_plane.ensures done one more held) ∙ c.if-is_closed_plane.true)
    (c.has_level_ends.ensures done one more held)

pub returns-else-is_closed_plane : goal.returns-else-is_closed_plane
returns-else-is_closed_plane c = λ done one more held.
    one_fails (is_closed (map place_of (one ∷ more)))
    (is_same_height (height_of one) (height_of (last_behind one more)))
    (sym (c.is_closed_plane.ensures done one more held) ∙ c.if-is_closed_plane.false)
