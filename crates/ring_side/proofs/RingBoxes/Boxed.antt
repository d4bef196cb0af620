-- The least box of some points.
use Rattle.std.proofs.Common.{◌≡◌, List, [], ◌∷◌, ◌++◌, sym, subst, arith}
use Rattle.plane_base.specs.declared.shapes.Pt.{Pt}
use Rattle.plane_base.specs.declared.shapes.Rect.{Rect}
use Rattle.plane_base.specs.Boxes.{box_of_point, box_with_point}
use Rattle.plane_base.proofs.Bounds.BoxLemmas.{point_has, point_least, widened_has, widened_least}
use Rattle.ring_side.specs.InsideParts.{HasAll}
use Rattle.ring_side.specs.InsideGroups.{IsLeastBox}
use Rattle.ring_side.proofs.RingBoxes.RingParts.{has_all-append, has_all_outer}

pub least_of_one : (box : Rect) (p : Pt) → box ≡ box_of_point p → IsLeastBox box (p ∷ [])
least_of_one box p e = grind (arith, point_has, point_least)

front_has : (outer : Rect) (ps qs : List Pt) → HasAll outer (ps ++ qs) → HasAll outer ps
front_has outer [] qs h = tt
front_has outer (p ∷ ps) qs h = (h.0, front_has outer ps qs h.1)

back_has : (outer : Rect) (ps qs : List Pt) → HasAll outer (ps ++ qs) → HasAll outer qs
back_has outer [] qs h = h
back_has outer (p ∷ ps) qs h = back_has outer ps qs h.1

pub least_of_more : (box more : Rect) (ps : List Pt) (p : Pt) → more ≡ box_with_point box p → IsLeastBox box ps
    → IsLeastBox more (ps ++ p ∷ [])
least_of_more box more ps p e is =
    let widens = widened_has box p in
    subst (λ (r : Rect). IsLeastBox r (ps ++ p ∷ [])) (sym e) (record {
      has = has_all-append (box_with_point box p) ps (p ∷ []) (has_all_outer (box_with_point box p) box ps widens.1 is.has) (widens.0, tt);
      least = λ (outer : Rect) (has : HasAll outer (ps ++ p ∷ [])).
          widened_least outer box p (is.least outer (front_has outer ps (p ∷ []) has)) (back_has outer ps (p ∷ []) has).0;
    })
