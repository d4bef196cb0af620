-- One path more.
use Rattle.std.proofs.lemmas.Grind.{common_steps}
use Rattle.std.proofs.Common.{◌≡◌, ℕ, ◌+◌, ◌<◌, List, [], ◌∷◌, ◌++◌, length, take, get_or, map, Option, None, sym}
use Rattle.std.proofs.Common.{ap, arith, add-zero, length-take}
use Rattle.std.proofs.lemmas.List.{take_more, map-append}
use Rattle.change_places.specs.declared.spots.PathSpot.{PathSpot}
use Rattle.layer_features.specs.declared.features.Feature.{Feature}
use Rattle.place_runs.specs.InsideLayers.{line_spot, line_spots, spot_there}

lines-append : (n : ℕ) (places : List (Option ℕ)) (at : Option ℕ) (lines : List (Option ℕ))
    → line_spots n (places ++ at ∷ []) lines
    ≡ line_spots n places lines ++ line_spot at (get_or lines (n + length places) None) ∷ []
lines-append n [] at lines =
    ap (λ (k : ℕ). line_spot at (get_or lines k None) ∷ []) (sym (add-zero n))
lines-append n (place ∷ places) at lines = grind (arith, get_or, (lines-append (n + 1) places at lines))

pub one_more_line : (places lines : List (Option ℕ)) (i : ℕ) (d : Option ℕ) (found : PathSpot) (before now : List PathSpot)
    → i < length places → before ≡ line_spots 0 (take i places) lines
    → found ≡ line_spot (get_or places i d) (get_or lines i None)
    → now ≡ before ++ found ∷ []
    → now ≡ line_spots 0 (take (i + 1) places) lines
one_more_line places lines i d found before now within begun is next =
    grind (arith, common_steps, length-take, get_or, lines-append, take_more)

pub one_more_spot : (features : List Feature) (places : List (Option ℕ)) (i : ℕ) (d : Option ℕ) (found : PathSpot)
    (before now : List PathSpot) → i < length places → before ≡ map (spot_there features) (take i places)
    → found ≡ spot_there features (get_or places i d) → now ≡ before ++ found ∷ []
    → now ≡ map (spot_there features) (take (i + 1) places)
one_more_spot features places i d found before now within begun is next =
    grind (arith, common_steps, map-append, get_or, take_more)
