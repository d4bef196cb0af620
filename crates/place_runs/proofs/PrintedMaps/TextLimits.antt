-- A text of places does not say that there are too many bytes: it begins with a brace.
use Rattle.std.proofs.Common.{arith, ℕ, List, refl, sym, subst}
use Rattle.runs.proofs.LimitLines.{TellsNone, at-first}
use Rattle.publication.proofs.LimitFronts.{IsApart, apart}
use Rattle.change_places.specs.declared.spots.Style.{Style}
use Rattle.change_places.specs.Words.{ChangeText, RingText}
use Rattle.change_places.specs.PlacesText.{places_text, opening_text}
use Rattle.place_runs.specs.Places.{style_of}
use Rattle.place_runs.specs.InsidePieces.{IsPlacesText}
use Rattle.place_runs.specs.declared.views.View.{View}

places-none : (style : Style) (names : List (List ℕ)) (spots : List ChangeText) (rings : List RingText)
    → TellsNone (places_text style names spots rings)
unfolding opening_text
places-none style names spots rings = at-first _ 123 refl (λ e. omega (arith, e))

pub text_apart : (view : View) (names : List (List ℕ)) (said : List ℕ) → IsPlacesText view names said → IsApart said
text_apart view names said (spots, rings, is, json) =
    apart said (subst (λ (text : List ℕ). TellsNone text) (sym is) (places-none (style_of view) names spots rings))
