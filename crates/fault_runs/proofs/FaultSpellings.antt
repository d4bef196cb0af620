-- The value of faults on the map is spelled as their text.
use Rattle.std.proofs.Common.{◌≡◌, ℕ, ◌+◌, ◌<◌, Bool, List, [], ◌∷◌, ◌++◌, codes, decimal, Option, None, Some}
use Rattle.std.proofs.Common.{refl, ◌∙◌, ap, ap₂, append_assoc, append-nil, arith}
use Rattle.std.specs.List.{concat}
use Rattle.std.proofs.lemmas.Bool.{ne_eqb}
use Rattle.jtext.specs.Values.{Json, Members, spelling, elements_text, elements_behind, members_text, members_behind}
use Rattle.jtext.specs.Values.{null, no_element, no_member}
use Rattle.change_places.specs.PlacesText.{position_text}
use Rattle.change_places.specs.PlacesValue.{text_value, number_value, member_and, element_and, array_of, position_value}
use Rattle.change_places.proofs.ChangeSpellings.{cons_append, text_spelled, member_first, member_behind, object_spelled}
use Rattle.change_places.proofs.ChangeSpellings.{position_spelled, point_spelled, geometry_by, either_spelled, feature_by}
use Rattle.change_places.proofs.ChangeSpellings.{next_text, in_braces, in_quotes}
use Rattle.change_places.proofs.ChangeSpellings as spellings
use Rattle.fault_runs.specs.declared.spots.TriangleSpot.{TriangleSpot}
use Rattle.fault_runs.specs.declared.spots.FaultSpot.{FaultSpot}
use Rattle.fault_runs.specs.Spots.{least_place}
use Rattle.fault_runs.specs.FaultsText.{corners_text, outline_text, behind_text, other_outline_text, lines_text, geometry_text}
use Rattle.fault_runs.specs.FaultsText.{kind_word, frame_word, fault_text, numbers_text, first_text, second_text, other_text}
use Rattle.fault_runs.specs.FaultsText.{feature_text, features_text, opening_text, faults_text}
use Rattle.fault_runs.specs.FaultsValue.{corners_value, outline_value, other_outline_elements, lines_value, geometry_value}
use Rattle.fault_runs.specs.FaultsValue.{numbers_value, fault_members, first_members, second_members, other_members}
use Rattle.fault_runs.specs.FaultsValue.{properties_value, feature_value, feature_elements, faults_value}

-- ---- lists of three and of four
three_shape : (s t u : List ℕ) → 91 ∷ ((s ++ (44 ∷ (t ++ (44 ∷ (u ++ []))))) ++ 93 ∷ [])
    ≡ 91 ∷ (s ++ (44 ∷ (t ++ (44 ∷ (u ++ 93 ∷ [])))))
three_shape s t u = simp (cons_append, append_assoc, append-nil) refl

three_listed : (v w x : Json) (s t u : List ℕ) → spelling v ≡ s → spelling w ≡ t → spelling x ≡ u
    → spelling (array_of (element_and v (element_and w (element_and x no_element)))) ≡ 91 ∷ (s ++ (44 ∷ (t ++ (44 ∷ (u ++ 93 ∷ [])))))
three_listed v w x s t u is are more =
    ap₂ (λ (a b : List ℕ). 91 ∷ ((a ++ (44 ∷ b)) ++ 93 ∷ [])) is
    (ap₂ (λ (a b : List ℕ). a ++ (44 ∷ (b ++ []))) are more)
    ∙ three_shape s t u

four_shape : (s t u r : List ℕ) → 91 ∷ ((s ++ (44 ∷ (t ++ (44 ∷ (u ++ (44 ∷ (r ++ []))))))) ++ 93 ∷ [])
    ≡ 91 ∷ (s ++ (44 ∷ (t ++ (44 ∷ (u ++ (44 ∷ (r ++ 93 ∷ [])))))))
four_shape s t u r = simp (cons_append, append_assoc, append-nil) refl

four_listed : (v w x y : Json) (s t u r : List ℕ) → spelling v ≡ s → spelling w ≡ t → spelling x ≡ u → spelling y ≡ r
    → spelling (array_of (element_and v (element_and w (element_and x (element_and y no_element)))))
    ≡ 91 ∷ (s ++ (44 ∷ (t ++ (44 ∷ (u ++ (44 ∷ (r ++ 93 ∷ [])))))))
four_listed v w x y s t u r is are more last =
    ap₂ (λ (a b : List ℕ). 91 ∷ ((a ++ (44 ∷ b)) ++ 93 ∷ [])) is
    (ap₂ (λ (a b : List ℕ). a ++ (44 ∷ b)) are (ap₂ (λ (a b : List ℕ). a ++ (44 ∷ (b ++ []))) more last))
    ∙ four_shape s t u r

-- ---- geometries
corners_shape : (a b c : List ℕ) → 91 ∷ (a ++ (44 ∷ (b ++ (44 ∷ (c ++ 93 ∷ [])))))
    ≡ 91 ∷ (concat (a ∷ codes "," ∷ b ∷ codes "," ∷ c ∷ []) ++ 93 ∷ [])
corners_shape a b c = simp (cons_append, append_assoc, append-nil) refl

corners_spelled : (spot : TriangleSpot) → spelling (corners_value spot) ≡ 91 ∷ (corners_text spot ++ 93 ∷ [])
unfolding corners_text
corners_spelled spot =
    three_listed (position_value spot.at_a) (position_value spot.at_b) (position_value spot.at_c)
    (position_text spot.at_a) (position_text spot.at_b) (position_text spot.at_c) (position_spelled spot.at_a)
    (position_spelled spot.at_b) (position_spelled spot.at_c)
    ∙ corners_shape (position_text spot.at_a) (position_text spot.at_b) (position_text spot.at_c)

outline_shape : (a b c : List ℕ) → 91 ∷ (a ++ (44 ∷ (b ++ (44 ∷ (c ++ (44 ∷ (a ++ 93 ∷ [])))))))
    ≡ concat (codes "[" ∷ concat (a ∷ codes "," ∷ b ∷ codes "," ∷ c ∷ []) ∷ codes "," ∷ a ∷ codes "]" ∷ [])
outline_shape a b c = simp (cons_append, append_assoc, append-nil) refl

outline_spelled : (spot : TriangleSpot) → spelling (outline_value spot) ≡ outline_text spot
unfolding outline_text corners_text
outline_spelled spot =
    four_listed (position_value spot.at_a) (position_value spot.at_b) (position_value spot.at_c)
    (position_value spot.at_a) (position_text spot.at_a) (position_text spot.at_b) (position_text spot.at_c)
    (position_text spot.at_a) (position_spelled spot.at_a) (position_spelled spot.at_b) (position_spelled spot.at_c)
    (position_spelled spot.at_a)
    ∙ outline_shape (position_text spot.at_a) (position_text spot.at_b) (position_text spot.at_c)

other_outline_spelled : (spot : Option TriangleSpot)
    → elements_behind (other_outline_elements spot) ≡ other_outline_text spot
unfolding behind_text
other_outline_spelled None = refl
other_outline_spelled (Some spot) = ap (λ (text : List ℕ). 44 ∷ (text ++ [])) (outline_spelled spot)

lines_shape : (s t : List ℕ)
    → in_braces (spellings.first_text (codes "type") (in_quotes (codes "MultiLineString"))
    (next_text (codes "coordinates") (91 ∷ ((s ++ t) ++ 93 ∷ [])) []))
    ≡ concat (codes "{\"type\":\"MultiLineString\",\"coordinates\":[" ∷ s ∷ t ∷ codes "]}" ∷ [])
lines_shape s t = simp (cons_append, append_assoc, append-nil) refl

lines_spelled : (fault : FaultSpot) → spelling (lines_value fault) ≡ lines_text fault
unfolding lines_text
lines_spelled fault =
    let s = outline_text fault.first in
    let t = other_outline_text fault.second in
    geometry_by (codes "MultiLineString")
    (array_of (element_and (outline_value fault.first) (other_outline_elements fault.second)))
    (91 ∷ ((s ++ t) ++ 93 ∷ []))
    (ap₂ (λ (a b : List ℕ). 91 ∷ ((a ++ b) ++ 93 ∷ [])) (outline_spelled fault.first)
    (other_outline_spelled fault.second))
    ∙ lines_shape s t

geometry_spelled : (lines : Bool) (fault : FaultSpot) → spelling (geometry_value lines fault) ≡ geometry_text lines fault
geometry_spelled lines fault =
    either_spelled lines _ _ _ _ (lines_spelled fault) (point_spelled (least_place fault.first))

-- ---- properties
numbers_shape : (a b c : List ℕ) → 91 ∷ (a ++ (44 ∷ (b ++ (44 ∷ (c ++ 93 ∷ [])))))
    ≡ concat (codes "[" ∷ a ∷ codes "," ∷ b ∷ codes "," ∷ c ∷ codes "]" ∷ [])
numbers_shape a b c = refl

numbers_spelled : (spot : TriangleSpot) → spelling (numbers_value spot) ≡ numbers_text spot
unfolding numbers_text
numbers_spelled spot =
    three_listed (number_value spot.a) (number_value spot.b) (number_value spot.c) (decimal spot.a) (decimal spot.b)
    (decimal spot.c) refl refl refl
    ∙ numbers_shape (decimal spot.a) (decimal spot.b) (decimal spot.c)

fault_shape : (n k f m : List ℕ)
    → spellings.first_text (codes "fault") n (next_text (codes "kind") (in_quotes k)
    (next_text (codes "frame") (in_quotes f) m))
    ≡ concat (codes "\"fault\":" ∷ n ∷ codes ",\"kind\":\"" ∷ k ∷ codes "\",\"frame\":\"" ∷ f ∷ codes "\"" ∷ []) ++ m
fault_shape n k f m = simp (cons_append, append_assoc, append-nil) refl

fault_spelled : (number : ℕ) (fault : FaultSpot) (rest : Members)
    → members_text (fault_members number fault rest) ≡ fault_text number fault ++ members_behind rest
unfolding fault_text fault_members
fault_spelled number fault rest =
    let k = kind_word fault.kind in
    let f = frame_word fault.frame in
    let third = member_and (codes "frame") (text_value f) rest in
    let second = member_and (codes "kind") (text_value k) third in
    member_first (codes "fault") (number_value number) second (decimal number) _ refl
    (member_behind (codes "kind") (text_value k) third (in_quotes k) _ (text_spelled k)
    (member_behind (codes "frame") (text_value f) rest (in_quotes f) (members_behind rest) (text_spelled f) refl))
    ∙ fault_shape (decimal number) k f (members_behind rest)

first_shape : (n c p m : List ℕ)
    → next_text (codes "first_triangle") n (next_text (codes "first_corners") c
    (next_text (codes "first_places") (91 ∷ (p ++ 93 ∷ [])) m))
    ≡ concat (codes ",\"first_triangle\":" ∷ n ∷ codes ",\"first_corners\":" ∷ c ∷ codes ",\"first_places\":[" ∷ p
    ∷ codes "]" ∷ []) ++ m
first_shape n c p m = simp (cons_append, append_assoc, append-nil) refl

first_spelled : (spot : TriangleSpot) (rest : Members)
    → members_behind (first_members spot rest) ≡ first_text spot ++ members_behind rest
unfolding first_text first_members
first_spelled spot rest =
    let third = member_and (codes "first_places") (corners_value spot) rest in
    let second = member_and (codes "first_corners") (numbers_value spot) third in
    member_behind (codes "first_triangle") (number_value spot.triangle) second (decimal spot.triangle) _ refl
    (member_behind (codes "first_corners") (numbers_value spot) third (numbers_text spot) _ (numbers_spelled spot)
    (member_behind (codes "first_places") (corners_value spot) rest (91 ∷ (corners_text spot ++ 93 ∷ []))
    (members_behind rest) (corners_spelled spot) refl))
    ∙ first_shape (decimal spot.triangle) (numbers_text spot) (corners_text spot) (members_behind rest)

second_shape : (n c p m : List ℕ)
    → next_text (codes "second_triangle") n (next_text (codes "second_corners") c
    (next_text (codes "second_places") (91 ∷ (p ++ 93 ∷ [])) m))
    ≡ concat (codes ",\"second_triangle\":" ∷ n ∷ codes ",\"second_corners\":" ∷ c ∷ codes ",\"second_places\":[" ∷ p
    ∷ codes "]" ∷ []) ++ m
second_shape n c p m = simp (cons_append, append_assoc, append-nil) refl

second_spelled : (spot : TriangleSpot) → members_behind (second_members spot) ≡ second_text spot ++ []
unfolding second_text second_members
second_spelled spot =
    let third = member_and (codes "second_places") (corners_value spot) no_member in
    let second = member_and (codes "second_corners") (numbers_value spot) third in
    member_behind (codes "second_triangle") (number_value spot.triangle) second (decimal spot.triangle) _ refl
    (member_behind (codes "second_corners") (numbers_value spot) third (numbers_text spot) _ (numbers_spelled spot)
    (member_behind (codes "second_places") (corners_value spot) no_member (91 ∷ (corners_text spot ++ 93 ∷ [])) []
    (corners_spelled spot) refl))
    ∙ second_shape (decimal spot.triangle) (numbers_text spot) (corners_text spot) []

other_spelled : (spot : Option TriangleSpot) → members_behind (other_members spot) ≡ other_text spot ++ []
other_spelled None = refl
other_spelled (Some spot) = second_spelled spot

properties_spelled : (number : ℕ) (fault : FaultSpot) → spelling (properties_value number fault)
    ≡ in_braces (fault_text number fault ++ (first_text fault.first ++ (other_text fault.second ++ [])))
unfolding properties_value
properties_spelled number fault =
    let other = other_members fault.second in
    let first = first_members fault.first other in
    object_spelled (fault_members number fault first) _ (
    fault_spelled number fault first ∙ ap (λ (text : List ℕ). fault_text number fault ++ text)
    (first_spelled fault.first other
    ∙ ap (λ (text : List ℕ). first_text fault.first ++ text) (other_spelled fault.second)))

-- ---- features
feature_spelled : (lines : Bool) (number : ℕ) (fault : FaultSpot)
    → spelling (feature_value lines number fault) ≡ feature_text lines number fault
unfolding feature_text
feature_spelled lines number fault =
    feature_by (geometry_value lines fault) (properties_value number fault) (geometry_text lines fault)
    (fault_text number fault) (first_text fault.first) (other_text fault.second) (geometry_spelled lines fault)
    (properties_spelled number fault)

features_behind : (lines : Bool) (number : ℕ) (faults : List FaultSpot) → 0 < number
    → elements_behind (feature_elements lines number faults) ≡ features_text lines number faults
features_behind lines number [] some = refl
features_behind lines number (fault ∷ faults) some =
    rw (ne_eqb number 0 (λ e. omega (arith, e, some)))
    (ap₂ (λ (a b : List ℕ). 44 ∷ 10 ∷ (a ++ b)) (feature_spelled lines number fault)
    (features_behind lines (number + 1) faults (omega arith)))

features_spelled : (lines : Bool) (faults : List FaultSpot)
    → elements_text (feature_elements lines 0 faults) ≡ features_text lines 0 faults
features_spelled lines [] = refl
features_spelled lines (fault ∷ faults) =
    ap₂ (λ (a b : List ℕ). 10 ∷ (a ++ b)) (feature_spelled lines 0 fault) (features_behind lines 1 faults (omega arith))

faults_shape : (f : List ℕ)
    → in_braces (spellings.first_text (codes "type") (in_quotes (codes "FeatureCollection"))
    (next_text (codes "crs") (codes "null") (next_text (codes "features") (91 ∷ (f ++ 93 ∷ [])) []))) ++ 10 ∷ []
    ≡ codes "{\"type\":\"FeatureCollection\",\"crs\":null,\"features\":[" ++ (f ++ codes "]}\n")
faults_shape f = simp (cons_append, append_assoc, append-nil) refl

pub faults_spelled : (lines : Bool) (faults : List FaultSpot)
    → spelling (faults_value lines faults) ++ 10 ∷ [] ≡ faults_text lines faults
unfolding opening_text
faults_spelled lines faults =
    let f = features_text lines 0 faults in
    let list = array_of (feature_elements lines 0 faults) in
    let last = member_and (codes "features") list no_member in
    let middle = member_and (codes "crs") null last in
    ap (λ (text : List ℕ). text ++ 10 ∷ [])
    (object_spelled (member_and (codes "type") (text_value (codes "FeatureCollection")) middle) _
    (member_first (codes "type") (text_value (codes "FeatureCollection")) middle
    (in_quotes (codes "FeatureCollection")) _ (text_spelled (codes "FeatureCollection"))
    (member_behind (codes "crs") null last (codes "null") _ refl
    (member_behind (codes "features") list no_member (91 ∷ (f ++ 93 ∷ [])) []
    (ap (λ (text : List ℕ). 91 ∷ (text ++ 93 ∷ [])) (features_spelled lines faults)) refl))))
    ∙ faults_shape f
