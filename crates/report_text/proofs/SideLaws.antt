-- Lines of changes of sides and directions.
use Rattle.std.proofs.Common.{◌≡◌, ◌≢◌, ◌==◌, ℕ, ◌<◌, ◌^◌, false, List, [], ◌∷◌, ◌++◌, length}
use Rattle.std.proofs.Common.{codes, Option, Some, None, refl, sym, ◌∙◌, ap, arith, append_assoc, append-nil, subst}
use Rattle.std.specs.List.{AllByRecursion, concat}
use Rattle.std.proofs.lemmas.Bool.Decides.{nat_tests}
use Rattle.std.proofs.lemmas.List.{nil_from_length}
use Rattle.ring_side.specs.declared.kinds.Side.{Side}
use Rattle.ring_side.specs.declared.kinds.Side.TheVariants.{Inside, Border, Outside}
use Rattle.ring_side.specs.declared.kinds.Way.{Way}
use Rattle.ring_side.specs.declared.kinds.Way.TheVariants.{Positive, Negative, Zero}
use Rattle.ring_side.specs.declared.kinds.Spot.{Spot}
use Rattle.ring_side.specs.declared.kinds.SideChange.{SideChange}
use Rattle.ring_side.specs.declared.kinds.SideChange.TheVariants.{Turn, Point}
use Rattle.ring_side.specs.Differences.{DoesDiffer}
use Rattle.text_places.specs.Digits.{Stops}
use Rattle.report_text.specs.declared.side_kinds.RingPlace.{RingPlace}
use Rattle.text_fields.specs.Fields.{after_word, long_field, short_field}
use Rattle.report_text.specs.InsideLineKinds.{found_or, as_kind}
use Rattle.report_text.specs.InsideSideKinds.{side_count_of, ring_front, spot_front, way_front, side_front}
use Rattle.report_text.specs.InsideSideKinds.{number_of_way, number_of_side, turn_of, point_of, side_change_of}
use Rattle.text_fields.specs.Fields.{field}
use Rattle.report_text.specs.ReportText.{ring_text, spot_text, way_word, side_word, turn_line, point_line}
use Rattle.report_text.specs.ReportText.{side_line, side_count_line}
use Rattle.report_text.specs.Reports.{IsRingHeld, IsSpotHeld, IsSideHeld}
use Rattle.text_fields.proofs.StepChains.{bound, some_is, let_through}
use Rattle.text_fields.proofs.FieldLaws.{long_again, long_takes, short_again, short_takes}
use Rattle.text_fields.proofs.Words.{after_takes}
use Rattle.report_text.proofs.ChangeLaws.{neither, all_in_a_row}

-- ---- rings and points

two_in_a_row : (a b r : List ℕ) → concat (a ∷ b ∷ []) ++ r ≡ a ++ (b ++ r)
two_in_a_row a b r = simp (append_assoc, append-nil) refl

three_in_a_row : (a b c r : List ℕ) → concat (a ∷ b ∷ c ∷ []) ++ r ≡ a ++ (b ++ (c ++ r))
three_in_a_row a b c r = simp (append_assoc, append-nil) refl

ring_is : (layer path : ℕ) (rest : List ℕ)
    → ring_text layer path ++ rest ≡ field [] layer ++ (field (codes "/") path ++ rest)
ring_is layer path rest = two_in_a_row (field [] layer) (field (codes "/") path) rest

spot_is : (spot : Spot) (rest : List ℕ)
    → spot_text spot ++ rest
    ≡ field [] spot.layer ++ (field (codes "/") spot.path ++ (field (codes "/") spot.vertex ++ rest))
spot_is spot rest = three_in_a_row (field [] spot.layer) (field (codes "/") spot.path) (field (codes "/") spot.vertex)
    rest

ring_again : (layer path : ℕ) (rest : List ℕ) → IsRingHeld layer path → Stops rest
    → ring_front (ring_text layer path ++ rest) ≡ Some (record { layer = layer; path = path }, rest)
unfolding ring_front
ring_again layer path rest held stops =
    ap ring_front (ring_is layer path rest)
    ∙ rw (
      short_again [] (field (codes "/") path ++ rest) layer held.layer refl,
      short_again (codes "/") rest path held.path stops,
    ) refl

spot_again : (spot : Spot) (rest : List ℕ) → IsSpotHeld spot → Stops rest
    → spot_front (spot_text spot ++ rest) ≡ Some (spot, rest)
unfolding spot_front
spot_again spot rest held stops =
    ap spot_front (spot_is spot rest)
    ∙ rw (
      short_again [] (field (codes "/") spot.path ++ (field (codes "/") spot.vertex ++ rest)) spot.layer held.layer
          refl,
      short_again (codes "/") (field (codes "/") spot.vertex ++ rest) spot.path held.path refl,
      short_again (codes "/") rest spot.vertex held.vertex stops,
    ) refl

record TakesRing (text : List ℕ) (found : RingPlace × List ℕ) : Type 0 where
  pub parts : text ≡ ring_text found.0.layer found.0.path ++ found.1
  pub held : IsRingHeld found.0.layer found.0.path

ring_takes : (text : List ℕ) (found : RingPlace × List ℕ) → ring_front text ≡ Some found → TakesRing text found
unfolding ring_front
ring_takes text found is =
    let a = bound (short_field [] text) _ found is in
    let b = bound (short_field (codes "/") a.found.1) _ found a.goes_on in
    let ta = short_takes [] text a.found a.is in
    let tb = short_takes (codes "/") a.found.1 b.found b.is in
    let ring : RingPlace = record { layer = a.found.0; path = b.found.0 } in
    let made : RingPlace × List ℕ = (ring, b.found.1) in
    let whole : text ≡ field [] ring.layer ++ (field (codes "/") ring.path ++ b.found.1) =
    ta.parts ∙ ap (λ r. field [] a.found.0 ++ r) tb.parts in
    subst (TakesRing text) (some_is made found b.goes_on) (record {
      parts = whole ∙ sym (ring_is ring.layer ring.path b.found.1);
      held = record { layer = ta.small; path = tb.small };
    })

record TakesSpot (text : List ℕ) (found : Spot × List ℕ) : Type 0 where
  pub parts : text ≡ spot_text found.0 ++ found.1
  pub held : IsSpotHeld found.0

spot_takes : (text : List ℕ) (found : Spot × List ℕ) → spot_front text ≡ Some found → TakesSpot text found
unfolding spot_front
spot_takes text found is =
    let a = bound (short_field [] text) _ found is in
    let b = bound (short_field (codes "/") a.found.1) _ found a.goes_on in
    let c = bound (short_field (codes "/") b.found.1) _ found b.goes_on in
    let ta = short_takes [] text a.found a.is in
    let tb = short_takes (codes "/") a.found.1 b.found b.is in
    let tc = short_takes (codes "/") b.found.1 c.found c.is in
    let spot : Spot = record { layer = a.found.0; path = b.found.0; vertex = c.found.0 } in
    let made : Spot × List ℕ = (spot, c.found.1) in
    let whole : text ≡ field [] spot.layer ++ (field (codes "/") spot.path
    ++ (field (codes "/") spot.vertex ++ c.found.1)) =
    ta.parts ∙ ap (λ r. field [] a.found.0 ++ r)
    (tb.parts ∙ ap (λ r. field (codes "/") b.found.0 ++ r) tc.parts) in
    subst (TakesSpot text) (some_is made found c.goes_on) (record {
      parts = whole ∙ sym (spot_is spot c.found.1);
      held = record { layer = ta.small; path = tb.small; vertex = tc.small };
    })

-- ---- words of directions and sides

-- a word is at the start of the text
as_takes : {K : Type 0} (spaced : K → List ℕ) (kind : K) (text : List ℕ) (read : Option (List ℕ)) (found : K × List ℕ)
    → after_word (spaced kind) text ≡ read → as_kind kind read ≡ Some found → text ≡ spaced found.0 ++ found.1
as_takes spaced kind text None found read is = absurd cc
as_takes {K} spaced kind text (Some rest) found read is =
    let made : K × List ℕ = (kind, rest) in
    subst (λ (f : K × List ℕ). text ≡ spaced f.0 ++ f.1) (some_is made found is)
    (after_takes (spaced kind) text rest read)

either : {K : Type 0} (P : K × List ℕ → Type 0) (first other : Option (K × List ℕ)) (found : K × List ℕ)
    → (first ≡ Some found → P found) → (other ≡ Some found → P found) → found_or first other ≡ Some found → P found
either P None other found here there is = there is
either P (Some f) other found here there is = here is

abbrev spaced_way : Way → List ℕ
spaced_way way = codes " " ++ way_word way

abbrev spaced_side : Side → List ℕ
spaced_side side = codes " " ++ side_word side

way_again : (way : Way) (rest : List ℕ) → way_front (spaced_way way ++ rest) ≡ Some (way, rest)
unfolding way_front
way_again Positive rest = refl
way_again way rest = refl

side_word_again : (side : Side) (rest : List ℕ) → side_front (spaced_side side ++ rest) ≡ Some (side, rest)
unfolding side_front
side_word_again Inside rest = refl
side_word_again side rest = refl

way_takes : (text : List ℕ) (found : Way × List ℕ) → way_front text ≡ Some found
    → text ≡ spaced_way found.0 ++ found.1
unfolding way_front
way_takes text found is =
    either (λ (f : Way × List ℕ). text ≡ spaced_way f.0 ++ f.1) _ _ found
    (as_takes spaced_way Positive text (after_word (codes " positive") text) found refl)
    (either (λ (f : Way × List ℕ). text ≡ spaced_way f.0 ++ f.1) _ _ found
    (as_takes spaced_way Negative text (after_word (codes " negative") text) found refl)
    (as_takes spaced_way Zero text (after_word (codes " zero") text) found refl)) is

side_takes : (text : List ℕ) (found : Side × List ℕ) → side_front text ≡ Some found
    → text ≡ spaced_side found.0 ++ found.1
unfolding side_front
side_takes text found is =
    either (λ (f : Side × List ℕ). text ≡ spaced_side f.0 ++ f.1) _ _ found
    (as_takes spaced_side Inside text (after_word (codes " inside") text) found refl)
    (either (λ (f : Side × List ℕ). text ≡ spaced_side f.0 ++ f.1) _ _ found
    (as_takes spaced_side Border text (after_word (codes " border") text) found refl)
    (as_takes spaced_side Outside text (after_word (codes " outside") text) found refl)) is

same_way : (was now : Way) → (number_of_way was == number_of_way now) ≡ false → was ≢ now
same_way was now other same = one now (subst (λ w. (number_of_way w == number_of_way now) ≡ false) same other)
  where
    one : (w : Way) → (number_of_way w == number_of_way w) ≡ false → ⊥
    one Positive is = cc
    one w is = cc

same_side : (was now : Side) → (number_of_side was == number_of_side now) ≡ false → was ≢ now
same_side was now other same = one now (subst (λ s. (number_of_side s == number_of_side now) ≡ false) same other)
  where
    one : (s : Side) → (number_of_side s == number_of_side s) ≡ false → ⊥
    one Inside is = cc
    one s is = cc

other_way : (was now : Way) → was ≢ now → (number_of_way was == number_of_way now) ≡ false
other_way Positive Positive other = absurd (other refl)
other_way Negative Negative other = absurd (other refl)
other_way Zero Zero other = absurd (other refl)
other_way was now other = refl

other_side : (was now : Side) → was ≢ now → (number_of_side was == number_of_side now) ≡ false
other_side Inside Inside other = absurd (other refl)
other_side Border Border other = absurd (other refl)
other_side Outside Outside other = absurd (other refl)
other_side was now other = refl

-- ---- changes of sides and directions

pub record IsSideGood (side : SideChange) : Type 0 where
  pub held : IsSideHeld side
  pub differs : DoesDiffer side

-- where sides are stated, each is good, and they are counted in 64 bits
abbrev pub AreSidesGood : Option (List SideChange) → Type 0
AreSidesGood None = Unit {0}
AreSidesGood (Some sides) = AllByRecursion IsSideGood sides × (length sides < 2 ^ 64)

turn_in_a_row : (w a x r y t : List ℕ) → concat (w ∷ a ∷ x ∷ r ∷ y ∷ t ∷ []) ≡ w
    ++ (a ++ ((x ++ r) ++ ((y ++ t) ++ [])))
turn_in_a_row w a x r y t = simp (append_assoc, append-nil) refl

turn_is : (layer path : ℕ) (was now : Way)
    → turn_line layer path was now
    ≡ codes "turn " ++ (ring_text layer path ++ (spaced_way was ++ (spaced_way now ++ [])))
unfolding turn_line
turn_is layer path was now =
    turn_in_a_row (codes "turn ") (ring_text layer path) (codes " ") (way_word was) (codes " ") (way_word now)

point_is : (layer path : ℕ) (at : Spot) (was now : Side)
    → point_line layer path at was now
    ≡ codes "side " ++ (ring_text layer path ++ (codes " "
    ++ (spot_text at ++ (spaced_side was ++ (spaced_side now ++ [])))))
unfolding point_line
point_is layer path at was now =
    all_in_a_row (codes "side ") (ring_text layer path) (codes " ") (spot_text at) (codes " ") (side_word was)
    (codes " ") (side_word now)

turn_again : (layer path : ℕ) (was now : Way) → IsRingHeld layer path → was ≢ now
    → turn_of (turn_line layer path was now) ≡ Some (Turn layer path was now)
unfolding turn_of
turn_again layer path was now held differs =
    ap turn_of (turn_is layer path was now)
    ∙ rw (
      ring_again layer path (spaced_way was ++ (spaced_way now ++ [])) held refl,
      way_again was (spaced_way now ++ []),
      way_again now [],
      other_way was now differs,
    ) refl

point_is_no_turn : (layer path : ℕ) (at : Spot) (was now : Side) → turn_of (point_line layer path at was now) ≡ None
unfolding turn_of point_line
point_is_no_turn layer path at was now = refl

point_again : (layer path : ℕ) (at : Spot) (was now : Side) → IsRingHeld layer path → IsSpotHeld at → was ≢ now
    → point_of (point_line layer path at was now) ≡ Some (Point layer path at was now)
unfolding point_of
point_again layer path at was now ring_held spot_held differs =
    ap point_of (point_is layer path at was now)
    ∙ rw (
      ring_again layer path (codes " " ++ (spot_text at ++ (spaced_side was ++ (spaced_side now ++ [])))) ring_held
          refl,
      spot_again at (spaced_side was ++ (spaced_side now ++ [])) spot_held refl,
      side_word_again was (spaced_side now ++ []),
      side_word_again now [],
      other_side was now differs,
    ) refl

pub side_again : (side : SideChange) → IsSideGood side → side_change_of (side_line side) ≡ Some side
side_again (Turn layer path was now) good = rw (turn_again layer path was now good.held good.differs) refl
side_again (Point layer path at was now) good =
    rw (point_is_no_turn layer path at was now) (point_again layer path at was now good.held.0 good.held.1 good.differs)

pub record TakesSide (line : List ℕ) (side : SideChange) : Type 0 where
  pub parts : line ≡ side_line side
  pub good : IsSideGood side

turn_takes : (line : List ℕ) (side : SideChange) → turn_of line ≡ Some side → TakesSide line side
unfolding turn_of
turn_takes line side is =
    let a = bound (after_word (codes "turn ") line) _ side is in
    let b = bound (ring_front a.found) _ side a.goes_on in
    let e = bound (way_front b.found.1) _ side b.goes_on in
    let f = bound (way_front e.found.1) _ side e.goes_on in
    let ta = after_takes (codes "turn ") line a.found a.is in
    let tb = ring_takes a.found b.found b.is in
    let te = way_takes b.found.1 e.found e.is in
    let tf = way_takes e.found.1 f.found f.is in
    let layer = b.found.0.layer in
    let path = b.found.0.path in
    let last = neither (number_of_way e.found.0 == number_of_way f.found.0) (length f.found.1 == 0)
    (Turn layer path e.found.0 f.found.0) side f.goes_on in
    let ended = last.1 in
    let none : f.found.1 ≡ [] = nil_from_length f.found.1 (grind (arith, nat_tests, ended)) in
    let whole : line ≡ codes "turn " ++ (ring_text layer path ++ (spaced_way e.found.0 ++ (spaced_way f.found.0 ++ []))) =
    ta ∙ ap (λ r. codes "turn " ++ r) (tb.parts ∙ ap (λ r. ring_text layer path ++ r)
    (te ∙ ap (λ r. spaced_way e.found.0 ++ r) (tf ∙ ap (λ r. spaced_way f.found.0 ++ r) none))) in
    subst (TakesSide line) last.2 (record {
      parts = whole ∙ sym (turn_is layer path e.found.0 f.found.0);
      good = record { held = tb.held; differs = same_way e.found.0 f.found.0 last.0 };
    })

point_takes : (line : List ℕ) (side : SideChange) → point_of line ≡ Some side → TakesSide line side
unfolding point_of
point_takes line side is =
    let a = bound (after_word (codes "side ") line) _ side is in
    let b = bound (ring_front a.found) _ side a.goes_on in
    let c = bound (after_word (codes " ") b.found.1) _ side b.goes_on in
    let d = bound (spot_front c.found) _ side c.goes_on in
    let e = bound (side_front d.found.1) _ side d.goes_on in
    let f = bound (side_front e.found.1) _ side e.goes_on in
    let ta = after_takes (codes "side ") line a.found a.is in
    let tb = ring_takes a.found b.found b.is in
    let tc = after_takes (codes " ") b.found.1 c.found c.is in
    let td = spot_takes c.found d.found d.is in
    let te = side_takes d.found.1 e.found e.is in
    let tf = side_takes e.found.1 f.found f.is in
    let layer = b.found.0.layer in
    let path = b.found.0.path in
    let last = neither (number_of_side e.found.0 == number_of_side f.found.0) (length f.found.1 == 0)
    (Point layer path d.found.0 e.found.0 f.found.0) side f.goes_on in
    let ended = last.1 in
    let none : f.found.1 ≡ [] = nil_from_length f.found.1 (grind (arith, nat_tests, ended)) in
    let whole : line ≡ codes "side " ++ (ring_text layer path ++ (codes " "
    ++ (spot_text d.found.0 ++ (spaced_side e.found.0 ++ (spaced_side f.found.0 ++ []))))) =
    ta ∙ ap (λ r. codes "side " ++ r) (tb.parts ∙ ap (λ r. ring_text layer path ++ r)
    (tc ∙ ap (λ r. codes " " ++ r) (td.parts ∙ ap (λ r. spot_text d.found.0 ++ r)
    (te ∙ ap (λ r. spaced_side e.found.0 ++ r) (tf ∙ ap (λ r. spaced_side f.found.0 ++ r) none))))) in
    subst (TakesSide line) last.2 (record {
      parts = whole ∙ sym (point_is layer path d.found.0 e.found.0 f.found.0);
      good = record { held = (tb.held, td.held); differs = same_side e.found.0 f.found.0 last.0 };
    })

by_kind : (line : List ℕ) (side : SideChange) (turn : Option SideChange) → turn_of line ≡ turn
    → found_or turn (point_of line) ≡ Some side → TakesSide line side
by_kind line side None read is = point_takes line side is
by_kind line side (Some found) read is = turn_takes line side (read ∙ is)

pub side_change_takes : (line : List ℕ) (side : SideChange) → side_change_of line ≡ Some side → TakesSide line side
side_change_takes line side is = by_kind line side (turn_of line) refl is

-- ---- the number of changes of sides

pub side_count_again : (count : ℕ) → count < 2 ^ 64 → side_count_of (side_count_line count) ≡ Some count
unfolding side_count_of side_count_line
side_count_again count small =
    let read : long_field (codes "sides ") (field (codes "sides ") count) ≡ Some (count, [])
    = ap (long_field (codes "sides ")) (sym (append-nil (field (codes "sides ") count)))
    ∙ long_again (codes "sides ") [] count small tt in
    rw read refl

pub side_count_takes : (line : List ℕ) (count : ℕ) → side_count_of line ≡ Some count
    → (line ≡ side_count_line count) × (count < 2 ^ 64)
unfolding side_count_of side_count_line
side_count_takes line count is =
    let a = bound (long_field (codes "sides ") line) _ count is in
    let taken = long_takes (codes "sides ") line a.found a.is in
    let last = let_through (length a.found.1 == 0) a.found.0 count a.goes_on in
    let passes = last.passes in
    let none : a.found.1 ≡ [] = nil_from_length a.found.1 (grind (arith, nat_tests, passes)) in (
      taken.parts ∙ (ap (λ r. field (codes "sides ") a.found.0 ++ r) none
          ∙ (append-nil (field (codes "sides ") a.found.0) ∙ ap (field (codes "sides ")) last.same)),
      subst (λ n. n < 2 ^ 64) last.same taken.small,
    )
