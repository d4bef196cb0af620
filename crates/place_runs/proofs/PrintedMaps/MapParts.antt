-- The parts of the text of a map, and the room that they want.
use Rattle.std.proofs.lemmas.Grind.{common_steps}
use Rattle.std.proofs.Common.{◌≡◌, ℕ, zero, suc, ◌+◌, ◌<◌, ◌≤◌, List, [], ◌∷◌, ◌++◌, length, take, get_or}
use Rattle.std.proofs.Common.{refl, sym, ap, subst, arith, length-take, add-zero}
use Rattle.std.specs.List.{AllByRecursion}
use Rattle.std.proofs.lemmas.List.{take_more}
use Rattle.tin_base.specs.declared.pieces.Change.{Change}
use Rattle.tin_base.specs.declared.pieces.Piece.{Piece}
use Rattle.change_places.specs.declared.spots.RingSpot.{RingSpot}
use Rattle.change_places.specs.Words.{PathText, ChangeText, ring_words}
use Rattle.change_places.specs.PlacesText.{change_entry, ring_entry}
use Rattle.change_places.specs.Laws.{IsChangeHeld}
use Rattle.place_runs.specs.declared.change_maps.ChangeMap.{ChangeMap}
use Rattle.place_runs.specs.declared.rooms.TheConstants.{MOST_HELD}
use Rattle.place_runs.specs.Places.{IsSpotOf, AreSpotsOf}
use Rattle.place_runs.specs.InsideMaps.{IsSpotOn, AreSpotsOn, IsEachOne, AreNumbered, IsChangeWithin, AreChangesWithin}
use Rattle.place_runs.specs.InsideMaps.{IsRingWithin, AreRingsWithin, HasRoom, IsMapText}
use Rattle.place_runs.proofs.Outcomes.OneSpot.{spot_one, spots_one}

-- ---- elements with their numbers
numbered-append : {A : Type 0} (Is : ℕ → A → Type 0) (number : ℕ) (xs : List A) (x : A) → AreNumbered Is number xs
    → Is (number + length xs) x → AreNumbered Is number (xs ++ x ∷ [])
numbered-append Is number [] x are is = (subst (λ (n : ℕ). Is n x) (add-zero number) is, tt)
numbered-append Is number (first ∷ xs) x (own, are) is = grind (arith, (numbered-append Is (number + 1) xs x are))

-- what is weaker is so of each as well
numbered_weaker : {A : Type 0} (Is Also : ℕ → A → Type 0) (number : ℕ) (xs : List A)
    → ((n : ℕ) (x : A) → Is n x → Also n x) → AreNumbered Is number xs → AreNumbered Also number xs
numbered_weaker Is Also number [] weaker are = tt
numbered_weaker Is Also number (x ∷ xs) weaker (is, are) =
    (weaker number x is, numbered_weaker Is Also (number + 1) xs weaker are)

-- it is so of one more
one_more_numbered : {A : Type 0} (Is Also : ℕ → A → Type 0) (xs : List A) (i : ℕ) (d : A) → i < length xs
    → ((n : ℕ) (x : A) → Is n x → Also n x) → AreNumbered Is 0 (take i xs) → Also i (get_or xs i d)
    → AreNumbered Also 0 (take (i + 1) xs)
one_more_numbered Is Also xs i d within weaker are is =
    grind (arith, common_steps, length-take, take_more, numbered-append, get_or, numbered_weaker)

-- it is so of the element of a number
numbered_at : {A : Type 0} (Is : ℕ → A → Type 0) (number : ℕ) (xs : List A) (i : ℕ) (d : A) → i < length xs
    → AreNumbered Is number xs → Is (number + i) (get_or xs i d)
numbered_at Is number [] i d within are = absurd (omega (arith, within))
numbered_at Is number (x ∷ xs) zero d within (is, are) = subst (λ (n : ℕ). Is n x) (sym (add-zero number)) is
numbered_at Is number (x ∷ xs) (suc i) d within (is, are) =
    grind (arith, get_or, (numbered_at Is (number + 1) xs i d (omega (arith, within)) are))

element_of : {A : Type 0} (Is : ℕ → A → Type 0) (xs : List A) (i : ℕ) (d : A) → i < length xs
    → AreNumbered Is 0 xs → Is i (get_or xs i d)
element_of Is xs i d within are =
    subst (λ (n : ℕ). Is n (get_or xs i d)) (omega arith) (numbered_at Is 0 xs i d within are)

-- ---- more room
module _ (names : List (List ℕ)) (map : ChangeMap) where
  change_wider : (most more : ℕ) → most ≤ more → (number : ℕ) (change : Change)
      → IsChangeWithin names map most number change → IsChangeWithin names map more number change
  change_wider most more order number change is =
      record { spot = is.spot; is = is.is; held = is.held; within = omega (arith, order, is.within) }

  pub changes_wider : (most more : ℕ) (changes : List Change) → most ≤ more → AreChangesWithin names map most changes
      → AreChangesWithin names map more changes
  changes_wider most more changes order are = grind (arith, numbered_weaker, change_wider)

  ring_wider : (most more : ℕ) → most ≤ more → (number : ℕ) (ring : RingSpot)
      → IsRingWithin names map most number ring → IsRingWithin names map more number ring
  ring_wider most more order number ring is = omega (arith, order, is)

  pub rings_wider : (most more : ℕ) (rings : List RingSpot) → most ≤ more → AreRingsWithin names map most rings
      → AreRingsWithin names map more rings
  rings_wider most more rings order are =
      numbered_weaker (IsRingWithin names map most) (IsRingWithin names map more) 0 rings (ring_wider most more order) are

  -- ---- the sides of all changes
  spots_within : (most number : ℕ) (changes : List Change)
      → AreNumbered (IsChangeWithin names map most) number changes → List ChangeText
  spots_within most number [] are = []
  spots_within most number (change ∷ changes) (is, are) = is.spot ∷ spots_within most (number + 1) changes are

  are_spots : (most number : ℕ) (changes : List Change)
      → (are : AreNumbered (IsChangeWithin names map most) number changes)
      → AreSpotsOn map changes (spots_within most number changes are)
  unfolding spots_within
  are_spots most number [] are = tt
  are_spots most number (change ∷ changes) (is, are) = (is.is, are_spots most (number + 1) changes are)

  are_held : (most number : ℕ) (changes : List Change)
      → (are : AreNumbered (IsChangeWithin names map most) number changes)
      → AllByRecursion IsChangeHeld (spots_within most number changes are)
  unfolding spots_within
  are_held most number [] are = tt
  are_held most number (change ∷ changes) (is, are) = (is.held, are_held most (number + 1) changes are)

  -- the map has a text
  pub has_text : (room : ℕ) → HasRoom names map room → (said : List ℕ) × IsMapText names map said
  has_text room has = (
    _,
    record {
      spots = spots_within has.most 0 map.changes.items has.changes;
      are_spots = are_spots has.most 0 map.changes.items has.changes;
      said_is = refl;
    },
  )

  -- the numbers of the sides of all changes fit their fields
  pub spots_held : (room : ℕ) (spots : List ChangeText) → IsEachOne map.pieces.items → HasRoom names map room
      → AreSpotsOn map map.changes.items spots → AllByRecursion IsChangeHeld spots
  spots_held room spots one has are =
      subst (λ (ss : List ChangeText). AllByRecursion IsChangeHeld ss)
      (spots_one map.pieces.items one _ map.changes.items _ spots
      (are_spots has.most 0 map.changes.items has.changes) are)
      (are_held has.most 0 map.changes.items has.changes)

  -- ---- room for one part
  change_fits : (room : ℕ) (i : ℕ) (d : Change) (text : ChangeText) → IsEachOne map.pieces.items
      → (has : HasRoom names map room) → i < length map.changes.items
      → IsSpotOn map (get_or map.changes.items i d) text
      → length (change_entry map.style names i text) ≤ has.most
  change_fits room i d text one has within is =
      let own = element_of (IsChangeWithin names map has.most) map.changes.items i d within has.changes in
      subst (λ (t : ChangeText). length (change_entry map.style names i t) ≤ has.most)
      (spot_one map.pieces.items one _ (get_or map.changes.items i d) own.spot text own.is is) own.within

  ring_fits : (room : ℕ) (i : ℕ) (d : RingSpot) → (has : HasRoom names map room) → i < length map.rings.items
      → length (ring_entry map.style names (length map.changes.items) i (ring_words map.texts.items (get_or map.rings.items i d)))
      ≤ has.most
  ring_fits room i d has within = element_of (IsRingWithin names map has.most) map.rings.items i d within has.rings

  -- so there is room after what is held
  pub change_room : (room i : ℕ) (d : Change) (text : ChangeText) (len cap between : ℕ) → IsEachOne map.pieces.items
      → HasRoom names map room → i < length map.changes.items → IsSpotOn map (get_or map.changes.items i d) text
      → len ≤ MOST_HELD → cap ≡ between → room ≤ between → len + length (change_entry map.style names i text) ≤ cap
  change_room room i d text len cap between one has within is held same order =
      let fits = change_fits room i d text one has within is in omega (arith, fits, has.all, held, same, order)

  pub ring_room : (room i : ℕ) (d : RingSpot) (len cap between : ℕ) → HasRoom names map room
      → i < length map.rings.items → len ≤ MOST_HELD → cap ≡ between → room ≤ between
      → len
      + length (ring_entry map.style names (length map.changes.items) i (ring_words map.texts.items (get_or map.rings.items i d)))
      ≤ cap
  ring_room room i d len cap between has within held same order =
      let fits = ring_fits room i d has within in omega (arith, fits, has.all, held, same, order)

  -- ---- one part more that has room
  pub one_more_change : (most more i : ℕ) (d : Change) (spot : ChangeText) → most ≤ more → i < length map.changes.items
      → AreChangesWithin names map most (take i map.changes.items) → IsSpotOn map (get_or map.changes.items i d) spot
      → IsChangeHeld spot → length (change_entry map.style names i spot) ≤ more
      → AreChangesWithin names map more (take (i + 1) map.changes.items)
  one_more_change most more i d spot order within are is held fits =
      one_more_numbered (IsChangeWithin names map most) (IsChangeWithin names map more) map.changes.items i d within
      (change_wider most more order) are (record { spot = spot; is = is; held = held; within = fits })

  pub one_more_ring : (most more i : ℕ) (d : RingSpot) → most ≤ more → i < length map.rings.items
      → AreRingsWithin names map most (take i map.rings.items)
      → IsRingWithin names map more i (get_or map.rings.items i d)
      → AreRingsWithin names map more (take (i + 1) map.rings.items)
  one_more_ring most more i d order within are fits = grind (arith, one_more_numbered, ring_wider)

-- what is so of each element is so of the one of a number
pub each_at : {A : Type 0} (P : A → Type 0) (xs : List A) (i : ℕ) (d : A) → i < length xs → AllByRecursion P xs
    → P (get_or xs i d)
each_at P [] i d within all = absurd (omega (arith, within))
each_at P (x ∷ xs) zero d within (is, all) = is
each_at P (x ∷ xs) (suc i) d within (is, all) = each_at P xs i d (omega (arith, within)) all

-- ---- the change of a number
-- the spot of this number is that of the change of this number
pub spot_at : (pieces : List Piece) (places : List (List PathText)) (changes : List Change) (spots : List ChangeText)
    (i : ℕ) (d : Change) → AreSpotsOf pieces places changes spots → i < length changes
    → (text : ChangeText) × (i < length spots) × IsSpotOf pieces places (get_or changes i d) text
    × (get_or spots i text ≡ text)
spot_at pieces places [] spots i d are within = absurd (omega (arith, within))
spot_at pieces places (change ∷ changes) [] i d are within = absurd are
spot_at pieces places (change ∷ changes) (spot ∷ spots) zero d (is, are) within = (spot, omega arith, is, refl)
spot_at pieces places (change ∷ changes) (spot ∷ spots) (suc i) d (is, are) within =
    grind (arith, (spot_at pieces places changes spots i d are (omega (arith, within))))

pub spots_count : (pieces : List Piece) (places : List (List PathText)) (changes : List Change)
    (spots : List ChangeText) → AreSpotsOf pieces places changes spots → length spots ≡ length changes
spots_count pieces places [] [] are = refl
spots_count pieces places [] (spot ∷ spots) are = absurd are
spots_count pieces places (change ∷ changes) [] are = absurd are
spots_count pieces places (change ∷ changes) (spot ∷ spots) are = ap suc (spots_count pieces places changes spots are.1)
