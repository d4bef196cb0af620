-- One more entry of a text.
use Rattle.std.proofs.lemmas.Grind.{common_steps}
use Rattle.std.proofs.Common.{◌≡◌, ℕ, zero, suc, ◌+◌, ◌<◌, List, [], ◌∷◌, ◌++◌, length, take, get_or, map, refl, sym, ◌∙◌, ap}
use Rattle.std.proofs.Common.{arith, append_assoc, append-nil, length-take, add-zero}
use Rattle.std.proofs.lemmas.List.{take_more}
use Rattle.change_places.specs.declared.spots.Style.{Style}
use Rattle.change_places.specs.declared.spots.RingSpot.{RingSpot}
use Rattle.change_places.specs.Words.{ChangeText, ring_words}
use Rattle.change_places.specs.PlacesText.{change_entry, ring_entry, features_text, rings_text}

-- the text begins with these bytes
abbrev pub Begins : List ℕ → List ℕ → Type 0
Begins front text = (rest : List ℕ) × (text ≡ front ++ rest)

-- entries one after another, numbered from this number on
abbrev entries : {A : Type 0} → (ℕ → A → List ℕ) → ℕ → List A → List ℕ
entries entry count [] = []
entries entry count (x ∷ xs) = entry count x ++ entries entry (count + 1) xs

module _ {A : Type 0} (entry : ℕ → A → List ℕ) where
  entries-append : (count : ℕ) (xs : List A) (x : A)
      → entries entry count (xs ++ x ∷ []) ≡ entries entry count xs ++ entry (count + length xs) x
  entries-append count [] x =
      append-nil (entry count x) ∙ ap (λ (n : ℕ). entry n x) (sym (add-zero count))
  entries-append count (first ∷ xs) x = grind (arith, append_assoc, (entries-append (count + 1) xs x))

  -- the first entries begin the text of all
  front_entries : (count i : ℕ) (xs : List A) → Begins (entries entry count (take i xs)) (entries entry count xs)
  front_entries count zero xs = (entries entry count xs, refl)
  front_entries count (suc i) [] = ([], refl)
  front_entries count (suc i) (x ∷ xs) = grind (arith, append_assoc, (front_entries (count + 1) i xs))

  one_more : (out : List ℕ) {before now : List ℕ} (xs : List A) (i : ℕ) (d : A) → i < length xs
      → before ≡ out ++ entries entry 0 (take i xs) → now ≡ before ++ entry i (get_or xs i d)
      → now ≡ out ++ entries entry 0 (take (i + 1) xs)
  one_more out xs i d within begun next =
      grind (arith, common_steps, get_or, length-take, append_assoc, entries-append, take_more)

module _ (style : Style) (names texts : List (List ℕ)) where
  features_are : (count : ℕ) (spots : List ChangeText) → features_text style names count spots
      ≡ entries (change_entry style names) count spots
  features_are count [] = refl
  features_are count (spot ∷ spots) =
      ap (λ (text : List ℕ). change_entry style names count spot ++ text) (features_are (count + 1) spots)

  rings_are : (before count : ℕ) (rings : List RingSpot) → rings_text style names before count (map (ring_words texts) rings)
      ≡ entries (λ (n : ℕ) (r : RingSpot). ring_entry style names before n (ring_words texts r)) count rings
  rings_are before count [] = refl
  rings_are before count (ring ∷ rings) = grind (arith, (rings_are before (count + 1) rings))

  -- one more change
  pub one_more_feature : (out : List ℕ) (spots : List ChangeText) (i : ℕ) (d : ChangeText) → i < length spots
      → out ++ features_text style names 0 (take (i + 1) spots)
      ≡ (out ++ features_text style names 0 (take i spots)) ++ change_entry style names i (get_or spots i d)
  one_more_feature out spots i d within =
      ap (λ (text : List ℕ). out ++ text) (features_are 0 (take (i + 1) spots))
      ∙ sym (one_more (change_entry style names) out spots i d within
      (ap (λ (text : List ℕ). out ++ text) (features_are 0 (take i spots))) refl)

  -- the changes before one begin the text of all
  pub first_features : (spots : List ChangeText) (i : ℕ)
      → Begins (features_text style names 0 (take i spots)) (features_text style names 0 spots)
  first_features spots i =
      let (rest, is) = front_entries (change_entry style names) 0 i spots in (
        rest,
        features_are 0 spots ∙ is
            ∙ ap (λ (text : List ℕ). text ++ rest) (sym (features_are 0 (take i spots))),
      )

  -- one more change of sides
  pub one_more_ring : (out : List ℕ) (count : ℕ) (rings : List RingSpot) (i : ℕ) (d : RingSpot) → i < length rings
      → out ++ rings_text style names count 0 (map (ring_words texts) (take (i + 1) rings))
      ≡ (out ++ rings_text style names count 0 (map (ring_words texts) (take i rings)))
      ++ ring_entry style names count i (ring_words texts (get_or rings i d))
  one_more_ring out count rings i d within =
      ap (λ (text : List ℕ). out ++ text) (rings_are count 0 (take (i + 1) rings))
      ∙ sym (one_more (λ (n : ℕ) (r : RingSpot). ring_entry style names count n (ring_words texts r)) out rings i d within
      (ap (λ (text : List ℕ). out ++ text) (rings_are count 0 (take i rings))) refl)

  pub first_rings : (count : ℕ) (rings : List RingSpot) (i : ℕ)
      → Begins (rings_text style names count 0 (map (ring_words texts) (take i rings)))
      (rings_text style names count 0 (map (ring_words texts) rings))
  first_rings count rings i =
      let entry = λ (n : ℕ) (r : RingSpot). ring_entry style names count n (ring_words texts r) in
      let (rest, is) = front_entries entry 0 i rings in (
        rest,
        rings_are count 0 rings ∙ is
            ∙ ap (λ (text : List ℕ). text ++ rest) (sym (rings_are count 0 (take i rings))),
      )
