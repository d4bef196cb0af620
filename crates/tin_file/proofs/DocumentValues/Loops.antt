-- Tests of values one by one, from each place on.
use Rattle.std.proofs.Common.{◌≡◌, ℕ, ◌+◌, ◌<◌, ◌≤◌, List, [], ◌∷◌, length, get_or, drop, Bool, true, false, refl}
use Rattle.std.proofs.Common.{arith, add-one}
use Rattle.std.specs.Prelude.{Option, Some, None}
use Rattle.std.specs.List.{list_all, list_any}
use Rattle.std.proofs.Math.Seq.{drop-cons}
use Rattle.std.proofs.lemmas.List.{drop_all}
use Rattle.jtext.specs.Values.{Json, null}
use Rattle.jtext.specs.declared.document.Node.{Node}
use Rattle.tin_file.specs.Keys.{says}
use Rattle.tin_file.specs.Headings.{places_of, the_place}
use Rattle.tin_file.specs.InsideNodes.{AreThere}
use Rattle.tin_file.proofs.DocumentValues.There.{as_many}

module _ (nodes : List Node) (bytes : List ℕ) (numbers : List ℕ) (values : List Json)
    (are : AreThere nodes bytes numbers values) where
  -- the values from a place on
  pub values_on : (i : ℕ) → i < length numbers → drop i values ≡ get_or values i null ∷ drop (i + 1) values
  values_on i within = grind (arith, as_many, add-one, drop-cons)

  pub values_done : (i : ℕ) → length numbers ≤ i → drop i values ≡ []
  values_done i behind = drop_all i values (omega (arith, behind, as_many nodes bytes numbers values are))

  module _ (test : Json → Bool) where
    pub all_on : (i : ℕ) → i < length numbers → test (get_or values i null) ≡ true
        → list_all test (drop i values) ≡ list_all test (drop (i + 1) values)
    all_on i within h = rw (values_on i within, h) refl

    pub all_off : (i : ℕ) → i < length numbers → test (get_or values i null) ≡ false
        → list_all test (drop i values) ≡ false
    all_off i within h = rw (values_on i within, h) refl

    pub any_on : (i : ℕ) → i < length numbers → test (get_or values i null) ≡ false
        → list_any test (drop i values) ≡ list_any test (drop (i + 1) values)
    any_on i within h = rw (values_on i within, h) refl

    pub any_off : (i : ℕ) → i < length numbers → test (get_or values i null) ≡ true
        → list_any test (drop i values) ≡ true
    any_off i within h = rw (values_on i within, h) refl

    pub all_done : (i : ℕ) → length numbers ≤ i → list_all test (drop i values) ≡ true
    all_done i behind = rw (values_done i behind) refl

    pub any_done : (i : ℕ) → length numbers ≤ i → list_any test (drop i values) ≡ false
    any_done i behind = rw (values_done i behind) refl

  module _ (name : List ℕ) where
    pub place_more : (i : ℕ) → i < length numbers → says (get_or values i null) name ≡ true
        → places_of name i (drop i values) ≡ i ∷ places_of name (i + 1) (drop (i + 1) values)
    place_more i within h = rw (values_on i within, h) refl

    pub place_on : (i : ℕ) → i < length numbers → says (get_or values i null) name ≡ false
        → places_of name i (drop i values) ≡ places_of name (i + 1) (drop (i + 1) values)
    place_on i within h = rw (values_on i within, h) refl

    pub places_done : (i : ℕ) → length numbers ≤ i → places_of name i (drop i values) ≡ []
    places_done i behind = rw (values_done i behind) refl

-- the place that was found, if any
abbrev pub found_places : Option ℕ → List ℕ
found_places None = []
found_places (Some place) = place ∷ []

pub the_place_found : (found : Option ℕ) → the_place (found_places found) ≡ found
the_place_found found = grind arith
