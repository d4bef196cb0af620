-- Fields that are looked up are pairs of the entity, and pairs follow each other.
use Rattle.std.proofs.Common.{◌≡◌, inl, inr, ℕ, zero, suc, ◌≤◌, ◌<◌, ℤ, List, [], ◌∷◌, take, Bool}
use Rattle.std.proofs.Common.{refl, ap, sym, ◌∙◌, subst, arith, Result, Ok, Err, Option, None, Some}
use Rattle.std.specs.Prelude.{◌⊎◌, filter}
use Rattle.std.proofs.lemmas.Bool.Decides.{Decides-int_eq}
use Rattle.sheet_base.specs.declared.faults.LayerFault.{LayerFault}
use Rattle.dxf_pairs.specs.declared.pairs.Pair.{Pair}
use Rattle.dxf_pairs.specs.Laws.{AreTiles}
use Rattle.dxf_entities.specs.declared.fields.Read.{Read}
use Rattle.dxf_entities.specs.declared.drawing.PointFields.{PointFields}
use Rattle.dxf_entities.specs.Entities.{Entity, is_coded}
use Rattle.sheet_base.specs.Faults.{and_then}
use Rattle.dxf_entities.specs.Fields.{at_most_one, entity_fields, field_at, is_there, wanted_at, read_of, coordinate_of}
use Rattle.dxf_entities.specs.Fields.{coordinate_from}
use Rattle.dxf_entities.specs.Points.{spot_at}
use Rattle.mm_decimal.specs.declared.numerals.MmRead.{MmRead}
use Rattle.mm_decimal.specs.declared.numerals.NumFault.{NumFault}

-- what comes after a value that was found
pub record Went {A B : Type 0} (f : A → Result B LayerFault) (r : Result A LayerFault) (made : B) : Type 0 where
  pub value : A
  pub is : r ≡ Ok value
  pub gives : f value ≡ Ok made

pub went : {A B : Type 0} (f : A → Result B LayerFault) (r : Result A LayerFault) (made : B) → and_then f r ≡ Ok made
    → Went f r made
went {A} {B} f (Ok value) made is = record { value = value; is = refl; gives = is }
went {A} {B} f (Err fault) made is = absurd (cc)

-- the pairs follow each other from one place to another
abbrev pub Follow : ℕ → List Pair → ℕ → Type 0
Follow from [] past = from ≤ past
Follow from (pair ∷ pairs) past = (from ≤ pair.start) × (pair.start < pair.value) × (pair.value ≤ pair.value_end)
    × (pair.value_end ≤ pair.end) × Follow pair.end pairs past

pub tiles_follow : (start line : ℕ) (pairs : List Pair) (past : ℕ) → AreTiles start line pairs past
    → Follow start pairs past
tiles_follow start line [] past tiles = omega (arith, tiles)
tiles_follow start line (pair ∷ pairs) past tiles = grind (arith, (tiles_follow pair.end _ pairs past tiles.5))

pub by_past : (from : ℕ) (pairs : List Pair) (past : ℕ) → Follow from pairs past → from ≤ past
by_past from [] past follow = follow
by_past from (pair ∷ pairs) past follow = omega
    (arith, follow.0, follow.1, follow.2, follow.3, by_past pair.end pairs past follow.4)

-- a pair of the list
abbrev pub IsIn : Pair → List Pair → Type 0
IsIn pair [] = ⊥
IsIn pair (other ∷ pairs) = (pair ≡ other) ⊎ IsIn pair pairs

-- where a pair of the list is
pub record Lies (low : ℕ) (pair : Pair) (high : ℕ) : Type 0 where
  pub begins : low ≤ pair.start
  pub code : pair.start < pair.value
  pub value : pair.value ≤ pair.value_end
  pub inside : pair.value_end ≤ pair.end
  pub ends : pair.end ≤ high

pub lies : (from : ℕ) (pair : Pair) (pairs : List Pair) (past : ℕ) → Follow from pairs past → IsIn pair pairs
    → Lies from pair past
lies from pair [] past follow is_in = absurd is_in
lies from pair (other ∷ pairs) past follow (inl is) = grind (arith, by_past)
lies from pair (other ∷ pairs) past follow (inr is_in) = grind (arith, (lies _ pair pairs past follow.4 is_in))

-- two pairs of the list with other codes: one comes before the other
pub one_before : (from : ℕ) (a b : Pair) (pairs : List Pair) (past : ℕ) → Follow from pairs past → IsIn a pairs
    → IsIn b pairs → (a.code ≡ b.code → ⊥) → (a.end ≤ b.start) ⊎ (b.end ≤ a.start)
one_before from a b [] past follow a_in b_in other = absurd a_in
one_before from a b (pair ∷ pairs) past follow (inl a_is) (inl b_is) other =
    absurd (other (ap (λ (p : Pair). p.code) (a_is ∙ sym b_is)))
one_before from a b (pair ∷ pairs) past follow (inl a_is) (inr b_in) other =
    inl (omega (arith, ap (λ (p : Pair). p.end) a_is, (lies pair.end b pairs past follow.4 b_in).begins))
one_before from a b (pair ∷ pairs) past follow (inr a_in) (inl b_is) other =
    inr (omega (arith, ap (λ (p : Pair). p.end) b_is, (lies pair.end a pairs past follow.4 a_in).begins))
one_before from a b (pair ∷ pairs) past follow (inr a_in) (inr b_in) other =
    one_before pair.end a b pairs past follow.4 a_in b_in other

pub in_taken : (n : ℕ) (pair : Pair) (pairs : List Pair) → IsIn pair (take n pairs) → IsIn pair pairs
in_taken zero pair pairs is_in = absurd is_in
in_taken (suc n) pair [] is_in = absurd is_in
in_taken (suc n) pair (other ∷ pairs) (inl is) = inl is
in_taken (suc n) pair (other ∷ pairs) (inr is_in) = inr (in_taken n pair pairs is_in)

pub record IsField (code : ℤ) (pair : Pair) (pairs : List Pair) : Type 0 where
  pub is_in : IsIn pair pairs
  pub coded : pair.code ≡ code

in_filter : (code : ℤ) (pair : Pair) (pairs : List Pair) → IsIn pair (filter (is_coded code) pairs)
    → IsField code pair pairs
in_filter code pair [] is_in = absurd is_in
in_filter code pair (other ∷ pairs) is_in = grind (arith, Decides-int_eq, (in_filter code pair pairs))

one_is : (found : List Pair) (pair : Pair) → at_most_one found ≡ Ok (Some pair) → IsIn pair found
one_is [] pair is = absurd (cc)
one_is (first ∷ []) pair is = let same : pair ≡ first = cc in inl same
one_is (first ∷ second ∷ more) pair is = absurd (cc)

-- a field that is found, among the entity's fields
pub field_is : (code : ℤ) (entity : Entity) (pair : Pair) → field_at code entity ≡ Ok (Some pair)
    → IsField code pair (entity_fields entity)
field_is code entity pair is = in_filter code pair _ (one_is _ pair is)

pub some_there : (entity : Entity) (found : Option Pair) (pair : Pair) → is_there entity found ≡ Ok pair
    → found ≡ Some pair
some_there entity None pair is = absurd (cc)
some_there entity (Some other) pair is = cc

pub wanted_is : (code : ℤ) (entity : Entity) (pair : Pair) → wanted_at code entity ≡ Ok pair
    → IsField code pair (entity_fields entity)
wanted_is code entity pair is = grind (arith, went, field_is, some_there)

read_pair : (exact : Bool) (pair : Pair) (number : Result MmRead NumFault) (read : Read)
    → read_of exact pair number ≡ Ok read → read.pair ≡ pair
read_pair exact pair (Err fault) read is = absurd (cc)
read_pair exact pair (Ok number) read is = grind arith

pub coordinate_is : (bytes : List ℕ) (exact : Bool) (pair : Pair) (read : Read)
    → coordinate_of bytes exact pair ≡ Ok read → read.pair ≡ pair
coordinate_is bytes exact pair read is = read_pair exact pair _ read is

coordinate_field : (bytes : List ℕ) (exact : Bool) (code : ℤ) (entity : Entity) (read : Read)
    → coordinate_from bytes exact code entity ≡ Ok read → IsField code read.pair (entity_fields entity)
coordinate_field bytes exact code entity read is = grind (arith, went, coordinate_is, wanted_is)

-- the two fields of a point
pub record HasFields (x y : ℤ) (spot : PointFields) (entity : Entity) : Type 0 where
  pub east : IsField x spot.x.pair (entity_fields entity)
  pub north : IsField y spot.y.pair (entity_fields entity)

pub spot_fields : (bytes : List ℕ) (exact : Bool) (x y : ℤ) (entity : Entity) (spot : PointFields)
    → spot_at bytes exact x y entity ≡ Ok spot → HasFields x y spot entity
spot_fields bytes exact x y entity spot is =
    let east = went _ (coordinate_from bytes exact x entity) spot is in
    let north = went _ (coordinate_from bytes exact y entity) spot east.gives in
    let made : spot ≡ record { x = east.value; y = north.value } = cc in
    subst (λ (s : PointFields). HasFields x y s entity) (sym made)
    (record {
      east = coordinate_field bytes exact x entity _ east.is;
      north = coordinate_field bytes exact y entity _ north.is;
    })
