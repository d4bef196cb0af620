-- Fields with other values, and what is read of them.
use Rattle.std.proofs.Common.{◌≡◌, ℕ, ℤ, pos, Bool, true, false, cond, refl, ap, sym, ◌∙◌, subst, List, [], ◌∷◌, ◌++◌}
use Rattle.std.proofs.Common.{map, filter, option_map, Option, None, Some, Ok, take_while}
use Rattle.std.specs.Prelude.{◌&&◌, ◌||◌, int_lt, ⊤}
use Rattle.std.specs.List.{list_any, list_all}
use Rattle.std.specs.Ordering.{int_eq}
use Rattle.std.proofs.lemmas.Bool.Decides.{Decides-int_eq}
use Rattle.std.proofs.lemmas.List.{append-nil}
use Rattle.std.proofs.lemmas.List.Sums.{take_while-cons}
use Rattle.mm_decimal.specs.MetresTexts.{mm_text}
use Rattle.plane_base.specs.declared.shapes.Pt.{Pt}
use Rattle.sheet_base.specs.ImageFits.{IsWithinReach}
use Rattle.dxf_pairs.specs.declared.pairs.Pair.{Pair}
use Rattle.dxf_pairs.specs.Groups.{Group, group_in, value_in}
use Rattle.dxf_entities.specs.Entities.{Entity, is_coded}
use Rattle.dxf_entities.specs.Fields.{entity_fields, at_most_one, field_at, wanted_at}
use Rattle.dxf_entities.proofs.Members.{went, some_there}
use Rattle.dxf_entities.proofs.GroupShapes.{next, filter_mapped, front_mapped, is_number, coded, fields_in, itself}
use Rattle.dxf_entities.proofs.GroupShapes.{one_value, value_at, value_wanted, number_in, number_at, point_at}
use Rattle.dxf_entities.proofs.GroupShapes.{is_of_extrusion, is_flat, not_repeated, flat_in, is_coordinate}
use Rattle.dxf_entities.proofs.WrittenGroups.{number_written}

-- ---- fields whose values are changed under some codes, and what is read of them
-- the codes under which values are changed
abbrev pub may_change : ℤ → Bool
may_change code =
    int_eq code (pos 10) || int_eq code (pos 20) || int_eq code (pos 11) || int_eq code (pos 21) || int_eq code (pos 30)
    || int_eq code (pos 31) || int_eq code (pos 5) || int_eq code (pos 90)

-- a pair with another value
abbrev pub with_value : (Pair → List ℕ) → Pair → Group
with_value value pair = record { code = pair.code; value = value pair }

-- other values stay
abbrev pub DoStay : List ℕ → (Pair → List ℕ) → List Pair → Type 0
DoStay bytes value [] = ⊤
DoStay bytes value (pair ∷ pairs) = (may_change pair.code ≡ false → value pair ≡ value_in bytes pair)
    × DoStay bytes value pairs

pub changed_fields : (value : Pair → List ℕ) (entity : Entity)
    → fields_in (map (with_value value) entity.pairs) ≡ map (with_value value) (entity_fields entity)
changed_fields value entity = sym (front_mapped (λ (pair : Pair). int_lt pair.code (pos 1000))
    (λ (group : Group). int_lt group.code (pos 1000)) (with_value value) (λ pair. refl) entity.pairs)

-- a field that was found has its other value
one_changed : (value : Pair → List ℕ) (pairs : List Pair) (found : Option Pair) → at_most_one pairs ≡ Ok found
    → one_value (map (with_value value) pairs) ≡ Some (option_map value found)
one_changed value [] found is = let none : found ≡ None = cc in rw none refl
one_changed value (pair ∷ []) found is = let some : found ≡ Some pair = cc in rw some refl
one_changed value (pair ∷ second ∷ pairs) found is = absurd (cc)

-- some new fields, which agree with those of an entity but under the codes that may change
pub record Agree (old new : List Group) : Type 0 where
  pub same : (code : ℤ) → may_change code ≡ false → filter (coded code) new ≡ filter (coded code) old
  pub flat : flat_in new ≡ flat_in old

pub value_same : (old new : List Group) (code : ℤ) → Agree old new → may_change code ≡ false
    → value_at code new ≡ value_at code old
value_same old new code agree stays = ap one_value (agree.same code stays)

-- the fields with other values under the code
filter_changed : (value : Pair → List ℕ) (code : ℤ) (pairs : List Pair)
    → filter (coded code) (map (with_value value) pairs) ≡ map (with_value value) (filter (is_coded code) pairs)
filter_changed value code pairs = sym (filter_mapped _ _ _ (λ pair. refl) pairs)

pub field_changed : (value : Pair → List ℕ) (code : ℤ) (entity : Entity) (found : Option Pair)
    → field_at code entity ≡ Ok found → value_at code (map (with_value value) (entity_fields entity))
    ≡ Some (option_map value found)
field_changed value code entity found is = ap one_value (filter_changed value code _) ∙ one_changed value _ found is

pub wanted_changed : (value : Pair → List ℕ) (code : ℤ) (entity : Entity) (pair : Pair)
    → wanted_at code entity ≡ Ok pair
    → value_wanted code (map (with_value value) (entity_fields entity)) ≡ Some (value pair)
wanted_changed value code entity pair is =
    let found = went _ (field_at code entity) pair is in
    let some : found.value ≡ Some pair = some_there entity _ pair found.gives in
    ap (next itself) (field_changed value code entity _ (found.is ∙ ap Ok some))

-- a point whose two numbers are written
pub point_changed : (exact : Bool) (x y : ℤ) (new : List Group) (point : Pt) → IsWithinReach point
    → value_wanted x new ≡ Some (mm_text point.x) → value_wanted y new ≡ Some (mm_text point.y)
    → point_at exact x y new ≡ Some point
point_changed exact x y new point within east north =
    let first : number_at exact x new ≡ Some point.x = ap (next (number_in exact)) east
    ∙ number_written exact point.x within.0 in
    let second : number_at exact y new ≡ Some point.y = ap (next (number_in exact)) north
    ∙ number_written exact point.y within.1 in cc

-- values that stay are the same
code_stays : (code : ℤ) (pair : Pair) → is_coded code pair ≡ true → may_change code ≡ false
    → may_change pair.code ≡ false
code_stays code pair is stays = let same : pair.code ≡ code =
    (Decides-int_eq pair.code code).0 is in subst (λ (c : ℤ). may_change c ≡ false) (sym same) stays

same_under : (bytes : List ℕ) (value : Pair → List ℕ) (pairs : List Pair) → DoStay bytes value pairs → (code : ℤ)
    → may_change code ≡ false
    → filter (coded code) (map (with_value value) pairs) ≡ filter (coded code) (map (group_in bytes) pairs)
same_under bytes value [] stay code stays = refl
same_under bytes value (pair ∷ pairs) stay code stays =
    by_test (is_coded code pair) refl (same_under bytes value pairs stay.1 code stays) where
      by_test : (here : Bool) → is_coded code pair ≡ here
          → filter (coded code) (map (with_value value) pairs) ≡ filter (coded code) (map (group_in bytes) pairs)
          → cond here (with_value value pair ∷ filter (coded code) (map (with_value value) pairs))
          (filter (coded code) (map (with_value value) pairs))
          ≡ cond here (group_in bytes pair ∷ filter (coded code) (map (group_in bytes) pairs))
          (filter (coded code) (map (group_in bytes) pairs))
      by_test true is rest =
          let same : value pair ≡ value_in bytes pair = stay.0 (code_stays code pair is stays) in cc
      by_test false is rest = rest

-- fields of an extrusion stay
extrusion_stays : (code : ℤ) → (int_eq code (pos 210) || int_eq code (pos 220) || int_eq code (pos 230)) ≡ true
    → may_change code ≡ false
extrusion_stays code is = by_tests (int_eq code (pos 210)) (int_eq code (pos 220)) (int_eq code (pos 230)) refl refl
    refl is where
      by_tests : (one two three : Bool) → int_eq code (pos 210) ≡ one → int_eq code (pos 220) ≡ two
          → int_eq code (pos 230) ≡ three → (one || two || three) ≡ true → may_change code ≡ false
      by_tests true two three one_is _ _ any = let same : code ≡ pos 210 =
          (Decides-int_eq code (pos 210)).0 one_is in subst (λ (c : ℤ). may_change c ≡ false) (sym same) refl
      by_tests false true three _ two_is _ any = let same : code ≡ pos 220 =
          (Decides-int_eq code (pos 220)).0 two_is in subst (λ (c : ℤ). may_change c ≡ false) (sym same) refl
      by_tests false false true _ _ three_is any = let same : code ≡ pos 230 =
          (Decides-int_eq code (pos 230)).0 three_is in subst (λ (c : ℤ). may_change c ≡ false) (sym same) refl
      by_tests false false false _ _ _ any = absurd (cc)

-- the groups of an extrusion, which alone decide whether one is upwards
abbrev pub upwards : List Group → List Group
upwards groups = filter is_of_extrusion groups

flat_with : (one two three up other : Bool) → (one || two || three) ≡ false
    → cond three up (cond (one || two || three) other true) ≡ true
flat_with true two three up other none = absurd (cc)
flat_with false true three up other none = absurd (cc)
flat_with false false true up other none = absurd (cc)
flat_with false false false up other none = refl

no_other : (group : Group) → is_of_extrusion group ≡ false → is_flat group ≡ true
no_other group is = flat_with (coded (pos 210) group) (coded (pos 220) group) (coded (pos 230) group)
    (is_number 1 group.value) (is_number 0 group.value) is

all_upwards : (groups : List Group) → list_all is_flat groups ≡ list_all is_flat (upwards groups)
all_upwards [] = refl
all_upwards (group ∷ groups) = by_test (is_of_extrusion group) refl (all_upwards groups) where
  by_test : (here : Bool) → is_of_extrusion group ≡ here → list_all is_flat groups ≡ list_all is_flat (upwards groups)
      → (is_flat group && list_all is_flat groups)
      ≡ list_all is_flat (cond here (group ∷ upwards groups) (upwards groups))
  by_test true is rest = ap (λ (b : Bool). is_flat group && b) rest
  by_test false is rest = let flat = no_other group is in rw flat rest

-- a code of an extrusion is looked for among those of extrusions
any_upwards : (code : ℤ) (groups : List Group)
    → (int_eq code (pos 210) || int_eq code (pos 220) || int_eq code (pos 230)) ≡ true
    → list_any (coded code) groups ≡ list_any (coded code) (upwards groups)
any_upwards code [] of = refl
any_upwards code (group ∷ groups) of = by_test (is_of_extrusion group) refl (any_upwards code groups of) where
  never : is_of_extrusion group ≡ false → coded code group ≡ true → ⊥
  never off is =
      let same : group.code ≡ code = (Decides-int_eq group.code code).0 is in
      let yes : is_of_extrusion group ≡ true = cc in
      let both : true ≡ false = sym yes ∙ off in cc

  by_code : (is : Bool) → coded code group ≡ is → is_of_extrusion group ≡ false
      → list_any (coded code) groups ≡ list_any (coded code) (upwards groups)
      → (is || list_any (coded code) groups) ≡ list_any (coded code) (upwards groups)
  by_code true is off rest = absurd (never off is)
  by_code false is off rest = rest

  by_test : (here : Bool) → is_of_extrusion group ≡ here
      → list_any (coded code) groups ≡ list_any (coded code) (upwards groups)
      → (coded code group || list_any (coded code) groups)
      ≡ list_any (coded code) (cond here (group ∷ upwards groups) (upwards groups))
  by_test true is rest = ap (λ (b : Bool). coded code group || b) rest
  by_test false is rest = by_code (coded code group) refl is rest

behind_upwards : (before : List Group) (group : Group)
    → upwards (before ++ group ∷ []) ≡ upwards before ++ cond (is_of_extrusion group) (group ∷ []) []
behind_upwards [] group = refl
behind_upwards (first ∷ before) group = by_test (is_of_extrusion first) (behind_upwards before group) where
  by_test : (here : Bool) → upwards (before ++ group ∷ []) ≡ upwards before
      ++ cond (is_of_extrusion group) (group ∷ []) []
      → cond here (first ∷ upwards (before ++ group ∷ [])) (upwards (before ++ group ∷ []))
      ≡ cond here (first ∷ upwards before) (upwards before) ++ cond (is_of_extrusion group) (group ∷ []) []
  by_test true rest = ap (λ (more : List Group). first ∷ more) rest
  by_test false rest = rest

repeat_upwards : (before groups : List Group)
    → not_repeated before groups ≡ not_repeated (upwards before) (upwards groups)
repeat_upwards before [] = refl
repeat_upwards before (group ∷ groups) = by_test (is_of_extrusion group) refl (behind_upwards before group)
    (repeat_upwards _ groups) where
      by_again : (again : Bool) → not_repeated (before ++ group ∷ []) groups
          ≡ not_repeated (upwards before ++ group ∷ []) (upwards groups)
          → cond again None (not_repeated (before ++ group ∷ []) groups)
          ≡ cond again None (not_repeated (upwards before ++ group ∷ []) (upwards groups))
      by_again true rest = refl
      by_again false rest = rest

      by_test : (here : Bool) → is_of_extrusion group ≡ here
          → upwards (before ++ group ∷ []) ≡ upwards before ++ cond (is_of_extrusion group) (group ∷ []) []
          → not_repeated (before ++ group ∷ []) groups ≡ not_repeated (upwards (before ++ group ∷ [])) (upwards groups)
          → cond (here && list_any (coded group.code) before) None (not_repeated (before ++ group ∷ []) groups)
          ≡ not_repeated (upwards before) (cond here (group ∷ upwards groups) (upwards groups))
      by_test true is behind rest =
          let any : list_any (coded group.code) before ≡ list_any (coded group.code) (upwards before) =
          any_upwards _ before is in
          let on : not_repeated (before ++ group ∷ []) groups
          ≡ not_repeated (upwards before ++ group ∷ []) (upwards groups) = cc in
          rw (is, any) (by_again (list_any (coded group.code) (upwards before)) on)
      by_test false is behind rest = rest ∙ ap (λ (b : List Group). not_repeated b (upwards groups))
          (behind ∙ (ap (λ (b : Bool). upwards before ++ cond b (group ∷ []) []) is ∙ append-nil (upwards before)))

flat_upwards : (groups : List Group) → flat_in groups ≡ flat_in (upwards groups)
flat_upwards groups = rw (all_upwards groups, repeat_upwards [] groups) refl

same_flat : (old new : List Group) → upwards new ≡ upwards old → flat_in new ≡ flat_in old
same_flat old new same = flat_upwards new ∙ (ap flat_in same ∙ sym (flat_upwards old))

upwards_stay : (bytes : List ℕ) (value : Pair → List ℕ) (pairs : List Pair) → DoStay bytes value pairs
    → upwards (map (with_value value) pairs) ≡ upwards (map (group_in bytes) pairs)
upwards_stay bytes value [] stay = refl
upwards_stay bytes value (pair ∷ pairs) stay =
    by_test (is_of_extrusion (group_in bytes pair)) refl (upwards_stay bytes value pairs stay.1) where
      by_test : (here : Bool) → is_of_extrusion (group_in bytes pair) ≡ here
          → upwards (map (with_value value) pairs) ≡ upwards (map (group_in bytes) pairs)
          → cond here (with_value value pair ∷ upwards (map (with_value value) pairs))
          (upwards (map (with_value value) pairs))
          ≡ cond here (group_in bytes pair ∷ upwards (map (group_in bytes) pairs))
          (upwards (map (group_in bytes) pairs))
      by_test true is rest =
          let same : value pair ≡ value_in bytes pair = stay.0 (extrusion_stays pair.code is) in cc
      by_test false is rest = rest

-- fields with values that stay but under the codes that may change
pub agree_by : (bytes : List ℕ) (value : Pair → List ℕ) (pairs : List Pair) → DoStay bytes value pairs
    → Agree (map (group_in bytes) pairs) (map (with_value value) pairs)
agree_by bytes value pairs stay = record {
  same = same_under bytes value pairs stay;
  flat = same_flat (map (group_in bytes) pairs) (map (with_value value) pairs) (upwards_stay bytes value pairs stay);
}

-- ---- the groups of fields with other values, and with further points between them
abbrev pub is_small : Pair → Bool
is_small pair = int_lt pair.code (pos 1000)

-- pairs with these values; at each place where one of them begins, and where the last one ends, these texts are
abbrev pub made : (Pair → List ℕ) → (ℕ → List Group) → ℕ → List Pair → List Group
made value texts from [] = texts from
made value texts from (pair ∷ pairs) = texts from ++ (with_value value pair ∷ made value texts pair.end pairs)

-- the same without the first of the texts
abbrev pub left : (Pair → List ℕ) → (ℕ → List Group) → List Pair → List Group
left value texts [] = []
left value texts (pair ∷ pairs) = with_value value pair ∷ made value texts pair.end pairs

pub made_both : (value : Pair → List ℕ) (texts : ℕ → List Group) (from : ℕ) (pairs : List Pair)
    → made value texts from pairs ≡ texts from ++ left value texts pairs
made_both value texts from [] = sym (append-nil (texts from))
made_both value texts from (pair ∷ pairs) = refl

-- groups of numbers of points
abbrev pub AreNumbers : List Group → Type 0
AreNumbers [] = ⊤
AreNumbers (group ∷ groups) = (is_coordinate group ≡ true) × AreNumbers groups

pub numbers_both : (groups more : List Group) → AreNumbers groups → AreNumbers more → AreNumbers (groups ++ more)
numbers_both [] more first second = second
numbers_both (group ∷ groups) more first second = (first.0, numbers_both groups more first.1 second)

-- what is so under both codes
by_number : (P : ℤ → Type 0) → P (pos 10) → P (pos 20) → (group : Group) → is_coordinate group ≡ true → P group.code
by_number P ten twenty group is = by_tests (coded (pos 10) group) (coded (pos 20) group) refl refl is where
  by_tests : (a b : Bool) → coded (pos 10) group ≡ a → coded (pos 20) group ≡ b → (a || b) ≡ true → P group.code
  by_tests true b one two any = let same : group.code ≡ pos 10 =
      (Decides-int_eq group.code (pos 10)).0 one in subst P (sym same) ten
  by_tests false true one two any = let same : group.code ≡ pos 20 =
      (Decides-int_eq group.code (pos 20)).0 two in subst P (sym same) twenty
  by_tests false false one two any = absurd (cc)

front_numbers : (groups more : List Group) → AreNumbers groups → fields_in (groups ++ more) ≡ groups ++ fields_in more
front_numbers [] more are = refl
front_numbers (group ∷ groups) more are =
    let low : int_lt group.code (pos 1000) ≡ true =
    by_number (λ (c : ℤ). int_lt c (pos 1000) ≡ true) refl refl group are.0 in
    take_while-cons (λ (g : Group). int_lt g.code (pos 1000)) group (groups ++ more)
    ∙ rw low (ap (λ (rest : List Group). group ∷ rest) (front_numbers groups more are.1))

no_numbers : (q : Group → Bool) → ((group : Group) → is_coordinate group ≡ true → q group ≡ false)
    → (groups more : List Group) → AreNumbers groups → filter q (groups ++ more) ≡ filter q more
no_numbers q off [] more are = refl
no_numbers q off (group ∷ groups) more are = let here = off group are.0 in rw here (no_numbers q off groups more are.1)

-- a code that is no point's
pub other_code : (code : ℤ) → (code ≡ pos 10 → ⊥) → (code ≡ pos 20 → ⊥) → (group : Group) → is_coordinate group ≡ true
    → coded code group ≡ false
other_code code no_ten no_twenty group is =
    by_number (λ (c : ℤ). int_eq c code ≡ false) (off (pos 10) no_ten) (off (pos 20) no_twenty) group is where
      off : (other : ℤ) → (code ≡ other → ⊥) → int_eq other code ≡ false
      off other never = by_test (int_eq other code) refl where
        by_test : (same : Bool) → int_eq other code ≡ same → same ≡ false
        by_test true is = absurd (never (sym ((Decides-int_eq other code).0 is)))
        by_test false is = refl

stays_other : (code : ℤ) → may_change code ≡ false → (group : Group) → is_coordinate group ≡ true
    → coded code group ≡ false
stays_other code stays = other_code code (λ is. never (pos 10) is refl) (λ is. never (pos 20) is refl) where
  never : (other : ℤ) → code ≡ other → may_change other ≡ true → ⊥
  never other is changes = let both : true ≡ false = sym changes ∙ (ap may_change (sym is) ∙ stays) in cc

module _ (value : Pair → List ℕ) (texts : ℕ → List Group) (all : (place : ℕ) → AreNumbers (texts place)) where
  -- the fields among them
  pub fields_made : (from : ℕ) (pairs : List Pair)
      → fields_in (made value texts from pairs) ≡ made value texts from (take_while is_small pairs)
  fields_made from [] = ap fields_in (sym (append-nil (texts from))) ∙ (front_numbers _ [] (all from) ∙ append-nil
      (texts from))
  fields_made from (pair ∷ pairs) =
      front_numbers _ _ (all from) ∙ (ap (λ (rest : List Group). texts from ++ rest) (take_while-cons (λ (g : Group).
      int_lt g.code (pos 1000)) (with_value value pair) (made value texts pair.end pairs)) ∙ (by_test (is_small pair)
      (fields_made pair.end pairs) ∙ ap (made value texts from) (sym (take_while-cons is_small pair pairs))))
    where
      by_test : (small : Bool) → fields_in (made value texts pair.end pairs)
          ≡ made value texts pair.end (take_while is_small pairs)
          → texts from ++ cond small (with_value value pair ∷ fields_in (made value texts pair.end pairs)) []
          ≡ made value texts from (cond small (pair ∷ take_while is_small pairs) [])
      by_test true rest = ap (λ (more : List Group). texts from ++ (with_value value pair ∷ more)) rest
      by_test false rest = append-nil (texts from)

  pub filter_made : (q : Group → Bool) → ((group : Group) → is_coordinate group ≡ true → q group ≡ false)
      → (from : ℕ) (pairs : List Pair) → filter q (made value texts from pairs)
      ≡ filter q (map (with_value value) pairs)
  filter_made q off from [] = ap (filter q) (sym (append-nil (texts from)))
      ∙ no_numbers q off (texts from) [] (all from)
  filter_made q off from (pair ∷ pairs) =
      no_numbers q off _ _ (all from) ∙ ap (λ (more : List Group). cond (q (with_value value pair)) (with_value value
      pair ∷ more) more) (filter_made q off pair.end pairs)

  pub made_agrees : (bytes : List ℕ) (from : ℕ) (fields : List Pair) → DoStay bytes value fields
      → Agree (map (group_in bytes) fields) (made value texts from fields)
  made_agrees bytes from fields stay =
      let agree = agree_by bytes value fields stay in
      let upright = filter_made is_of_extrusion
      (λ (group : Group) (is : is_coordinate group ≡ true). by_number
      (λ (c : ℤ). (int_eq c (pos 210) || int_eq c (pos 220) || int_eq c (pos 230)) ≡ false) refl refl group is) from
      fields in
      record {
        same = λ code stays. filter_made (coded code) (stays_other code stays) from fields ∙ agree.same code stays;
        flat = same_flat (map (with_value value) fields) (made value texts from fields) upright ∙ agree.flat;
      }
