-- The edits of an object's members in order of the text: those of its own before those of its content, and after them.
use Rattle.std.proofs.Common.{◌≡◌, ℕ, ◌+◌, ◌<◌, ◌≤◌, List, [], ◌∷◌, ◌++◌, length, refl, sym, ap, ◌∙◌, subst, arith}
use Rattle.std.proofs.Common.{Bool, true, false, ◌⊎◌, inl, inr}
use Rattle.std.specs.Prelude.{flat_map, Option, Some, None, Ok, if◌then◌else◌}
use Rattle.std.proofs.lemmas.Bool.{lt-ltb, le-ltb}
use Rattle.jtext.specs.Values.{Members, no_member, member, spelling}
use Rattle.jtext.specs.Nodes.{member_start, next_place}
use Rattle.sheet_base.specs.declared.edits.Edit.{Edit}
use Rattle.sheet_base.specs.declared.edits.What.{What}
use Rattle.sheet_base.specs.declared.edits.What.TheVariants.{Null}
use Rattle.std.specs.List.{AllByRecursion}
use Rattle.sheet_base.specs.Splices.{AreInOrder}
use Rattle.gj_layer.specs.Members.{Member, members_at, at_most_one}
use Rattle.gj_layer.specs.Objects.{value_edit}
use Rattle.gj_layer.specs.InsideFrames.{in_order, fronts, behinds, value_edits}

-- the members begin one after the other, from this place on
abbrev pub Rise : ℕ → List Member → Type 0
Rise place [] = Unit {0}
Rise place (one ∷ members) = (place ≤ one.start) × Rise (one.start + 1) members

rise_from : (place other : ℕ) (members : List Member) → other ≤ place → Rise place members → Rise other members
rise_from place other [] le up = tt
rise_from place other (one ∷ members) le up = (omega (arith, le, up.0), up.1)

pub members_rise : (place : ℕ) (members : Members) → Rise place (members_at place members)
members_rise place no_member = tt
members_rise place (member before key behind ahead value after rest) =
    let start = member_start place before key behind ahead in (
      omega arith,
      rise_from (next_place start value after) (start + 1) (members_at (next_place start value after) rest)
          (omega arith) (members_rise (next_place start value after) rest),
    )

-- the edits all begin before the place, or none does
abbrev pub AreBefore : ℕ → List Edit → Type 0
AreBefore place [] = Unit {0}
AreBefore place (edit ∷ edits) = (edit.start < place) × AreBefore place edits

abbrev pub AreFrom : ℕ → List Edit → Type 0
AreFrom place [] = Unit {0}
AreFrom place (edit ∷ edits) = (place ≤ edit.start) × AreFrom place edits

from_less : (place other : ℕ) (edits : List Edit) → other ≤ place → AreFrom place edits → AreFrom other edits
from_less place other [] le are = tt
from_less place other (edit ∷ edits) le are = (omega (arith, le, are.0), from_less place other edits le are.1)

front_parts : (place : ℕ) (before after : List Edit) → AreBefore place before → AreFrom place after
    → fronts place (before ++ after) ≡ before
front_parts place [] [] b a = refl
front_parts place [] (edit ∷ after) b a = ap (λ t. if t then edit ∷ fronts place after else fronts place after)
    (le-ltb edit.start place a.0) ∙ front_parts place [] after tt a.1
front_parts place (edit ∷ before) after b a = grind (arith, lt-ltb, (front_parts place before after b.1 a))

behind_parts : (place : ℕ) (before after : List Edit) → AreBefore place before → AreFrom place after
    → behinds place (before ++ after) ≡ after
behind_parts place [] [] b a = refl
behind_parts place [] (edit ∷ after) b a =
    ap (λ t. if t then behinds place after else edit ∷ behinds place after) (le-ltb edit.start place a.0)
    ∙ ap (λ es. edit ∷ es) (behind_parts place [] after tt a.1)
behind_parts place (edit ∷ before) after b a =
    ap (λ t. if t then behinds place (before ++ after) else edit ∷ behinds place (before ++ after))
    (lt-ltb edit.start place b.0) ∙ behind_parts place before after b.1 a

-- the members that a test takes, in order
abbrev pub all_by : (Member → Bool) → List Member → List Member
all_by test [] = []
all_by test (one ∷ members) = if test one then one ∷ all_by test members else all_by test members

-- the edits in a member are inside its value
abbrev pub MembersFine : (Member → List Edit) → List Member → Type 0
MembersFine edits members = AllByRecursion
    (λ one. AreInOrder one.start (edits one) (one.start + length (spelling one.value))) members

value_order : (one : Member) (what : What)
    → AreInOrder one.start (value_edit one what ∷ []) (one.start + length (spelling one.value))
value_order one what = (omega arith, omega arith, omega arith)

order_of : (edits other : List Edit) (one : Member) → edits ≡ other
    → AreInOrder one.start other (one.start + length (spelling one.value))
    → AreInOrder one.start edits (one.start + length (spelling one.value))
order_of edits other one same order = subst (λ es. AreInOrder one.start es (one.start + length (spelling one.value)))
    (sym same) order

tested : (test : Bool) → (test ≡ true) ⊎ (test ≡ false)
tested true = inl refl
tested false = inr refl

-- The members of three kinds that exclude each other: two have edits of their own, the third those of the content.
module _ (first second third : Member → Bool) (bounds : What)
    (first_alone : (one : Member) → first one ≡ true → (second one ≡ false) × (third one ≡ false))
    (second_alone : (one : Member) → second one ≡ true → third one ≡ false) where
  abbrev pub edits_in : List Edit → Member → List Edit
  edits_in inner one = if first one then value_edit one bounds ∷ [] else if second one then value_edit one Null
      ∷ [] else if third one then inner else []

  abbrev own_in : List Member → List Edit
  own_in members = flat_map (edits_in []) members

  -- a member and what is known of its kinds
  pub data IsOf (one : Member) : Type 0 where
    is_first : first one ≡ true → second one ≡ false → third one ≡ false → IsOf one
    is_second : first one ≡ false → second one ≡ true → third one ≡ false → IsOf one
    is_third : first one ≡ false → second one ≡ false → third one ≡ true → IsOf one
    is_other : first one ≡ false → second one ≡ false → third one ≡ false → IsOf one

  kind_in : (one : Member) → IsOf one
  kind_in one = grind (arith)

  module _ (inner : List Edit) (one : Member) where
    at_first : first one ≡ true → edits_in inner one ≡ value_edit one bounds ∷ []
    at_first f = ap (λ b. if b then value_edit one bounds ∷ [] else if second one then value_edit one Null
        ∷ [] else if third one then inner else []) f

    at_second : first one ≡ false → second one ≡ true → edits_in inner one ≡ value_edit one Null ∷ []
    at_second f s =
        ap (λ b. if b then value_edit one bounds ∷ [] else if second one then value_edit one Null
        ∷ [] else if third one then inner else []) f
        ∙ ap (λ b. if b then value_edit one Null ∷ [] else if third one then inner else []) s

    at_third : first one ≡ false → second one ≡ false → third one ≡ true → edits_in inner one ≡ inner
    at_third f s t =
        ap (λ b. if b then value_edit one bounds ∷ [] else if second one then value_edit one Null
        ∷ [] else if third one then inner else []) f
        ∙ ap (λ b. if b then value_edit one Null ∷ [] else if third one then inner else []) s
        ∙ ap (λ b. if b then inner else []) t

    at_other : first one ≡ false → second one ≡ false → third one ≡ false → edits_in inner one ≡ []
    at_other f s t =
        ap (λ b. if b then value_edit one bounds ∷ [] else if second one then value_edit one Null
        ∷ [] else if third one then inner else []) f
        ∙ ap (λ b. if b then value_edit one Null ∷ [] else if third one then inner else []) s
        ∙ ap (λ b. if b then inner else []) t

  skipped : (test : Member → Bool) (one : Member) (members : List Member) → test one ≡ false
      → all_by test (one ∷ members) ≡ all_by test members
  skipped test one members is = ap (λ b. if b then one ∷ all_by test members else all_by test members) is

  taken : (test : Member → Bool) (one : Member) (members : List Member) → test one ≡ true
      → all_by test (one ∷ members) ≡ one ∷ all_by test members
  taken test one members is = ap (λ b. if b then one ∷ all_by test members else all_by test members) is

  more_edits : (inner : List Edit) (one : Member) (members : List Member) (head tail : List Edit)
      → edits_in inner one ≡ head → flat_map (edits_in inner) members ≡ tail
      → flat_map (edits_in inner) (one ∷ members) ≡ head ++ tail
  more_edits inner one members head tail h t = ap (λ es. es ++ flat_map (edits_in inner) members) h
      ∙ ap (λ es. head ++ es) t

  -- without a member of the third kind
  no_third : (members : List Member) (inner : List Edit) → all_by third members ≡ []
      → flat_map (edits_in inner) members ≡ own_in members
  no_third [] inner none = refl
  no_third (one ∷ members) inner none = grind (arith, kind_in, skipped, more_edits, taken, (no_third members inner))

  -- the edits of members begin where these do
  own_from : (place : ℕ) (members : List Member) → Rise place members → AreFrom place (own_in members)
  own_from place [] up = tt
  own_from place (one ∷ members) up =
      grind (
        arith,
        rise_from,
        kind_in,
        more_edits,
        (own_from place members (rise_from (one.start + 1) place members (omega (arith, up.0)) up.1)),
      )

  -- a member that a test takes begins no earlier
  taken_from : (test : Member → Bool) (place : ℕ) (members : List Member) (one : Member) (more : List Member)
      → Rise place members → all_by test members ≡ one ∷ more → place ≤ one.start
  taken_from test place [] one more up is = cc
  taken_from test place (next ∷ members) one more up is =
      grind (arith, tested, taken, skipped, (taken_from test (next.start + 1) members one more up.1))

  -- the edits before the one member of the third kind, and those after it
  pub record IsParted (members : List Member) (place : ℕ) : Type 0 where
    pub before : List Edit
    pub after : List Edit
    pub around : (inner : List Edit) → flat_map (edits_in inner) members ≡ before ++ (inner ++ after)
    pub are_before : AreBefore place before
    pub are_after : AreFrom place after

  parted : (place : ℕ) (members : List Member) (one : Member) → Rise place members → all_by third members ≡ one ∷ []
      → IsParted members one.start
  parted place [] one up is = cc
  parted place (next ∷ members) one up is = elim (kind_in next) [
    | is_first f s t ↦
        let here = sym (skipped third next members t) ∙ is in
        let p = parted (next.start + 1) members one up.1 here in
        let later = taken_from third (next.start + 1) members one [] up.1 here in
        record {
          before = value_edit next bounds ∷ p.before;
          after = p.after;
          around = λ inner. more_edits inner next members (value_edit next bounds ∷ []) (p.before ++ (inner ++ p.after))
              (at_first inner next f) (p.around inner);
          are_before = (omega (arith, later), p.are_before);
          are_after = p.are_after;
        }
    | is_second f s t ↦
        let here = sym (skipped third next members t) ∙ is in
        let p = parted (next.start + 1) members one up.1 here in
        let later = taken_from third (next.start + 1) members one [] up.1 here in
        record {
          before = value_edit next Null ∷ p.before;
          after = p.after;
          around = λ inner. more_edits inner next members (value_edit next Null ∷ []) (p.before ++ (inner ++ p.after))
              (at_second inner next f s) (p.around inner);
          are_before = (omega (arith, later), p.are_before);
          are_after = p.are_after;
        }
    | is_third f s t ↦
        let same : next ∷ all_by third members ≡ one ∷ [] = sym (taken third next members t) ∙ is in
        let head : next ≡ one = cc in
        let none : all_by third members ≡ [] = cc in
        let after : AreFrom one.start (own_in members) =
        subst (λ (m : Member). AreFrom m.start (own_in members)) head
        (from_less (next.start + 1) next.start (own_in members) (omega arith)
        (own_from (next.start + 1) members up.1)) in
        record {
          before = [];
          after = own_in members;
          around = λ inner. more_edits inner next members inner (own_in members) (at_third inner next f s t)
              (no_third members inner none);
          are_before = tt;
          are_after = after;
        }
    | is_other f s t ↦
        let p = parted (next.start + 1) members one up.1 (sym (skipped third next members t) ∙ is) in
        record {
          before = p.before;
          after = p.after;
          around = λ inner. more_edits inner next members [] (p.before ++ (inner ++ p.after))
              (at_other inner next f s t) (p.around inner);
          are_before = p.are_before;
          are_after = p.are_after;
        }
  ]

  -- a member or none, as a list
  abbrev pub optional : Option Member → List Member
  optional None = []
  optional (Some one) = one ∷ []

  optional_is : (members : List Member) (one : Option Member) → at_most_one members ≡ Ok one → members ≡ optional one
  optional_is [] None is = refl
  optional_is (one ∷ []) None is = cc
  optional_is members other is = cc

  none_left : (one : Member) (members : List Member) (found : Option Member) → one ∷ members ≡ optional found
      → (found ≡ Some one) × (members ≡ [])
  none_left one members None is = cc
  none_left one members (Some other) is = let same : one ≡ other = cc in let none : members ≡ [] =
      cc in (ap Some (sym same), none)

  second_only : (members : List Member) (crs : Option Member) → all_by first members ≡ []
      → all_by second members ≡ optional crs → own_in members ≡ value_edits crs Null
  second_only [] None none is = refl
  second_only [] (Some one) none is = cc
  second_only (one ∷ members) crs none is =
      grind (
        arith,
        kind_in,
        taken,
        none_left,
        more_edits,
        skipped,
        (second_only members None),
        (second_only members crs),
      )

  first_only : (members : List Member) (bbox : Option Member) → all_by second members ≡ []
      → all_by first members ≡ optional bbox → own_in members ≡ value_edits bbox bounds
  first_only [] None none is = refl
  first_only [] (Some one) none is = cc
  first_only (one ∷ members) bbox none is =
      grind (
        arith,
        kind_in,
        taken,
        none_left,
        more_edits,
        skipped,
        (first_only members None),
        (first_only members bbox),
      )

  bbox_first : (one : Member) (members : List Member) (crs : Option Member) → Rise (one.start + 1) members
      → all_by second members ≡ optional crs
      → value_edit one bounds ∷ value_edits crs Null ≡ in_order (value_edit one bounds ∷ []) (value_edits crs Null)
  bbox_first one members None up is = refl
  bbox_first one members (Some crs) up is = grind (arith, taken_from, le-ltb)

  crs_first : (one : Member) (members : List Member) (bbox : Option Member) → Rise (one.start + 1) members
      → all_by first members ≡ optional bbox
      → value_edit one Null ∷ value_edits bbox bounds ≡ in_order (value_edits bbox bounds) (value_edit one Null ∷ [])
  crs_first one members None up is = refl
  crs_first one members (Some bbox) up is = grind (arith, taken_from, lt-ltb)

  -- the edits of the first and the second kind, in order
  own_ordered : (place : ℕ) (members : List Member) (bbox crs : Option Member) → Rise place members
      → all_by first members ≡ optional bbox → all_by second members ≡ optional crs
      → own_in members ≡ in_order (value_edits bbox bounds) (value_edits crs Null)
  own_ordered place [] None None up is_bbox is_crs = refl
  own_ordered place (one ∷ members) bbox crs up is_bbox is_crs =
      grind (
        arith,
        kind_in,
        none_left,
        taken,
        skipped,
        more_edits,
        second_only,
        bbox_first,
        first_only,
        crs_first,
        (own_ordered (one.start + 1) members bbox crs up.1),
      )
  own_ordered place members bbox crs up is_bbox is_crs = cc

  -- the edits of members are inside their values
  pub fits_rest : (members : List Member) (inner : List Edit) → all_by third members ≡ []
      → MembersFine (edits_in inner) members
  fits_rest [] inner none = tt
  fits_rest (one ∷ members) inner none =
      grind (arith, kind_in, order_of, value_order, skipped, taken, (fits_rest members inner))

  pub fits_one : (members : List Member) (inner : List Edit) (one : Member) → all_by third members ≡ one ∷ []
      → AreInOrder one.start inner (one.start + length (spelling one.value)) → MembersFine (edits_in inner) members
  fits_one [] inner one is fits = cc
  fits_one (next ∷ members) inner one is fits =
      grind (arith, kind_in, order_of, value_order, skipped, taken, fits_rest, (fits_one members inner one))

  module _ (place : ℕ) (members : List Member) (up : Rise place members) (bbox crs : Option Member)
      (bbox_is : at_most_one (all_by first members) ≡ Ok bbox) (crs_is : at_most_one (all_by second members) ≡ Ok crs)
    where
      abbrev own : List Edit
      own = in_order (value_edits bbox bounds) (value_edits crs Null)

      own_is : own_in members ≡ own
      own_is = own_ordered place members bbox crs up (optional_is (all_by first members) bbox bbox_is)
          (optional_is (all_by second members) crs crs_is)

      pub laid_around : (one : Member) (inner : List Edit) → at_most_one (all_by third members) ≡ Ok (Some one)
          → flat_map (edits_in inner) members ≡ fronts one.start own ++ (inner ++ behinds one.start own)
      laid_around one inner is =
          let p = parted place members one up (optional_is (all_by third members) (Some one) is) in
          let parts : own ≡ p.before ++ p.after = sym own_is ∙ p.around [] in
          p.around inner
          ∙ ap (λ es. es ++ (inner ++ p.after)) (sym
          (ap (fronts one.start) parts ∙ front_parts one.start p.before p.after p.are_before p.are_after))
          ∙ ap (λ es. fronts one.start own ++ (inner ++ es))
          (sym (ap (behinds one.start) parts ∙ behind_parts one.start p.before p.after p.are_before p.are_after))

      -- where there is no content
      pub laid_alone : own_in members ≡ fronts 0 own ++ ([] ++ behinds 0 own)
      laid_alone =
          let from : AreFrom 0 own = subst (AreFrom 0) own_is
          (own_from 0 members (rise_from place 0 members (omega arith) up)) in
          own_is ∙ ap (λ es. es ++ own) (sym (front_parts 0 [] own tt from))
          ∙ ap (λ es. fronts 0 own ++ es) (sym (behind_parts 0 [] own tt from))
