-- How an object turns, where its content turns.
use Rattle.std.proofs.Common.{◌≡◌, ℕ, suc, ◌+◌, inl, inr, Bool, true, false, List, [], ◌∷◌, length, refl, sym, ◌∙◌}
use Rattle.std.proofs.Common.{subst, arith}
use Rattle.std.specs.Prelude.{codes, flat_map, Option, Some, None, Ok}
use Rattle.jtext.specs.Characters.{units_of}
use Rattle.jtext.specs.Values.{Json, Members, object, spelling, IsValue}
use Rattle.jtext.specs.Nodes.{inner_place}
use Rattle.jtext.specs.Lookups.{are_same}
use Rattle.sheet_base.specs.PointHeights.{Position}
use Rattle.sheet_base.specs.declared.edits.Edit.{Edit}
use Rattle.sheet_base.specs.declared.edits.What.TheVariants.{Bounds}
use Rattle.sheet_base.proofs.Swaps.{Swapped}
use Rattle.gj_layer.specs.declared.forms.GeoType.{GeoType}
use Rattle.gj_layer.specs.declared.forms.GeoType.TheVariants as types
use Rattle.gj_layer.specs.declared.forms.Holder.{Holder}
use Rattle.gj_layer.specs.declared.forms.ValueForm.TheVariants as forms
use Rattle.sheet_base.specs.Faults.{and_then}
use Rattle.gj_layer.specs.Members.{Member, members_at, is_named, all_named, find_member}
use Rattle.gj_layer.specs.Paths.{Part, nothing}
use Rattle.gj_layer.specs.Objects.{content_key, content_form, is_allowed, object_type, member_edits, object_part}
use Rattle.gj_layer.specs.Documents.{part_in, reading, content_reading}
use Rattle.gj_layer.proofs.OpenObjects.Fine.{split_then}
use Rattle.gj_layer.proofs.OpenObjects.OpenValues.{no_content_read, at_most_is, at_most_none}
use Rattle.gj_layer.proofs.WrittenPaths.DrawnImages.{AllSuit, IsDrawn}
use Rattle.gj_layer.proofs.WrittenValues.Turns.{DoesSay, ValueTurned, bracketed}
use Rattle.gj_layer.proofs.WrittenValues.MemberTurns.{MembersTurned, GoodTurned, members_turned, AreLike}
use Rattle.gj_layer.proofs.WrittenValues.ObjectTurns.{IsTyped, typed, named_alike, first_named}
use Rattle.gj_layer.proofs.Members.TextMeanings.{says_one}
use Rattle.gj_layer.proofs.WrittenValues.Levels.{HasRoom, has_level}

-- an object's members turn
pub record ObjectTurned (exact : Bool) (text : Edit → List ℕ) (images : ℕ → List Position) (holder : Holder)
    (number start depth : ℕ) (blank : List ℕ) (members : Members) (part : Part) : Type 0 where
  pub now : Members
  pub swap : Swapped text start (spelling (object blank members)) part.edits (spelling (object blank now))
  pub valid : IsValue depth (object blank now)
  pub reads : (at : ℕ) → IsDrawn images number part.paths
      (part_in (Some holder) number at (members_at (inner_place at blank) now)
      (content_reading exact number (inner_place at blank) now))

type_apart : (type : GeoType) → are_same (content_key type) (codes "type") ≡ false
type_apart types.FeatureCollection = refl
type_apart type = refl

none_alike : (news : List Member) → AreLike [] news → news ≡ []
none_alike [] like = refl
none_alike (new ∷ news) like = absurd like

module _ (exact : Bool) (text : Edit → List ℕ) (images : ℕ → List Position) (says : DoesSay text images) where
  -- the content is read with images in place of points
  abbrev IsGood : GeoType → ℕ → Part → Json → Type 0
  IsGood type number inside value = (at : ℕ)
      → IsDrawn images number inside.paths (reading exact (content_form type) number at value)

  content_turns : (type : GeoType) (number low : ℕ) (members : List Member) (inside : Part) (one : Member)
      → all_named (content_key type) members ≡ one ∷ []
      → ValueTurned exact text images (content_form type) number one.start (suc low) one.value inside
      → (holder : Holder) → GoodTurned text holder type (Bounds number (number + length inside.paths)) inside.edits low
      (IsGood type number inside) (λ one. says.boxes one number (number + length inside.paths)) says.nulls one
  content_turns type number low members inside one only v holder =
      let named = first_named (content_key type) members one [] only in
      let never : is_named (codes "type") one ≡ false =
      says_one (units_of one.key) (content_key type) (codes "type") (type_apart type) named in
      record {
        turned = record { now = v.now; swap = v.swap; valid = v.valid; type = λ t. let e = sym t ∙ never in cc };
        good = v.reads;
      }

  -- an object whose members turn so
  object_of : (holder : Holder) (number start low : ℕ) (blank : List ℕ) (members : Members) (type : GeoType)
      (inside : Part) → IsTyped holder start (members_at (inner_place start blank) members) type
      → IsValue (suc (suc low)) (object blank members)
      → (m : MembersTurned text type (suc low) (inner_place start blank) members
      (flat_map (member_edits holder type (Bounds number (number + length inside.paths)) inside.edits)
      (members_at (inner_place start blank) members)) (IsGood type number inside))
      → ((at : ℕ) → IsDrawn images number inside.paths (content_reading exact number at m.now type))
      → ObjectTurned exact text images holder number start (suc (suc low)) blank members
      (object_part holder type number (members_at (inner_place start blank) members) inside)
  object_of holder number start low blank members type inside t valid m drawn_so = grind (arith, bracketed)

  object_made : (holder : Holder) (number start low : ℕ) (blank : List ℕ) (members : Members) (type : GeoType)
      (inside : Part) → IsTyped holder start (members_at (inner_place start blank) members) type
      → content_reading exact number (inner_place start blank) members type ≡ Ok inside
      → IsValue (suc (suc low)) (object blank members)
      → ((one : Member) → all_named (content_key type) (members_at (inner_place start blank) members) ≡ one ∷ []
      → ValueTurned exact text images (content_form type) number one.start (suc low) one.value inside)
      → ObjectTurned exact text images holder number start (suc (suc low)) blank members
      (object_part holder type number (members_at (inner_place start blank) members) inside)
  object_made holder number start low blank members type inside t read valid content = by t.found t.found_is
    where
      by : (found : Option Member) → find_member (content_key type) (members_at (inner_place start blank) members)
          ≡ Ok found
          → ObjectTurned exact text images holder number start (suc (suc low)) blank members
          (object_part holder type number (members_at (inner_place start blank) members) inside)
      by (Some one) found_is =
          let place = inner_place start blank in
          let only = at_most_is (all_named (content_key type) (members_at place members)) one found_is in
          let m = members_turned text holder type (Bounds number (number + length inside.paths)) inside.edits low
          (IsGood type number inside) (λ one. says.boxes one number (number + length inside.paths)) says.nulls place
          members valid.1
          (inr (
            one,
            only,
            content_turns type number low (members_at place members) inside one only (content one only)
                holder,
          )) in
          let c = m.content one [] only in
          object_of holder number start low blank members type inside t valid m
          (λ at. subst (IsDrawn images number inside.paths) (sym (c.reads exact number at)) (c.good (c.start at)))
      by None found_is =
          let place = inner_place start blank in
          let none = at_most_none (all_named (content_key type) (members_at place members)) found_is in
          let m = members_turned text holder type (Bounds number (number + length inside.paths)) inside.edits low
          (IsGood type number inside) (λ one. says.boxes one number (number + length inside.paths)) says.nulls place
          members valid.1
          (inl none) in
          let same : nothing ≡ inside = let r = no_content_read exact number place members type none in cc in
          object_of holder number start low blank members type inside t valid m
          (λ at.
          let still = none_alike (all_named (content_key type) (members_at at m.now))
          (subst (λ ms. AreLike ms (all_named (content_key type) (members_at at m.now))) none
          (named_alike (content_key type) (members_at place members) (members_at at m.now) (m.like at))) in
          subst (λ (p : Part). IsDrawn images number p.paths (content_reading exact number at m.now type)) same
          (record {
            part = nothing;
            is = no_content_read exact number at m.now type still;
            drawn_are = refl;
            exact_all =
                refl;
          }))

  -- an object, where its content turns
  pub object_turned : (holder : Holder) (number start low : ℕ) (blank : List ℕ) (members : Members) (part : Part)
      → IsValue (suc (suc low)) (object blank members)
      → part_in (Some holder) number start (members_at (inner_place start blank) members)
      (content_reading exact number (inner_place start blank) members) ≡ Ok part → AllSuit images number part.paths
      → ((type : GeoType) (inside : Part) (one : Member) → is_allowed holder type ≡ true
      → content_reading exact number (inner_place start blank) members type ≡ Ok inside
      → all_named (content_key type) (members_at (inner_place start blank) members) ≡ one ∷ []
      → AllSuit images number inside.paths
      → ValueTurned exact text images (content_form type) number one.start (suc low) one.value inside)
      → ObjectTurned exact text images holder number start (suc (suc low)) blank members part
  object_turned holder number start low blank members part valid is suit content =
      let all = members_at (inner_place start blank) members in
      let (type, type_is, rest) = split_then (λ type. and_then
      (λ inside. Ok (object_part holder type number all inside))
      (content_reading exact number (inner_place start blank) members type)) (object_type holder start all) part
      is in
      let (inside, inside_is, made) = split_then (λ inside. Ok (object_part holder type number all inside))
      (content_reading exact number (inner_place start blank) members type) part rest in
      let same : object_part holder type number all inside ≡ part = cc in
      let suits = subst (λ (p : Part). AllSuit images number p.paths) (sym same) suit in
      let t = typed holder start all type type_is in
      subst (ObjectTurned exact text images holder number start (suc (suc low)) blank members) same
      (object_made holder number start low blank members type inside t inside_is valid
      (λ one only. content type inside one t.may inside_is only suits))

  pub object_flat : (holder : Holder) (number start : ℕ) (blank : List ℕ) (members : Members) (part : Part)
      → HasRoom (forms.Object holder) 1 → IsValue 1 (object blank members)
      → part_in (Some holder) number start (members_at (inner_place start blank) members)
      (content_reading exact number (inner_place start blank) members) ≡ Ok part → ⊥
  object_flat holder number start blank members part room valid is =
      let all = members_at (inner_place start blank) members in
      let (type, type_is, rest) = split_then (λ type. and_then
      (λ inside. Ok (object_part holder type number all inside))
      (content_reading exact number (inner_place start blank) members type)) (object_type holder start all) part
      is in
      let (inside, inside_is, made) = split_then (λ inside. Ok (object_part holder type number all inside))
      (content_reading exact number (inner_place start blank) members type) part rest in
      has_level exact holder number start (inner_place start blank) members type inside
      (typed holder start all type type_is) room valid.1 inside_is
