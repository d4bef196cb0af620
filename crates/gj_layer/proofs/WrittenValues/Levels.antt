-- Levels of nesting that are left for the box of a feature, whose geometry may have none.
use Rattle.std.proofs.Common.{◌≡◌, ℕ, suc, ◌≤◌, inl, inr, Bool, true, List, [], ◌∷◌, refl, sym, ap, ◌∙◌, subst, arith}
use Rattle.std.specs.Prelude.{None, Ok, if◌then◌else◌}
use Rattle.jtext.specs.Characters.{units_of}
use Rattle.jtext.specs.Values.{Json, Members, null, truth, numeral, quoted, no_member, member, IsValue}
use Rattle.jtext.specs.Values.{AreMembers}
use Rattle.jtext.specs.Nodes.{element_start, member_start, next_place}
use Rattle.jtext.specs.Lookups.{are_same}
use Rattle.gj_layer.specs.declared.forms.GeoType.{GeoType}
use Rattle.gj_layer.specs.declared.forms.GeoType.TheVariants as types
use Rattle.gj_layer.specs.declared.forms.Holder.{Holder}
use Rattle.gj_layer.specs.declared.forms.Holder.TheVariants as holders
use Rattle.gj_layer.specs.declared.forms.Items.{Items}
use Rattle.gj_layer.specs.declared.forms.Items.TheVariants as items
use Rattle.gj_layer.specs.declared.forms.ValueForm.{ValueForm}
use Rattle.gj_layer.specs.declared.forms.ValueForm.TheVariants as forms
use Rattle.gj_layer.specs.Members.{Member, members_at, all_named}
use Rattle.gj_layer.specs.Paths.{Part}
use Rattle.gj_layer.specs.Objects.{content_form, is_allowed, with_content}
use Rattle.gj_layer.specs.Documents.{item_form, reading, content_reading}
use Rattle.gj_layer.proofs.OpenObjects.Fine.{tested}
use Rattle.gj_layer.proofs.OpenObjects.OpenValues.{content_is_read, at_most_is}
use Rattle.gj_layer.proofs.WrittenValues.ObjectTurns.{IsTyped}

-- this many levels are left where a value is wanted in this form
abbrev pub HasRoom : ValueForm → ℕ → Type 0
HasRoom (forms.Object holders.Layer) depth = 4 ≤ depth
HasRoom (forms.Object holders.Features) depth = 2 ≤ depth
HasRoom (forms.List items.Features) depth = 3 ≤ depth
HasRoom form depth = Unit {0}

pub content_room : (holder : Holder) (type : GeoType) (depth : ℕ) → is_allowed holder type ≡ true
    → HasRoom (forms.Object holder) (suc depth) → HasRoom (content_form type) depth
content_room holders.Layer types.FeatureCollection depth may room = omega (arith, room)
content_room holders.Features types.FeatureCollection depth may room = cc
content_room holders.Geometries types.FeatureCollection depth may room = cc
content_room holder type depth may room = tt

pub item_room : (all : Items) (depth : ℕ) → HasRoom (forms.List all) (suc depth) → HasRoom (item_form all) depth
item_room items.Features depth room = omega (arith, room)
item_room all depth room = tt

-- only null may be where nothing nests
flat_read : (value : Json) (exact : Bool) (form : ValueForm) (number start : ℕ) (part : Part)
    → reading exact form number start value ≡ Ok part → IsValue 0 value → form ≡ forms.Optional
flat_read null exact forms.Optional number start part is valid = refl
flat_read null exact (forms.Object holder) number start part is valid = cc
flat_read null exact (forms.Path trace) number start part is valid = cc
flat_read null exact (forms.List all) number start part is valid = cc
flat_read (truth b) exact form number start part is valid = cc
flat_read (numeral text) exact form number start part is valid = cc
flat_read (quoted chars) exact form number start part is valid = cc
flat_read _ exact form number start part is valid = absurd valid

optional_feature : (type : GeoType) → content_form type ≡ forms.Optional → type ≡ types.Feature
optional_feature types.Feature is = refl
optional_feature type is = cc

bare_feature : (type kind : GeoType) (start : ℕ) → with_content type start None ≡ Ok kind → type ≡ types.Feature
bare_feature types.Feature kind start is = refl
bare_feature type kind start is = cc

no_feature : (holder : Holder) (type : GeoType) → type ≡ types.Feature → is_allowed holder type ≡ true
    → HasRoom (forms.Object holder) 1 → ⊥
no_feature holders.Geometries type is may room = let e : is_allowed holders.Geometries types.Feature ≡ true =
    subst (λ t. is_allowed holders.Geometries t ≡ true) is may in cc
no_feature holder type is may room = absurd (omega (arith, room))

-- a member's value nests no deeper than the members may
value_in : (name : List ℕ) (depth place : ℕ) (members : Members) (one : Member) (more : List Member)
    → AreMembers depth members → all_named name (members_at place members) ≡ one ∷ more → IsValue depth one.value
value_in name depth place no_member one more valid is = cc
value_in name depth place (member before key behind ahead value after rest) one more valid is =
    let start = member_start place before key behind ahead in
    let here : Member = record { key_start = element_start place before; key = key; start = start; value = value } in
    let others = all_named name (members_at (next_place start value after) rest) in
    elim (tested (are_same (units_of key) name)) [
      | inl t ↦
          let e : here ∷ others ≡ one ∷ more = sym (ap (λ b. if b then here ∷ others else others) t) ∙ is in
          let head : here ≡ one = cc in
          subst (λ (m : Member). IsValue depth m.value) head valid.4
      | inr t ↦ value_in name depth (next_place start value after) rest one more valid.6
          (sym (ap (λ b. if b then here ∷ others else others) t) ∙ is)
    ]

-- an object has a level for a box
pub has_level : (exact : Bool) (holder : Holder) (number start place : ℕ) (members : Members) (type : GeoType)
    (inside : Part) → IsTyped holder start (members_at place members) type → HasRoom (forms.Object holder) 1
    → AreMembers 0 members → content_reading exact number place members type ≡ Ok inside → ⊥
has_level exact holder number start place members type inside t room valid read =
    grind (arith, no_feature, bare_feature, at_most_is, content_is_read, optional_feature, flat_read, value_in)
