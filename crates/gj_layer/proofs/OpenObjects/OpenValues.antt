-- Objects and arrays that are opened.
use Rattle.std.proofs.Common.{◌≡◌, ℕ, ◌+◌, ◌-◌, ◌<◌, ◌⊎◌, inl, inr, List, [], ◌∷◌, ◌++◌, length, refl, sym, ap, ◌∙◌}
use Rattle.std.proofs.Common.{subst, arith, append-nil, Bool, true, false, ◌&&◌}
use Rattle.std.specs.Prelude.{codes, flat_map, Option, Some, None, Result, Ok, Err, if◌then◌else◌, slice_get}
use Rattle.jtext.specs.Characters.{units_of}
use Rattle.jtext.specs.Values.{Json, Elements, Members, spelling, null, truth, array, object}
use Rattle.jtext.specs.Values.{no_element, element, no_member, member}
use Rattle.jtext.specs.Nodes.{kind_of, inner_place, element_start, member_start, next_place}
use Rattle.jtext.specs.Places.{HasNodesAt}
use Rattle.jtext.specs.Lookups.{are_same}
use Rattle.jtext.specs.declared.document.Kind.TheVariants as kinds
use Rattle.jtext.specs.declared.document.Node.{Node}
use Rattle.sheet_base.specs.declared.edits.Edit.{Edit}
use Rattle.sheet_base.specs.declared.edits.What.{What}
use Rattle.sheet_base.specs.declared.edits.What.TheVariants.{Null}
use Rattle.sheet_base.specs.declared.faults.LayerFault.{LayerFault}
use Rattle.sheet_base.specs.declared.faults.LayerFault.TheVariants.{Shape}
use Rattle.sheet_base.specs.declared.faults.LayerFault.TheVariants as faults
use Rattle.gj_layer.specs.declared.forms.Trace.{Trace}
use Rattle.gj_layer.proofs.Coordinates.ReadPaths.{not_traced}
use Rattle.gj_layer.specs.declared.forms.GeoType.{GeoType}
use Rattle.gj_layer.specs.declared.forms.GeoType.TheVariants as types
use Rattle.gj_layer.specs.declared.forms.Holder.{Holder}
use Rattle.gj_layer.specs.declared.forms.Holder.TheVariants as holders
use Rattle.gj_layer.specs.declared.forms.Items.{Items}
use Rattle.gj_layer.specs.declared.forms.ValueForm.{ValueForm}
use Rattle.gj_layer.specs.declared.forms.ValueForm.TheVariants as forms
use Rattle.gj_layer.specs.declared.frames.ByteSpan.{ByteSpan}
use Rattle.gj_layer.specs.declared.frames.OpenFrame.{OpenFrame}
use Rattle.gj_layer.specs.declared.frames.Ending.{Ending}
use Rattle.gj_layer.specs.declared.objects.Looked.{Looked}
use Rattle.sheet_base.specs.Faults.{and_then}
use Rattle.gj_layer.specs.Members.{Member, members_at, is_named, all_named, at_most_one, find_member}
use Rattle.gj_layer.specs.Objects.{content_key, content_form, has_crs, find_crs, object_type, member_edits, object_part}
use Rattle.gj_layer.specs.Paths.{Part, nothing, joint_part, paths_of_trace, part_of}
use Rattle.gj_layer.specs.Documents.{item_form, reading, readings, content_reading}
use Rattle.gj_layer.specs.declared.pass.PathsRead.{PathsRead}
use Rattle.gj_layer.specs.InsideNodes.{AreFound, Holds}
use Rattle.gj_layer.specs.InsideFrames.{Open, Takes, edit_at, value_edits, own_edits, in_order, fronts, behinds}
use Rattle.gj_layer.specs.InsideFrames.{IsContentAt}
use Rattle.gj_layer.specs.InsideFrames.{Opens, AreLooked}
use Rattle.gj_layer.proofs.Members.There.{array_left}
use Rattle.gj_layer.proofs.Coordinates.PathsSoFar.{length-rows_from}
use Rattle.gj_layer.proofs.Members.TextMeanings.{says_one}
use Rattle.sheet_base.specs.Splices.{AreInOrder}
use Rattle.gj_layer.proofs.OpenObjects.EditLayout.{MembersFine, all_by, members_rise, laid_around, laid_alone, fits_one, fits_rest}
use Rattle.plain_laws.proofs.Booleans.{and_second}

pub joined_nothing : (part : Part) → joint_part part nothing ≡ part
joined_nothing part = grind (arith, append-nil)

pub no_object : (exact : Bool) (holder : Holder) (number start : ℕ) (value : Json) → (kind_of value ≡ kinds.Object → ⊥)
    → reading exact (forms.Object holder) number start value ≡ Err (Shape start)
no_object exact holder number start (object blank members) never = absurd (never refl)
no_object exact holder _ start _ never = refl

pub no_array : (exact : Bool) (all : Items) (number start : ℕ) (value : Json) → (kind_of value ≡ kinds.Array → ⊥)
    → reading exact (forms.List all) number start value ≡ Err (Shape start)
no_array exact all number start (array blank elements) never = absurd (never refl)
no_array exact all _ start _ never = refl

one_alone : (r : Result Part LayerFault) → and_then (λ one. Ok (joint_part one nothing)) r ≡ r
one_alone (Ok part) = ap Ok (joined_nothing part)
one_alone (Err fault) = refl

-- one value alone
abbrev pub alone : Json → Elements
alone value = element [] value [] no_element

pub alone_read : (exact : Bool) (form : ValueForm) (number start : ℕ) (value : Json)
    → readings exact form number start (alone value) ≡ reading exact form number start value
alone_read exact form number start value =
    let same : start + 0 ≡ start = omega arith in
    one_alone (reading exact form number (start + 0) value) ∙ ap (λ n. reading exact form number n value) same

tested : (test : Bool) → (test ≡ true) ⊎ (test ≡ false)
tested true = inl refl
tested false = inr refl

-- the content of an object is read where its member is the one of that name
pub content_is_read : (exact : Bool) (number place : ℕ) (members : Members) (type : GeoType) (one : Member)
    (more : List Member) → all_named (content_key type) (members_at place members) ≡ one ∷ more
    → content_reading exact number place members type ≡ reading exact (content_form type) number one.start one.value
content_is_read exact number place no_member type one more is = cc
content_is_read exact number place (member before key behind ahead value after rest) type one more is =
    let start = member_start place before key behind ahead in
    let here : Member = record { key_start = element_start place before; key = key; start = start; value = value } in
    let others = all_named (content_key type) (members_at (next_place start value after) rest) in
    elim (tested (are_same (units_of key) (content_key type))) [
      | inl t ↦
          let same : here ∷ others ≡ one ∷ more = sym (ap (λ b. if b then here ∷ others else others) t) ∙ is in
          let head : here ≡ one = cc in
          ap (λ b. if b then reading exact (content_form type) number start value else content_reading exact number
          (next_place start value after) rest type) t
          ∙ ap (λ (m : Member). reading exact (content_form type) number m.start m.value) head
      | inr t ↦
          ap (λ b. if b then reading exact (content_form type) number start value else content_reading exact number
          (next_place start value after) rest type) t
          ∙ content_is_read exact number (next_place start value after) rest type one more
          (sym (ap (λ b. if b then here ∷ others else others) t) ∙ is)
    ]

pub no_content_read : (exact : Bool) (number place : ℕ) (members : Members) (type : GeoType)
    → all_named (content_key type) (members_at place members) ≡ []
    → content_reading exact number place members type ≡ Ok nothing
no_content_read exact number place no_member type is = refl
no_content_read exact number place (member before key behind ahead value after rest) type is =
    let start = member_start place before key behind ahead in
    let here : Member = record { key_start = element_start place before; key = key; start = start; value = value } in
    let others = all_named (content_key type) (members_at (next_place start value after) rest) in
    elim (tested (are_same (units_of key) (content_key type))) [
      | inl t ↦ let some : here ∷ others ≡ [] = sym (ap (λ b. if b then here ∷ others else others) t) ∙ is in cc
      | inr t ↦
          ap (λ b. if b then reading exact (content_form type) number start value else content_reading exact number
          (next_place start value after) rest type) t
          ∙ no_content_read exact number (next_place start value after) rest type
          (sym (ap (λ b. if b then here ∷ others else others) t) ∙ is)
    ]

-- the three names are three
pub bbox_apart : (type : GeoType) → are_same (codes "bbox") (content_key type) ≡ false
bbox_apart types.FeatureCollection = refl
bbox_apart type = refl

pub crs_apart : (type : GeoType) → are_same (codes "crs") (content_key type) ≡ false
crs_apart types.FeatureCollection = refl
crs_apart type = refl

named_all : (name : List ℕ) (members : List Member) → all_by (is_named name) members ≡ all_named name members
named_all name [] = refl
named_all name (one ∷ members) = ap (λ ms. if is_named name one then one ∷ ms else ms) (named_all name members)

none_by : (members : List Member) → all_by (λ one. false && is_named (codes "crs") one) members ≡ []
none_by [] = refl
none_by (one ∷ members) = none_by members

crs_all : (members : List Member) → all_by (λ one. true && is_named (codes "crs") one) members
    ≡ all_named (codes "crs") members
crs_all [] = refl
crs_all (one ∷ members) = ap (λ ms. if is_named (codes "crs") one then one ∷ ms else ms) (crs_all members)

both_false : (a b : Bool) → b ≡ false → (a && b) ≡ false
both_false true b is = is
both_false false b is = refl

module _ (holder : Holder) (type : GeoType) (place : ℕ) (members : Members) where
  abbrev all_here : List Member
  all_here = members_at place members

  abbrev first : Member → Bool
  first one = is_named (codes "bbox") one

  abbrev second : Member → Bool
  second one = has_crs holder && is_named (codes "crs") one

  abbrev third : Member → Bool
  third one = is_named (content_key type) one

  first_alone : (one : Member) → first one ≡ true → (second one ≡ false) × (third one ≡ false)
  first_alone one is = (
    both_false (has_crs holder) (is_named (codes "crs") one)
        (says_one (units_of one.key) (codes "bbox") (codes "crs") refl is),
    says_one (units_of one.key) (codes "bbox") (content_key type) (bbox_apart type) is,
  )

  second_alone : (one : Member) → second one ≡ true → third one ≡ false
  second_alone one is = says_one (units_of one.key) (codes "crs") (content_key type) (crs_apart type)
      (and_second (has_crs holder) (is_named (codes "crs") one) is)

  crs_so : (holder : Holder) (crs : Option Member) → find_crs holder all_here ≡ Ok crs
      → at_most_one (all_by (λ one. has_crs holder && is_named (codes "crs") one) all_here) ≡ Ok crs
  crs_so holders.Layer crs is = ap at_most_one (crs_all all_here) ∙ is
  crs_so holder crs is = ap at_most_one (none_by all_here) ∙ is

  module _ (bbox crs : Option Member) (bbox_is : find_member (codes "bbox") all_here ≡ Ok bbox)
      (crs_is : find_crs holder all_here ≡ Ok crs) (bounds : What) where
    around_content : (one : Member) (inner : List Edit) → find_member (content_key type) all_here ≡ Ok (Some one)
        → flat_map (member_edits holder type bounds inner) all_here
        ≡ fronts one.start (in_order (value_edits bbox bounds) (value_edits crs Null))
        ++ (inner ++ behinds one.start (in_order (value_edits bbox bounds) (value_edits crs Null)))
    around_content one inner is =
        laid_around first second third bounds first_alone second_alone place all_here (members_rise place members) bbox
        crs (ap at_most_one (named_all (codes "bbox") all_here) ∙ bbox_is)
        (crs_so holder crs crs_is) one inner (ap at_most_one (named_all (content_key type) all_here) ∙ is)

    without_content : flat_map (member_edits holder type bounds []) all_here
        ≡ fronts 0 (in_order (value_edits bbox bounds) (value_edits crs Null))
        ++ ([] ++ behinds 0 (in_order (value_edits bbox bounds) (value_edits crs Null)))
    without_content =
        laid_alone first second third bounds first_alone second_alone place all_here (members_rise place members) bbox
        crs (ap at_most_one (named_all (codes "bbox") all_here) ∙ bbox_is)
        (crs_so holder crs crs_is)

pub fits_content : (holder : Holder) (type : GeoType) (place : ℕ) (members : Members) (bounds : What) (one : Member)
    (inner : List Edit) → all_named (content_key type) (members_at place members) ≡ one ∷ []
    → AreInOrder one.start inner (one.start + length (spelling one.value))
    → MembersFine (member_edits holder type bounds inner) (members_at place members)
fits_content holder type place members bounds one inner is fits =
    fits_one (first holder type place members) (second holder type place members) (third holder type place members)
    bounds (first_alone holder type place members) (second_alone holder type place members)
    (members_at place members) inner one (named_all (content_key type) (members_at place members) ∙ is) fits

pub fits_without : (holder : Holder) (type : GeoType) (place : ℕ) (members : Members) (bounds : What)
    → all_named (content_key type) (members_at place members) ≡ []
    → MembersFine (member_edits holder type bounds []) (members_at place members)
fits_without holder type place members bounds none =
    fits_rest (first holder type place members) (second holder type place members) (third holder type place members)
    bounds (first_alone holder type place members) (second_alone holder type place members)
    (members_at place members) [] (named_all (content_key type) (members_at place members) ∙ none)

pub at_most_is : (members : List Member) (one : Member) → at_most_one members ≡ Ok (Some one) → members ≡ one ∷ []
at_most_is [] one is = cc
at_most_is (other ∷ []) one is = cc
at_most_is (other ∷ next ∷ more) one is = cc

pub at_most_none : (members : List Member) → at_most_one members ≡ Ok None → members ≡ []
at_most_none [] is = refl
at_most_none (other ∷ []) is = cc
at_most_none (other ∷ next ∷ more) is = cc

module _ (nodes : List Node) (bytes : List ℕ) (exact : Bool) (holder : Holder) (object_number past start : ℕ)
    (blank : List ℕ) (members : Members) (part : Part) where
  abbrev all : List Member
  all = members_at (inner_place start blank) members

  abbrev number : ℕ
  number = length part.paths

  abbrev wanted : Result Part LayerFault
  wanted = reading exact (forms.Object holder) number start (object blank members)

  pub object_refused : (fault : LayerFault) → object_type holder start all ≡ Err fault → wanted ≡ Err fault
  object_refused fault is = grind (arith)

  wanted_is : (type : GeoType) → object_type holder start all ≡ Ok type
      → wanted ≡ and_then (λ inside. Ok (object_part holder type number all inside))
      (content_reading exact number (inner_place start blank) members type)
  wanted_is type is = grind (arith)

  module _ (looked : Looked) (type_is : object_type holder start all ≡ Ok looked.kind)
      (are : AreLooked nodes bytes holder object_number past all looked)
      (place : ℕ × ℕ × ℕ) (place_is : (one : Option Member) → AreFound nodes bytes object_number past looked.content one
      → IsContentAt nodes bytes object_number past place one)
      (bbox crs : Option ByteSpan) (bbox_is : (one : Option Member) (what : What)
      → AreFound nodes bytes object_number past looked.bbox one → edit_at bbox what ≡ value_edits one what)
      (crs_is : (one : Option Member) (what : What) → AreFound nodes bytes object_number past looked.crs one
      → edit_at crs what ≡ value_edits one what)
      (first edits : ℕ) (first_is : first ≡ number) (edits_is : edits ≡ length part.edits) (form : ValueForm)
      (form_is : form ≡ content_form looked.kind) where
    abbrev ending : Ending
    ending = record { first = first; edits = edits; content = place.2; bbox = bbox; crs = crs }

    abbrev frame : OpenFrame
    frame = record { form = form; at = place.0; end = place.1; ending = Some ending }

    abbrev level : Elements → Bool → ℕ → Open
    level rest bare here =
        record {
          form = form;
          number = number;
          next = number;
          place = here;
          rest = rest;
          own =
              Some (record { holder = holder; type = looked.kind; members = all; bare = bare });
          done = nothing;
        }

    own_so : (bounds : What) → own_edits ending bounds
        ≡ in_order (value_edits are.bbox bounds) (value_edits are.crs Null)
    own_so bounds =
        ap (λ es. in_order es (edit_at crs Null)) (bbox_is are.bbox bounds are.bbox_found)
        ∙ ap (in_order (value_edits are.bbox bounds)) (crs_is are.crs Null are.crs_found)

    with_one : (one : Member) → find_member (content_key looked.kind) all ≡ Ok (Some one)
        → IsContentAt nodes bytes object_number past place (Some one) → Opens nodes bytes exact part (Ok frame) wanted
    with_one one found at =
        let starts : one.start ≡ one.start + 0 = omega arith in
        let same : number ≡ number + 0 = omega arith in (
          level (alone one.value) false one.start,
          record {
            form_is = refl;
            left = (subst (λ n. HasNodesAt nodes bytes place.0 n one.value) starts at.0, sym at.1);
            ending_is = record {
              first = first_is;
              edits = edits_is;
              laid_so = λ bounds inner bare.
                  around_content holder looked.kind (inner_place start blank) members are.bbox are.crs are.bbox_is
                  are.crs_is bounds one inner found
                  ∙ ap (λ es. fronts one.start es ++ (inner ++ behinds one.start es)) (sym (own_so bounds))
                  ∙ ap (λ n. fronts n (own_edits ending bounds) ++ (inner ++ behinds n (own_edits ending bounds)))
                  (sym at.2);
            };
            number_is = refl;
            next_is = same;
            bare = λ is. cc;
          },
          refl,
          wanted_is looked.kind type_is
              ∙ ap (and_then (λ inside. Ok (object_part holder looked.kind number all inside)))
              (content_is_read exact number (inner_place start blank) members looked.kind one []
              (at_most_is (all_named (content_key looked.kind) all) one found)
              ∙ ap (λ f. reading exact f number one.start one.value) (sym form_is)
              ∙ sym (alone_read exact form number one.start one.value)),
        )

    with_none : find_member (content_key looked.kind) all ≡ Ok None
        → IsContentAt nodes bytes object_number past place None → Opens nodes bytes exact part (Ok frame) wanted
    with_none found at =
        let same : number ≡ number + 0 = omega arith in (
          level no_element true 0,
          record {
            form_is = refl;
            left = ap (λ (p : ℕ × ℕ × ℕ). p.0) at ∙ sym (ap (λ (p : ℕ × ℕ × ℕ). p.1) at);
            ending_is = record {
              first = first_is;
              edits = edits_is;
              laid_so = λ bounds inner bare.
                  ap (λ es. flat_map (member_edits holder looked.kind bounds es) all) (bare refl)
                  ∙ without_content holder looked.kind (inner_place start blank) members are.bbox are.crs are.bbox_is
                  are.crs_is bounds
                  ∙ ap (λ es. fronts 0 es ++ ([] ++ behinds 0 es)) (sym (own_so bounds))
                  ∙ ap (λ n. fronts n (own_edits ending bounds) ++ ([] ++ behinds n (own_edits ending bounds)))
                  (sym (ap (λ (p : ℕ × ℕ × ℕ). p.2) at))
                  ∙ ap (λ es. fronts place.2 (own_edits ending bounds)
                  ++ (es ++ behinds place.2 (own_edits ending bounds))) (sym (bare refl));
            };
            number_is = refl;
            next_is = same;
            bare = λ is. (refl, refl);
          },
          refl,
          wanted_is looked.kind type_is
              ∙ ap (and_then (λ inside. Ok (object_part holder looked.kind number all inside)))
              (no_content_read exact number (inner_place start blank) members looked.kind
              (at_most_none (all_named (content_key looked.kind) all) found)),
        )

    pub object_opens : Opens nodes bytes exact part (Ok frame) wanted
    object_opens = by are.content are.content_is (place_is are.content are.content_found)
      where
        by : (one : Option Member) → find_member (content_key looked.kind) all ≡ Ok one
            → IsContentAt nodes bytes object_number past place one → Opens nodes bytes exact part (Ok frame) wanted
        by (Some one) found at = with_one one found at
        by None found at = with_none found at

-- what follows nothing
pub ok_same : (r : Result Part LayerFault) → and_then (λ others. Ok (joint_part nothing others)) r ≡ r
ok_same (Ok part) = refl
ok_same (Err fault) = refl

-- an array from which the elements are read one by one
pub list_opens : (nodes : List Node) (bytes : List ℕ) (exact : Bool) (all : Items) (number start : ℕ) (blank : List ℕ)
    (elements : Elements) (part : Part) (node : Node) (form : ValueForm) → form ≡ item_form all
    → HasNodesAt nodes bytes number start (array blank elements) → slice_get nodes number ≡ Some node
    → Opens nodes bytes exact part (Ok (record { form = form; at = number + 1; end = node.next; ending = None }))
    (reading exact (forms.List all) (length part.paths) start (array blank elements))
list_opens nodes bytes exact all number start blank elements part node form form_is h got =
    let same : length part.paths ≡ length part.paths + 0 = omega arith in (
      record {
        form = form;
        number = length part.paths;
        next = length part.paths;
        place =
            inner_place start blank;
        rest = elements;
        own = None;
        done = nothing;
      },
      record {
        form_is = refl;
        left = array_left nodes bytes number start blank elements node h got;
        ending_is =
            tt;
        number_is = refl;
        next_is = same;
        bare = λ is. absurd is;
      },
      refl,
      ap (λ f. readings exact f (length part.paths) (inner_place start blank) elements) (sym form_is)
          ∙ sym (ok_same (readings exact form (length part.paths) (inner_place start blank) elements)),
    )

pub opens_fault : (nodes : List Node) (bytes : List ℕ) (exact : Bool) (part : Part) (r : Result OpenFrame LayerFault)
    (wanted : Result Part LayerFault) (fault : LayerFault) → r ≡ Err fault → wanted ≡ Err fault
    → Opens nodes bytes exact part r wanted
opens_fault nodes bytes exact part r wanted fault is same =
    subst (λ q. Opens nodes bytes exact part q wanted) (sym is) same

-- the content is inside the object
pub content_inside : (nodes : List Node) (bytes : List ℕ) (number past : ℕ) (place : ℕ × ℕ × ℕ) (one : Option Member)
    → IsContentAt nodes bytes number past place one → number < past → (place.1 - place.0) + number < past
content_inside nodes bytes number past place (Some one) at within = omega (arith, at.1, at.3, at.4)
content_inside nodes bytes number past place None at within = grind (arith)

-- how many paths and edits a part has that is held
pub held_counts : (pass : PathsRead) (part : Part) → Holds pass part
    → (length pass.paths.items ≡ length part.paths) × (length pass.edits.items ≡ length part.edits)
held_counts pass part held = (ap length held.paths ∙ length-rows_from 0 part.paths, ap length held.edits)

pub opens_same : (nodes : List Node) (bytes : List ℕ) (exact : Bool) (part : Part) (frame : OpenFrame) (form : ValueForm)
    (number start : ℕ) (value other : Json) → value ≡ other
    → Opens nodes bytes exact part (Ok frame) (reading exact form number start other)
    → Opens nodes bytes exact part (Ok frame) (reading exact form number start value)
opens_same nodes bytes exact part frame form number start value other same opens =
    subst (λ v. Opens nodes bytes exact part (Ok frame) (reading exact form number start v)) (sym same) opens

-- only null differs, where a geometry may be missing
pub optional_read : (exact : Bool) (number start : ℕ) (value : Json) → (kind_of value ≡ kinds.Null → ⊥)
    → reading exact forms.Optional number start value
    ≡ reading exact (forms.Object holders.Geometries) number start value
optional_read exact number start null never = absurd (never refl)
optional_read exact _ start _ never = refl

pub null_read : (exact : Bool) (number start : ℕ) (value : Json) → kind_of value ≡ kinds.Null
    → reading exact forms.Optional number start value ≡ Ok nothing
null_read exact number start null is = refl
null_read exact number start (truth true) is = cc
null_read exact _ start _ is = cc

pub path_read : (exact : Bool) (trace : Trace) (number start : ℕ) (value : Json)
    → reading exact (forms.Path trace) number start value ≡ and_then (part_of number) (paths_of_trace exact trace start value)
path_read exact trace number start (truth true) = sym (not_traced exact number trace start (truth true) (λ is. cc))
path_read exact trace number start (array blank elements) = refl
path_read exact trace other start more = sym (not_traced exact other trace start more (λ is. cc))

pub takes_fault : (nodes : List Node) (bytes : List ℕ) (exact : Bool) (part : Part) (new : PathsRead)
    (r : Result (Option OpenFrame) LayerFault) (wanted : Result Part LayerFault) (fault : LayerFault) → r ≡ Err fault
    → ((fault ≡ faults.NoMemory → ⊥) → wanted ≡ Err fault) → Takes nodes bytes exact part new r wanted
takes_fault nodes bytes exact part new r wanted fault is same =
    subst (λ q. Takes nodes bytes exact part new q wanted) (sym is) same
