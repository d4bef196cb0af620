-- How a value turns by the recursion that reads it.
use Rattle.std.proofs.Common.{◌≡◌, ℕ, zero, suc, ◌+◌, inl, inr, Bool, List, [], ◌∷◌, ◌++◌, length, refl, sym, ap}
use Rattle.std.proofs.Common.{◌∙◌, subst, arith}
use Rattle.std.specs.Prelude.{Some, Result, Ok, if◌then◌else◌}
use Rattle.std.proofs.lemmas.List.{map-append}
use Rattle.std.proofs.lemmas.List.Sums.{sum_by-append}
use Rattle.jtext.specs.Characters.{units_of}
use Rattle.jtext.specs.Values.{Json, Elements, Members, null, array, object, no_element}
use Rattle.jtext.specs.Values.{element, no_member, member, spelling, elements_text, elements_behind, IsValue}
use Rattle.jtext.specs.Values.{AreElements, AreMembers}
use Rattle.jtext.specs.Nodes.{inner_place, element_start, member_start, next_place}
use Rattle.jtext.specs.Lookups.{are_same}
use Rattle.sheet_base.specs.PointHeights.{Position}
use Rattle.sheet_base.specs.declared.faults.LayerFault.{LayerFault}
use Rattle.sheet_base.specs.declared.edits.Edit.{Edit}
use Rattle.sheet_base.proofs.Swaps.{Swapped, kept_swapped, both_swapped, front_swapped}
use Rattle.gj_layer.specs.declared.forms.GeoType.{GeoType}
use Rattle.gj_layer.specs.declared.forms.Holder.{Holder}
use Rattle.gj_layer.specs.declared.forms.Holder.TheVariants as holders
use Rattle.gj_layer.specs.declared.forms.Items.{Items}
use Rattle.gj_layer.specs.declared.forms.ValueForm.{ValueForm}
use Rattle.gj_layer.specs.declared.forms.ValueForm.TheVariants as forms
use Rattle.sheet_base.specs.Faults.{and_then}
use Rattle.gj_layer.specs.Members.{Member, members_at, all_named}
use Rattle.gj_layer.specs.Paths.{Path, Part, nothing, joint_part}
use Rattle.gj_layer.specs.Objects.{content_key, content_form}
use Rattle.gj_layer.specs.Documents.{item_form, null_part, part_in, reading, readings, content_reading}
use Rattle.gj_layer.proofs.OpenObjects.Fine.{split_then, tested}
use Rattle.sheet_base.proofs.DrawnPaths.{suit_parts, redrawn_append}
use Rattle.gj_layer.proofs.WrittenPaths.DrawnImages.{drawn, redrawn, AllSuit, IsDrawn, drawn_count}
use Rattle.gj_layer.proofs.WrittenValues.Turns.{DoesSay, ValueTurned, ElementsTurned, bracketed}
use Rattle.gj_layer.proofs.WrittenPaths.TraceTurns.{traced_turned}
use Rattle.gj_layer.proofs.WrittenValues.Levels.{HasRoom, content_room, item_room}
use Rattle.gj_layer.proofs.WrittenValues.ObjectMade.{ObjectTurned, object_turned, object_flat}

-- ---- one part after the other
join_drawn : (images : ℕ → List Position) (number : ℕ) (paths more : List Path) (first : Result Part LayerFault)
    (rest : ℕ → Result Part LayerFault) → IsDrawn images number paths first
    → IsDrawn images (number + length paths) more (rest (number + length paths))
    → IsDrawn images number (paths ++ more) (and_then
    (λ one. and_then (λ others. Ok (joint_part one others)) (rest (number + length one.paths))) first)
join_drawn images number paths more first rest a b =
    grind (arith, drawn_count, map-append, drawn, redrawn, redrawn_append, sum_by-append)

module _ (exact : Bool) (text : Edit → List ℕ) (images : ℕ → List Position) (says : DoesSay text images) where
  null_turned : (form : ValueForm) (number start depth : ℕ) (part : Part) → null_part form start ≡ Ok part
      → ValueTurned exact text images form number start depth null part
  null_turned forms.Optional number start depth part is =
      let none : nothing ≡ part = cc in
      subst (ValueTurned exact text images forms.Optional number start depth null) none
      (record {
        now = null;
        swap = kept_swapped text start (spelling null);
        valid = tt;
        reads =
            λ at. record { part = nothing; is = refl; drawn_are = refl; exact_all = refl };
      })
  null_turned form number start depth part is = cc

  no_element_turned : (form : ValueForm) (number place depth : ℕ) (part : Part) → nothing ≡ part
      → ElementsTurned exact text images form number place depth no_element part
  no_element_turned form number place depth part none =
      subst (ElementsTurned exact text images form number place depth no_element) none (record {
        now = no_element;
        swap = kept_swapped text place [];
        swap_behind = λ from e. kept_swapped text from [];
        blank = λ blank is. is;
        valid = tt;
        reads = λ at. record { part = nothing; is = refl; drawn_are = refl; exact_all = refl };
      })

  -- an element in front of others
  element_turned : (form : ValueForm) (number place depth : ℕ) (before : List ℕ) (value : Json) (after : List ℕ)
      (rest : Elements) (one others : Part) → AreElements depth (element before value after rest)
      → ValueTurned exact text images form number (element_start place before) depth value one
      → ElementsTurned exact text images form (number + length one.paths)
      (next_place (element_start place before) value after) depth rest others
      → ElementsTurned exact text images form number place depth (element before value after rest) (joint_part one others)
  element_turned form number place depth before value after rest one others valid v more =
      let start = element_start place before in
      let past = start + length (spelling value) in
      let edits = one.edits ++ others.edits in
      let tail = spelling value ++ (after ++ elements_behind rest) in
      let new = spelling v.now ++ (after ++ elements_behind more.now) in
      let whole : Swapped text place (elements_text (element before value after rest)) edits
      (elements_text (element before v.now after more.now)) =
      front_swapped text place start before tail edits new refl
      (both_swapped text start (spelling value) (after ++ elements_behind rest) one.edits others.edits (spelling v.now)
      (after ++ elements_behind more.now) v.swap
      (front_swapped text past (past + length after) after (elements_behind rest) others.edits
      (elements_behind more.now) refl (more.swap_behind (past + length after) refl))) in
      record {
        now = element before v.now after more.now;
        swap = whole;
        swap_behind = λ from e. front_swapped text from place (44 ∷ [])
            (elements_text (element before value after rest)) edits
            (elements_text (element before v.now after more.now)) (omega (arith, e)) whole;
        blank = λ blank is. is;
        valid = (valid.0, v.valid, valid.2, more.valid);
        reads = λ at.
            let here = element_start at before in
            join_drawn images number one.paths others.paths (reading exact form number here v.now)
            (λ n. readings exact form n (next_place here v.now after) more.now) (v.reads here)
            (more.reads (next_place here v.now after));
      }

  array_of : (all : Items) (number start depth : ℕ) (blank : List ℕ) (elements : Elements) (part : Part)
      → IsValue (suc depth) (array blank elements)
      → ElementsTurned exact text images (item_form all) number (inner_place start blank) depth elements part
      → ValueTurned exact text images (forms.List all) number start (suc depth) (array blank elements) part
  array_of all number start depth blank elements part valid e = record {
    now = array blank e.now;
    swap = bracketed text start 91 93 blank (elements_text elements) part.edits (elements_text e.now) e.swap;
    valid = (e.blank blank valid.0, e.valid);
    reads = λ at. e.reads (inner_place at blank);
  }

  value_of : (form : ValueForm) (holder : Holder) (number start depth : ℕ) (blank : List ℕ) (members : Members) (part : Part)
      → ((at : ℕ) (members : Members) → part_in (Some holder) number at (members_at (inner_place at blank) members)
      (content_reading exact number (inner_place at blank) members)
      ≡ reading exact form number at (object blank members))
      → ObjectTurned exact text images holder number start depth blank members part
      → ValueTurned exact text images form number start depth (object blank members) part
  value_of form holder number start depth blank members part same o = record {
    now = object blank o.now;
    swap = o.swap;
    valid = o.valid;
    reads = λ at. subst (IsDrawn images number part.paths) (same at o.now) (o.reads at);
  }

  mutual
    pub value_turned : (value : Json) (form : ValueForm) (number start depth : ℕ) (part : Part) → HasRoom form depth
        → IsValue depth value → reading exact form number start value ≡ Ok part → AllSuit images number part.paths
        → ValueTurned exact text images form number start depth value part
    value_turned null form number start depth part room valid is suit = null_turned form number start depth part is
    value_turned (array blank elements) (forms.List all) number start zero part room valid is suit = absurd valid
    value_turned (array blank elements) (forms.List all) number start (suc depth) part room valid is suit =
        array_of all number start depth blank elements part valid
        (elements_turned elements (item_form all) number (inner_place start blank) depth part
        (item_room all depth room) valid.1 is suit)
    value_turned (array blank elements) (forms.Path trace) number start depth part room valid is suit =
        traced_turned exact text images says trace number start depth blank elements part valid is suit
    value_turned (object blank members) (forms.Object holder) number start zero part room valid is suit = absurd valid
    value_turned (object blank members) (forms.Object holder) number start (suc zero) part room valid is suit =
        absurd (object_flat exact text images says holder number start blank members part room valid is)
    value_turned (object blank members) (forms.Object holder) number start (suc (suc low)) part room valid is suit =
        value_of (forms.Object holder) holder number start (suc (suc low)) blank members part (λ at members. refl)
        (object_turned exact text images says holder number start low blank members part valid is suit
        (λ type inside one may read only suits. content_turned members number (inner_place start blank) (suc low) type
        inside one [] (content_room holder type (suc low) may room) valid.1 read only suits))
    value_turned (object blank members) forms.Optional number start zero part room valid is suit = absurd valid
    value_turned (object blank members) forms.Optional number start (suc zero) part room valid is suit =
        absurd (object_flat exact text images says holders.Geometries number start blank members part tt valid is)
    value_turned (object blank members) forms.Optional number start (suc (suc low)) part room valid is suit =
        value_of forms.Optional holders.Geometries number start (suc (suc low)) blank members part (λ at members. refl)
        (object_turned exact text images says holders.Geometries number start low blank members part valid is suit
        (λ type inside one may read only suits. content_turned members number (inner_place start blank) (suc low) type
        inside one [] (content_room holders.Geometries type (suc low) may tt) valid.1 read only suits))
    value_turned _ form number start depth part room valid is suit = cc

    elements_turned : (elements : Elements) (form : ValueForm) (number place depth : ℕ) (part : Part) → HasRoom form depth
        → AreElements depth elements → readings exact form number place elements ≡ Ok part
        → AllSuit images number part.paths
        → ElementsTurned exact text images form number place depth elements part
    elements_turned no_element form number place depth part room valid is suit =
        no_element_turned form number place depth part cc
    elements_turned (element before value after rest) form number place depth part room valid is suit =
        let start = element_start place before in
        let next = next_place start value after in
        let (one, one_is, onward) = split_then (λ one. and_then (λ others. Ok (joint_part one others))
        (readings exact form (number + length one.paths) next rest)) (reading exact form number start value) part
        is in
        let (others, others_are, made) = split_then (λ others. Ok (joint_part one others))
        (readings exact form (number + length one.paths) next rest) part onward in
        let same : joint_part one others ≡ part = cc in
        let suits = suit_parts drawn images number one.paths others.paths
        (subst (λ (p : Part). AllSuit images number p.paths) (sym same) suit) in
        subst (ElementsTurned exact text images form number place depth (element before value after rest)) same
        (element_turned form number place depth before value after rest one others valid
        (value_turned value form number start depth one room valid.1 one_is suits.0)
        (elements_turned rest form (number + length one.paths) next depth others room valid.3 others_are suits.1))

    content_turned : (members : Members) (number place depth : ℕ) (type : GeoType) (inside : Part) (one : Member)
        (more : List Member) → HasRoom (content_form type) depth → AreMembers depth members
        → content_reading exact number place members type ≡ Ok inside
        → all_named (content_key type) (members_at place members) ≡ one ∷ more → AllSuit images number inside.paths
        → ValueTurned exact text images (content_form type) number one.start depth one.value inside
    content_turned no_member number place depth type inside one more room valid is only suit = cc
    content_turned (member before key behind ahead value after rest) number place depth type inside one more room valid
        is only suit =
        let start = member_start place before key behind ahead in
        let next = next_place start value after in
        let here : Member = record {
          key_start = element_start place before;
          key = key;
          start = start;
          value =
              value;
        } in
        let others = all_named (content_key type) (members_at next rest) in
        elim (tested (are_same (units_of key) (content_key type))) [
          | inl t ↦
              let same : here ∷ others ≡ one ∷ more = sym (ap (λ b. if b then here ∷ others else others) t) ∙ only in
              let head : here ≡ one = cc in
              let read = sym (ap (λ b. if b then reading exact (content_form type) number start value else
              content_reading exact number next rest type) t) ∙ is in
              subst (λ (m : Member). ValueTurned exact text images (content_form type) number m.start depth m.value
              inside) head (value_turned value (content_form type) number start depth inside room valid.4 read suit)
          | inr t ↦
              content_turned rest number next depth type inside one more room valid.6
              (sym (ap (λ b. if b then reading exact (content_form type) number start value else content_reading exact
              number next rest type) t) ∙ is)
              (sym (ap (λ b. if b then here ∷ others else others) t) ∙ only) suit
        ]
