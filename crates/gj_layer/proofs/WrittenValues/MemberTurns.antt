-- How the members of an object turn: a box, a reference system and the content are replaced, and all others stay.
use Rattle.std.proofs.Common.{◌≡◌, ℕ, suc, ◌+◌, ◌⊎◌, inl, inr, Bool, true, false, ◌&&◌, List, [], ◌∷◌, ◌++◌, length}
use Rattle.std.proofs.Common.{refl, sym, ap, ◌∙◌, subst, arith}
use Rattle.std.specs.Prelude.{codes, flat_map, if◌then◌else◌}
use Rattle.jtext.specs.Characters.{Char, units_of}
use Rattle.jtext.specs.Values.{Json, Members, null, no_member, member, spelling, quoted_text, members_text}
use Rattle.jtext.specs.Values.{members_behind, IsObjectBlank, IsValue, AreMembers}
use Rattle.jtext.specs.Nodes.{element_start, member_start, next_place}
use Rattle.jtext.specs.Lookups.{are_same}
use Rattle.sheet_base.specs.declared.edits.Edit.{Edit}
use Rattle.sheet_base.specs.declared.edits.What.{What}
use Rattle.sheet_base.specs.declared.edits.What.TheVariants.{Null}
use Rattle.sheet_base.proofs.Swaps.{Swapped, kept_swapped, edit_swapped, both_swapped, front_swapped}
use Rattle.gj_layer.specs.declared.forms.GeoType.{GeoType}
use Rattle.gj_layer.specs.declared.forms.Holder.{Holder}
use Rattle.gj_layer.specs.Members.{Member, members_at, is_named, all_named}
use Rattle.gj_layer.specs.Objects.{content_key, content_form, has_crs, value_edit, member_edits}
use Rattle.gj_layer.specs.Documents.{reading, content_reading}
use Rattle.gj_layer.proofs.Members.TextMeanings.{says_one}
use Rattle.gj_layer.proofs.OpenObjects.Fine.{tested}
use Rattle.gj_layer.proofs.OpenObjects.OpenValues.{bbox_apart, crs_apart}
use Rattle.gj_layer.proofs.WrittenValues.Turns.{IsFlat}
use Rattle.plain_laws.proofs.Booleans.{and_second}

-- a member of the same name, and of the same value where it states the type
pub record IsLike (old new : Member) : Type 0 where
  pub key : new.key ≡ old.key
  pub type : is_named (codes "type") old ≡ true → new.value ≡ old.value

abbrev pub AreLike : List Member → List Member → Type 0
AreLike [] [] = Unit {0}
AreLike [] (new ∷ news) = ⊥
AreLike (old ∷ olds) [] = ⊥
AreLike (old ∷ olds) (new ∷ news) = IsLike old new × AreLike olds news

-- the value of a member turns into another, which nests no deeper
pub record MemberTurned (text : Edit → List ℕ) (depth : ℕ) (one : Member) (edits : List Edit) : Type 0 where
  pub now : Json
  pub swap : Swapped text one.start (spelling one.value) edits (spelling now)
  pub valid : IsValue depth now
  pub type : is_named (codes "type") one ≡ true → now ≡ one.value

-- the content of members is this good value
pub record IsContent (type : GeoType) (members : Members) (Good : Json → Type 0) : Type 0 where
  pub value : Json
  pub good : Good value
  pub start : ℕ → ℕ
  pub reads : (exact : Bool) (number at : ℕ)
      → content_reading exact number at members type ≡ reading exact (content_form type) number (start at) value

-- the members, whose text begins at this place, turn into others, and their content into a good value
pub record MembersTurned (text : Edit → List ℕ) (type : GeoType) (depth place : ℕ) (members : Members)
    (edits : List Edit) (Good : Json → Type 0) : Type 0 where
  pub now : Members
  pub swap : Swapped text place (members_text members) edits (members_text now)
  pub swap_behind : (from : ℕ) → place ≡ from + 1
      → Swapped text from (members_behind members) edits (members_behind now)
  pub blank : (blank : List ℕ) → IsObjectBlank blank members → IsObjectBlank blank now
  pub valid : AreMembers depth now
  pub like : (at : ℕ) → AreLike (members_at place members) (members_at at now)
  pub content : (one : Member) (more : List Member)
      → all_named (content_key type) (members_at place members) ≡ one ∷ more → IsContent type now Good

module _ (text : Edit → List ℕ) (type : GeoType) (depth : ℕ) (Good : Json → Type 0) where
  -- a member in front of others
  member_turned : (place : ℕ) (before : List ℕ) (key : List Char) (behind ahead : List ℕ) (value : Json)
      (after : List ℕ) (rest : Members) (edits more : List Edit)
      → AreMembers depth (member before key behind ahead value after rest)
      → MembersTurned text type depth (next_place (member_start place before key behind ahead) value after) rest more
      Good
      → (let here : Member = record {
        key_start = element_start place before;
        key = key;
        start =
            member_start place before key behind ahead;
        value = value;
      } in
      (one : MemberTurned text depth here edits) → (is_named (content_key type) here ≡ true → Good one.now)
      → MembersTurned text type depth place (member before key behind ahead value after rest) (edits ++ more) Good)
  member_turned place before key behind ahead value after rest edits more valid others one good =
      let start = member_start place before key behind ahead in
      let here : Member = record { key_start = element_start place before; key = key; start = start; value = value } in
      let p1 = place + length before in
      let p2 = p1 + length (quoted_text key) in
      let p3 = p2 + length behind in
      let p4 = p3 + 1 in
      let all = edits ++ more in
      let tail = spelling value ++ (after ++ members_behind rest) in
      let new = spelling one.now ++ (after ++ members_behind others.now) in
      let past = start + length (spelling value) in
      let back : Swapped text start tail all new =
      both_swapped text start (spelling value) (after ++ members_behind rest) edits more (spelling one.now)
      (after ++ members_behind others.now) one.swap
      (front_swapped text past (past + length after) after (members_behind rest) more (members_behind others.now) refl
      (others.swap_behind (past + length after) refl)) in
      let whole : Swapped text place (members_text (member before key behind ahead value after rest)) all
      (members_text (member before key behind ahead one.now after others.now)) =
      front_swapped text place p1 before (quoted_text key ++ (behind ++ 58 ∷ (ahead ++ tail))) all
      (quoted_text key ++ (behind ++ 58 ∷ (ahead ++ new))) refl
      (front_swapped text p1 p2 (quoted_text key) (behind ++ 58 ∷ (ahead ++ tail)) all (behind ++ 58 ∷ (ahead ++ new))
      refl
      (front_swapped text p2 p3 behind (58 ∷ (ahead ++ tail)) all (58 ∷ (ahead ++ new)) refl
      (front_swapped text p3 p4 (58 ∷ []) (ahead ++ tail) all (ahead ++ new) (omega arith)
      (front_swapped text p4 start ahead tail all new refl back)))) in
      record {
        now = member before key behind ahead one.now after others.now;
        swap = whole;
        swap_behind = λ from e.
            front_swapped text from place (44 ∷ []) (members_text (member before key behind ahead value after rest)) all
            (members_text (member before key behind ahead one.now after others.now)) (omega (arith, e)) whole;
        blank = λ blank is. is;
        valid = (valid.0, valid.1, valid.2, valid.3, one.valid, valid.5, others.valid);
        like = λ at. (
          record { key = refl; type = one.type },
          others.like
              (next_place (member_start at before key behind ahead) one.now after),
        );
        content = λ found later is.
            let next = next_place start value after in
            let ahead_at = λ (at : ℕ). member_start at before key behind ahead in
            elim (tested (are_same (units_of key) (content_key type))) [
              | inl t ↦ record {
                value = one.now;
                good = good t;
                start = λ at. member_start at before key behind ahead;
                reads = λ exact number at.
                    ap (λ b. if b then reading exact (content_form type) number (ahead_at at) one.now else
                    content_reading exact number (next_place (ahead_at at) one.now after) others.now type) t;
              }
              | inr t ↦
                  let c = others.content found later (sym
                  (ap (λ b. if b then here ∷ all_named (content_key type) (members_at next rest) else all_named
                  (content_key type) (members_at next rest)) t) ∙ is) in
                  record {
                    value = c.value;
                    good = c.good;
                    start = λ at. c.start (next_place (member_start at before key behind ahead) one.now after);
                    reads = λ exact number at.
                        ap (λ b. if b then reading exact (content_form type) number (ahead_at at) one.now else
                        content_reading exact number (next_place (ahead_at at) one.now after) others.now type) t
                        ∙ c.reads exact number (next_place (ahead_at at) one.now after);
                  }
            ];
      }

  no_member_turned : (place : ℕ) → MembersTurned text type depth place no_member [] Good
  no_member_turned place = record {
    now = no_member;
    swap = kept_swapped text place [];
    swap_behind = λ from e. kept_swapped text from [];
    blank = λ blank is. is;
    valid = tt;
    like = λ at. tt;
    content = λ one more is. cc;
  }

-- the members of an object of a type, where its content turns into a good value or is not there
module _ (text : Edit → List ℕ) (holder : Holder) (type : GeoType) (bounds : What) (inner : List Edit) (low : ℕ)
    (Good : Json → Type 0)
    (boxes : (one : Member) → IsFlat (text (value_edit one bounds)))
    (nulls : (one : Member) → text (value_edit one Null) ≡ spelling null) where
  pub record GoodTurned (one : Member) : Type 0 where
    pub turned : MemberTurned text (suc low) one inner
    pub good : Good turned.now

  abbrev pub IsFound : List Member → Type 0
  IsFound members = (all_named (content_key type) members ≡ [])
      ⊎ ((one : Member) × (all_named (content_key type) members ≡ one ∷ []) × GoodTurned one)

  -- the edits in a member of one of the four kinds
  abbrev chosen : Bool → Bool → Bool → Member → List Edit
  chosen box crs content one = if box then value_edit one bounds ∷ [] else if crs then value_edit one Null
      ∷ [] else if content then inner else []

  abbrev is_box : Member → Bool
  is_box one = is_named (codes "bbox") one

  abbrev is_crs : Member → Bool
  is_crs one = has_crs holder && is_named (codes "crs") one

  abbrev is_content : Member → Bool
  is_content one = is_named (content_key type) one

  edits_are : (one : Member) (box crs content : Bool) → is_box one ≡ box → is_crs one ≡ crs → is_content one ≡ content
      → chosen box crs content one ≡ member_edits holder type bounds inner one
  edits_are one box crs content b c t = sym (ap (λ x. chosen x (is_crs one) (is_content one) one) b
      ∙ ap (λ x. chosen box x (is_content one) one) c ∙ ap (λ x. chosen box crs x one) t)

  passed : (one : Member) (members : List Member) → is_content one ≡ false → IsFound (one ∷ members) → IsFound members
  passed one members t (inl none) = grind (arith)
  passed one members t (inr (found, is, good)) = grind (arith)

  -- the content is this member, and there is no other
  record IsIt (one : Member) (members : List Member) : Type 0 where
    it : GoodTurned one
    none : all_named (content_key type) members ≡ []

  met : (one : Member) (members : List Member) → is_content one ≡ true → IsFound (one ∷ members) → IsIt one members
  met one members t (inl none) = grind (arith)
  met one members t (inr (found, is, good)) = grind (arith)

  box_turned : (one : Member) → is_box one ≡ true → MemberTurned text (suc low) one (value_edit one bounds ∷ [])
  box_turned one is =
      let box = boxes one in
      let never : is_named (codes "type") one ≡ false =
      says_one (units_of one.key) (codes "bbox") (codes "type") refl is in
      record {
        now = box.value;
        swap = subst (Swapped text one.start (spelling one.value) (value_edit one bounds ∷ [])) (sym box.text)
            (edit_swapped text one.start (spelling one.value) (value_edit one bounds) refl refl);
        valid = box.valid low;
        type = λ t. let e = sym t ∙ never in cc;
      }

  crs_turned : (one : Member) → is_crs one ≡ true → MemberTurned text (suc low) one (value_edit one Null ∷ [])
  crs_turned one is =
      let never : is_named (codes "type") one ≡ false =
      says_one (units_of one.key) (codes "crs") (codes "type") refl
      (and_second (has_crs holder) (is_named (codes "crs") one) is) in
      record {
        now = null;
        swap = subst (Swapped text one.start (spelling one.value) (value_edit one Null ∷ [])) (nulls one)
            (edit_swapped text one.start (spelling one.value) (value_edit one Null) refl refl);
        valid = tt;
        type = λ t. let e = sym t ∙ never in cc;
      }

  kept_turned : (one : Member) → IsValue (suc low) one.value → MemberTurned text (suc low) one []
  kept_turned one valid = grind (arith, kept_swapped)

  abbrev edits_in : Member → List Edit
  edits_in one = member_edits holder type bounds inner one

  more_turned : (place : ℕ) (before : List ℕ) (key : List Char) (behind ahead : List ℕ) (value : Json) (after : List ℕ)
      (rest : Members) → AreMembers (suc low) (member before key behind ahead value after rest)
      → IsFound (members_at place (member before key behind ahead value after rest))
      → (let next = next_place (member_start place before key behind ahead) value after in
      (IsFound (members_at next rest) → MembersTurned text type (suc low) next rest
      (flat_map edits_in (members_at next rest)) Good))
      → MembersTurned text type (suc low) place (member before key behind ahead value after rest)
      (flat_map edits_in (members_at place (member before key behind ahead value after rest))) Good
  more_turned place before key behind ahead value after rest valid found others =
      let start = member_start place before key behind ahead in
      let next = next_place start value after in
      let here : Member = record { key_start = element_start place before; key = key; start = start; value = value } in
      let later = flat_map edits_in (members_at next rest) in
      let put = λ (edits : List Edit) (same : edits ≡ edits_in here) (f : IsFound (members_at next rest))
      (one : MemberTurned text (suc low) here edits) (good : is_content here ≡ true → Good one.now).
      subst (λ es. MembersTurned text type (suc low) place (member before key behind ahead value after rest)
      (es ++ later) Good) same
      (member_turned text type (suc low) Good place before key behind ahead value after rest edits later valid
      (others f) one good) in
      elim (tested (is_box here)) [
        | inl b ↦
            let t : is_content here ≡ false = says_one (units_of key) (codes "bbox") (content_key type)
            (bbox_apart type) b in
            put (value_edit here bounds ∷ []) (edits_are here true (is_crs here) (is_content here) b refl refl)
            (passed here (members_at next rest) t found) (box_turned here b) (λ is. let e = sym is ∙ t in cc)
        | inr b ↦ elim (tested (is_crs here)) [
          | inl c ↦
              let t : is_content here ≡ false = says_one (units_of key) (codes "crs") (content_key type)
              (crs_apart type) (and_second (has_crs holder) (is_named (codes "crs") here) c) in
              put (value_edit here Null ∷ []) (edits_are here false true (is_content here) b c refl)
              (passed here (members_at next rest) t found) (crs_turned here c) (λ is. let e = sym is ∙ t in cc)
          | inr c ↦ elim (tested (is_content here)) [
            | inl t ↦
                let m = met here (members_at next rest) t found in
                put inner (edits_are here false false true b c t) (inl m.none) m.it.turned (λ is. m.it.good)
            | inr t ↦ put [] (edits_are here false false false b c t) (passed here (members_at next rest) t found)
                (kept_turned here valid.4) (λ is. let e = sym is ∙ t in cc)
          ]
        ]
      ]

  pub members_turned : (place : ℕ) (members : Members) → AreMembers (suc low) members
      → IsFound (members_at place members)
      → MembersTurned text type (suc low) place members (flat_map edits_in (members_at place members)) Good
  members_turned place no_member valid found = no_member_turned text type (suc low) Good place
  members_turned place (member before key behind ahead value after rest) valid found =
      more_turned place before key behind ahead value after rest valid found
      (λ f. members_turned (next_place (member_start place before key behind ahead) value after) rest valid.6 f)
