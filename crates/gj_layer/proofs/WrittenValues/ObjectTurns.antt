-- How an object turns: its members do, its type is stated as before, and its content is read with images.
use Rattle.std.proofs.Common.{◌≡◌, ℕ, true, List, [], ◌∷◌, refl, sym, ap, ◌∙◌, subst, arith}
use Rattle.std.specs.Prelude.{codes, Option, Some, None, Ok, if◌then◌else◌}
use Rattle.jtext.specs.Characters.{units_of}
use Rattle.jtext.specs.Values.{Json, quoted}
use Rattle.gj_layer.specs.declared.forms.GeoType.{GeoType}
use Rattle.gj_layer.specs.declared.forms.GeoType.TheVariants as types
use Rattle.gj_layer.specs.declared.forms.Holder.{Holder}
use Rattle.gj_layer.specs.declared.forms.Holder.TheVariants as holders
use Rattle.sheet_base.specs.Faults.{and_then}
use Rattle.gj_layer.specs.Members.{Member, is_named, all_named, at_most_one, find_member}
use Rattle.gj_layer.specs.Objects.{content_key, is_allowed, allowed_type, type_of, type_in, type_named, find_crs}
use Rattle.gj_layer.specs.Objects.{with_content, object_type}
use Rattle.gj_layer.proofs.OpenObjects.Fine.{split_then, tested}
use Rattle.gj_layer.proofs.Members.ObjectTypes.{kept_type, type_so}
use Rattle.gj_layer.proofs.OpenObjects.OpenValues.{at_most_is}
use Rattle.gj_layer.proofs.WrittenValues.MemberTurns.{IsLike, AreLike}

-- ---- members of the same names
name_kept : (name : List ℕ) (old new : Member) → IsLike old new → is_named name new ≡ is_named name old
name_kept name old new like = ap (λ key. is_named name
    (record { key_start = new.key_start; key = key; start = new.start; value = new.value })) like.key

pub named_alike : (name : List ℕ) (olds news : List Member) → AreLike olds news
    → AreLike (all_named name olds) (all_named name news)
named_alike name [] [] like = tt
named_alike name [] (new ∷ news) like = absurd like
named_alike name (old ∷ olds) [] like = absurd like
named_alike name (old ∷ olds) (new ∷ news) like = grind (arith, name_kept, AreLike, (named_alike name olds news like.1))

-- as the one member that is found there
abbrev FoundAlike : Option Member → Option Member → Type 0
FoundAlike None None = Unit {0}
FoundAlike (Some old) (Some new) = IsLike old new
FoundAlike old new = ⊥

record FindsAlike (name : List ℕ) (found : Option Member) (news : List Member) : Type 0 where
  other : Option Member
  is : find_member name news ≡ Ok other
  alike : FoundAlike found other

one_alike : (olds news : List Member) (found : Option Member) → AreLike olds news → at_most_one olds ≡ Ok found
    → (other : Option Member) × (at_most_one news ≡ Ok other) × FoundAlike found other
one_alike [] [] found like is = let none : None ≡ found = cc in (None, refl, subst (λ f. FoundAlike f None) none tt)
one_alike (old ∷ []) (new ∷ []) found like is = let some : Some old ≡ found =
    cc in (Some new, refl, subst (λ f. FoundAlike f (Some new)) some like.0)
one_alike (old ∷ []) (new ∷ next ∷ news) found like is = absurd like.1
one_alike (old ∷ second ∷ olds) (new ∷ []) found like is = absurd like.1
one_alike (old ∷ second ∷ olds) (new ∷ next ∷ news) found like is = cc
one_alike olds news found like is = absurd like

finds_alike : (name : List ℕ) (olds news : List Member) (found : Option Member) → AreLike olds news
    → find_member name olds ≡ Ok found → FindsAlike name found news
finds_alike name olds news found like is =
    let (other, other_is, alike) = one_alike (all_named name olds) (all_named name news) found
    (named_alike name olds news like) is in
    record { other = other; is = other_is; alike = alike }

crs_alike : (holder : Holder) (olds news : List Member) (found : Option Member) → AreLike olds news
    → find_crs holder olds ≡ Ok found → (other : Option Member) × (find_crs holder news ≡ Ok other)
crs_alike holders.Layer olds news found like is = let f =
    finds_alike (codes "crs") olds news found like is in (f.other, f.is)
crs_alike holder olds news found like is = (None, refl)

-- the member that is found has the name
pub first_named : (name : List ℕ) (members : List Member) (one : Member) (more : List Member)
    → all_named name members ≡ one ∷ more → is_named name one ≡ true
first_named name [] one more is = cc
first_named name (next ∷ members) one more is = grind (arith, tested, (first_named name members one more))

-- ---- the type of an object
allowed_again : (holder : Holder) (here there : ℕ) (told : Option GeoType) (type : GeoType)
    → allowed_type holder here told ≡ Ok type → (allowed_type holder there told ≡ Ok type) × (is_allowed holder type ≡ true)
allowed_again holder here there None type is = cc
allowed_again holder here there (Some kind) type is = grind arith

type_again : (holder : Holder) (start at here there : ℕ) (value : Json) (type : GeoType)
    → type_of holder start here value ≡ Ok type
    → (type_of holder at there value ≡ Ok type) × (is_allowed holder type ≡ true)
type_again holder start at here there (quoted chars) type is =
    allowed_again holder here there (type_named (units_of chars)) type is
type_again holder start at here there _ type is = cc

content_again : (type kind : GeoType) (start at : ℕ) (found other : Option Member)
    → with_content kind start found ≡ Ok type → FoundAlike found other → with_content kind at other ≡ Ok type
content_again type types.Feature start at found other is alike = is
content_again type kind start at None None is alike = cc
content_again type kind start at None (Some new) is alike = absurd alike
content_again type kind start at (Some old) None is alike = absurd alike
content_again type kind start at (Some old) (Some new) is alike = is

-- what is looked at of an object of a type
pub record IsTyped (holder : Holder) (start : ℕ) (members : List Member) (type : GeoType) : Type 0 where
  pub may : is_allowed holder type ≡ true
  pub found : Option Member
  pub found_is : find_member (content_key type) members ≡ Ok found
  pub has : with_content type start found ≡ Ok type
  pub again : (at : ℕ) (news : List Member) → AreLike members news → object_type holder at news ≡ Ok type

pub typed : (holder : Holder) (start : ℕ) (members : List Member) (type : GeoType)
    → object_type holder start members ≡ Ok type → IsTyped holder start members type
typed holder start members type is =
    let (told, told_is, a) = split_then _ (find_member (codes "type") members) type is in
    let (bbox, bbox_is, b) = split_then _ (find_member (codes "bbox") members) type a in
    let (crs, crs_is, c) = split_then _ (find_crs holder members) type b in
    let (kind, kind_is, d) = split_then _ (type_in holder start told) type c in
    let (found, found_is, e) = split_then (with_content kind start) (find_member (content_key kind) members) type d in
    go told told_is bbox bbox_is crs crs_is kind kind_is found found_is e (kept_type kind start found type (sym e))
  where
    go : (told : Option Member) → find_member (codes "type") members ≡ Ok told → (bbox : Option Member)
        → find_member (codes "bbox") members ≡ Ok bbox → (crs : Option Member) → find_crs holder members ≡ Ok crs
        → (kind : GeoType) → type_in holder start told ≡ Ok kind → (found : Option Member)
        → find_member (content_key kind) members ≡ Ok found → with_content kind start found ≡ Ok type → type ≡ kind
        → IsTyped holder start members type
    go None told_is bbox bbox_is crs crs_is kind kind_is found found_is has same = cc
    go (Some one) told_is bbox bbox_is crs crs_is kind kind_is found found_is has same =
        let named = first_named (codes "type") members one []
        (at_most_is (all_named (codes "type") members) one told_is) in
        record {
          may = subst (λ k. is_allowed holder k ≡ true) (sym same)
              (type_again holder start start one.start one.start one.value kind kind_is).1;
          found = found;
          found_is = ap (λ k. find_member (content_key k) members) same ∙ found_is;
          has = ap (λ k. with_content k start found) same ∙ has;
          again = λ at news like.
              on at news like (finds_alike (codes "type") members news (Some one) like told_is)
              (finds_alike (codes "bbox") members news bbox like bbox_is)
              (crs_alike holder members news crs like crs_is)
              (finds_alike (content_key kind) members news found like found_is) named;
        }
      where
        on : (at : ℕ) (news : List Member) → AreLike members news → FindsAlike (codes "type") (Some one) news
            → FindsAlike (codes "bbox") bbox news → (other : Option Member) × (find_crs holder news ≡ Ok other)
            → FindsAlike (content_key kind) found news → is_named (codes "type") one ≡ true
            → object_type holder at news ≡ Ok type
        on at news like t b (c, c_is) f named =
            type_so holder at news t.other b.other c kind t.is b.is c_is (told_again at t.other t.alike named)
            ∙ ap (and_then (with_content kind at)) f.is ∙ content_again type kind start at found f.other has f.alike
          where
            told_again : (at : ℕ) (other : Option Member) → FoundAlike (Some one) other
                → is_named (codes "type") one ≡ true → type_in holder at other ≡ Ok kind
            told_again at None alike named = absurd alike
            told_again at (Some new) alike named = ap (type_of holder at new.start) (alike.type named)
                ∙ (type_again holder start at one.start new.start one.value kind kind_is).0
