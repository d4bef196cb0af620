-- The whole value, as an object or not.
use Rattle.std.proofs.Common.{◌≡◌, ◌∙◌, ℕ, List, Bool, true, false, refl, sym, subst, arith}
use Rattle.std.specs.Prelude.{Err}
use Rattle.jtext.specs.Values.{Json, Members, object}
use Rattle.jtext.specs.Nodes.{first_node}
use Rattle.jtext.specs.Places.{IsDocOf, HasKind, whole_start}
use Rattle.jtext.specs.Texts.{Whole}
use Rattle.jtext.specs.declared.document.Doc.{Doc}
use Rattle.jtext.specs.declared.document.Kind.TheVariants as kinds
use Rattle.sheet_base.specs.declared.flags.How.{How}
use Rattle.tin_file.specs.Keys.{is_object}
use Rattle.tin_file.specs.TinFiles.{reading}
use Rattle.tin_file.specs.InsideNodes.{IsThere, HasMembers}
use Rattle.tin_file.specs.declared.faults.Top.TheVariants as tops
use Rattle.tin_file.specs.declared.faults.TinFault.TheVariants.{Key}
use Rattle.jtext.proofs.CallerLemmas.NodePlaces.{reading_stands, first_there}

pub whole_there : (whole : Whole) (doc : Doc) (bytes : List ℕ) → IsDocOf whole doc bytes
    → IsThere doc.nodes bytes 0 whole.value
whole_there whole doc bytes h = (whole_start whole, reading_stands whole doc bytes h)

object_of : (value : Json) → true ≡ is_object value
    → (blank : List ℕ) × (members : Members) × (value ≡ object blank members)
object_of value h = grind arith

pub is_no_object : (how : How) (value : Json) → false ≡ is_object value → Err (Key tops.Whole) ≡ reading how value
is_no_object how value h = grind arith

-- where a test of the value that is there holds of the whole one
module _ (whole : Whole) (doc : Doc) (bytes : List ℕ) (read : IsDocOf whole doc bytes) (holds : Bool)
    (test : (bytes : List ℕ) (value : Json) → IsThere doc.nodes bytes 0 value → holds ≡ is_object value)
    (is : holds ≡ true) where
  members_of : (blank : List ℕ) × (members : Members) × (whole.value ≡ object blank members)
  members_of = object_of whole.value (sym is ∙ test bytes whole.value (whole_there whole doc bytes read))

  there_as : (blank : List ℕ) (members : Members) → whole.value ≡ object blank members
      → IsThere doc.nodes bytes 0 (object blank members)
  there_as blank members value_is = subst (IsThere doc.nodes bytes 0) value_is (whole_there whole doc bytes read)

  pub object_kind : HasKind doc.nodes 0 kinds.Object
  object_kind =
      let (blank, members, value_is) = members_of in
      let here = there_as blank members value_is in (
        first_node 0 here.0 (object blank members),
        first_there doc.nodes bytes 0 here.0 (object blank members) here.1,
        refl,
      )

  pub object_members : (members : Members) × HasMembers doc.nodes bytes members
      × ((blank : List ℕ) × (whole.value ≡ object blank members))
  object_members =
      let (blank, members, value_is) = members_of in
      (members, (blank, there_as blank members value_is), (blank, value_is))
