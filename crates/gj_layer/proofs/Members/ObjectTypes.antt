-- The first fault of an object's members, or its type.
use Rattle.std.proofs.Common.{◌≡◌, ℕ, List, sym, subst, arith}
use Rattle.std.specs.Prelude.{Option, Some, None, Result, Ok, Err, codes}
use Rattle.jtext.specs.declared.document.Node.{Node}
use Rattle.sheet_base.specs.declared.faults.LayerFault.{LayerFault}
use Rattle.gj_layer.specs.declared.forms.GeoType.{GeoType}
use Rattle.gj_layer.specs.declared.forms.GeoType.TheVariants as types
use Rattle.gj_layer.specs.declared.forms.Holder.{Holder}
use Rattle.gj_layer.specs.declared.objects.Looked.{Looked}
use Rattle.sheet_base.specs.Faults.{and_then}
use Rattle.gj_layer.specs.Members.{Member, find_member}
use Rattle.gj_layer.specs.Objects.{content_key, find_crs, type_in, with_content, object_type}
use Rattle.gj_layer.specs.InsideFrames.{Looks}

pub kept_type : (type : GeoType) (start : ℕ) (found : Option Member) (other : GeoType)
    → Ok other ≡ with_content type start found → other ≡ type
kept_type types.Feature start found other is = cc
kept_type type start (Some one) other is = cc
kept_type type start None other is = cc

module _ (holder : Holder) (start : ℕ) (members : List Member) (told bbox crs : Option Member) (type : GeoType)
    (told_is : find_member (codes "type") members ≡ Ok told) (bbox_is : find_member (codes "bbox") members ≡ Ok bbox)
    (crs_is : find_crs holder members ≡ Ok crs) (type_is : type_in holder start told ≡ Ok type) where
  pub type_so : object_type holder start members
      ≡ and_then (with_content type start) (find_member (content_key type) members)
  type_so = grind arith

pub looks_fault : (nodes : List Node) (bytes : List ℕ) (holder : Holder) (object past : ℕ) (members : List Member)
    (r : Result Looked LayerFault) (wanted : Result GeoType LayerFault) (fault : LayerFault)
    → r ≡ Err fault → wanted ≡ Err fault → Looks nodes bytes holder object past members r wanted
looks_fault nodes bytes holder object past members r wanted fault is same =
    subst (λ q. Looks nodes bytes holder object past members q wanted) (sym is) same
