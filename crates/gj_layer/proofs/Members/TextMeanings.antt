-- Texts that say something.
use Rattle.std.proofs.Common.{◌≡◌, ℕ, List, true, false, refl, sym, subst}
use Rattle.std.specs.Prelude.{Err}
use Rattle.jtext.specs.Values.{Json, quoted}
use Rattle.jtext.specs.Nodes.{kind_of}
use Rattle.jtext.specs.Lookups.{are_same}
use Rattle.jtext.specs.declared.document.Kind.TheVariants as kinds
use Rattle.jtext.proofs.CallerLemmas.SameTexts.{same_is}
use Rattle.sheet_base.specs.declared.faults.LayerFault.TheVariants.{Shape}
use Rattle.gj_layer.specs.declared.forms.Holder.{Holder}
use Rattle.gj_layer.specs.Objects.{type_of}

-- what says one thing says no other
pub says_one : (text one other : List ℕ) → are_same one other ≡ false → are_same text one ≡ true
    → are_same text other ≡ false
says_one text one other apart is = subst (λ t. are_same t other ≡ false) (sym (same_is text one is)) apart

pub no_text : (holder : Holder) (start at : ℕ) (value : Json) → (kind_of value ≡ kinds.Text → ⊥)
    → Err (Shape start) ≡ type_of holder start at value
no_text holder start at (quoted chars) never = absurd (never refl)
no_text holder start at value never = refl
