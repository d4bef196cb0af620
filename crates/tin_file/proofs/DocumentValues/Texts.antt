-- Values that are compared with one text after the other.
use Rattle.std.proofs.Common.{◌≡◌, ℕ, List, Bool, true, false, refl, sym, ◌∙◌, subst}
use Rattle.std.specs.Prelude.{codes, Err}
use Rattle.jtext.specs.Values.{Json}
use Rattle.sheet_base.specs.declared.flags.How.{How}
use Rattle.tin_file.specs.Keys.{says}
use Rattle.tin_file.specs.Headings.{fallback, strategy_value}
use Rattle.tin_file.specs.declared.faults.Top.TheVariants as tops
use Rattle.tin_file.specs.declared.faults.Nearest.TheVariants as nearest
use Rattle.tin_file.specs.declared.faults.TinFault.TheVariants.{Key}

-- a test, by the text that it was asked for
pub tells_so : (is : Json) (text literal : List ℕ) (test answer : Bool) → test ≡ says is text → text ≡ literal
    → test ≡ answer → says is literal ≡ answer
tells_so is text literal test answer told same was = subst (λ t. says is t ≡ answer) same (sym told ∙ was)

module _ (how : How) (is : Json) (none : says is (codes "none") ≡ false) where
  pub is_side : says is (codes "nearest_side") ≡ true → fallback how nearest.Side ≡ strategy_value how is
  is_side side = rw (none, side) refl

  module _ (side : says is (codes "nearest_side") ≡ false) where
    pub is_centroid : says is (codes "nearest_centroid") ≡ true → fallback how nearest.Centroid ≡ strategy_value how is
    is_centroid centroid = rw (none, side, centroid) refl

    pub is_no_strategy : says is (codes "nearest_centroid") ≡ false → Err (Key tops.Strategy) ≡ strategy_value how is
    is_no_strategy centroid = rw (none, side, centroid) refl
