-- No bytes have two of the answers.
use Rattle.std.proofs.Common.{◌≡◌, ℕ, ◌+◌, List, arith}
use Rattle.text_places.proofs.Fronts.{first_fault_unique}
use Rattle.jtext.specs.Texts.{IsText, IsAnyText, IsBad, IsDeep}
use Rattle.jtext.specs.declared.json_texts.TheConstants.{DEEPEST}

pub bad_once : (bytes : List ℕ) (at other : ℕ) → IsBad bytes at → IsBad bytes other → at ≡ other
bad_once bytes at other a b = first_fault_unique IsAnyText bytes at other a.fault b.fault

pub deep_once : (bytes : List ℕ) (at other : ℕ) → IsDeep bytes at → IsDeep bytes other → at ≡ other
deep_once bytes at other a b = first_fault_unique (IsText DEEPEST) bytes at other a.fault b.fault

pub bad_or_deep : (bytes : List ℕ) (at other : ℕ) → IsBad bytes at → IsDeep bytes other → ⊥
bad_or_deep bytes at other b d =
    omega (
      arith,
      d.fault.longest at b.fault.within b.shallow,
      b.fault.longest (other + 1) (omega (arith, d.within))
          d.deeper,
    )
