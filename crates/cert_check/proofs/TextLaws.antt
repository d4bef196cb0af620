-- The first place at which two texts differ.
use Rattle.std.proofs.Common.{◌≡◌, ◌≢◌, ℕ, ◌+◌, ◌<◌, min, List, [], Some}
use Rattle.std.proofs.Common.{take, length, get_or, refl, arith}
use Rattle.std.specs.Prelude.{slice_get}
use Rattle.std.proofs.lemmas.List.{take_more, take_all}
use Rattle.std.proofs.lemmas.Option.{slice_get-get_or, slice_get_past}
use Rattle.cert_check.specs.Checks.{IsFirstDifference}

-- ---- they agree up to a place
pub record AgreeTo (text other : List ℕ) (at : ℕ) : Type 0 where
  pub front : take at text ≡ take at other

pub agree_start : (text other : List ℕ) → AgreeTo text other 0
agree_start text other = record { front = refl }

pub agree_more : (text other : List ℕ) (at : ℕ) → at < length text → at < length other
    → get_or text at 0 ≡ get_or other at 0 → AgreeTo text other at → AgreeTo text other (at + 1)
agree_more text other at h k e so_far = grind (arith, take_more text at 0 h, take_more other at 0 k)

read_some : (text : List ℕ) (at : ℕ) → at < length text → slice_get text at ≡ Some (get_or text at 0)
read_some text at h = slice_get-get_or text at 0 h

pub differ_at : (text other : List ℕ) (at : ℕ) → at < length text → at < length other
    → get_or text at 0 ≢ get_or other at 0 → AgreeTo text other at → IsFirstDifference text other at
differ_at text other at h k differ so_far = grind (arith, read_some)

-- ---- one of them ends

pub differ_end : (text other : List ℕ) (at : ℕ) → at ≡ min (length text) (length other) → length text ≢ length other
    → AgreeTo text other at → IsFirstDifference text other at
differ_end text other at e differ so_far = grind (arith, slice_get_past, read_some)

pub agree_all : (text other : List ℕ) (at : ℕ) → at ≡ length text → at ≡ length other → AgreeTo text other at
    → text ≡ other
agree_all text other at e f so_far = grind (arith, take_all)
