-- The numbers of a triangle, counted from any of them on, and the numbers that two triangles have in common.
use Rattle.std.proofs.Common.{◌≡◌, ◌⊎◌, ℕ, true, List, [], ◌∷◌, arith}
use Rattle.std.proofs.lemmas.Bool.Decides.{eqb_tells}
use Rattle.tin_base.specs.Soundness.{has, common}
use Rattle.tin_base.proofs.TriangleLemmas.Members.{one_of_three, has_first, has_second, has_third, has_common}
use Rattle.tin_base.proofs.FrameImages.Weights.{HasAll}
use Rattle.border_law.specs.Borders.{IsFrom}

pub first_has : (ns : List ℕ) (i j k : ℕ) → IsFrom ns i j k → has ns i ≡ true
first_has ns i j k e = grind (arith, has_first, has_second, has_third)

-- a number of the triangle is one of the three
pub one_from : (ns : List ℕ) (i j k c : ℕ) → IsFrom ns i j k → has ns c ≡ true → (i ≡ c) ⊎ ((j ≡ c) ⊎ (k ≡ c))
one_from ns i j k c e h = grind (arith, one_of_three)

-- a number of two
pub one_of_two : (i j c : ℕ) → has (i ∷ j ∷ []) c ≡ true → (i ≡ c) ⊎ (j ≡ c)
one_of_two i j c h = grind (arith, eqb_tells)

-- ---- numbers in common
pub all_common : (ks ns cs : List ℕ) → HasAll ks cs → HasAll ns cs → HasAll (common ks ns) cs
all_common ks ns [] h k = tt
all_common ks ns (c ∷ cs) h k = (has_common ks ns c h.0 k.0, all_common ks ns cs h.1 k.1)

-- the numbers of a longer list have what a shorter one has
pub all_through : (ks ns cs : List ℕ) → ((c : ℕ) → has ks c ≡ true → has ns c ≡ true) → HasAll ks cs → HasAll ns cs
all_through ks ns [] f h = tt
all_through ks ns (c ∷ cs) f h = (f c h.0, all_through ks ns cs f h.1)

pub has_all : (ks cs : List ℕ) (c : ℕ) → HasAll ks cs → has cs c ≡ true → has ks c ≡ true
has_all ks [] c h k = grind arith
has_all ks (d ∷ cs) c h k = grind (arith, eqb_tells, has_all ks cs c h.1)
