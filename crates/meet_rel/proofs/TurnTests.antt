-- What the tests of four turns say of the segments.
use Rattle.std.proofs.Common.{◌≡◌, ◌≢◌, ◌↔◌, ◌⊎◌, inl, ℤ, pos, ◌-ℤ◌, Bool, true, false, IsTrue, sym}
use Rattle.std.proofs.Common.{◌∙◌, subst, arith}
use Rattle.std.proofs.lemmas.Int.{ints}
use Rattle.std.proofs.lemmas.Bool.{false≢true}
use Rattle.plane_base.specs.Plane.{turn_of, whole}
use Rattle.plane_base.specs.declared.shapes.Pt.{Pt}
use Rattle.integer_ring.proofs.Order.{≤_or_>}
use Rattle.tin_base.specs.declared.relations.Rel.TheVariants.{Touching, Crossing}
use Rattle.tin_base.specs.Relations.{HaveRelation}
use Rattle.meet_rel.specs.Signs.{AreOnOneSide, IsSomeZero, AreOnOneLine}
use Rattle.meet_rel.proofs.Crossings.{AreSigns, same_fall, touching_by, crossing_by}

-- the four turns as the code has them
pub record AreTurns (a b c d : Pt) (of_a of_b of_c of_d : ℤ) : Type 0 where
  pub a_is : of_a ≡ turn_of (whole c) (whole d) (whole a)
  pub b_is : of_b ≡ turn_of (whole c) (whole d) (whole b)
  pub c_is : of_c ≡ turn_of (whole a) (whole b) (whole c)
  pub d_is : of_d ≡ turn_of (whole a) (whole b) (whole d)

pub side_moved : (s t u v : ℤ) → s ≡ u → t ≡ v → AreOnOneSide s t → AreOnOneSide u v
side_moved s t u v e f h = subst (λ (z : ℤ). AreOnOneSide u z) f (subst (λ (z : ℤ). AreOnOneSide z t) e h)

zero_moved : (s t u v s' t' u' v' : ℤ) → s ≡ s' → t ≡ t' → u ≡ u' → v ≡ v' → IsSomeZero s t u v → IsSomeZero s' t' u' v'
zero_moved s t u v s' t' u' v' e f g h k = grind arith

-- a test that failed
pub not_told : (r : Bool) (A : Type 0) → IsTrue r ↔ A → r ≡ false → A → ⊥
not_told r A tells failed a = false≢true (sym failed ∙ tells.1 a)

signs : (a b c d : Pt) (of_a of_b of_c of_d : ℤ) → AreTurns a b c d of_a of_b of_c of_d
    → (AreOnOneSide of_c of_d → ⊥) → (AreOnOneSide of_a of_b → ⊥) → of_c ≢ of_d → AreSigns a b c d
signs a b c d of_a of_b of_c of_d t second first differ = grind (arith, side_moved)

pub turns_told : (a b c d : Pt) (of_a of_b of_c of_d : ℤ) → of_a ≡ turn_of (whole c) (whole d) (whole a)
    → of_b ≡ turn_of (whole c) (whole d) (whole b) → of_c ≡ turn_of (whole a) (whole b) (whole c)
    → of_d ≡ turn_of (whole a) (whole b) (whole d) → AreTurns a b c d of_a of_b of_c of_d
turns_told a b c d of_a of_b of_c of_d e f g h = record { a_is = e; b_is = f; c_is = g; d_is = h }

-- the tests of both sides failed, and the turns differ
pub signs_told : (a b c d : Pt) (of_a of_b of_c of_d : ℤ) → AreTurns a b c d of_a of_b of_c of_d → (second first : Bool)
    → IsTrue second ↔ AreOnOneSide of_c of_d → second ≡ false → IsTrue first ↔ AreOnOneSide of_a of_b → first ≡ false
    → of_c ≢ of_d → AreSigns a b c d
signs_told a b c d of_a of_b of_c of_d t second first of_second not_second of_first not_first differ =
    grind (arith, signs, not_told)

pub touching_told : (a b c d : Pt) (of_a of_b of_c of_d : ℤ) → AreTurns a b c d of_a of_b of_c of_d → AreSigns a b c d
    → IsSomeZero of_a of_b of_c of_d → HaveRelation Touching (whole a) (whole b) (whole c) (whole d)
touching_told a b c d of_a of_b of_c of_d t s h = grind (arith, touching_by, zero_moved)

pub crossing_told : (a b c d : Pt) (of_a of_b of_c of_d : ℤ) → AreTurns a b c d of_a of_b of_c of_d → AreSigns a b c d
    → (IsSomeZero of_a of_b of_c of_d → ⊥) → HaveRelation Crossing (whole a) (whole b) (whole c) (whole d)
crossing_told a b c d of_a of_b of_c of_d t s none = grind (arith, crossing_by, zero_moved)

-- two turns that are the same and on no side are 0
zero_of : (u v : ℤ) → (AreOnOneSide u v → ⊥) → u ≡ v → u ≡ pos 0
zero_of u v none e = grind (arith, ≤_or_>)

pub on_one_line : (a b c d : Pt) (of_a of_b of_c of_d : ℤ) → AreTurns a b c d of_a of_b of_c of_d
    → (AreOnOneSide of_c of_d → ⊥) → (AreOnOneSide of_a of_b → ⊥) → of_c ≡ of_d → AreOnOneLine a b c d
on_one_line a b c d of_a of_b of_c of_d t second first e =
    let also : of_a ≡ of_b =
    t.a_is ∙ falls (turn_of (whole c) (whole d) (whole a)) (turn_of (whole c) (whole d) (whole b))
    (turn_of (whole a) (whole b) (whole d)) (turn_of (whole a) (whole b) (whole c)) (same_fall a b c d)
    (sym t.d_is ∙ sym e ∙ t.c_is) ∙ sym t.b_is in
    let zc : of_c ≡ pos 0 = zero_of of_c of_d second e in let za : of_a ≡ pos 0 = zero_of of_a of_b first also in
    record {
      of_c = sym t.c_is ∙ zc;
      of_d = sym t.d_is ∙ sym e ∙ zc;
      of_a = sym t.a_is ∙ za;
      of_b = sym t.b_is
          ∙ sym also ∙ za;
    }
  where
    falls : (s t u v : ℤ) → s -ℤ t ≡ u -ℤ v → u ≡ v → s ≡ t
    falls s t u v h k = omega (arith, ints)

-- ---- either of two tests
pub first_holds : (r : Bool) (A B : Type 0) → IsTrue r ↔ A → r ≡ true → IsTrue r ↔ (A ⊎ B)
first_holds r A B tells holds = (λ _. inl (tells.0 holds), λ _. holds)

pub second_tells : (r s : Bool) (A B : Type 0) → IsTrue r ↔ A → r ≡ false → IsTrue s ↔ B → IsTrue s ↔ (A ⊎ B)
second_tells r s A B tells failed other = grind (arith, not_told)

-- ---- parallel lines
pub other_equal : (a b c d : Pt) → turn_of (whole a) (whole b) (whole c) ≡ turn_of (whole a) (whole b) (whole d)
    → turn_of (whole c) (whole d) (whole a) ≡ turn_of (whole c) (whole d) (whole b)
other_equal a b c d e = falls (turn_of (whole c) (whole d) (whole a)) (turn_of (whole c) (whole d) (whole b))
    (turn_of (whole a) (whole b) (whole d)) (turn_of (whole a) (whole b) (whole c)) (same_fall a b c d) (sym e)
  where
    falls : (s t u v : ℤ) → s -ℤ t ≡ u -ℤ v → u ≡ v → s ≡ t
    falls s t u v h k = omega (arith, ints)
