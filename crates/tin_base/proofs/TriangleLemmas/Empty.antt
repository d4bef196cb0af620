-- A triangulation without triangles is sound, and so is one of one triangle with positive turns.
use Rattle.std.proofs.Common.{◌≡◌, ℕ, ◌<◌, List, [], length, pos, ◌<ℤ◌, ap, subst, arith}
use Rattle.tin_base.specs.Triangulation.{Triangulation}
use Rattle.tin_base.specs.declared.frames.Frame.{Frame}
use Rattle.tin_base.specs.declared.frames.Frame.TheVariants.{Source, Target}
use Rattle.tin_base.specs.Soundness.{turn_in, IsSound}

none_below : (rows : List (List ℕ)) (t : ℕ) → rows ≡ [] → t < length rows → ⊥
none_below rows t e h = let f : length rows ≡ 0 = ap (λ (xs : List (List ℕ)). length xs) e in absurd (omega arith)

pub empty_sound : (tin : Triangulation) → tin.triangles ≡ [] → IsSound tin
empty_sound tin e = grind (arith, none_below)

-- one triangle with positive turns is sound: there are no two
pub one_sound : (tin : Triangulation) → length tin.triangles ≡ 1 → pos 0 <ℤ turn_in tin Source 0
    → pos 0 <ℤ turn_in tin Target 0 → IsSound tin
one_sound tin one source target =
    record {
      positive = λ frame t h. let first : 0 ≡ t =
          omega arith in subst (λ (n : ℕ). pos 0 <ℤ turn_in tin frame n) first (turned frame);
      fit = λ frame t u differ h k. absurd (omega arith);
    }
  where
    turned : (frame : Frame) → pos 0 <ℤ turn_in tin frame 0
    turned Source = source
    turned Target = target
