-- The heights at the ends of steps are those of the segment's crossings.
use Rattle.std.proofs.Common.{◌≡◌, ◌≢◌, ◌⊎◌, inl, inr, ℕ, zero, suc, ◌+◌, ◌-◌, ◌<◌, List, []}
use Rattle.std.proofs.Common.{◌∷◌, map, take, length, ap, ap₂, refl, sym, ◌∙◌, subst}
use Rattle.std.proofs.Common.{arith}
use Rattle.plane_base.specs.Slices.{IsParam}
use Rattle.plane_base.specs.declared.shapes.Pt.{Pt}
use Rattle.seg_walk.specs.declared.steps.Step.{Step}
use Rattle.seg_walk.specs.Steps.{part_of, point_of, AreSteps}
use Rattle.sheet_base.specs.PointHeights.{Height}
use Rattle.sheet_base.specs.ReadBack.{Ends}
use Rattle.tin_base.specs.Triangulation.{Triangulation}
use Rattle.tin_base.specs.Limits.{IsWithinLimits}
use Rattle.tin_base.specs.Soundness.{IsSound}
use Rattle.tin_base.specs.Segments.{Part, part_at, IsInside, ArePiecesAt, ArePiecesOf}
use Rattle.tin_base.specs.Slices.{spot_of}
use Rattle.tin_base.proofs.SegmentSpots.SlicedParts.{params}
use Rattle.sheet_pieces.specs.SpotHeights.{param_height, crossing_heights}
use Rattle.sheet_pieces.proofs.PartSequences.{same_or}
use Rattle.sheet_pieces.proofs.OneCut.{cut_alike}
use Rattle.sheet_pieces.proofs.OneHeight.{crossings_one}
use Rattle.sheet_pieces.proofs.SpotHeights.{IsInner, inner_height, cut_inner}
use Rattle.carry_map.specs.InsideStepHeights.{HaveParams}
use Rattle.carry_map.proofs.StepPieces.{IsStepAt, step_told}

-- ---- the parameters of steps
pub param_at : (steps : List Step) (i : ℕ) (step : Step) → HaveParams steps → i < length steps → IsStepAt steps i step
    → IsParam step.slice.hi.num step.slice.hi.den
param_at [] i step have h e = absurd (omega (arith, h))
param_at (s ∷ steps) zero step have h e =
    subst (λ (x : Step). IsParam x.slice.hi.num x.slice.hi.den) (sym e) have.0
param_at (s ∷ steps) (suc i) step have h e = param_at steps i step have.1 (omega (arith, h)) e

params_front : (steps : List Step) (n : ℕ) → HaveParams steps → HaveParams (take n steps)
params_front steps zero have = tt
params_front [] (suc n) have = tt
params_front (s ∷ steps) (suc n) have = (have.0, params_front steps n have.1)

params_by : (steps : List Step)
    → ((i : ℕ) (step : Step) → i < length steps → IsStepAt steps i step → IsParam step.slice.hi.num step.slice.hi.den)
    → HaveParams steps
params_by [] each = tt
params_by (s ∷ steps) each =
    (each 0 s (omega arith) refl, params_by steps (λ i step h e. each (suc i) step (omega (arith, h)) e))

pub have_params : (tin : Triangulation) (a b : Pt) (steps : List Step) (n : ℕ) → IsWithinLimits tin
    → AreSteps tin a b steps → HaveParams (take n steps)
have_params tin a b steps n limits are =
    params_front steps n (params_by steps (λ i step h e.
    let known = step_told tin a b steps i step limits are h e in
    let ends = params tin a b step.tri step.slice limits known.in_range known.slice in
    ends.hi))

-- ---- the heights of crossings
counted : (n : ℕ) → suc (suc n - 1) ≡ suc (suc n) - 1
counted n = omega arith

mapped : (a b : Pt) (ends : Ends Height) (steps : List Step)
    → ((i : ℕ) → i + 1 < length (map part_of steps) → IsInner a b (part_at (map part_of steps) i).last)
    → map (λ (step : Step). param_height ends.from ends.to step.slice.hi) (take (length steps - 1) steps)
    ≡ crossing_heights a b ends (map part_of steps)
mapped a b ends [] inner = refl
mapped a b ends (s ∷ []) inner = refl
mapped a b ends (s ∷ t ∷ steps) inner =
    ap (λ (n : ℕ). map (λ (step : Step). param_height ends.from ends.to step.slice.hi) (take n (s ∷ t ∷ steps)))
    (sym (counted (length steps)))
    ∙ ap₂ (λ (z : Height) (zs : List Height). z ∷ zs)
    (sym (inner_height a b ends (spot_of s.slice.hi) (inner 0 (omega arith))))
    (mapped a b ends (t ∷ steps) (λ i h. inner (suc i) (omega (arith, h))))

single : (tin : Triangulation) (a b : Pt) (ends : Ends Height) (steps : List Step)
    → ArePiecesAt tin a (map point_of steps)
    → map (λ (step : Step). param_height ends.from ends.to step.slice.hi) (take (length steps - 1) steps)
    ≡ crossing_heights a b ends (map point_of steps)
single tin a b ends [] are = refl
single tin a b ends (s ∷ []) are = refl
single tin a b ends (s ∷ t ∷ steps) are = absurd are

own_parts : (tin : Triangulation) (a b : Pt) (ends : Ends Height) (steps : List Step) → IsSound tin
    → IsInside tin a b → (are : AreSteps tin a b steps)
    → map (λ (step : Step). param_height ends.from ends.to step.slice.hi) (take (length steps - 1) steps)
    ≡ crossing_heights a b ends are.parts
own_parts tin a b ends steps sound inside are = go (same_or a b)
  where
    go : (a ≡ b) ⊎ (a ≢ b)
        → map (λ (step : Step). param_height ends.from ends.to step.slice.hi) (take (length steps - 1) steps)
        ≡ crossing_heights a b ends are.parts
    go (inl same) =
        single tin a b ends steps (subst (ArePiecesAt tin a) (are.of_point same) (are.pieces.0 same))
        ∙ ap (crossing_heights a b ends) (sym (are.of_point same))
    go (inr differ) =
        mapped a b ends steps (λ i h. cut_inner tin a b (map part_of steps) i sound inside
        (subst (ArePiecesOf tin a b) (are.of_segment differ) are.pieces) h)
        ∙ ap (crossing_heights a b ends) (sym (are.of_segment differ))

pub heights_are : (tin : Triangulation) (a b : Pt) (ends : Ends Height) (steps : List Step) (n : ℕ) (parts : List Part)
    → IsSound tin → IsInside tin a b → AreSteps tin a b steps → ArePiecesOf tin a b parts → n ≡ length steps - 1
    → map (λ (step : Step). param_height ends.from ends.to step.slice.hi) (take n steps)
    ≡ crossing_heights a b ends parts
heights_are tin a b ends steps n parts sound inside are cut e =
    ap (λ (k : ℕ). map (λ (step : Step). param_height ends.from ends.to step.slice.hi) (take k steps)) e
    ∙ own_parts tin a b ends steps sound inside are
    ∙ crossings_one a b ends are.parts parts (cut_alike tin a b are.parts parts are.pieces cut)
