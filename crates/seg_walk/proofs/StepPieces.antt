-- Steps as pieces.
use Rattle.std.proofs.Common.{◌≡◌, ◌≢◌, ℕ, ◌<◌, ℤ, ◌<ℤ◌, unsigned_abs, List, [], ◌∷◌, ◌++◌, map}
use Rattle.std.proofs.Common.{length, Option, Some, None, sym, subst, refl, arith}
use Rattle.std.proofs.lemmas.Int.{ints}
use Rattle.std.proofs.lemmas.List.{map-append}
use Rattle.integer_ring.proofs.Order.{not-<-to-≤}
use Rattle.plane_base.specs.Plane.{whole}
use Rattle.plane_base.specs.Slices.{IsParam}
use Rattle.plane_base.specs.declared.shapes.Pt.{Pt}
use Rattle.tin_base.specs.declared.frames.Frame.TheVariants.{Source}
use Rattle.tin_base.specs.Triangulation.{Triangulation, IsInTriangle}
use Rattle.tin_base.specs.Images.{IsInSome}
use Rattle.tin_base.specs.Limits.{IsWithinLimits}
use Rattle.tin_base.specs.Soundness.{IsSound}
use Rattle.tin_base.specs.Segments.{Spot, at_a, Part, IsInside}
use Rattle.seg_walk.specs.declared.steps.Step.{Step}
use Rattle.tin_base.specs.Slices.{spot_of, spot_by, IsSliceIn}
use Rattle.seg_walk.specs.Steps.{part_of, point_of, HaveSlices, AreSteps}
use Rattle.seg_walk.specs.InsideStarts.{IsPartFrom, IsStepFrom, GoesOn}
use Rattle.tin_base.proofs.SegmentSpots.SlicedParts.{HasParams, params}
use Rattle.tin_base.proofs.PieceChains.UnusedTriangles.{unused, less_left}
use Rattle.tin_base.proofs.PieceChains.Walk.{IsWalked, Follows, start, more, not_again, all_walked, all_inside, stuck}

have_more : (tin : Triangulation) (a b : Pt) (steps : List Step) (step : Step) → HaveSlices tin a b steps
    → IsSliceIn tin a b step.tri step.slice → HaveSlices tin a b (steps ++ step ∷ [])
have_more tin a b [] step h k = (k, tt)
have_more tin a b (s ∷ steps) step h k = (h.0, have_more tin a b steps step h.1 k)

step_params : (tin : Triangulation) (a b : Pt) (x : Spot) (step : Step) → IsWithinLimits tin
    → IsPartFrom tin a b x step → HasParams step.slice
step_params tin a b x step limits from = let part =
    from.part in params tin a b step.tri step.slice limits part.in_range from.slice

follows_of : (tin : Triangulation) (a b : Pt) (x : Spot) (step : Step) → IsStepFrom tin a b x step
    → Follows tin a b x (part_of step)
follows_of tin a b x step goes =
    let from = goes.from in
    record {
      part = from.part;
      begins = from.begins;
      least =
          λ u h p. goes.least u h (spot_of step.slice.lo) (spot_of step.slice.hi) p from.begins;
    }

-- what holds after one step more
pub record Stepped (tin : Triangulation) (a b : Pt) (steps items : List Step) (step : Step) : Type 0 where
  pub param : IsParam step.slice.hi.num step.slice.hi.den
  pub slices : HaveSlices tin a b items
  pub walked : IsWalked tin a b (map part_of items) (spot_of step.slice.hi)
  pub less : unused (map part_of items) (length tin.triangles) < unused (map part_of steps) (length tin.triangles)

stepped : (tin : Triangulation) (a b : Pt) (steps items : List Step) (x : Spot) (step : Step) → IsWithinLimits tin
    → IsSound tin → a ≢ b → HaveSlices tin a b steps → IsWalked tin a b (map part_of steps) x
    → IsStepFrom tin a b x step → items ≡ steps ++ step ∷ [] → Stepped tin a b steps items step
stepped tin a b steps items x step limits sound differ slices walked goes e =
    subst (λ (xs : List Step). Stepped tin a b steps xs step) (sym e)
    (go (let from = goes.from in let part = from.part in part.in_range))
  where
    new : Follows tin a b x (part_of step)
    new = follows_of tin a b x step goes

    listed : map part_of (steps ++ step ∷ []) ≡ map part_of steps ++ part_of step ∷ []
    listed = map-append part_of steps (step ∷ [])

    go : step.tri < length tin.triangles → Stepped tin a b steps (steps ++ step ∷ []) step
    go h =
        let ends = step_params tin a b x step limits goes.from in
        record {
          param = ends.hi;
          slices = have_more tin a b steps step slices (let from = goes.from in from.slice);
          walked = subst (λ (ps : List Part). IsWalked tin a b ps (spot_of step.slice.hi)) (sym listed)
              (more tin a b (map part_of steps) x (part_of step) sound differ walked new);
          less = subst (λ (ps : List Part). unused ps (length tin.triangles)
              < unused (map part_of steps) (length tin.triangles)) (sym listed)
              (less_left (map part_of steps) (part_of step) (length tin.triangles) h
              (not_again tin a b (map part_of steps) x (part_of step) walked new));
        }

-- ---- the end of the way
no_more_of_a : (n d : ℤ) → IsParam n d → (n <ℤ d → ⊥) → (spot_by n d).of_a ≡ 0
no_more_of_a n d h out = grind (arith, not-<-to-≤, unsigned_abs)

more_of_a : (n d : ℤ) → n <ℤ d → 0 < (spot_by n d).of_a
more_of_a n d h = omega (arith, ints)

all_steps : (tin : Triangulation) (a b : Pt) (steps : List Step) (n d : ℤ) → a ≢ b → HaveSlices tin a b steps
    → IsWalked tin a b (map part_of steps) (spot_by n d) → (spot_by n d).of_a ≡ 0 → AreSteps tin a b steps
all_steps tin a b steps n d differ slices walked e =
    record {
      parts = map part_of steps;
      pieces = (λ same. absurd (differ same), λ _. all_walked tin a b (map part_of steps) (spot_by n d) e walked);
      of_point = λ same. absurd (differ same);
      of_segment = λ _. refl;
      slices = slices;
    }

-- ---- a segment that is one point
pub one_step : (tin : Triangulation) (p : Pt) (step : Step) → step.tri < length tin.triangles
    → IsInTriangle tin Source step.tri (whole p) → ((u : ℕ) → u < step.tri → IsInTriangle tin Source u (whole p) → ⊥)
    → IsSliceIn tin p p step.tri step.slice → AreSteps tin p p (step ∷ [])
one_step tin p step h has least slice =
    record {
      parts = point_of step ∷ [];
      pieces = (λ _. (h, has, least, refl, refl), λ differ. absurd (differ refl));
      of_point = λ _. refl;
      of_segment = λ differ. absurd (differ refl);
      slices = (slice, tt);
    }

-- ---- on the way: the steps so far are the pieces up to a spot before the end, and what comes next is known
pub record IsOnWay (tin : Triangulation) (a b : Pt) (steps : List Step) (next : Option Step) : Type 0 where
  pub x : Spot
  pub more : 0 < x.of_a
  pub slices : HaveSlices tin a b steps
  pub walked : IsWalked tin a b (map part_of steps) x
  pub goes : GoesOn tin a b x next

pub on_start : (tin : Triangulation) (a b : Pt) (steps : List Step) (next : Option Step) → steps ≡ []
    → IsInSome tin Source (whole a) → GoesOn tin a b at_a next → IsOnWay tin a b steps next
on_start tin a b steps next e has goes = subst (λ (xs : List Step). IsOnWay tin a b xs next) (sym e)
    (record { x = at_a; more = omega arith; slices = tt; walked = start tin a b has; goes = goes })

-- after a step that does not end the way
pub on_more : (tin : Triangulation) (a b : Pt) (steps items : List Step) (step : Step) (next : Option Step)
    → Stepped tin a b steps items step → step.slice.hi.num <ℤ step.slice.hi.den
    → GoesOn tin a b (spot_of step.slice.hi) next → IsOnWay tin a b items next
on_more tin a b steps items step next here before goes = grind (arith, more, more_of_a)

-- after the step that ends it
pub at_end : (tin : Triangulation) (a b : Pt) (steps items : List Step) (step : Step) → a ≢ b
    → Stepped tin a b steps items step → (step.slice.hi.num <ℤ step.slice.hi.den → ⊥)
    → AreSteps tin a b items × IsInside tin a b
at_end tin a b steps items step differ here last =
    let none = no_more_of_a step.slice.hi.num step.slice.hi.den here.param last in (
      all_steps tin a b items step.slice.hi.num step.slice.hi.den differ here.slices here.walked none,
      all_inside tin a b
          (map part_of items) (spot_of step.slice.hi) none here.walked,
    )

-- where no step goes on
pub not_inside : (tin : Triangulation) (a b : Pt) (steps : List Step) (next : Option Step) → IsSound tin
    → IsOnWay tin a b steps next → next ≡ None → IsInside tin a b → ⊥
not_inside tin a b steps next sound way is inside =
    let none = subst (λ (o : Option Step). GoesOn tin a b way.x o) is way.goes in
    stuck tin a b (map part_of steps) way.x sound way.more way.walked (λ u f l h p same. none u h f l p same) inside

-- one step more, as the walk knows it
pub one_more : (index tin : Triangulation) (a b : Pt) (steps items : List Step) (next : Option Step) (step : Step)
    → tin ≡ index → IsWithinLimits tin → IsSound tin → a ≢ b → IsOnWay index a b steps next → next ≡ Some step
    → items ≡ steps ++ step ∷ [] → Stepped index a b steps items step
one_more index tin a b steps items next step e limits sound differ way is put =
    stepped index a b steps items way.x step (subst (λ (t : Triangulation). IsWithinLimits t) e limits)
    (subst (λ (t : Triangulation). IsSound t) e sound) differ way.slices way.walked
    (subst (λ (o : Option Step). GoesOn index a b way.x o) is way.goes) put
