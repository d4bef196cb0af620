-- The numbers of a triangle's corners, in either direction, and what two triangles have in common.
use Rattle.std.proofs.Common.{◌≡◌, ℕ, ◌≤◌, pos, ◌<ℤ◌, Bool, true, ◌&&◌, arith}
use Rattle.std.proofs.Common.{List, [], ◌∷◌, length, refl, sym, ◌∙◌}
use Rattle.std.specs.List.{filter}
use Rattle.std.proofs.lemmas.Bool.Decides.{eqb_tells}
use Rattle.plane_base.specs.Plane.{Point, IsMix}
use Rattle.tin_base.specs.declared.frames.Frame.{Frame}
use Rattle.tin_base.specs.Triangulation.{Triangulation, numbers_of, places}
use Rattle.tin_base.specs.Soundness.{has, common, DoFit}
use Rattle.tin_base.proofs.TriangleLemmas.InOrder.{has_all, mix_more}
use Rattle.tin_faults.specs.InsidePairs.{IsCountedEither}

-- ---- two lists with the same numbers
-- the same numbers are in both, and as many of them pass a test
pub record HaveSameNumbers (ns ms : List ℕ) : Type 0 where
  pub same : (k : ℕ) → has ns k ≡ has ms k
  pub count : (test : ℕ → Bool) → length (filter test ns) ≡ length (filter test ms)

pub same_back : (ns ms : List ℕ) → HaveSameNumbers ns ms → HaveSameNumbers ms ns
same_back ns ms h = record { same = λ k. sym (h.same k); count = λ test. sym (h.count test) }

either_direction : (i j k : ℕ) → HaveSameNumbers (i ∷ j ∷ k ∷ []) (i ∷ k ∷ j ∷ [])
either_direction i j k = grind arith

pub same_counted : (ns ms : List ℕ) → IsCountedEither ns ms → HaveSameNumbers ns ms
same_counted ns ms h = grind (arith, either_direction)

-- ---- what is common
pub has_common : (ks ns : List ℕ) (k : ℕ) → has (common ks ns) k ≡ (has ks k && has ns k)
has_common [] ns k = refl
has_common (q ∷ ks) ns k = grind (arith, eqb_tells, has_common ks ns k)

mix_same : (tin : Triangulation) (frame : Frame) (ns ks : List ℕ) (p : Point)
    → ((k : ℕ) → has ks k ≡ true → has ns k ≡ true) → IsMix p (places tin frame ks) → IsMix p (places tin frame ns)
mix_same tin frame ns ks p h m = mix_more tin frame ns ks p (has_all ns ks h) m

-- ---- whether triangles with these numbers fit together
pub record DoFitBy (tin : Triangulation) (frame : Frame) (ns us : List ℕ) : Type 0 where
  pub few : length (common ns us) ≤ 2
  pub meet : (p : Point) → pos 0 <ℤ p.w → IsMix p (places tin frame ns) → IsMix p (places tin frame us)
      → IsMix p (places tin frame (common ns us))

same_filter : (f g : ℕ → Bool) (ns : List ℕ) → ((k : ℕ) → f k ≡ g k) → filter f ns ≡ filter g ns
same_filter f g [] h = refl
same_filter f g (n ∷ ns) h = grind (arith, same_filter f g ns h)

pub fit_same : (tin : Triangulation) (frame : Frame) (ns ms us vs : List ℕ) → HaveSameNumbers ns ms
    → HaveSameNumbers us vs → DoFitBy tin frame ns us → DoFitBy tin frame ms vs
fit_same tin frame ns ms us vs h i fit = record {
  few = grind (arith, same_filter);
  meet = λ p hp in_m in_v.
      mix_same tin frame (common ms vs) (common ns us) p (λ k e. sym (both k) ∙ e)
      (fit.meet p hp (mix_same tin frame ns ms p (λ k e. h.same k ∙ e) in_m)
      (mix_same tin frame us vs p (λ k e. i.same k ∙ e) in_v));
}
  where
    both : (k : ℕ) → has (common ns us) k ≡ has (common ms vs) k
    both k = grind (arith, has_common)

pub fit_to : (tin : Triangulation) (frame : Frame) (t u : ℕ)
    → DoFitBy tin frame (numbers_of tin t) (numbers_of tin u) → DoFit tin frame t u
fit_to tin frame t u fit = record { two_common = fit.few; meet = fit.meet }

pub fit_from : (tin : Triangulation) (frame : Frame) (t u : ℕ) → DoFit tin frame t u
    → DoFitBy tin frame (numbers_of tin t) (numbers_of tin u)
fit_from tin frame t u fit = record { few = fit.two_common; meet = fit.meet }
