-- The sheets and the images that a run keeps of its layers.
use Rattle.std.proofs.lemmas.Grind.{common_steps}
use Rattle.std.proofs.Common.{◌≡◌, ℕ, zero, suc, ◌+◌, ◌*◌, ◌<◌, ◌≤◌, Bool, true, false, List, [], ◌∷◌, ◌++◌, length, take}
use Rattle.std.proofs.Common.{drop, get_or, Option, Some, IfSome, refl, ap, arith}
use Rattle.std.proofs.lemmas.List.{take_more, length-take, length-drop}
use Rattle.shelf_io.specs.Load.{Loads}
use Rattle.plane_base.specs.declared.shapes.Pt.{Pt}
use Rattle.sheet_base.specs.declared.flags.How.{How}
use Rattle.sheet_base.specs.Sheets.{Contents}
use Rattle.sheet_base.specs.ImageFits.{Runs}
use Rattle.tin_base.specs.Limits.{IsWithinLimits}
use Rattle.tin_base.specs.Triangulation.{Triangulation}
use Rattle.tin_base.proofs.TriangleLemmas.Closeness.{near_inside}
use Rattle.affine_image.proofs.Reach.{rounded_images_are_near}
use Rattle.carry_map.specs.Layers.{IsLayerKept, IsPlaced}
use Rattle.carry_map.specs.declared.limits.TheConstants.{MOST_PIECES}
use Rattle.ring_side.specs.declared.kinds.SideChange.{SideChange}
use Rattle.ring_side.specs.declared.rings.TheConstants.{MOST_POINTS, MOST_LAYERS as MOST_SHEETS}
use Rattle.ring_side.specs.Layers.{AreLayers}
use Rattle.ring_side.specs.SideChanges.{sheet_at, images_at}
use Rattle.job_words.specs.declared.formats.Format.{Format}
use Rattle.job_words.specs.declared.limits.TheConstants.{MOST_LAYERS}
use Rattle.job_words.specs.Formats.{format_by_name}
use Rattle.layer_formats.specs.LayerOutcomes.{IsLayerText}
use Rattle.migrate_mode.specs.declared.layer_runs.CarriedLayers.{CarriedLayers}
use Rattle.migrate_mode.specs.LayerRuns.{Setting}
use Rattle.migrate_mode.specs.SideLists.{IsKept, AreKept, AreSidesOf, HaveAskedSides}
use Rattle.migrate_mode.specs.RunContents.{AddsKept, KeepsBoth, ArePlaced, HasKept, MayBeSided}

-- ---- one more layer
kept_more : (setting : Setting) (names : List (List ℕ)) (sheets : List Contents) (images : List Runs) (name : List ℕ)
    (sheet : Contents) (own : Runs) → AreKept setting names sheets images → IsKept setting name sheet own
    → AreKept setting (names ++ name ∷ []) (sheets ++ sheet ∷ []) (images ++ own ∷ [])
kept_more setting [] [] [] name sheet own are is = (is, tt)
kept_more setting [] [] (others ∷ images) name sheet own are is = absurd are
kept_more setting [] (first ∷ sheets) images name sheet own are is = absurd are
kept_more setting (front ∷ names) [] images name sheet own are is = absurd are
kept_more setting (front ∷ names) (first ∷ sheets) [] name sheet own are is = absurd are
kept_more setting (front ∷ names) (first ∷ sheets) (others ∷ images) name sheet own are is =
    (are.0, kept_more setting names sheets images name sheet own are.1 is)

placed_more : (tin : Triangulation) (sheets : List Contents) (images : List Runs) (sheet : Contents) (own : Runs)
    → ArePlaced tin sheets images → IsPlaced tin sheet own
    → ArePlaced tin (sheets ++ sheet ∷ []) (images ++ own ∷ [])
placed_more tin [] [] sheet own are is = (is, tt)
placed_more tin [] (others ∷ images) sheet own are is = absurd are
placed_more tin (first ∷ sheets) [] sheet own are is = absurd are
placed_more tin (first ∷ sheets) (others ∷ images) sheet own are is =
    (are.0, placed_more tin sheets images sheet own are.1 is)

-- the layer of this number is kept after those before it
pub kept_at : (setting : Setting) (names : List (List ℕ)) (i : ℕ) (name bytes : List ℕ) (before now : CarriedLayers)
    → i < length names → name ≡ get_or names i name → HasKept before.sides setting (take i names) before
    → IfSome setting.told (Loads name bytes)
    → AddsKept before.sides setting.how setting.tin name bytes before now → now.sides ≡ before.sides
    → HasKept now.sides setting (take (i + 1) names) now
kept_at setting names i name bytes before now within is has found adds same =
    grind (arith, common_steps, take_more, kept_more, placed_more)

-- the sheet of a layer of this format and its images are what the run keeps of it
pub kept_next : (sides : Bool) (how : How) (tin : Triangulation) (name bytes : List ℕ) (before first mid now : CarriedLayers)
    (format : Format) (sheet : Contents) (images : Runs) → format_by_name name ≡ Some format
    → IsLayerKept tin (IsLayerText how format bytes) sheet images → IsPlaced tin sheet images
    → KeepsBoth sides sheet images first mid → first.sheets ≡ before.sheets → first.images ≡ before.images
    → now.sheets ≡ mid.sheets → now.images ≡ mid.images → AddsKept sides how tin name bytes before now
kept_next false how tin name bytes before first mid now format sheet images suffix kept placed both of_sheets of_images
    sheets_same images_same = tt
kept_next true how tin name bytes before first mid now format sheet images suffix kept placed both of_sheets of_images
    sheets_same images_same =
    record {
      format = format;
      suffix = suffix;
      sheet = sheet;
      images = images;
      kept = kept;
      placed = placed;
      sheets_are = rw (sheets_same, ← of_sheets) both.0;
      images_are = rw (images_same, ← of_images) both.1;
    }

-- ---- sides may be asked for
kept_count : (setting : Setting) (names : List (List ℕ)) (sheets : List Contents) (images : List Runs)
    → AreKept setting names sheets images → length sheets ≡ length names
kept_count setting [] [] [] are = refl
kept_count setting [] [] (own ∷ images) are = absurd are
kept_count setting [] (sheet ∷ sheets) images are = absurd are
kept_count setting (name ∷ names) [] images are = absurd are
kept_count setting (name ∷ names) (sheet ∷ sheets) [] are = absurd are
kept_count setting (name ∷ names) (sheet ∷ sheets) (own ∷ images) are =
    ap (λ (n : ℕ). suc n) (kept_count setting names sheets images are.1)

placed_count : (tin : Triangulation) (sheets : List Contents) (images : List Runs) → ArePlaced tin sheets images
    → length images ≡ length sheets
placed_count tin [] [] are = refl
placed_count tin [] (own ∷ images) are = absurd are
placed_count tin (sheet ∷ sheets) [] are = absurd are
placed_count tin (sheet ∷ sheets) (own ∷ images) are = ap (λ (n : ℕ). suc n) (placed_count tin sheets images are.1)

placed_at : (tin : Triangulation) (sheets : List Contents) (images : List Runs) (k : ℕ) → k < length sheets
    → ArePlaced tin sheets images → IsPlaced tin (sheet_at sheets k) (images_at images k)
placed_at tin [] images k within are = absurd (omega arith)
placed_at tin (sheet ∷ sheets) [] k within are = absurd are
placed_at tin (sheet ∷ sheets) (own ∷ images) zero within are = are.0
placed_at tin (sheet ∷ sheets) (own ∷ images) (suc k) within are =
    placed_at tin sheets images k (omega arith) are.1

few_points : (n : ℕ) → n ≤ 2 * MOST_PIECES → n ≤ MOST_POINTS
few_points n few = omega (arith, few)

part_few : (points : List Pt) (n m : ℕ) → length points ≤ 2 * MOST_PIECES
    → length (take n (drop m points)) ≤ 2 * MOST_PIECES
part_few points n m few = rw (length-take, length-drop) (omega (arith, few))

pub layers_sided : (tin : Triangulation) (sheets : List Contents) (images : List Runs) → IsWithinLimits tin
    → length sheets ≤ MOST_SHEETS → ArePlaced tin sheets images → AreLayers sheets images
layers_sided tin sheets images limits few are = record {
  same = placed_count tin sheets images are;
  few = few;
  fit = λ k within. let at = placed_at tin sheets images k within are in at.fit;
  near = λ k l of_k of_l j q at_j i p at_i.
      let ps = placed_at tin sheets images k of_k are in
      let qs = placed_at tin sheets images l of_l are in
      near_inside tin _ _ limits (ps.in_source i p at_i) (qs.in_source j q at_j);
  images_near = λ k l of_k of_l j q at_j i p at_i.
      let ps = placed_at tin sheets images k of_k are in
      let qs = placed_at tin sheets images l of_l are in
      let one = ps.are_imaged i p at_i in
      let other = qs.are_imaged j q at_j in
      rounded_images_are_near tin one.0 other.0 _ _ limits one.1 other.1;
  rings = λ k p of_k of_p loop.
      let at = placed_at tin sheets images k of_k are in
      few_points _ (part_few _ _ _ at.few);
}

pub may_be_sided : (setting : Setting) (names : List (List ℕ)) (run : CarriedLayers) → IsWithinLimits setting.tin
    → length names ≤ MOST_LAYERS → HasKept run.sides setting names run
    → MayBeSided run.sides run.sheets.items run.images.items
may_be_sided setting names run limits few has = grind (arith, kept_count, layers_sided)

-- ---- what was listed
pub sides_have : (setting : Setting) (names : List (List ℕ)) (run : CarriedLayers) (asked : Bool)
    (sides : Option (List SideChange)) → run.sides ≡ asked → HasKept run.sides setting names run
    → AreSidesOf run.sides run.sheets.items run.images.items sides → HaveAskedSides asked setting names sides
sides_have setting names run asked sides same has are = grind (arith)

-- a run that has no layer yet
pub none_kept : (setting : Setting) (run : CarriedLayers) (sides : Bool) → run.sheets.items ≡ [] → run.images.items ≡ []
    → HasKept sides setting [] run
none_kept setting run false sheets images = tt
none_kept setting run true sheets images = grind (arith)
