-- The layers of a run have one list of sheets, and of images, and so of changes of sides.
use Rattle.std.proofs.Common.{◌≡◌, ℕ, ◌+◌, ◌<◌, ◌≤◌, Bool, true, false, List, [], ◌∷◌, length, Option, None, Some, refl}
use Rattle.std.proofs.Common.{sym, ◌∙◌, ap₂, subst, arith}
use Rattle.std.proofs.lemmas.Option.{same_Some}
use Rattle.shelf_io.specs.Files.{Files}
use Rattle.sheet_base.specs.declared.flags.How.{How}
use Rattle.sheet_base.specs.Sheets.{Contents}
use Rattle.sheet_base.specs.ImageFits.{Runs}
use Rattle.tin_base.specs.Triangulation.{Triangulation}
use Rattle.tin_base.specs.Soundness.{IsSound}
use Rattle.sheet_pieces.specs.SheetImages.{AreImagesOf}
use Rattle.sheet_pieces.proofs.OneSheet.{images_same}
use Rattle.ring_side.specs.declared.kinds.SideChange.{SideChange}
use Rattle.ring_side.specs.SideChanges.{side_changes_of}
use Rattle.job_words.specs.declared.formats.Format.{Format}
use Rattle.layer_formats.specs.LayerOutcomes.{IsLayerText, LayerTextsAreOne}
use Rattle.migrate_mode.specs.declared.change_lists.TheConstants.{MOST_SIDES}
use Rattle.migrate_mode.specs.LayerRuns.{setting_of, AreCarried, Done}
use Rattle.migrate_mode.specs.SideLists.{IsKept, AreKept, HaveAskedSides}
use Rattle.tin_base.specs.declared.pieces.Piece.{Piece}
use Rattle.migrate_mode.specs.LayerRuns.{Setting}

module _ (texts : LayerTextsAreOne) (files : Files) (how : How) (tin : Triangulation) (sound : IsSound tin) where
  kept_one : (name : List ℕ) (sheet other : Contents) (images others : Runs)
      → IsKept (setting_of (Some files) how tin) name sheet images
      → IsKept (setting_of (Some files) how tin) name other others → (sheet ≡ other) × (images ≡ others)
  kept_one name sheet other images others x y =
      let format : x.format ≡ y.format = same_Some x.format y.format (sym x.suffix ∙ y.suffix) in
      let bytes : x.bytes ≡ y.bytes = same_Some x.bytes y.bytes (sym x.found ∙ y.found) in
      let of_x = x.kept in
      let of_y = y.kept in
      let read : IsLayerText how y.format y.bytes sheet =
      subst (λ (b : List ℕ). IsLayerText how y.format b sheet) bytes
      (subst (λ (f : Format). IsLayerText how f x.bytes sheet) format of_x.read) in
      let same : sheet ≡ other = (texts how y.format y.bytes).one_sheet sheet other read of_y.read in (
        same,
        images_same tin other images others sound (subst (λ (s : Contents). AreImagesOf tin s images) same
            of_x.are_images) of_y.are_images,
      )

  -- the layers of these names have one list of sheets, and one of images
  pub all_one : (names : List (List ℕ)) (sheets others : List Contents) (images also : List Runs)
      → AreKept (setting_of (Some files) how tin) names sheets images
      → AreKept (setting_of (Some files) how tin) names others also → (sheets ≡ others) × (images ≡ also)
  all_one [] [] [] [] [] x y = (refl, refl)
  all_one [] (s ∷ ss) ts is js x y = absurd x
  all_one [] [] (t ∷ ts) is js x y = absurd y
  all_one [] [] [] (i ∷ is) js x y = absurd x
  all_one [] [] [] [] (j ∷ js) x y = absurd y
  all_one (name ∷ names) [] ts is js x y = absurd x
  all_one (name ∷ names) (s ∷ ss) [] is js x y = absurd y
  all_one (name ∷ names) (s ∷ ss) (t ∷ ts) [] js x y = absurd x
  all_one (name ∷ names) (s ∷ ss) (t ∷ ts) (i ∷ is) [] x y = absurd y
  all_one (name ∷ names) (s ∷ ss) (t ∷ ts) (i ∷ is) (j ∷ js) x y =
      let first = kept_one name s t i j x.0 y.0 in
      let rest = all_one names ss ts is js x.1 y.1 in (
        ap₂ (λ (c : Contents) (cs : List Contents). c ∷ cs) first.0 rest.0,
        ap₂ (λ (r : Runs) (rs : List Runs). r ∷ rs) first.1 rest.1,
      )

  changes_one : (names : List (List ℕ)) (sheets others : List Contents) (images also : List Runs)
      → AreKept (setting_of (Some files) how tin) names sheets images
      → AreKept (setting_of (Some files) how tin) names others also
      → side_changes_of sheets images ≡ side_changes_of others also
  changes_one names sheets others images also x y = grind (arith, all_one)

  -- two lists of sides are one
  pub sides_one : (asked : Bool) (names : List (List ℕ)) (sides others : Option (List SideChange))
      → HaveAskedSides asked (setting_of (Some files) how tin) names sides
      → HaveAskedSides asked (setting_of (Some files) how tin) names others → sides ≡ others
  sides_one false names None None x y = refl
  sides_one false names None (Some others) x y = absurd y
  sides_one false names (Some sides) others x y = absurd x
  sides_one true names None others x y = absurd x
  sides_one true names (Some sides) None x y = absurd y
  sides_one true names (Some sides) (Some others) x y = grind (arith, changes_one)

  over_or_not : (n m : ℕ) → m < n → n ≤ m → ⊥
  over_or_not n m h k = omega (arith, h, k)

  -- they are not listed where there are too many
  pub more_or_sided : (asked : Bool) (names : List (List ℕ)) (sheets : List Contents) (images : List Runs)
      (sides : Option (List SideChange)) → asked ≡ true
      → AreKept (setting_of (Some files) how tin) names sheets images
      → MOST_SIDES < length (side_changes_of sheets images)
      → HaveAskedSides asked (setting_of (Some files) how tin) names sides → ⊥
  more_or_sided false names sheets images sides wanted kept more x = cc
  more_or_sided true names sheets images None wanted kept more x = absurd x
  more_or_sided true names sheets images (Some sides) wanted kept more x = grind (arith, changes_one, over_or_not)

-- ---- layers that are carried have sheets and images
pub record HaveSheets (setting : Setting) (names : List (List ℕ)) : Type 0 where
  pub sheets : List Contents
  pub images : List Runs
  pub kept : AreKept setting names sheets images

pub carried_kept : (setting : Setting) (number used : ℕ) (before : List Piece) (names : List (List ℕ))
    (after : List Piece) (done : List Done) (total : ℕ)
    → AreCarried setting number used before names after done total → HaveSheets setting names
carried_kept setting number used before [] after done total are = record { sheets = []; images = []; kept = tt }
carried_kept setting number used before (name ∷ names) after done total
    (bytes, pieces, first, rest, next, is, others) =
    let file = next.file in
    let carried = next.carried in
    let layer = carried.layer in
    let more = carried_kept setting (number + 1) (used + length bytes) pieces names after rest total others in
    record {
      sheets = layer.sheet ∷ more.sheets;
      images = layer.images ∷ more.images;
      kept = (
        record {
          format = first.format;
          suffix = file.suffix;
          bytes = bytes;
          found = file.found;
          kept = record {
            read = layer.read;
            inside = layer.inside;
            are_images = layer.are_images;
            fit = layer.fit;
          };
        },
        more.kept,
      );
    }
