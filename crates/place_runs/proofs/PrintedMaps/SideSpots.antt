-- The changes of sides that are printed, in words, and one more of them.
use Rattle.std.proofs.Common.{◌≡◌, ℕ, ◌+◌, ◌<◌, Bool, true, false, List, [], ◌∷◌, ◌++◌, length, map, take, get_or}
use Rattle.std.proofs.Common.{Option, None, Some, refl, sym, ◌∙◌, ap, ap₂, subst, append-nil}
use Rattle.std.specs.Prelude.{if◌then◌else◌}
use Rattle.std.specs.List.{AllByRecursion, filter}
use Rattle.std.proofs.lemmas.List.{map-append}
use Rattle.plane_base.specs.declared.shapes.Pt.{Pt}
use Rattle.sheet_base.specs.ImageFits.{Runs}
use Rattle.sheet_base.specs.Sheets.{Contents}
use Rattle.tin_base.specs.declared.frames.Frame.TheVariants.{Target}
use Rattle.tin_base.specs.declared.pieces.Change.{Change}
use Rattle.ring_side.specs.declared.kinds.Side.{Side}
use Rattle.ring_side.specs.declared.kinds.Spot.{Spot}
use Rattle.ring_side.specs.declared.kinds.Way.{Way}
use Rattle.ring_side.specs.declared.kinds.SideChange.{SideChange}
use Rattle.ring_side.specs.declared.kinds.SideChange.TheVariants.{Turn, Point}
use Rattle.ring_side.specs.SideChanges.{place_of}
use Rattle.change_places.specs.declared.spots.PathSpot.{PathSpot}
use Rattle.change_places.specs.declared.spots.RingSpot.{RingSpot}
use Rattle.change_places.specs.Laws.{IsPathCopied, IsRingCopied}
use Rattle.change_places.specs.PlacesText.{no_path}
use Rattle.change_places.specs.Words.{PathText, RingText, path_words, texts_of, layer_words, ring_words}
use Rattle.migrate_mode.specs.declared.layer_runs.CarriedLayers.{CarriedLayers}
use Rattle.migrate_mode.specs.LayerRuns.{Setting}
use Rattle.migrate_mode.specs.RunChanges.{is_some_listed}
use Rattle.migrate_mode.specs.RunContents.{HasKept}
use Rattle.migrate_mode.specs.SideLists.{AreSidesOf}
use Rattle.place_runs.specs.WrittenPaths.{words_at}
use Rattle.place_runs.specs.SidePlaces.{ring_text_of, printed_sides, HaveAskedRings}
use Rattle.place_runs.specs.InsidePieces.{no_spot, spot_at}
use Rattle.place_runs.specs.InsideSides.{AreAskedRingsOf, AreSomeRingsOf, is_side_printed, is_some_feature}
use Rattle.place_runs.proofs.PrintedMaps.Filters.{filter_all, filter_more}
use Rattle.place_runs.proofs.LayerPaths.PathWords.{among_by, at_copied}

-- ---- one change of sides
abbrev ring_with : SideChange → PathText → PathText → Pt → RingText
ring_with change ring point place = record { change = change; ring = ring; point = point; place = place }

path_at_words : (texts : List (List ℕ)) (places : List (List PathSpot)) (layer path : ℕ) (spot : PathSpot)
    → spot ≡ spot_at places layer path
    → path_words (texts_of texts layer) spot ≡ words_at (layer_words texts places) layer path
path_at_words texts places layer path spot is =
    ap (path_words (texts_of texts layer)) is ∙ sym (among_by texts places layer path)

module _ (sheets : List Contents) (images : List Runs) (places : List (List PathSpot)) (texts : List (List ℕ)) where
  pub turn_words : (layer path : ℕ) (was now : Way) (ring point : PathSpot) (place : Pt)
      → ring ≡ spot_at places layer path → point ≡ no_spot
      → place ≡ place_of sheets images Target (record { layer = layer; path = path; vertex = 0 })
      → ring_words texts (record { change = Turn layer path was now; ring = ring; point = point; place = place })
      ≡ ring_text_of sheets images (layer_words texts places) (Turn layer path was now)
  turn_words layer path was now ring point place of_ring of_point of_place =
      let change = Turn layer path was now in
      let text = texts_of texts layer in
      ap (λ (p : PathText). ring_with change p (path_words text point) place)
      (path_at_words texts places layer path ring of_ring)
      ∙ (ap (λ (s : PathSpot). ring_with change (words_at (layer_words texts places) layer path) (path_words text s) place)
      of_point ∙ ap (λ (p : Pt). ring_with change (words_at (layer_words texts places) layer path) no_path p) of_place)

  pub point_words : (layer path : ℕ) (at : Spot) (was now : Side) (ring point : PathSpot) (place : Pt)
      → ring ≡ spot_at places layer path → point ≡ spot_at places at.layer at.path
      → place ≡ place_of sheets images Target at
      → ring_words texts (record { change = Point layer path at was now; ring = ring; point = point; place = place })
      ≡ ring_text_of sheets images (layer_words texts places) (Point layer path at was now)
  point_words layer path at was now ring point place of_ring of_point of_place =
      let change = Point layer path at was now in
      let words = layer_words texts places in
      ap (λ (p : PathText). ring_with change p (path_words (texts_of texts at.layer) point) place)
      (path_at_words texts places layer path ring of_ring)
      ∙ (ap (λ (p : PathText). ring_with change (words_at words layer path) p place)
      (path_at_words texts places at.layer at.path point of_point)
      ∙ ap (λ (p : Pt). ring_with change (words_at words layer path) (words_at words at.layer at.path) p) of_place)

-- ---- those that are printed
sides_filtered : (across : Bool) (sides : List SideChange)
    → printed_sides across sides ≡ filter (is_side_printed across) sides
sides_filtered true sides = refl
sides_filtered false sides = sym (filter_all sides)

-- those of the ones before one more, and of that one
sides_more : (across : Bool) (sides : List SideChange) (i : ℕ) (e : SideChange) → i < length sides
    → printed_sides across (take (i + 1) sides)
    ≡ printed_sides across (take i sides) ++ filter (is_side_printed across) (get_or sides i e ∷ [])
sides_more across sides i e within =
    sides_filtered across (take (i + 1) sides) ∙ (filter_more (is_side_printed across) sides i e within
    ∙ ap (λ (ss : List SideChange). ss ++ filter (is_side_printed across) (get_or sides i e ∷ []))
    (sym (sides_filtered across (take i sides))))

module _ (w : RingSpot → RingText) (f : SideChange → RingText) (across : Bool) (sides : List SideChange) (i : ℕ)
    (e : SideChange) (within : i < length sides) where
  pub one_more_ring : (spot : RingSpot) (before now : List RingSpot)
      → map w before ≡ map f (printed_sides across (take i sides)) → is_side_printed across (get_or sides i e) ≡ true
      → w spot ≡ f (get_or sides i e) → now ≡ before ++ spot ∷ []
      → map w now ≡ map f (printed_sides across (take (i + 1) sides))
  one_more_ring spot before now are printed is next =
      let own = get_or sides i e in
      let more : printed_sides across (take (i + 1) sides) ≡ printed_sides across (take i sides) ++ own ∷ [] =
      sides_more across sides i e within
      ∙ ap (λ (kept : Bool). printed_sides across (take i sides) ++ (if kept then own ∷ [] else [])) printed in
      ap (map w) next ∙ (map-append w before (spot ∷ []) ∙ (ap₂ (λ (xs ys : List RingText). xs ++ ys) are
      (ap (λ (x : RingText). x ∷ []) is) ∙ (sym (map-append f (printed_sides across (take i sides)) (own ∷ []))
      ∙ ap (map f) (sym more))))

  pub no_more_ring : (before : List RingSpot) → map w before ≡ map f (printed_sides across (take i sides))
      → is_side_printed across (get_or sides i e) ≡ false
      → map w before ≡ map f (printed_sides across (take (i + 1) sides))
  no_more_ring before are left_out =
      let own = get_or sides i e in
      let same : printed_sides across (take (i + 1) sides) ≡ printed_sides across (take i sides) =
      sides_more across sides i e within
      ∙ (ap (λ (kept : Bool). printed_sides across (take i sides) ++ (if kept then own ∷ [] else [])) left_out
      ∙ append-nil (printed_sides across (take i sides))) in
      are ∙ ap (map f) (sym same)

-- the changes of sides that are listed, where they are asked for, have their places
pub some_rings_are : (asked across : Bool) (sheets : List Contents) (images : List Runs) (places : List (List PathText))
    (listed : Option (List SideChange)) (sides : List SideChange) (rings : List RingText) → listed ≡ Some sides
    → AreSidesOf asked sheets images listed
    → rings ≡ map (ring_text_of sheets images places) (printed_sides across sides)
    → AreSomeRingsOf asked across sheets images places rings
some_rings_are asked across sheets images places listed sides rings same are is =
    by asked (subst (λ (some : Option (List SideChange)). AreSidesOf asked sheets images some) same are)
  where
    by : (b : Bool) → AreSidesOf b sheets images (Some sides) → AreSomeRingsOf b across sheets images places rings
    by false are = absurd are
    by true are = (
      Some (printed_sides across sides),
      record { all = sides; changes = are; sides_are = refl; rings_are = is },
    )

-- ---- what is copied
ring_copied : (sheets : List Contents) (images : List Runs) (words : List (List PathText)) (side : SideChange)
    → AllByRecursion (AllByRecursion IsPathCopied) words → IsRingCopied (ring_text_of sheets images words side)
ring_copied sheets images words (Turn layer path was now) are =
    record { ring = at_copied words layer path are; point = record { feature = tt; id = tt; name = tt } }
ring_copied sheets images words (Point layer path at was now) are =
    record { ring = at_copied words layer path are; point = at_copied words at.layer at.path are }

all_rings_copied : (sheets : List Contents) (images : List Runs) (words : List (List PathText)) (sides : List SideChange)
    → AllByRecursion (AllByRecursion IsPathCopied) words
    → AllByRecursion IsRingCopied (map (ring_text_of sheets images words) sides)
all_rings_copied sheets images words [] are = tt
all_rings_copied sheets images words (side ∷ sides) are =
    (ring_copied sheets images words side are, all_rings_copied sheets images words sides are)

pub rings_copied : (asked across : Bool) (sheets : List Contents) (images : List Runs) (words : List (List PathText))
    (sides : Option (List SideChange)) (rings : List RingText) → AllByRecursion (AllByRecursion IsPathCopied) words
    → AreAskedRingsOf asked across sheets images words sides rings → AllByRecursion IsRingCopied rings
rings_copied false across sheets images words None rings copied are = rw are tt
rings_copied false across sheets images words (Some sides) rings copied are = absurd are
rings_copied true across sheets images words None rings copied are = absurd are
rings_copied true across sheets images words (Some sides) rings copied are =
    rw are.rings_are (all_rings_copied sheets images words sides copied)

-- ---- whether something is printed
listed_ring : (changes : List Change) (asked across : Bool) (sheets : List Contents) (images : List Runs)
    (words : List (List PathText)) (sides : Option (List SideChange)) (rings : List RingText)
    → AreAskedRingsOf asked across sheets images words sides rings
    → is_some_feature changes rings ≡ is_some_listed changes sides
listed_ring [] false across sheets images words None rings are = rw are refl
listed_ring (change ∷ changes) false across sheets images words None rings are = refl
listed_ring changes false across sheets images words (Some sides) rings are = absurd are
listed_ring changes true across sheets images words None rings are = absurd are
listed_ring [] true across sheets images words (Some []) rings are = rw are.rings_are refl
listed_ring [] true across sheets images words (Some (side ∷ sides)) rings are = rw are.rings_are refl
listed_ring (change ∷ changes) true across sheets images words (Some []) rings are = refl
listed_ring (change ∷ changes) true across sheets images words (Some (side ∷ sides)) rings are = refl

mapped_some : {A B C : Type 0} (f : B → C) (changes : List A) (rings : List B)
    → is_some_feature changes (map f rings) ≡ is_some_feature changes rings
mapped_some f [] [] = refl
mapped_some f [] (ring ∷ rings) = refl
mapped_some f (change ∷ changes) rings = refl

-- there is a feature exactly where there is a change that is printed, of pieces or of sides
pub some_feature : (texts : List (List ℕ)) (words : List (List PathText)) (changes : List Change) (asked across : Bool)
    (sheets : List Contents) (images : List Runs) (sides : Option (List SideChange)) (rings : List RingSpot)
    → AreAskedRingsOf asked across sheets images words sides (map (ring_words texts) rings)
    → is_some_feature changes rings ≡ is_some_listed changes sides
some_feature texts words changes asked across sheets images sides rings are =
    sym (mapped_some (ring_words texts) changes rings)
    ∙ listed_ring changes asked across sheets images words sides (map (ring_words texts) rings) are

-- ---- those of a run are those of its layers
pub rings_have : (setting : Setting) (names : List (List ℕ)) (run : CarriedLayers) (asked across : Bool)
    (places : List (List PathText)) (sides : Option (List SideChange)) (rings : List RingText) → run.sides ≡ asked
    → HasKept run.sides setting names run
    → AreAskedRingsOf run.sides across run.sheets.items run.images.items places sides rings
    → HaveAskedRings asked across setting names places sides rings
rings_have setting names run asked across places sides rings same has are =
    subst (λ (b : Bool). HaveAskedRings b across setting names places sides rings) same (by run.sides sides has are)
  where
    by : (b : Bool) (listed : Option (List SideChange)) → HasKept b setting names run
        → AreAskedRingsOf b across run.sheets.items run.images.items places listed rings
        → HaveAskedRings b across setting names places listed rings
    by false None has are = are
    by false (Some listed) has are = absurd are
    by true None has are = absurd are
    by true (Some listed) has are = record {
      sheets = run.sheets.items;
      images = run.images.items;
      kept = has.kept;
      are_rings = are;
    }
