-- The changes of sides of layers that are printed: there is one list of them, and there is one.
use Rattle.std.proofs.Common.{◌≡◌, ℕ, Bool, true, false, List, [], map, Option, None, Some, refl, sym, ◌∙◌, ap, subst}
use Rattle.shelf_io.specs.Files.{Files}
use Rattle.sheet_base.specs.declared.flags.How.{How}
use Rattle.sheet_base.specs.ImageFits.{Runs}
use Rattle.sheet_base.specs.Sheets.{Contents}
use Rattle.tin_base.specs.Soundness.{IsSound}
use Rattle.tin_base.specs.Triangulation.{Triangulation}
use Rattle.ring_side.specs.declared.kinds.SideChange.{SideChange}
use Rattle.layer_formats.specs.LayerOutcomes.{LayerTextsAreOne}
use Rattle.change_places.specs.Words.{PathText, RingText}
use Rattle.migrate_mode.specs.LayerRuns.{Setting, setting_of}
use Rattle.migrate_mode.specs.SideLists.{HaveAskedSides}
use Rattle.migrate_mode.proofs.OneSides.{all_one}
use Rattle.place_runs.specs.SidePlaces.{ring_text_of, printed_sides, AreRingsOf, HaveAskedRings}

module _ (across : Bool) (places : List (List PathText)) where
  rings_of_one : (sheets : List Contents) (images : List Runs) (sides others : List SideChange)
      (rings also : List RingText) → AreRingsOf across sheets images places sides rings
      → AreRingsOf across sheets images places others also → (sides ≡ others) × (rings ≡ also)
  rings_of_one sheets images sides others rings also x y =
      let of_x = x.changes in
      let of_y = y.changes in
      let all : x.all ≡ y.all = of_x.are ∙ sym of_y.are in
      let same : sides ≡ others = x.sides_are ∙ (ap (printed_sides across) all ∙ sym y.sides_are) in
      (same, x.rings_are ∙ (ap (map (ring_text_of sheets images places)) same ∙ sym y.rings_are))

  -- two lists of the same layers are one
  pub rings_one : (texts : LayerTextsAreOne) (files : Files) (how : How) (tin : Triangulation) (sound : IsSound tin)
      (asked : Bool) (names : List (List ℕ)) (sides others : Option (List SideChange)) (rings also : List RingText)
      → HaveAskedRings asked across (setting_of (Some files) how tin) names places sides rings
      → HaveAskedRings asked across (setting_of (Some files) how tin) names places others also
      → (sides ≡ others) × (rings ≡ also)
  rings_one texts files how tin sound false names None None rings also x y = (refl, x ∙ sym y)
  rings_one texts files how tin sound false names None (Some others) rings also x y = absurd y
  rings_one texts files how tin sound false names (Some sides) others rings also x y = absurd x
  rings_one texts files how tin sound true names None others rings also x y = absurd x
  rings_one texts files how tin sound true names (Some sides) None rings also x y = absurd y
  rings_one texts files how tin sound true names (Some sides) (Some others) rings also x y =
      let same = all_one texts files how tin sound names x.sheets y.sheets x.images y.images x.kept y.kept in
      let of_x : AreRingsOf across y.sheets y.images places sides rings =
      subst (λ (is : List Runs). AreRingsOf across y.sheets is places sides rings) same.1
      (subst (λ (ss : List Contents). AreRingsOf across ss x.images places sides rings) same.0 x.are_rings) in
      let one = rings_of_one y.sheets y.images sides others rings also of_x y.are_rings in
      (ap Some one.0, one.1)

-- what the migration's report would list
pub sides_listed : (asked across : Bool) (setting : Setting) (names : List (List ℕ)) (places : List (List PathText))
    (sides : Option (List SideChange)) (rings : List RingText)
    → HaveAskedRings asked across setting names places sides rings
    → (all : Option (List SideChange)) × HaveAskedSides asked setting names all
sides_listed false across setting names places None rings have = (None, tt)
sides_listed false across setting names places (Some sides) rings have = absurd have
sides_listed true across setting names places None rings have = absurd have
sides_listed true across setting names places (Some sides) rings have =
    let are = have.are_rings in
    (Some are.all, record { sheets = have.sheets; images = have.images; kept = have.kept; changes = are.changes })

-- where it would list some there is a list of those that are printed
pub record HaveSomeRings (asked across : Bool) (setting : Setting) (names : List (List ℕ))
    (places : List (List PathText)) : Type 0 where
  pub sides : Option (List SideChange)
  pub rings : List RingText
  pub have : HaveAskedRings asked across setting names places sides rings

pub some_rings : (asked across : Bool) (setting : Setting) (names : List (List ℕ)) (places : List (List PathText))
    (all : Option (List SideChange)) → HaveAskedSides asked setting names all
    → HaveSomeRings asked across setting names places
some_rings false across setting names places None have = record { sides = None; rings = []; have = refl }
some_rings false across setting names places (Some all) have = absurd have
some_rings true across setting names places None have = absurd have
some_rings true across setting names places (Some all) have = record {
  sides = Some (printed_sides across all);
  rings = map (ring_text_of have.sheets have.images places) (printed_sides across all);
  have = record {
    sheets = have.sheets;
    images = have.images;
    kept = have.kept;
    are_rings = record { all = all; changes = have.changes; sides_are = refl; rings_are = refl };
  };
}
