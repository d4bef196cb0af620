-- The text of changes on the map is that of their value, and of no other.
use Rattle.std.proofs.Common.{ℕ, [], ◌∷◌, IsUtf8, ◌<◌, ◌^◌, List, length, map, inr, inl, refl, sym, ap₂, ◌∙◌}
use Rattle.std.proofs.Common.{arith, suc}
use Rattle.std.specs.List.{AllByRecursion}
use Rattle.jtext.specs.Texts.{IsWhole}
use Rattle.jtext.proofs.CallerLemmas.OneValue.{one_value}
use Rattle.report_text.specs.Reports.{IsPrintable}
use Rattle.change_places.specs.Words.{ChangeWords, RingWords}
use Rattle.change_places.specs.PlacesText.{places_text}
use Rattle.change_places.specs.PlacesValue.{places_whole}
use Rattle.change_places.specs.Laws.{IsPrintedName, PlacesAreJson, places_depth}
use Rattle.change_places.proofs.ChangeSpellings.{places_spelled}
use Rattle.change_places.proofs.CopiedValues.{changes_of, rings_of}
use Rattle.change_places.proofs.Valid.{places_are}

pub places_json : PlacesAreJson
places_json style names changes rings all held ring_held =
    let own = changes_of changes held.copied in
    let ring_own = rings_of rings ring_held.copied in
    let few : length own.own < 2 ^ 64 = omega (arith, own.count, held.few) in
    let ring_few : length ring_own.own < 2 ^ 64 = omega (arith, ring_own.count, ring_held.few) in
    let whole : IsWhole places_depth (places_whole style names own.own ring_own.own) (places_text style names changes rings)
    = record {
      before = tt;
      value = places_are 61 style names own.own ring_own.own all few (own.held held.held) own.valid ring_few
          (ring_own.held ring_held.held) ring_own.valid;
      after = (inr (inr (inl refl)), tt);
      all = ap₂ (λ (cs : List (ChangeWords (List ℕ))) (rs : List (RingWords (List ℕ))). places_text style names cs rs)
          own.spelled ring_own.spelled
          ∙ sym (places_spelled style names own.own ring_own.own all);
    } in
    record {
      values = own.own;
      ring_values = ring_own.own;
      spelled = own.spelled;
      rings_spelled = ring_own.spelled;
      whole = whole;
      one = λ depth other is. one_value depth places_depth (places_text style names changes rings) other
          (places_whole style names own.own ring_own.own) is whole;
    }

pub printed_names : (names : List (List ℕ)) → AllByRecursion IsUtf8 names → AllByRecursion IsPrintable names
    → AllByRecursion IsPrintedName names
printed_names [] text printable = tt
printed_names (name ∷ names) text printable =
    (record { utf8 = text.0; printable = printable.0 }, printed_names names text.1 printable.1)

pub all_of_map : {A B : Type 0} (P : B → Type 0) (f : A → B) (xs : List A) → AllByRecursion (λ x. P (f x)) xs
    → AllByRecursion P (map f xs)
all_of_map P f [] all = tt
all_of_map P f (x ∷ xs) all = (all.0, all_of_map P f xs all.1)
