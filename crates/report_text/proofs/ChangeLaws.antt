-- Lines of changes.
use Rattle.std.proofs.Common.{◌≡◌, ◌==◌, ℕ, Bool, true, false, ◌||◌, cond, List, [], ◌∷◌, ◌++◌, length, codes, Option}
use Rattle.std.proofs.Common.{Some, None, refl, sym, ◌∙◌, ap, arith, append_assoc, append-nil, subst}
use Rattle.std.specs.Prelude.{not}
use Rattle.std.specs.List.{concat}
use Rattle.std.proofs.lemmas.Bool.Decides.{nat_tests}
use Rattle.std.proofs.lemmas.List.{nil_from_length}
use Rattle.tin_base.specs.declared.pieces.Change.{Change}
use Rattle.tin_base.specs.declared.pieces.Place.{Place}
use Rattle.tin_base.specs.declared.relations.Rel.{Rel}
use Rattle.tin_base.specs.declared.relations.Rel.TheVariants.{Apart, Touching, Crossing, Overlapping}
use Rattle.text_fields.specs.Fields.{after_word, short_field}
use Rattle.report_text.specs.InsideLineKinds.{place_front, relation_front, change_of, found_or, as_kind, is_same}
use Rattle.text_fields.specs.Fields.{field}
use Rattle.report_text.specs.ReportText.{place_text, relation_word, change_line}
use Rattle.report_text.specs.Reports.{IsPlaceHeld, IsChangeHeld, IsChanged}
use Rattle.text_places.specs.Digits.{Stops}
use Rattle.text_fields.proofs.StepChains.{bound, some_is}
use Rattle.text_fields.proofs.FieldLaws.{short_again, short_takes}
use Rattle.text_fields.proofs.Words.{after_takes}

-- ---- places

in_a_row : (a b c d r : List ℕ) → concat (a ∷ b ∷ c ∷ d ∷ []) ++ r ≡ a ++ (b ++ (c ++ (d ++ r)))
in_a_row a b c d r = simp (append_assoc, append-nil) refl

place_is : (place : Place) (rest : List ℕ)
    → place_text place ++ rest ≡ field [] place.layer
    ++ (field (codes "/") place.path ++ (field (codes "/") place.segment ++ (field (codes "/") place.piece ++ rest)))
place_is place rest = in_a_row (field [] place.layer) (field (codes "/") place.path) (field (codes "/") place.segment)
    (field (codes "/") place.piece) rest

place_again : (place : Place) (rest : List ℕ) → IsPlaceHeld place → Stops rest
    → place_front (place_text place ++ rest) ≡ Some (place, rest)
unfolding place_front
place_again place rest held stops =
    ap place_front (place_is place rest)
    ∙ rw (
      short_again [] (field (codes "/") place.path
          ++ (field (codes "/") place.segment ++ (field (codes "/") place.piece ++ rest))) place.layer held.layer refl,
      short_again (codes "/") (field (codes "/") place.segment ++ (field (codes "/") place.piece ++ rest)) place.path
          held.path refl,
      short_again (codes "/") (field (codes "/") place.piece ++ rest) place.segment held.segment refl,
      short_again (codes "/") rest place.piece held.piece stops,
    ) refl

record TakesPlace (text : List ℕ) (found : Place × List ℕ) : Type 0 where
  pub parts : text ≡ place_text found.0 ++ found.1
  pub held : IsPlaceHeld found.0

place_takes : (text : List ℕ) (found : Place × List ℕ) → place_front text ≡ Some found → TakesPlace text found
unfolding place_front
place_takes text found is =
    let a = bound (short_field [] text) _ found is in
    let b = bound (short_field (codes "/") a.found.1) _ found a.goes_on in
    let c = bound (short_field (codes "/") b.found.1) _ found b.goes_on in
    let d = bound (short_field (codes "/") c.found.1) _ found c.goes_on in
    let ta = short_takes [] text a.found a.is in
    let tb = short_takes (codes "/") a.found.1 b.found b.is in
    let tc = short_takes (codes "/") b.found.1 c.found c.is in
    let td = short_takes (codes "/") c.found.1 d.found d.is in
    let place : Place = record { layer = a.found.0; path = b.found.0; segment = c.found.0; piece = d.found.0 } in
    let made : Place × List ℕ = (place, d.found.1) in
    let whole : text ≡ field [] place.layer ++ (field (codes "/") place.path
    ++ (field (codes "/") place.segment ++ (field (codes "/") place.piece ++ d.found.1))) =
    ta.parts ∙ ap (λ r. field [] a.found.0 ++ r)
    (tb.parts ∙ ap (λ r. field (codes "/") b.found.0 ++ r)
    (tc.parts ∙ ap (λ r. field (codes "/") c.found.0 ++ r) td.parts)) in
    subst (TakesPlace text) (some_is made found d.goes_on) (record {
      parts = whole ∙ sym (place_is place d.found.1);
      held = record { layer = ta.small; path = tb.small; segment = tc.small; piece = td.small };
    })

-- ---- relations

abbrev spaced : Rel → List ℕ
spaced relation = codes " " ++ relation_word relation

relation_again : (relation : Rel) (rest : List ℕ) → relation_front (spaced relation ++ rest) ≡ Some (relation, rest)
unfolding relation_front
relation_again Apart rest = refl
relation_again relation rest = refl

-- the word of one relation is at the start of the text
as_takes : (relation : Rel) (text : List ℕ) (read : Option (List ℕ)) (found : Rel × List ℕ)
    → after_word (spaced relation) text ≡ read → as_kind relation read ≡ Some found
    → text ≡ spaced found.0 ++ found.1
as_takes relation text None found read is = absurd cc
as_takes relation text (Some rest) found read is =
    let made : Rel × List ℕ = (relation, rest) in
    subst (λ (f : Rel × List ℕ). text ≡ spaced f.0 ++ f.1) (some_is made found is)
    (after_takes (spaced relation) text rest read)

either : (text : List ℕ) (first other : Option (Rel × List ℕ)) (found : Rel × List ℕ)
    → (first ≡ Some found → text ≡ spaced found.0 ++ found.1) → (other ≡ Some found → text ≡ spaced found.0 ++ found.1)
    → found_or first other ≡ Some found → text ≡ spaced found.0 ++ found.1
either text None other found here there is = there is
either text (Some f) other found here there is = here is

relation_takes : (text : List ℕ) (found : Rel × List ℕ) → relation_front text ≡ Some found
    → text ≡ spaced found.0 ++ found.1
unfolding relation_front
relation_takes text found is =
    either text _ _ found (as_takes Apart text (after_word (codes " apart") text) found refl)
    (either text _ _ found (as_takes Touching text (after_word (codes " touching") text) found refl)
    (either text _ _ found (as_takes Crossing text (after_word (codes " crossing") text) found refl)
    (as_takes Overlapping text (after_word (codes " overlapping") text) found refl))) is

same_relation : (was now : Rel) → is_same was now ≡ false → was ≡ now → ⊥
same_relation was now other same = one now (subst (λ r. is_same r now ≡ false) same other)
  where
    one : (r : Rel) → is_same r r ≡ false → ⊥
    one Apart is = cc
    one r is = cc

other_relation : (was now : Rel) → (was ≡ now → ⊥) → is_same was now ≡ false
other_relation Apart Apart other = absurd (other refl)
other_relation Touching Touching other = absurd (other refl)
other_relation Crossing Crossing other = absurd (other refl)
other_relation Overlapping Overlapping other = absurd (other refl)
other_relation was now other = refl

-- ---- changes

pub record IsChangeGood (change : Change) : Type 0 where
  pub held : IsChangeHeld change
  pub changed : IsChanged change

-- eight texts in a row, of which two pairs are joined before
pub all_in_a_row : (w a s b x r y t : List ℕ) → concat (w ∷ a ∷ s ∷ b ∷ x ∷ r ∷ y ∷ t ∷ []) ≡ w
    ++ (a ++ (s ++ (b ++ ((x ++ r) ++ ((y ++ t) ++ [])))))
all_in_a_row w a s b x r y t = simp (append_assoc, append-nil) refl

abbrev change_parts : Change → List ℕ
change_parts change = codes "change " ++ (place_text change.first
    ++ (codes " " ++ (place_text change.second ++ (spaced change.was ++ (spaced change.now ++ [])))))

change_is : (change : Change) → change_line change ≡ change_parts change
unfolding change_line
change_is change = all_in_a_row (codes "change ") (place_text change.first) (codes " ") (place_text change.second)
    (codes " ") (relation_word change.was) (codes " ") (relation_word change.now)

pub change_again : (change : Change) → IsChangeGood change → change_of (change_line change) ≡ Some change
unfolding change_of
change_again change good =
    ap change_of (change_is change)
    ∙ rw (
      place_again change.first (codes " " ++ (place_text change.second
          ++ (spaced change.was ++ (spaced change.now ++ [])))) good.held.0 refl,
      place_again change.second (spaced change.was ++ (spaced change.now ++ [])) good.held.1 refl,
      relation_again change.was (spaced change.now ++ []),
      relation_again change.now [],
      other_relation change.was change.now good.changed,
    ) refl

pub record TakesChange (line : List ℕ) (change : Change) : Type 0 where
  pub parts : line ≡ change_line change
  pub good : IsChangeGood change

pub neither : {A : Type 0} (same more : Bool) (value last : A) → cond (same || not more) None (Some value) ≡ Some last
    → (same ≡ false) × (more ≡ true) × (value ≡ last)
neither false true value last is = (refl, refl, some_is value last is)
neither _ more value last is = absurd cc

pub change_takes : (line : List ℕ) (change : Change) → change_of line ≡ Some change → TakesChange line change
unfolding change_of
change_takes line change is =
    let a = bound (after_word (codes "change ") line) _ change is in
    let b = bound (place_front a.found) _ change a.goes_on in
    let c = bound (after_word (codes " ") b.found.1) _ change b.goes_on in
    let d = bound (place_front c.found) _ change c.goes_on in
    let e = bound (relation_front d.found.1) _ change d.goes_on in
    let f = bound (relation_front e.found.1) _ change e.goes_on in
    let ta = after_takes (codes "change ") line a.found a.is in
    let tb = place_takes a.found b.found b.is in
    let tc = after_takes (codes " ") b.found.1 c.found c.is in
    let td = place_takes c.found d.found d.is in
    let te = relation_takes d.found.1 e.found e.is in
    let tf = relation_takes e.found.1 f.found f.is in
    let made : Change = record { first = b.found.0; second = d.found.0; was = e.found.0; now = f.found.0 } in
    let last = neither (is_same e.found.0 f.found.0) (length f.found.1 == 0) made change f.goes_on in
    let ended = last.1 in
    let none : f.found.1 ≡ [] = nil_from_length f.found.1 (grind (arith, nat_tests, ended)) in
    let whole : line ≡ change_parts made =
    ta ∙ ap (λ r. codes "change " ++ r) (tb.parts ∙ ap (λ r. place_text b.found.0 ++ r) (tc ∙ ap (λ r. codes " " ++ r)
    (td.parts ∙ ap (λ r. place_text d.found.0 ++ r)
    (te ∙ ap (λ r. spaced e.found.0 ++ r) (tf ∙ ap (λ r. spaced f.found.0 ++ r) none))))) in
    subst (TakesChange line) last.2 (record {
      parts = whole ∙ sym (change_is made);
      good = record { held = (tb.held, td.held); changed = same_relation e.found.0 f.found.0 last.0 };
    })
