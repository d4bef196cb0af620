-- The values whose texts are copied.
use Rattle.std.proofs.Common.{◌≡◌, ℕ, suc, List, [], ◌∷◌, length, map, Option, None, Some, refl, sym, ap, ap₂}
use Rattle.std.specs.List.{AllByRecursion}
use Rattle.std.specs.Option.{option_map}
use Rattle.jtext.specs.Values.{Json, spelling, IsValue}
use Rattle.jtext.specs.declared.json_texts.TheConstants.{DEEPEST}
use Rattle.change_places.specs.Words.{LabelWords, PathWords, ChangeWords, RingWords}
use Rattle.change_places.specs.Words.{path_map, change_map, ring_map}
use Rattle.change_places.specs.Laws.{IsPathHeld, IsChangeHeld, IsRingHeld, IsLabelCopied, IsTextCopied, IsPathCopied}
use Rattle.change_places.specs.Laws.{IsChangeCopied, IsRingCopied}

-- ---- what is wanted of values
abbrev pub IsLabelPlain : Option LabelWords → Type 0
IsLabelPlain = IsLabelCopied

abbrev pub IsValueHeld : ℕ → Option Json → Type 0
IsValueHeld depth None = Unit {0}
IsValueHeld depth (Some value) = IsValue depth value

pub record IsPathValid (depth : ℕ) (path : PathWords Json) : Type 0 where
  pub feature : IsLabelPlain path.feature
  pub id : IsValueHeld depth path.id
  pub name : IsValueHeld depth path.name

pub record IsChangeValid (depth : ℕ) (change : ChangeWords Json) : Type 0 where
  pub first : IsPathValid depth change.first.path
  pub second : IsPathValid depth change.second.path

pub record IsRingValid (depth : ℕ) (one : RingWords Json) : Type 0 where
  pub ring : IsPathValid depth one.ring
  pub point : IsPathValid depth one.point

-- ---- the values of texts
record ValueOf (text : Option (List ℕ)) : Type 0 where
  value : Option Json
  spelled : text ≡ option_map spelling value
  is : IsValueHeld DEEPEST value

value_of : (text : Option (List ℕ)) → IsTextCopied text → ValueOf text
value_of None copied = record { value = None; spelled = refl; is = tt }
value_of (Some text) (value, is, same) = record {
  value = Some value;
  spelled = ap (λ (t : List ℕ). Some t) (sym same);
  is = is;
}

record PathOf (path : PathWords (List ℕ)) : Type 0 where
  own : PathWords Json
  spelled : path ≡ path_map spelling own
  valid : IsPathValid DEEPEST own
  held : IsPathHeld path → IsPathHeld own

path_of : (path : PathWords (List ℕ)) → IsPathCopied path → PathOf path
path_of path copied =
    let id = value_of path.id copied.id in
    let name = value_of path.name copied.name in
    let whole : Option (List ℕ) → Option (List ℕ) → PathWords (List ℕ) = λ one other. record {
      at = path.at;
      feature = path.feature;
      id = one;
      name = other;
    } in
    record {
      own = record { at = path.at; feature = path.feature; id = id.value; name = name.value };
      spelled = ap₂ whole id.spelled name.spelled;
      valid = record { feature = copied.feature; id = id.is; name = name.is };
      held = λ held. record { at = held.at; feature = held.feature };
    }

record ChangeOf (change : ChangeWords (List ℕ)) : Type 0 where
  own : ChangeWords Json
  spelled : change ≡ change_map spelling own
  valid : IsChangeValid DEEPEST own
  held : IsChangeHeld change → IsChangeHeld own

change_of : (change : ChangeWords (List ℕ)) → IsChangeCopied change → ChangeOf change
change_of change copied =
    let first = path_of change.first.path copied.first in
    let second = path_of change.second.path copied.second in
    let whole : PathWords (List ℕ) → PathWords (List ℕ) → ChangeWords (List ℕ) = λ one other. record {
      first = record { from = change.first.from; path = one; a = change.first.a; b = change.first.b };
      second = record { from = change.second.from; path = other; a = change.second.a; b = change.second.b };
      was = change.was;
      now = change.now;
      gap = change.gap;
      place = change.place;
    } in
    record {
      own = record {
        first = record { from = change.first.from; path = first.own; a = change.first.a; b = change.first.b };
        second = record { from = change.second.from; path = second.own; a = change.second.a; b = change.second.b };
        was = change.was;
        now = change.now;
        gap = change.gap;
        place = change.place;
      };
      spelled = ap₂ whole first.spelled second.spelled;
      valid = record { first = first.valid; second = second.valid };
      held = λ held. let one = held.first in let two = held.second in record {
        first = record { from = one.from; path = first.held one.path; a = one.a; b = one.b };
        second = record { from = two.from; path = second.held two.path; a = two.a; b = two.b };
        gap = held.gap;
        place = held.place;
      };
    }

record RingOf (ring : RingWords (List ℕ)) : Type 0 where
  own : RingWords Json
  spelled : ring ≡ ring_map spelling own
  valid : IsRingValid DEEPEST own
  held : IsRingHeld ring → IsRingHeld own

ring_of : (ring : RingWords (List ℕ)) → IsRingCopied ring → RingOf ring
ring_of ring copied =
    let first = path_of ring.ring copied.ring in
    let second = path_of ring.point copied.point in
    let whole : PathWords (List ℕ) → PathWords (List ℕ) → RingWords (List ℕ) = λ one other. record {
      change = ring.change;
      ring = one;
      point = other;
      place = ring.place;
    } in
    record {
      own = record { change = ring.change; ring = first.own; point = second.own; place = ring.place };
      spelled = ap₂ whole first.spelled second.spelled;
      valid = record { ring = first.valid; point = second.valid };
      held = λ held. record {
        change = held.change;
        ring = first.held held.ring;
        point = second.held held.point;
        place = held.place;
      };
    }

-- ---- of all changes
pub record ChangesOf (changes : List (ChangeWords (List ℕ))) : Type 0 where
  pub own : List (ChangeWords Json)
  pub spelled : changes ≡ map (change_map spelling) own
  pub count : length own ≡ length changes
  pub valid : AllByRecursion (IsChangeValid DEEPEST) own
  pub held : AllByRecursion IsChangeHeld changes → AllByRecursion IsChangeHeld own

pub changes_of : (changes : List (ChangeWords (List ℕ))) → AllByRecursion IsChangeCopied changes → ChangesOf changes
changes_of [] copied = record { own = []; spelled = refl; count = refl; valid = tt; held = λ held. tt }
changes_of (change ∷ changes) copied =
    let one = change_of change copied.0 in
    let more = changes_of changes copied.1 in
    record {
      own = one.own ∷ more.own;
      spelled = ap₂ (λ (x : ChangeWords (List ℕ)) (xs : List (ChangeWords (List ℕ))). x ∷ xs) one.spelled more.spelled;
      count = ap suc more.count;
      valid = (one.valid, more.valid);
      held = λ held. (one.held held.0, more.held held.1);
    }

pub record RingsOf (rings : List (RingWords (List ℕ))) : Type 0 where
  pub own : List (RingWords Json)
  pub spelled : rings ≡ map (ring_map spelling) own
  pub count : length own ≡ length rings
  pub valid : AllByRecursion (IsRingValid DEEPEST) own
  pub held : AllByRecursion IsRingHeld rings → AllByRecursion IsRingHeld own

pub rings_of : (rings : List (RingWords (List ℕ))) → AllByRecursion IsRingCopied rings → RingsOf rings
rings_of [] copied = record { own = []; spelled = refl; count = refl; valid = tt; held = λ held. tt }
rings_of (ring ∷ rings) copied =
    let one = ring_of ring copied.0 in
    let more = rings_of rings copied.1 in
    record {
      own = one.own ∷ more.own;
      spelled = ap₂ (λ (x : RingWords (List ℕ)) (xs : List (RingWords (List ℕ))). x ∷ xs) one.spelled more.spelled;
      count = ap suc more.count;
      valid = (one.valid, more.valid);
      held = λ held. (one.held held.0, more.held held.1);
    }
