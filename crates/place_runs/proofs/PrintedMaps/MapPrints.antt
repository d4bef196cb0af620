-- What is printed of a map, part by part.
use Rattle.std.proofs.Common.{◌≡◌, ℕ, ◌+◌, ◌<◌, ◌≤◌, List, [], ◌++◌, length, take, get_or, map, Option, refl, sym, ◌∙◌, ap, subst}
use Rattle.std.proofs.Common.{append_assoc, append-nil, arith}
use Rattle.std.proofs.lemmas.List.{take_all}
use Rattle.shelf_io.specs.Files.{Files}
use Rattle.shelf_io.specs.Made.{Appends, AppendsFront}
use Rattle.tin_base.specs.declared.pieces.Change.{Change}
use Rattle.change_places.specs.declared.spots.RingSpot.{RingSpot}
use Rattle.change_places.specs.Words.{ChangeText, ring_words}
use Rattle.change_places.specs.PlacesText.{opening_text, change_entry, ring_entry, features_text, rings_text, end_text}
use Rattle.place_runs.specs.declared.change_maps.ChangeMap.{ChangeMap}
use Rattle.place_runs.specs.InsideMaps.{IsSpotOn, AreSpotsOn, IsMapText, Moves, words_on, rings_on}
use Rattle.place_runs.proofs.PrintedMaps.MoreEntries.{Begins, one_more_feature, first_features, one_more_ring, first_rings}
use Rattle.place_runs.proofs.PrintedMaps.MapParts.{spot_at, spots_count}
use Rattle.place_runs.proofs.PrintedMaps.HeldBytes.{moves_none, moves_more, moves_add, moves_end, moves_front, front_longer}

begins_after : (front part all : List ℕ) → Begins part all → Begins (front ++ part) (front ++ all)
begins_after front part all (rest, is) =
    (rest, ap (λ (text : List ℕ). front ++ text) is ∙ sym (append_assoc front part rest))

-- nothing is added yet
pub moves_begun : (files : Option Files) (held : List ℕ) → Moves files files (held ++ []) held
moves_begun files held =
    subst (λ (text : List ℕ). Moves files files text held) (sym (append-nil held)) (moves_none files held)

module _ (names : List (List ℕ)) (on : ChangeMap) where
  -- the changes before this number are printed or held after the bytes that were held first, whatever their sides are
  abbrev pub HasChanges : ℕ → List ℕ → Option Files → Option Files → List ℕ → Type 0
  HasChanges number first before now held = (spots : List ChangeText) → AreSpotsOn on on.changes.items spots
      → Moves before now (first ++ features_text on.style names 0 (take number spots)) held

  pub changes_more : (before between now : Option Files) (first held rest next : List ℕ) (i : ℕ) (d : Change)
      → i < length on.changes.items → HasChanges i first before between held → Moves between now held rest
      → ((text : ChangeText) → IsSpotOn on (get_or on.changes.items i d) text
      → next ≡ rest ++ change_entry on.style names i text) → HasChanges (i + 1) first before now next
  changes_more before between now first held rest next i d within begun moves added spots are =
      let (text, inside, is, same) = spot_at on.pieces.items (words_on on) on.changes.items spots i d are within in
      let more = one_more_feature on.style names on.texts.items first spots i text inside in
      moves_add before now (first ++ features_text on.style names 0 (take i spots)) rest
      (change_entry on.style names i text) next
      (first ++ features_text on.style names 0 (take (i + 1) spots))
      (moves_more before between now (first ++ features_text on.style names 0 (take i spots)) held rest (begun spots are)
      moves) (added text is)
      (more ∙ ap (λ (t : ChangeText). (first ++ features_text on.style names 0 (take i spots))
      ++ change_entry on.style names i t) same)

  -- a first part of all changes is printed
  pub changes_front : (before between now : Option Files) (first held : List ℕ) (i : ℕ)
      → HasChanges i first before between held → AppendsFront between now held → (spots : List ChangeText)
      → AreSpotsOn on on.changes.items spots
      → AppendsFront before now (first ++ features_text on.style names 0 spots)
  changes_front before between now first held i begun front spots are =
      front_longer before now (first ++ features_text on.style names 0 (take i spots))
      (first ++ features_text on.style names 0 spots)
      (begins_after first (features_text on.style names 0 (take i spots)) (features_text on.style names 0 spots)
      (first_features on.style names on.texts.items spots i))
      (moves_front before between now (first ++ features_text on.style names 0 (take i spots)) held (begun spots are) front)

  -- all are printed or held
  pub changes_all : (before now : Option Files) (first held : List ℕ) (i : ℕ) → length on.changes.items ≤ i
      → HasChanges i first before now held → (spots : List ChangeText) → AreSpotsOn on on.changes.items spots
      → Moves before now (first ++ features_text on.style names 0 spots) held
  changes_all before now first held i past begun spots are = grind (arith, spots_count, take_all)

  -- so it is of changes of sides
  abbrev pub HasRings : ℕ → List ℕ → Option Files → Option Files → List ℕ → Type 0
  HasRings number first before now held =
      Moves before now (first ++ rings_text on.style names (length on.changes.items) 0 (map (ring_words on.texts.items) (take number on.rings.items)))
      held

  pub rings_more : (before between now : Option Files) (first held rest next : List ℕ) (i : ℕ) (d : RingSpot)
      → i < length on.rings.items → HasRings i first before between held → Moves between now held rest
      → next ≡ rest ++ ring_entry on.style names (length on.changes.items) i (ring_words on.texts.items (get_or on.rings.items i d))
      → HasRings (i + 1) first before now next
  rings_more before between now first held rest next i d within begun moves added =
      moves_add before now _ rest _ next _ (moves_more before between now _ held rest begun moves) added
      (one_more_ring on.style names on.texts.items first (length on.changes.items) on.rings.items i d within)

  pub rings_front : (before between now : Option Files) (first held : List ℕ) (i : ℕ)
      → HasRings i first before between held → AppendsFront between now held
      → AppendsFront before now (first ++ rings_text on.style names (length on.changes.items) 0 (rings_on on))
  rings_front before between now first held i begun front =
      front_longer before now _ (first ++ rings_text on.style names (length on.changes.items) 0 (rings_on on))
      (begins_after first _ _ (first_rings on.style names on.texts.items (length on.changes.items) on.rings.items i))
      (moves_front before between now _ held begun front)

-- ---- the whole text
-- a part is added before what follows is printed
stage : (before between now : Option Files) (held rest part last : List ℕ) → Moves before between held rest
    → Moves between now (rest ++ part) last → Moves before now (held ++ part) last
stage before between now held rest part last begun moves =
    moves_more before between now (held ++ part) (rest ++ part) last
    (moves_add before between held rest part (rest ++ part) (held ++ part) begun refl refl) moves

stage_front : (before between now : Option Files) (held rest part all : List ℕ) → Moves before between held rest
    → Begins (held ++ part) all → AppendsFront between now (rest ++ part) → AppendsFront before now all
stage_front before between now held rest part all begun begins front =
    front_longer before now (held ++ part) all begins
    (moves_front before between now (held ++ part) (rest ++ part)
    (moves_add before between held rest part (rest ++ part) (held ++ part) begun refl refl) front)

four_parts : (a b c d : List ℕ) → a ++ (b ++ (c ++ d)) ≡ ((a ++ b) ++ c) ++ d
four_parts a b c d = simp (append_assoc) refl

begins_two : (a b c d : List ℕ) → Begins (a ++ b) (a ++ (b ++ (c ++ d)))
begins_two a b c d = (c ++ d, sym (append_assoc a b (c ++ d)))

begins_three : (a b c d : List ℕ) → Begins ((a ++ b) ++ c) (a ++ (b ++ (c ++ d)))
begins_three a b c d = (d, four_parts a b c d)

-- the opening alone is held
pub opened : (names : List (List ℕ)) (before now : List ℕ) → before ≡ [] → now ≡ before ++ opening_text names
    → now ≡ opening_text names
opened names before now empty is = is ∙ ap (λ (held : List ℕ). held ++ opening_text names) empty

module _ (names : List (List ℕ)) (on : ChangeMap) where
  -- the text of the changes of sides of the map, after its changes
  abbrev rings_part : List ℕ
  rings_part = rings_text on.style names (length on.changes.items) 0 (rings_on on)

  text_is : (said : List ℕ) → (text : IsMapText names on said) → said
      ≡ opening_text names ++ (features_text on.style names 0 text.spots ++ (rings_part ++ end_text))
  text_is said text = grind (arith, spots_count)

  -- a first part of the opening and of the changes is printed
  pub opening_front : (before now : Option Files) (room : List ℕ) → room ≡ opening_text names
      → ((spots : List ChangeText) → AreSpotsOn on on.changes.items spots
      → AppendsFront before now (room ++ features_text on.style names 0 spots))
      → (said : List ℕ) → IsMapText names on said → AppendsFront before now said
  opening_front before now room opened front said text =
      let features = features_text on.style names 0 text.spots in
      subst (λ (t : List ℕ). AppendsFront before now t) (sym (text_is said text))
      (front_longer before now (opening_text names ++ features) _
      (begins_two (opening_text names) features rings_part end_text)
      (subst (λ (t : List ℕ). AppendsFront before now (t ++ features)) opened (front text.spots text.are_spots)))

  module _ (start middle : Option Files) (room held : List ℕ) (opened : room ≡ opening_text names)
      (moved : (spots : List ChangeText) → AreSpotsOn on on.changes.items spots
      → Moves start middle (room ++ features_text on.style names 0 spots) held)
      (said : List ℕ) (text : IsMapText names on said) where
    abbrev features : List ℕ
    features = features_text on.style names 0 text.spots

    changes_held : Moves start middle (opening_text names ++ features) held
    changes_held =
        subst (λ (t : List ℕ). Moves start middle (t ++ features) held) opened (moved text.spots text.are_spots)

    -- and of the changes of sides
    pub sides_front : (now : Option Files) → AppendsFront middle now (held ++ rings_part) → AppendsFront start now said
    sides_front now front =
        subst (λ (t : List ℕ). AppendsFront start now t) (sym (text_is said text))
        (stage_front start middle now (opening_text names ++ features) held rings_part _ changes_held
        (begins_three (opening_text names) features rings_part end_text) front)

    module _ (later : Option Files) (last : List ℕ) (sides : Moves middle later (held ++ rings_part) last) where
      rings_held : Moves start later ((opening_text names ++ features) ++ rings_part) last
      rings_held = stage start middle later (opening_text names ++ features) held rings_part last changes_held sides

      pub last_front : (now : Option Files) → AppendsFront later now last → AppendsFront start now said
      last_front now front =
          subst (λ (t : List ℕ). AppendsFront start now t) (sym (text_is said text))
          (front_longer start now ((opening_text names ++ features) ++ rings_part) _
          (begins_three (opening_text names) features rings_part end_text)
          (moves_front start later now _ last rings_held front))

      module _ (written : Option Files) (rest all : List ℕ) (moves : Moves later written last rest)
          (ended : all ≡ rest ++ end_text) where
        end_held : Moves start written said all
        end_held =
            moves_add start written ((opening_text names ++ features) ++ rings_part) rest end_text all said
            (moves_more start later written ((opening_text names ++ features) ++ rings_part) last rest rings_held moves)
            ended (text_is said text ∙ four_parts (opening_text names) features rings_part end_text)

        -- the whole text is printed
        pub whole_text : (now : Option Files) → Appends written now all → Appends start now said
        whole_text now appends = moves_end start written now said all end_held appends

        pub end_front : (now : Option Files) → AppendsFront written now all → AppendsFront start now said
        end_front now front = moves_front start written now said all end_held front
