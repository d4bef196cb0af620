-- The room that a part of a text wants is part of what the text wants.
use Rattle.std.proofs.Common.{◌≡◌, ℕ, suc, ◌+◌, ◌<◌, ◌≤◌, List, [], ◌∷◌, ◌++◌, length, take, drop, get_or, refl, sym, ◌∙◌, ap}
use Rattle.std.proofs.Common.{arith, append_assoc, length-take, length-append, add-zero}
use Rattle.std.proofs.lemmas.List.{take-append-drop, drop_more}
use Rattle.std.proofs.lemmas.List.Concat.{flat_map-append}
use Rattle.change_places.specs.PlacesText.{escaped_byte, name_text, comma_text, quoted_text, names_text}

-- ---- names
name_split : (name : List ℕ) (i d : ℕ) → i < length name → name_text name
    ≡ name_text (take i name) ++ (escaped_byte (get_or name i d) ++ name_text (drop (i + 1) name))
name_split name i d within =
    ap name_text (sym (take-append-drop i name))
    ∙ flat_map-append escaped_byte (take i name) (drop i name)
    ∙ ap (λ (rest : List ℕ). name_text (take i name) ++ name_text rest) (drop_more name i d within)

pub name_full : (name : List ℕ) (i d : ℕ) (cap_first cap len_first len : ℕ) → i < length name → cap_first ≤ cap
    → len ≡ len_first + length (name_text (take i name)) → cap < len + length (escaped_byte (get_or name i d))
    → cap_first < len_first + length (name_text name)
name_full name i d cap_first cap len_first len within order is full =
    let e = escaped_byte (get_or name i d) in
    let rest = name_text (drop (i + 1) name) in
    let all : length (name_text name) ≡ length (name_text (take i name)) + length (e ++ rest) =
    ap length (name_split name i d within) ∙ length-append (name_text (take i name)) (e ++ rest) in
    let more : length (e ++ rest) ≡ length e + length rest = length-append e rest in
    omega (arith, order, is, full, all, more)

-- ---- names of layers
names_split : (count : ℕ) (names more : List (List ℕ)) → names_text count (names ++ more)
    ≡ names_text count names ++ names_text (count + length names) more
names_split count [] more = ap (λ (n : ℕ). names_text n more) (sym (add-zero count))
names_split count (name ∷ names) more =
    let same : count + 1 + length names ≡ count + suc (length names) = omega arith in
    let later : names_text (count + 1) (names ++ more) ≡ names_text (count + 1) names
    ++ names_text (count + suc (length names)) more
    = names_split (count + 1) names more
    ∙ ap (λ (n : ℕ). names_text (count + 1) names ++ names_text n more) same in
    simp (later, append_assoc) refl

names_there : (names : List (List ℕ)) (i : ℕ) (d : List ℕ) → i < length names → names_text 0 names
    ≡ names_text 0 (take i names)
    ++ (comma_text i ++ (quoted_text (get_or names i d) ++ names_text (i + 1) (drop (i + 1) names)))
names_there names i d within =
    let count : 0 + length (take i names) ≡ i = omega (arith, length-take i names) in
    ap (names_text 0) (sym (take-append-drop i names))
    ∙ names_split 0 (take i names) (drop i names)
    ∙ ap (λ (rest : List (List ℕ)). names_text 0 (take i names) ++ names_text (0 + length (take i names)) rest)
    (drop_more names i d within)
    ∙ ap (λ (n : ℕ). names_text 0 (take i names)
    ++ names_text n (get_or names i d ∷ drop (i + 1) names)) count

pub names_full : (names : List (List ℕ)) (i : ℕ) (d : List ℕ) (cap_first cap len_first len part : ℕ) → i < length names
    → cap_first ≤ cap → len ≡ len_first + length (names_text 0 (take i names))
    → part ≤ length (comma_text i) + length (quoted_text (get_or names i d)) → cap < len + part
    → cap_first < len_first + length (names_text 0 names)
names_full names i d cap_first cap len_first len part within order is below full =
    let q = quoted_text (get_or names i d) in
    let rest = names_text (i + 1) (drop (i + 1) names) in
    let front = names_text 0 (take i names) in
    let all : length (names_text 0 names) ≡ length front + length (comma_text i ++ (q ++ rest)) =
    ap length (names_there names i d within) ∙ length-append front (comma_text i ++ (q ++ rest)) in
    let more : length (comma_text i ++ (q ++ rest)) ≡ length (comma_text i) + length (q ++ rest) =
    length-append (comma_text i) (q ++ rest) in
    let last : length (q ++ rest) ≡ length q + length rest = length-append q rest in
    omega (arith, order, is, below, full, all, more, last)
