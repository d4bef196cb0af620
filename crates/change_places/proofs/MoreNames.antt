-- One more name of a text.
use Rattle.std.proofs.Common.{◌≡◌, ℕ, suc, ◌+◌, ◌<◌, List, [], ◌∷◌, ◌++◌, length, take, get_or, refl, sym, ◌∙◌, ap}
use Rattle.std.proofs.Common.{arith, append_assoc, append-nil, length-take, subst, add-zero}
use Rattle.std.proofs.lemmas.List.{take_more}
use Rattle.change_places.specs.PlacesText.{comma_text, quoted_text, names_text}

names-append : (number : ℕ) (names : List (List ℕ)) (name : List ℕ)
    → names_text number (names ++ name ∷ []) ≡ names_text number names
    ++ (comma_text (number + length names) ++ quoted_text name)
names-append number [] name =
    subst (λ n. comma_text number ++ (quoted_text name ++ []) ≡ comma_text n ++ quoted_text name)
    (sym (add-zero number)) (rw append-nil refl)
names-append number (first ∷ names) name =
    let same : number + 1 + length names ≡ number + suc (length names) = omega arith in
    let later : names_text (number + 1) (names ++ name ∷ []) ≡ names_text (number + 1) names
    ++ (comma_text (number + suc (length names)) ++ quoted_text name)
    = subst (λ n. names_text (number + 1) (names ++ name ∷ []) ≡ names_text (number + 1) names
    ++ (comma_text n ++ quoted_text name)) same (names-append (number + 1) names name) in
    simp (later, append_assoc) refl

-- one more turn of the loop over names
pub one_more_name : (out : List ℕ) {before first now : List ℕ} (names : List (List ℕ)) {number : ℕ} (name : List ℕ)
    → number < length names → name ≡ get_or names number name
    → before ≡ out ++ names_text 0 (take number names) → first ≡ before ++ comma_text number
    → now ≡ first ++ quoted_text name → now ≡ out ++ names_text 0 (take (number + 1) names)
one_more_name out {before} {first} {now} names {number} name within is start one two =
    let front = take number names in
    let count : 0 + length front ≡ number = omega (arith, length-take number names) in
    let longer : take (number + 1) names ≡ front ++ name ∷ [] = take_more names number name within
    ∙ ap (λ c. front ++ c ∷ []) (sym is) in
    let added : names_text 0 (front ++ name ∷ []) ≡ names_text 0 front ++ (comma_text number ++ quoted_text name)
    = subst (λ n. names_text 0 (front ++ name ∷ []) ≡ names_text 0 front ++ (comma_text n ++ quoted_text name)) count
    (names-append 0 front name) in
    simp (ap (names_text 0) longer ∙ added, two, one, start, append_assoc) refl
