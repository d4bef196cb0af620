-- One more feature of a text.
use Rattle.std.proofs.Common.{◌≡◌, ℕ, Bool, suc, ◌+◌, ◌<◌, List, [], ◌∷◌, ◌++◌, length, take, get_or, refl, sym, ◌∙◌, ap}
use Rattle.std.proofs.Common.{arith, append_assoc, append-nil, length-take, subst, add-zero}
use Rattle.std.proofs.lemmas.List.{take_more}
use Rattle.fault_runs.specs.declared.spots.FaultSpot.{FaultSpot}
use Rattle.change_places.specs.PlacesText.{separator_text}
use Rattle.fault_runs.specs.FaultsText.{feature_text, features_text}

features-append : (lines : Bool) (number : ℕ) (faults : List FaultSpot) (fault : FaultSpot)
    → features_text lines number (faults ++ fault ∷ []) ≡ features_text lines number faults
    ++ (separator_text (number + length faults) ++ feature_text lines (number + length faults) fault)
features-append lines number [] fault =
    subst (λ n. separator_text number ++ (feature_text lines number fault ++ []) ≡ separator_text n
    ++ feature_text lines n fault) (sym (add-zero number)) (rw append-nil refl)
features-append lines number (first ∷ faults) fault =
    let same : number + 1 + length faults ≡ number + suc (length faults) = omega arith in
    let later : features_text lines (number + 1) (faults ++ fault ∷ []) ≡ features_text lines (number + 1) faults
    ++ (separator_text (number + suc (length faults)) ++ feature_text lines (number + suc (length faults)) fault)
    = subst (λ n. features_text lines (number + 1) (faults ++ fault ∷ []) ≡ features_text lines (number + 1) faults
    ++ (separator_text n ++ feature_text lines n fault)) same
    (features-append lines (number + 1) faults fault) in
    simp (later, append_assoc) refl

-- one more turn of the loop over faults
pub one_more_feature : (lines : Bool) (out before first now : List ℕ) (faults : List FaultSpot) (number : ℕ)
    (fault : FaultSpot) → number < length faults
    → before ≡ out ++ features_text lines 0 (take number faults) → first ≡ before ++ separator_text number
    → now ≡ first ++ feature_text lines number (get_or faults number fault)
    → now ≡ out ++ features_text lines 0 (take (number + 1) faults)
one_more_feature lines out before first now faults number d within start one two =
    let front = take number faults in
    let fault = get_or faults number d in
    let count : 0 + length front ≡ number = omega (arith, length-take number faults) in
    let longer : take (number + 1) faults ≡ front ++ fault ∷ [] = take_more faults number d within in
    let added : features_text lines 0 (front ++ fault ∷ []) ≡ features_text lines 0 front
    ++ (separator_text number ++ feature_text lines number fault)
    = subst (λ n. features_text lines 0 (front ++ fault ∷ []) ≡ features_text lines 0 front
    ++ (separator_text n ++ feature_text lines n fault)) count (features-append lines 0 front fault) in
    simp (ap (features_text lines 0) longer ∙ added, two, one, start, append_assoc) refl
