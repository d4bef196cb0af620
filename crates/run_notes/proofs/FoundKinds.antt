-- What is found of layers, one after the other.
use Rattle.std.proofs.Common.{◌≡◌, ◌+◌, ◌<◌, ℕ, List, [], ◌∷◌, ◌++◌, Option, get_or, length, map, take}
use Rattle.std.proofs.lemmas.List.{map-append, take_more}
use Rattle.sheet_base.specs.declared.flags.How.{How}
use Rattle.run_notes.specs.LeftOutKinds.{AreFoundInLayers, IsFoundInLayer}

-- what is found of one more layer
found-push : (how : How) (names : List (List ℕ)) (found : List (Option (List (List ℕ × ℕ) × ℕ))) (name : List ℕ)
    (last : Option (List (List ℕ × ℕ) × ℕ)) → AreFoundInLayers how names found → IsFoundInLayer how name last
    → AreFoundInLayers how (names ++ name ∷ []) (found ++ last ∷ [])
found-push how [] [] name last all is = (is, tt)
found-push how [] (one ∷ found) name last all is = absurd all
found-push how (other ∷ names) [] name last all is = absurd all
found-push how (other ∷ names) (one ∷ found) name last all is =
    (all.0, found-push how names found name last all.1 is)

-- what is found of the next layer of a list, seen through a function
pub found-more : {K : Type 0} (view : K → Option (List (List ℕ × ℕ) × ℕ)) (how : How) (layers : List (List ℕ)) (i : ℕ)
    (name : List ℕ) (found more : List K) (last : K) → i < length layers → name ≡ get_or layers i name
    → more ≡ found ++ last ∷ [] → AreFoundInLayers how (take i layers) (map view found)
    → IsFoundInLayer how name (view last) → AreFoundInLayers how (take (i + 1) layers) (map view more)
found-more view how layers i name found more last within is put all one = rw (
  take_more layers i name within,
  ← is,
  put,
  map-append view found (last ∷ []),
) (found-push how (take i layers) (map view found) name (view last) all one)
