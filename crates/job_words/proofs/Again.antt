-- The first text that equals one before it.
use Rattle.std.proofs.Common.{◌≡◌, ◌<◌, ◌+◌, ℕ, List, [], ◌∷◌, ◌++◌, Bool, true, false, Option, Some, take, drop, map}
use Rattle.std.proofs.Common.{length, sym, ap, ap₂, ◌∙◌, add-one, drop-cons, get_or, option_map, Bor}
use Rattle.std.specs.Prelude.{if◌then◌else◌, find}
use Rattle.std.specs.List.{enumerate_from, list_any}
use Rattle.std.specs.Str.{bytes_eq}
use Rattle.std.proofs.lemmas.List.{get_or-map, length-map, map-append, take_more}
use Rattle.clap.proofs.WalkLemmas.{list_any-map}
use Rattle.job_words.specs.Names.{first_again, part_behind_slashes, stands_before}

-- the first text from a place on that equals one before it
abbrev pub again_from : List (List ℕ) → ℕ → Option (ℕ × List ℕ)
again_from texts start = find (stands_before texts) (enumerate_from start (drop start texts))

-- the texts before a place are seen, and none of them equals one before it
pub record Scanned (seen texts : List (List ℕ)) (count : ℕ) : Type 0 where
  pub front : seen ≡ take count texts
  pub none : again_from texts count ≡ again_from texts 0

again-step : (texts : List (List ℕ)) (start : ℕ) (text : List ℕ) → start < length texts → text ≡ get_or texts start text
    → (b : Bool) → list_any (bytes_eq text) (take start texts) ≡ b
    → again_from texts start ≡ (if b then Some (start, text) else again_from texts (start + 1))
again-step texts start text within is b e =
    let rest : drop start texts ≡ text ∷ drop (start + 1) texts = drop-cons texts start text within
    ∙ ap₂ (λ t n. t ∷ drop n texts) (sym is) (sym (add-one start)) in
    ap (λ xs. find (stands_before texts) (enumerate_from start xs)) rest
    ∙ ap (λ c. if c then Some (start, text) else again_from texts (start + 1)) e

module _ (seen texts : List (List ℕ)) (count : ℕ) (text : List ℕ) (scanned : Scanned seen texts count)
    (within : count < length texts) (is : text ≡ get_or texts count text) where
  -- a text that is not among those before it
  pub next-text : list_any (bytes_eq text) seen ≡ false → Scanned (seen ++ text ∷ []) texts (count + 1)
  next-text new =
      let fresh : list_any (bytes_eq text) (take count texts) ≡ false =
      ap (list_any (bytes_eq text)) (sym scanned.front) ∙ new in
      record {
        front = ap₂ (λ xs t. xs ++ t ∷ []) scanned.front is ∙ sym (take_more texts count text within);
        none = sym (again-step texts count text within is false fresh) ∙ scanned.none;
      }

  -- a text that is
  pub text-again : list_any (bytes_eq text) seen ≡ true → first_again texts ≡ Some count
  text-again old =
      let known : list_any (bytes_eq text) (take count texts) ≡ true = ap (list_any (bytes_eq text)) (sym scanned.front)
      ∙ old in
      ap (option_map (λ (found : ℕ × List ℕ). found.0))
      (sym scanned.none ∙ again-step texts count text within is true known)

-- the texts that references point to
abbrev pub behind : List (Bor (List ℕ)) → List (List ℕ)
behind = map (λ text. text.now)

-- the last part of a layer's name, among those of all layers
pub part-at : (layers : List (Bor (List ℕ))) (number : ℕ) (other : Bor (List ℕ)) (text : List ℕ)
    → number < length layers
    → get_or (map part_behind_slashes (behind layers)) number text
    ≡ part_behind_slashes (get_or layers number other).now
part-at layers number other text within =
    let among : number < length (behind layers) = rw (length-map layers (λ (layer : Bor (List ℕ)). layer.now)) within in
    get_or-map part_behind_slashes (behind layers) number other.now text among
    ∙ ap part_behind_slashes (get_or-map (λ (layer : Bor (List ℕ)). layer.now) layers number other other.now within)

pub parts-length : (layers : List (Bor (List ℕ))) → length (map part_behind_slashes (behind layers)) ≡ length layers
parts-length layers = length-map (behind layers) part_behind_slashes ∙ length-map layers (λ layer. layer.now)

-- a text is among those that references point to
pub among-behind : (text : List ℕ) (known : List (Bor (List ℕ)))
    → list_any (λ other. bytes_eq text other.now) known ≡ list_any (bytes_eq text) (behind known)
among-behind text known = list_any-map (bytes_eq text) (λ other. other.now) known

-- a text that is put after those that it is not among
pub put-behind : (known : List (Bor (List ℕ))) (text : Bor (List ℕ))
    → list_any (λ other. bytes_eq text.now other.now) known ≡ false
    → behind (if list_any (λ other. bytes_eq text.now other.now) known then known else known ++ text ∷ [])
    ≡ behind known ++ text.now ∷ []
put-behind known text new =
    ap (λ b. behind (if b then known else known ++ text ∷ [])) new ∙ map-append (λ other. other.now) known (text ∷ [])
