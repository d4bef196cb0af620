-- A list of texts and counts to which one more is counted.
use Rattle.std.specs.Prelude.{◌+◌, ◌-◌, ◌<◌, ◌^◌, ℕ, List, [], ◌∷◌, map, if◌then◌else◌}
use Rattle.std.specs.Borrow.{Bor}
use Rattle.std.specs.List.{AllByRecursion}
use Rattle.std.specs.Str.{bytes_eq}

-- the first count of the text is one higher, or it is the last one
abbrev pub one_more : List ℕ → List (List ℕ × ℕ) → List (List ℕ × ℕ)
one_more text [] = (text, 1) ∷ []
one_more text (counted ∷ more) =
    if bytes_eq counted.0 text then (counted.0, counted.1 + 1) ∷ more else counted ∷ one_more text more

-- each count can be one higher in 64 bits
abbrev pub HaveRoom : List (List ℕ × ℕ) → Type 0
HaveRoom counts = AllByRecursion (λ (counted : List ℕ × ℕ). counted.1 < 2 ^ 64 - 1) counts

-- what a map from texts counts, in order
abbrev pub counts_in : List (Bor (List ℕ) × ℕ) → List (List ℕ × ℕ)
counts_in entries = map (λ (entry : Bor (List ℕ) × ℕ). (entry.0.now, entry.1)) entries

-- the count of a text, or 0 where it has none
abbrev pub count_of : List ℕ → List (List ℕ × ℕ) → ℕ
count_of text [] = 0
count_of text (counted ∷ more) = if bytes_eq counted.0 text then counted.1 else count_of text more
