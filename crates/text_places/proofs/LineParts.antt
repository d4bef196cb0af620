-- The parts of a text between the bytes of one value, as the lines of a text are between line feeds.
use Rattle.std.proofs.Common.{◌≡◌, ◌==◌, ◌<◌, ◌+◌, ℕ, List, [], ◌∷◌, ◌++◌, length, take, drop, get_or, All, Bool, true}
use Rattle.std.proofs.Common.{false, refl, ◌∙◌, ap, arith, add-one}
use Rattle.std.specs.List.{slice_split}
use Rattle.std.proofs.lemmas.List.Splits.{slice_split_none, slice_split_at}
use Rattle.std.proofs.lemmas.List.{get_or_default, get_or-take, length-take-le}
use Rattle.std.proofs.Math.Seq.{split_at}

fails : (b : Bool) → (b ≡ true → ⊥) → b ≡ false
fails true never = absurd (never refl)
fails false never = refl

-- a text without the byte is one part
pub part_alone : (mark : ℕ) (text : List ℕ) → ((k : ℕ) → k < length text → (get_or text k 0 == mark) ≡ true → ⊥)
    → slice_split (λ byte. byte == mark) text ≡ text ∷ []
part_alone mark text nowhere = slice_split_none (λ byte. byte == mark) text
    (λ k d within. fails (get_or text k d == mark)
    (λ here. nowhere k within (rw (get_or_default text k 0 d within) here)))

-- the first part ends before the first such byte
pub part_before : (mark : ℕ) (text : List ℕ) (end : ℕ) → end < length text
    → ((k : ℕ) → k < end → (get_or text k 0 == mark) ≡ true → ⊥)
    → (get_or text end 0 == mark) ≡ true
    → slice_split (λ byte. byte == mark) text ≡ take end text ∷ slice_split (λ byte. byte == mark) (drop (end + 1) text)
part_before mark text end within before here =
    let parts : text ≡ take end text ++ (get_or text end 0 ∷ drop (end + 1) text) =
    rw add-one (split_at text end 0 within) in
    let size : length (take end text) ≡ end = length-take-le end text (omega (arith, within)) in
    let front : All (λ byte. (byte == mark) ≡ false) (take end text) =
    λ k d below. let near : k < end = omega (arith, size, below) in let inside : k < length text =
    omega (arith, near, within) in
    fails (get_or (take end text) k d == mark) (λ found.
    let at : get_or (take end text) k d ≡ get_or text k 0 = get_or-take end text k d near
    ∙ get_or_default text k d 0 inside in
    before k near (rw at at found)) in
    ap (slice_split (λ byte. byte == mark)) parts
    ∙ slice_split_at (λ byte. byte == mark) (take end text) (get_or text end 0) (drop (end + 1) text) front here
