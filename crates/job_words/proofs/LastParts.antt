-- The part of a name after its last slash.
use Rattle.std.proofs.Common.{◌≡◌, ◌≢◌, ◌==◌, ◌<◌, ◌≤◌, ◌+◌, ◌-◌, ℕ, List, not, true, false, drop, length, get_or, lit<}
use Rattle.std.proofs.Common.{sym, ◌∙◌, ap, arith, ne_eqb, suc, length-drop, subst}
use Rattle.std.specs.List.{suffix_len}
use Rattle.std.specs.Str.{NoCharPasses}
use Rattle.std.specs.Str.Pattern.{HasCharAt}
use Rattle.std.proofs.lemmas.List.{get_or-drop}
use Rattle.std.proofs.lemmas.List.Sums.{suffix_len_is}
use Rattle.std.proofs.lemmas.Str.Pattern.{NoCharPasses-char, drop_at_char}
use Rattle.job_words.specs.Names.{part_behind_slashes}

-- no byte from a place on is a slash
no-slash-from : (name : List ℕ) (start k : ℕ) → NoCharPasses (λ c. c == 47) (drop start name) → start ≤ k
    → k < length name → not (get_or name k 0 == 47) ≡ true
no-slash-from name start k none low high =
    let within : k - start < length (drop start name) =
    subst (λ n. k - start < n) (sym (length-drop start name)) (omega arith) in
    let differs : get_or (drop start name) (k - start) 0 ≢ 47 =
    NoCharPasses-char 47 (drop start name) (k - start) none (lit< tt) within in
    let place : start + (k - start) ≡ k = omega arith in
    let same : get_or (drop start name) (k - start) 0 ≡ get_or name k 0 = get_or-drop start name (k - start) 0
    ∙ ap (λ j. get_or name j 0) place in
    ap not (ne_eqb _ _ (λ is. differs (same ∙ is)))

-- the bytes from a place on are the last part, where none is a slash and the one before, if any, is
from-place : (name : List ℕ) (start : ℕ) → start ≤ length name
    → ((k : ℕ) → start ≤ k → k < length name → not (get_or name k 0 == 47) ≡ true)
    → (0 < start → not (get_or name (start - 1) 0 == 47) ≡ false) → drop start name ≡ part_behind_slashes name
from-place name start within none slash =
    let behind : suffix_len (λ byte. not (byte == 47)) name ≡ length name - start =
    suffix_len_is (λ byte. not (byte == 47)) name start 0 within none slash in
    let place : start ≡ length name - suffix_len (λ byte. not (byte == 47)) name = omega arith in
    ap (λ n. drop n name) place

-- the bytes after a slash are the last part, where none is a slash
pub behind-slash : (name part : List ℕ) (i j : ℕ) → NoCharPasses (λ c. c == 47) (drop j name) → HasCharAt 47 name i j
    → part ≡ drop j name → part ≡ part_behind_slashes name
behind-slash name part i j none here is =
    let ends : j ≡ i + 1 = here.ends in
    let split : length (drop i name) ≡ suc (length (drop j name)) =
    ap length (drop_at_char 47 name i j here (lit< tt)) in
    let within : j ≤ length name = omega (arith, simp length-drop at split) in
    let byte : get_or name (j - 1) 0 ≡ 47 = ap (λ k. get_or name k 0) (omega arith) ∙ here.byte (lit< tt) in
    is ∙ from-place name j within (λ k. no-slash-from name j k none) (λ _. ap (λ b. not (b == 47)) byte)

-- a name without a slash is its last part
pub no-slash : (name : List ℕ) → NoCharPasses (λ c. c == 47) name → name ≡ part_behind_slashes name
no-slash name none = from-place name 0 (omega arith) (λ k. no-slash-from name 0 k none) (λ above. absurd (omega arith))
