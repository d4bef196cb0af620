-- Tests joined by 'and' and 'or'. Most are in std's lemmas on Bool; here is what those lack.
use Rattle.std.proofs.Common.{◌≡◌, Bool, true, false, ◌&&◌, ◌||◌, refl}

-- the first of two that both hold, and the second
pub and_first : (a b : Bool) → (a && b) ≡ true → a ≡ true
and_first true b h = refl
and_first false b h = cc

pub and_second : (a b : Bool) → (a && b) ≡ true → b ≡ true
and_second true b h = h
and_second false b h = cc

-- three that all hold
pub and_three : (a b c : Bool) → a ≡ true → b ≡ true → c ≡ true → (a && b && c) ≡ true
and_three a b c h i j = rw (h, i, j) refl

pub and_three_parts : (a b c : Bool) → (a && b && c) ≡ true → (a ≡ true) × (b ≡ true) × (c ≡ true)
and_three_parts true true true h = (refl, refl, refl)
and_three_parts a b c h = absurd (cc)

-- one of two holds, and not the first
pub or_rest : (a b : Bool) → a ≡ false → (a || b) ≡ true → b ≡ true
or_rest true b e h = cc
or_rest false b e h = h
