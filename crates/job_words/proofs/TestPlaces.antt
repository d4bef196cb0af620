-- The first place at which a test passes, of elements and of what is made of them.
use Rattle.std.proofs.Common.{◌≡◌, ◌+◌, List, [], ◌∷◌, Bool, not, map, refl, sym, ap, ap₂, Some, None}
use Rattle.std.specs.Prelude.{if◌then◌else◌, nat_lt}
use Rattle.std.specs.List.{position, prefix_len}
use Rattle.std.proofs.lemmas.List.{length-map}

prefix_len-map : {X Y : Type 0} (test : Y → Bool) (f : X → Y) (xs : List X)
    → prefix_len (λ x. test (f x)) xs ≡ prefix_len test (map f xs)
prefix_len-map test f [] = refl
prefix_len-map test f (x ∷ xs) = ap (λ n. if test (f x) then 1 + n else 0) (prefix_len-map test f xs)

pub position-map : {X Y : Type 0} (test : Y → Bool) (f : X → Y) (xs : List X)
    → position (λ x. test (f x)) xs ≡ position test (map f xs)
position-map test f xs =
    ap₂ (λ n m. if nat_lt n m then Some n else None) (prefix_len-map (λ y. not (test y)) f xs) (sym (length-map xs f))
