-- How the lists of triangles by corners grow. Only private functions speak of it.
use Rattle.std.specs.Prelude.{◌≡◌, ℕ, zero, suc, ◌*◌, ◌<◌, Bool, true, false, List, [], ◌∷◌, ◌++◌, length, All}
use Rattle.std.specs.Prelude.{slice_index_or}
use Rattle.number_groups.specs.declared.groups.Entry.{Entry}
use Rattle.number_groups.specs.Groups.{numbers_under}
use Rattle.tin_base.specs.Triangulation.{Triangulation, numbers_of}
use Rattle.tin_base.specs.Soundness.{has}

-- the number, or nothing
abbrev pub one_if : Bool → ℕ → List ℕ
one_if true n = n ∷ []
one_if false n = []

-- the triangles with numbers below `n` that have the corner
unfoldable pub star_to : Triangulation → ℕ → ℕ → List ℕ
star_to tin corner zero = []
star_to tin corner (suc n) = star_to tin corner n ++ one_if (has (numbers_of tin n) corner) n

-- of each corner those with numbers below `n`
pub record AreStarsTo (tin : Triangulation) (n : ℕ) (stars : List (List ℕ)) : Type 0 where
  pub count : length stars ≡ length tin.corners
  pub each : (corner : ℕ) → corner < length tin.corners → slice_index_or stars corner [] ≡ star_to tin corner n

-- the entries of the first `n` triangles, each under each of its corners
pub record AreEntriesTo (tin : Triangulation) (n : ℕ) (entries : List Entry) : Type 0 where
  pub count : length entries ≡ 3 * n
  pub keys : All (λ entry. entry.key < length tin.corners) entries
  pub each : (corner : ℕ) → numbers_under corner entries ≡ star_to tin corner n
