-- Lists that are added to, up to a number of items. Only private functions speak of them.
use Rattle.std.specs.Prelude.{◌≡◌, ℕ, ◌≤◌, List, [], ◌++◌, length}
use Rattle.ring_side.specs.declared.kinds.SideChange.{SideChange}

-- the changes so far are the beginning of all, and where they are not too many, those that remain are the rest
pub record AreOnWay (most : ℕ) (changes remain all : List SideChange) : Type 0 where
  pub rest : List SideChange
  pub joined : changes ++ rest ≡ all
  pub exact : length changes ≤ most → rest ≡ remain

-- some changes are added, or the first of them where they become too many
abbrev pub DoesAdd : ℕ → List SideChange → List SideChange → List SideChange → Type 0
DoesAdd most olds news added = AreOnWay most news [] (olds ++ added)
