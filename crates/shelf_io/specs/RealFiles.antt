-- Real files, as contracts see them: no contents.
use Rattle.std.specs.Prelude.{ℕ, Bool, false}

pub record RealShelf : Type 0 where
  pub at_hand : Bool
  pub given : ℕ
  pub faults : ℕ

abbrev pub closed_shelf : RealShelf
closed_shelf = record { at_hand = false; given = 0; faults = 0 }

pub record RealPress : Type 0 where
  pub at_hand : Bool
  -- whether the last call failed
  pub broken : Bool
  pub faults : ℕ

abbrev pub closed_press : RealPress
closed_press = record { at_hand = false; broken = false; faults = 0 }
