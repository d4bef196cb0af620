-- What the fields of a press in memory stand for.
use Rattle.std.specs.Prelude.{◌<◌, map, length, IsTrue}
use Rattle.shelf_io.specs.MemoryFile.{named_bytes}
use Rattle.shelf_io.specs.MemoryPress.{MemoryPress}
use Rattle.shelf_io.specs.declared.mem_press.MemPress.TheInside.{Inside}

abbrev pub press_of : Inside → MemoryPress
press_of p = record {
  made = map named_bytes p.made.items;
  most = p.most;
  fail = p.fail.items;
  at_hand = p.at_hand;
  broken = p.broken;
  calls = p.calls;
  faults = p.faults;
}

-- a write may take a byte, and a file that is at hand is the last one
pub record IsSound (p : Inside) : Type 0 where
  pub most : 0 < p.most
  pub at_hand : IsTrue p.at_hand → 0 < length p.made.items
