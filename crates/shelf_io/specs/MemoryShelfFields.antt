-- What the fields of a shelf in memory stand for.
use Rattle.std.specs.Prelude.{◌<◌, ◌≤◌, map, length, slice_get, IfSome}
use Rattle.shelf_io.specs.Files.{AreDistinct}
use Rattle.shelf_io.specs.MemoryFile.{named_bytes}
use Rattle.shelf_io.specs.MemoryShelf.{MemoryShelf}
use Rattle.shelf_io.specs.declared.mem_shelf.MemShelf.TheInside.{Inside}

abbrev pub shelf_of : Inside → MemoryShelf
shelf_of s = record {
  files = map named_bytes s.files.items;
  most = s.most;
  fail = s.fail.items;
  at_hand = s.at_hand;
  place = s.place;
  calls = s.calls;
  faults = s.faults;
  given = s.given;
}

-- a read may give a byte, the place is in the file at hand, and the names differ
pub record IsSound (s : Inside) : Type 0 where
  pub most : 0 < s.most
  pub place : IfSome s.at_hand (λ number. IfSome (slice_get s.files.items number)
      (λ file. s.place ≤ length file.bytes.items))
  pub at_hand : IfSome s.at_hand (λ number. number < length s.files.items)
  pub distinct : AreDistinct (map named_bytes s.files.items)
