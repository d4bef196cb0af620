-- The invariant of the loop of `Store::bytes` in src/store.rt.
use Rattle.std.proofs.Common.{◌≡◌, length, drop}
use Rattle.shelf_io.specs.Files.{bytes_of}
use Rattle.shelf_io.specs.FileStoreFields.{files_in, length_of}
use Rattle.shelf_io.proofs.store.Store.bytes.Given as goal

abbrev pub invariant-loop-part : goal.invariant-loop-part
invariant-loop-part l = record {
  same : bytes_of (files_in (drop l.part-index l.part-items) l.rest) l.name ≡ bytes_of l.self.made l.name;
  whole : length_of (drop l.part-index l.part-items) ≡ length l.rest;
}
