-- Answers to the goals of `MemShelf::add` in src/mem_shelf.rt.
use Rattle.std.proofs.Common.{rules, ◌≡◌, map, None, subst, sym}
use Rattle.std.proofs.lemmas.List.{map-append}
use Rattle.shelf_io.specs.Files.{bytes_of}
use Rattle.shelf_io.specs.MemoryFile.{named_bytes}
use Rattle.shelf_io.specs.MemoryShelf.{MemoryShelf}
use Rattle.shelf_io.proofs.NamedFiles.{AreDistinct-append, place-append}
use Rattle.shelf_io.proofs.mem_shelf.MemShelf.add.Goals as goal

pub invariant_of-self-2 : goal.invariant_of-self-2
invariant_of-self-2 c =
    let files = c.self.inside.files.items in
    let name = c.args.name.now in
    let lacks : bytes_of (map named_bytes files) name ≡ None =
    subst (λ (s : MemoryShelf). bytes_of s.files name ≡ None) (sym c.self.view_is) c.requires in
    let distinct = AreDistinct-append (map named_bytes files) name c.in_ok-to_vec.field-0.items
    c.self.invariant.distinct lacks in
    let added = c.in_ok-push.ensures.items in
    record {
      most = c.self.invariant.most;
      place = rw added (place-append files _ c.self.inside.at_hand c.self.inside.place c.self.invariant.at_hand
          c.self.invariant.place);
      at_hand = search rules;
      distinct = rw (added, map-append, c.in_ok-to_string.ensures.ok) distinct;
    }
