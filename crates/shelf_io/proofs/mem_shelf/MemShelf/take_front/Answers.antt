-- Answers to the goals of `MemShelf::take_front` in src/mem_shelf.rt.
use Rattle.std.proofs.Common.{◌≡◌, ◌↔◌, ◌+◌, ◌++◌, length, take, drop, map, Option, Some, ℕ, [], arith, refl, sym, ◌∙◌}
use Rattle.std.proofs.Common.{subst, slice_get}
use Rattle.std.proofs.lemmas.Option.{slice_get_read}
use Rattle.std.proofs.lemmas.List.{length-take-le}
use Rattle.shelf_io.specs.MemoryFile.{named_bytes}
use Rattle.shelf_io.specs.MemoryShelf.{MemoryShelf, rest_at_hand, rest_from}
use Rattle.shelf_io.specs.Shelf.{TakesFront}
use Rattle.shelf_io.proofs.NamedFiles.{takes_there, none_at_end}
use Rattle.shelf_io.proofs.mem_shelf.MemShelf.take_front.Goals as goal
use Rattle.plain_laws.proofs.Lists.{take_rest}

pub returns-clause-bytes : goal.returns-clause-bytes
returns-clause-bytes c =
    let files = c.self.inside.files.items in
    let number = c.in-Some.number in
    let place = c.self.inside.place in
    let file = c.index.result.now in
    let bytes = file.bytes.items in
    let count = c.min-count.result in
    let copied = c.copy_from_slice.new.self in
    let after = drop count c.args.buf.now in
    let within = rw c.in-Some.is at c.self.invariant.at_hand in
    let there : slice_get files number ≡ Some file = slice_get_read files _ number file refl within c.index.ensures in
    let same : copied ≡ take count (drop place bytes) =
    rw (c.deref.ensures.value, take_rest bytes place) at c.copy_from_slice.ensures.after in
    let size : length copied ≡ count = c.copy_from_slice.ensures.len
    ∙ length-take-le count c.args.buf.now (omega arith) in
    let smallest = rw (c.min.ensures, c.deref.ensures.value, take_rest bytes place) at c.min-count.ensures in
    let given : (count ≡ 0) ↔ (drop place bytes ≡ []) =
    none_at_end bytes c.args.buf.now place c.self.inside.most count c.requires.room c.self.invariant.most
    smallest in
    let taken = takes_there files number place count file copied after there same size given in
    let at_hand = subst (λ (n : Option ℕ). TakesFront (rest_from (map named_bytes files) n place)
    (rest_from (map named_bytes files) n (place + count)) count (copied ++ after)) (sym c.in-Some.is) taken in
    subst (λ (s : MemoryShelf). TakesFront (rest_at_hand s)
    (rest_from (map named_bytes files) c.self.inside.at_hand (place + count)) count (copied ++ after))
    c.self.view_is at_hand
