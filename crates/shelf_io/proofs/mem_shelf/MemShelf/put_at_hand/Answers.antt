-- Answers to the goals of `MemShelf::put_at_hand` in src/mem_shelf.rt.
use Rattle.std.proofs.Common.{rules, ◌≡◌, sym, ◌∙◌, Some, Ok, subst, Bool, Option, ℕ, map, is_some}
use Rattle.shelf_io.specs.Files.{number_of}
use Rattle.shelf_io.specs.MemoryFile.{named_bytes}
use Rattle.shelf_io.specs.MemoryShelf.{MemoryShelf, rest_from}
use Rattle.shelf_io.specs.Shelf.{Begins}
use Rattle.shelf_io.proofs.NamedFiles.{begins_found, number_of-named}
use Rattle.shelf_io.proofs.mem_shelf.MemShelf.put_at_hand.Goals as goal

pub returns-clause-begins : goal.returns-clause-begins
returns-clause-begins c =
    let files = c.self.inside.files.items in
    let name = c.args.name.now in
    let found = c.position_of-self-inside.result in
    let number : found ≡ number_of (map named_bytes files) name =
    (rw c.deref.ensures.value at c.position_of-self-inside.ensures) ∙ number_of-named files name in
    let told = begins_found (map named_bytes files) name in
    let here = subst (λ (n : Option ℕ). Begins (Some (map named_bytes files)) name
    (rest_from (map named_bytes files) n 0) (Ok (is_some n))) (sym number) told in
    let answered = subst (λ (b : Bool). Begins (Some (map named_bytes files)) name
    (rest_from (map named_bytes files) found 0) (Ok b)) (sym c.is_some.ensures) here in
    subst (λ (s : MemoryShelf). Begins (Some s.files) name (rest_from (map named_bytes files) found 0)
    (Ok c.is_some.result)) c.self.view_is answered

pub returns-clause-begun : goal.returns-clause-begun
returns-clause-begun c =
    let files = c.self.inside.files.items in
    let name = c.args.name.now in
    let number : c.position_of-self-inside.result ≡ number_of (map named_bytes files) name =
    (rw c.deref.ensures.value at c.position_of-self-inside.ensures) ∙ number_of-named files name in
    search (rules, number)
