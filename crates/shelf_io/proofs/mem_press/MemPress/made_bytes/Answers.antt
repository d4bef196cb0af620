-- Answers to the goals of `MemPress::made_bytes` in src/mem_press.rt.
use Rattle.std.proofs.Common.{rules, ◌≡◌, sym, ◌∙◌, ap, refl, subst, map, Some, None, List, ℕ}
use Rattle.std.proofs.lemmas.Option.{slice_get_read}
use Rattle.shelf_io.specs.Files.{bytes_of}
use Rattle.shelf_io.specs.MemoryFile.{named_bytes}
use Rattle.shelf_io.specs.MemoryPress.{MemoryPress}
use Rattle.shelf_io.proofs.NamedFiles.{number_of-named, bytes_of-number, bytes_of-none}
use Rattle.shelf_io.proofs.mem_press.MemPress.made_bytes.Goals as goal

pub returns-in-Some : goal.returns-in-Some
returns-in-Some c =
    let made = c.self.inside.made.items in
    let name = c.args.name.now in
    let number = c.in-Some.number in
    let looked_up = sym (number_of-named made name)
    ∙ (sym (rw c.deref.ensures.value at c.position_of.ensures) ∙ c.in-Some.is) in
    let there = slice_get_read made _ number c.index.result.now refl (search rules) c.index.ensures in
    let here = sym (bytes_of-number made name number c.index.result.now looked_up there) in
    subst (λ (p : MemoryPress). Some c.as_slice.result.now ≡ bytes_of p.made name) c.self.view_is
    (ap (λ (bytes : List ℕ). Some bytes) c.as_slice.ensures.value ∙ here)

pub returns-in-None : goal.returns-in-None
returns-in-None c =
    let made = c.self.inside.made.items in
    let looked_up = sym (number_of-named made c.args.name.now)
    ∙ (sym (rw c.deref.ensures.value at c.position_of.ensures) ∙ c.in-None.is) in
    let none = sym (bytes_of-none (map named_bytes made) c.args.name.now looked_up) in
    subst (λ (p : MemoryPress). None ≡ bytes_of p.made c.args.name.now) c.self.view_is none
