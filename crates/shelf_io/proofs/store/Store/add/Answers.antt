-- Answers to the goals of `Store::add` in src/store.rt.
use Rattle.std.proofs.Common.{rules, ◌≡◌, ◌+◌, ◌-◌, ◌≤◌, ◌<◌, ◌++◌, ◌∷◌, [], length, arith, subst, vec_len, IsOk, ap}
use Rattle.std.proofs.lemmas.List.{length-append}
use Rattle.shelf_io.specs.FileStore.{FileStore, store_with_file}
use Rattle.shelf_io.specs.FileStoreFields.{files_in}
use Rattle.shelf_io.specs.Files.{Files}
use Rattle.shelf_io.specs.Made.{with_file}
use Rattle.shelf_io.proofs.StoreLemmas.{length_of-append, files_in-file}
use Rattle.shelf_io.proofs.store.Store.add.Goals as goal

pub invariant_of-self : goal.invariant_of-self
invariant_of-self c =
    let sound = c.self.invariant in
    let name = c.args.name.now in
    let fits : length name ≤ c.self.inside.bytes = search rules in
    let some : 0 < c.self.inside.files = search rules in
    let ok : IsOk c.extend_from_slice.result =
    c.extend_from_slice.ensures.succeeds (omega (arith, sound.bytes, fits)) in
    let text : c.extend_from_slice.new.self.items ≡ c.self.inside.text.items ++ name = search (rules, ok) in
    let parts : c.push.new.self.items ≡ c.self.inside.parts.items ++ record { name = length name; content = 0 } ∷ [] =
    search rules in
    let size : vec_len c.extend_from_slice.new.self ≡ vec_len c.self.inside.text + length name = search (rules, ok) in
    let count : vec_len c.push.new.self ≡ vec_len c.self.inside.parts + 1 = search rules in
    record {
      whole = rw (parts, text, length_of-append, length-append) (omega (arith, sound.whole));
      files = omega (arith, count, sound.files, c.push.ensures.capacity, some);
      bytes = omega (arith, size, sound.bytes, c.extend_from_slice.ensures.capacity, fits);
      short = rw (text, length-append) (omega (arith, sound.short, fits));
    }

pub returns-then-is_ok-clause-added : goal.returns-then-is_ok-clause-added
returns-then-is_ok-clause-added c =
    let store = c.self.inside in
    let name = c.args.name.now in
    let fits : length name ≤ store.bytes = search rules in
    let ok : IsOk c.extend_from_slice.result =
    c.extend_from_slice.ensures.succeeds (omega (arith, c.self.invariant.bytes, fits)) in
    let text : c.extend_from_slice.new.self.items ≡ store.text.items ++ name = search (rules, ok) in
    let parts : c.push.new.self.items ≡ store.parts.items ++ record { name = length name; content = 0 } ∷ [] =
    search rules in
    let with : Files → FileStore = λ made. record {
      made = made;
      files = store.files - 1;
      bytes =
          store.bytes - length name;
    } in
    let made : files_in c.push.new.self.items c.extend_from_slice.new.self.items
    ≡ with_file name (files_in store.parts.items store.text.items) =
    rw (parts, text) (files_in-file store.parts.items store.text.items name c.self.invariant.whole) in
    λ _. subst (λ (s : FileStore). with (files_in c.push.new.self.items c.extend_from_slice.new.self.items)
    ≡ store_with_file name s) c.self.view_is (ap with made)
