-- Answers to the goals of `Store::append` in src/store.rt.
use Rattle.std.proofs.Common.{rules, ◌≡◌, ◌+◌, ◌-◌, ◌≤◌, ◌<◌, ◌^◌, ◌++◌, length, arith, subst, vec_len, IsOk, ap, sym}
use Rattle.std.proofs.Common.{suc, List, slice_set}
use Rattle.std.proofs.lemmas.List.{length-append}
use Rattle.shelf_io.specs.FileStore.{FileStore, store_with_bytes}
use Rattle.shelf_io.specs.FileStoreFields.{files_in, length_of}
use Rattle.shelf_io.specs.Files.{Files}
use Rattle.shelf_io.specs.Made.{with_bytes}
use Rattle.shelf_io.specs.declared.store.Part.{Part}
use Rattle.shelf_io.proofs.StoreLemmas.{length_of-more, part-within, files_in-bytes, length-files_in}
use Rattle.shelf_io.proofs.store.Store.append.Goals as goal

pub overflow_add-index_mut : goal.overflow_add-index_mut
overflow_add-index_mut c =
    let sound = c.self.invariant in
    let parts = c.self.inside.parts.items in
    let part = c.index_mut.result.now in
    let fits : length c.args.bytes.now ≤ c.self.inside.bytes = search rules in
    let made_some : 0 < length (files_in parts c.self.inside.text.items) =
    subst (λ (s : FileStore). 0 < length s.made) (sym c.self.view_is) c.requires in
    let some : 0 < length parts = rw (length-files_in parts c.self.inside.text.items) at made_some in
    let count : c.len-last.result ≡ length parts = search rules in
    let last : c.len-last.result - 1 < length parts = omega (arith, some, count) in
    let within : part.content ≤ length_of parts =
    subst (λ (p : Part). p.content ≤ length_of parts) (sym c.index_mut.ensures.value)
    (part-within parts (c.len-last.result - 1) part last) in
    let short : part.content + length c.args.bytes.now < 2 ^ 64 =
    omega (arith, within, fits, sound.short, sound.whole) in
    search (rules, short)

pub invariant_of-self : goal.invariant_of-self
invariant_of-self c =
    let sound = c.self.invariant in
    let parts = c.self.inside.parts.items in
    let bytes = c.args.bytes.now in
    let part = c.index_mut.result.now in
    let n = c.len-last.result - 1 in
    let fits : length bytes ≤ c.self.inside.bytes = search rules in
    let made_some : 0 < length (files_in parts c.self.inside.text.items) =
    subst (λ (s : FileStore). 0 < length s.made) (sym c.self.view_is) c.requires in
    let some : 0 < length parts = rw (length-files_in parts c.self.inside.text.items) at made_some in
    let count : c.len-last.result ≡ length parts = search rules in
    let last : n < length parts = omega (arith, some, count) in
    let ok : IsOk c.extend_from_slice.result =
    c.extend_from_slice.ensures.succeeds (omega (arith, sound.bytes, fits)) in
    let text : c.extend_from_slice.new.self.items ≡ c.self.inside.text.items ++ bytes = search (rules, ok) in
    let size : vec_len c.extend_from_slice.new.self ≡ vec_len c.self.inside.text + length bytes = search (rules, ok) in
    let more : length_of (slice_set parts n record { name = part.name; content = part.content + length bytes })
    ≡ length_of parts + length bytes =
    subst (λ (p : Part). length_of (slice_set parts n record { name = p.name; content = p.content + length bytes })
    ≡ length_of parts + length bytes) (sym c.index_mut.ensures.value)
    (length_of-more parts n (length bytes) part last) in
    record {
      whole = rw (more, text, length-append) (omega (arith, sound.whole));
      files = sound.files;
      bytes = omega (arith, size, sound.bytes, c.extend_from_slice.ensures.capacity, fits);
      short = rw (text, length-append) (omega (arith, sound.short, fits));
    }

pub returns-clause-added : goal.returns-clause-added
returns-clause-added c =
    let store = c.self.inside in
    let parts = store.parts.items in
    let bytes = c.args.bytes.now in
    let part = c.index_mut.result.now in
    let n = c.len-last.result - 1 in
    let fits : length bytes ≤ store.bytes = search rules in
    let made_some : 0 < length (files_in parts c.self.inside.text.items) =
    subst (λ (s : FileStore). 0 < length s.made) (sym c.self.view_is) c.requires in
    let some : 0 < length parts = rw (length-files_in parts c.self.inside.text.items) at made_some in
    let count : c.len-last.result ≡ length parts = search rules in
    let last : length parts ≡ suc n = omega (arith, some, count) in
    let ok : IsOk c.extend_from_slice.result =
    c.extend_from_slice.ensures.succeeds (omega (arith, c.self.invariant.bytes, fits)) in
    let text : c.extend_from_slice.new.self.items ≡ store.text.items ++ bytes = search (rules, ok) in
    let longer : Part → List Part = λ p. slice_set parts n
    record { name = p.name; content = p.content + length bytes } in
    let with : Files → FileStore = λ made. record {
      made = made;
      files = store.files;
      bytes =
          store.bytes - length bytes;
    } in
    let made : files_in (longer part) c.extend_from_slice.new.self.items
    ≡ with_bytes bytes (files_in parts store.text.items) =
    rw text (subst (λ (p : Part). files_in (longer p) (store.text.items ++ bytes)
    ≡ with_bytes bytes (files_in parts store.text.items)) (sym c.index_mut.ensures.value)
    (files_in-bytes parts n part store.text.items bytes last c.self.invariant.whole)) in
    λ _. subst (λ (s : FileStore). with (files_in (longer part) c.extend_from_slice.new.self.items)
    ≡ store_with_bytes bytes s) c.self.view_is (ap with made)
