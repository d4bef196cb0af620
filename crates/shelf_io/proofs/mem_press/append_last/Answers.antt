-- Answers to the goals of `append_last` in src/mem_press.rt.
use Rattle.std.proofs.Common.{arith, ap, List, ℕ, ◌-◌, length, string_bytes, slice_index_or}
use Rattle.std.proofs.Math.Seq.{map-set_same}
use Rattle.shelf_io.specs.MemoryFile.{named_bytes}
use Rattle.shelf_io.proofs.Made.{with_bytes-place, on_err_always}
use Rattle.shelf_io.proofs.mem_press.append_last.Goals as goal

pub returns-clause-ok : goal.returns-clause-ok
returns-clause-ok c =
    with_bytes-place c.args.made.now c.index-made-last.result _ c.args.bytes.now (length c.args.made.now - 1)
    (omega (arith, c.requires)) c.in_ok-extend_from_slice.ensures.items

pub returns-in_err-extend_from_slice-clause-err : goal.returns-in_err-extend_from_slice-clause-err
returns-in_err-extend_from_slice-clause-err c =
    let made = c.args.made.now in
    let last = length made - 1 in
    let file = c.index-made-last.result in
    on_err_always _ (map-set_same named_bytes made last _ file
    (ap (λ (bytes : List ℕ). (string_bytes (slice_index_or made last file).name, bytes))
    c.in_err-extend_from_slice.ensures.items))
