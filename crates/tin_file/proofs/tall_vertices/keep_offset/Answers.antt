-- Answers to the goals of `keep_offset` in src/tall_vertices.rt.
use Rattle.std.proofs.Common.{rules, ◌≡◌, ◌≤◌, ◌<◌, ℕ, sym, ap, ◌∙◌, length, get_or, to_z, of_z, SFits, arith}
use Rattle.std.proofs.lemmas.Int.{to_z-of_z}
use mir.Syntax.{w64}
use Rattle.tin_file.proofs.VerticalComponent.TallRows.{new_pushed, number_so, number_inside, offset_there, old_kept, old_other}
use Rattle.tin_file.proofs.tall_vertices.keep_offset.Goals as goal

pub returns-then-len : goal.returns-then-len
returns-then-len c rows one h =
    let vertices = c.args.vertices.now in let offsets = c.args.offsets.now in
    let less : length offsets.items < length vertices.corners.items =
    omega (arith, c.if-len.true, c.len.ensures, c.len-2.ensures, offsets.ok.0, vertices.corners.ok.0) in
    let f = c.ranges.offset in
    new_pushed vertices offsets.items c.args.row c.args.offset rows one h less c.push.new.self.items
    (simp to_z-of_z at c.in_ok-push.ensures.items)

pub index-requires : goal.index-requires
index-requires c =
    let (rows, one, h) = c.requires in
    let vertices = c.args.vertices.now in let offsets = c.args.offsets.now in
    let more : length vertices.corners.items ≤ length offsets.items =
    omega (arith, c.if-len.false, c.len.ensures, c.len-2.ensures, offsets.ok.0, vertices.corners.ok.0) in
    let is = c.index-number.ensures
    ∙ number_so vertices offsets.items c.args.row c.args.offset rows one h c.index-number.result.now in
    omega (arith, is, number_inside vertices offsets.items c.args.row c.args.offset rows one h more, offsets.ok.0)

pub returns-then-index-offset : goal.returns-then-index-offset
returns-then-index-offset c rows one h =
    let vertices = c.args.vertices.now in let offsets = c.args.offsets.now in
    let more : length vertices.corners.items ≤ length offsets.items =
    omega (arith, c.if-len.false, c.len.ensures, c.len-2.ensures, offsets.ok.0, vertices.corners.ok.0) in
    let is = c.index-number.ensures
    ∙ number_so vertices offsets.items c.args.row c.args.offset rows one h c.index-number.result.now in
    let there = c.index.ensures ∙ ap (λ (k : ℕ). get_or offsets.items k c.index.result.now) is
    ∙ offset_there vertices offsets.items c.args.row c.args.offset rows one h more c.index.result.now in
    let f = c.ranges.offset in
    let g : SFits w64 c.index.result.now = search rules in
    let both : to_z w64 (of_z w64 c.index.result.now) ≡ to_z w64 (of_z w64 c.args.offset) =
    ap (to_z w64) c.if-index-offset.true in
    let same : c.index.result.now ≡ c.args.offset = simp to_z-of_z at both in
    old_kept vertices offsets.items c.args.row c.args.offset rows one h more (sym there ∙ same)

pub returns-else-index-offset : goal.returns-else-index-offset
returns-else-index-offset c rows one h =
    let vertices = c.args.vertices.now in let offsets = c.args.offsets.now in
    let more : length vertices.corners.items ≤ length offsets.items =
    omega (arith, c.if-len.false, c.len.ensures, c.len-2.ensures, offsets.ok.0, vertices.corners.ok.0) in
    let is = c.index-number.ensures
    ∙ number_so vertices offsets.items c.args.row c.args.offset rows one h c.index-number.result.now in
    let there = c.index.ensures ∙ ap (λ (k : ℕ). get_or offsets.items k c.index.result.now) is
    ∙ offset_there vertices offsets.items c.args.row c.args.offset rows one h more c.index.result.now in
    old_other vertices offsets.items c.args.row c.args.offset rows one h more
    (λ same. c.if-index-offset.false (ap (of_z w64) (there ∙ same)))
