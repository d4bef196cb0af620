-- Answers to the goals of `put` in src/puts.rt.
use Rattle.std.proofs.Common.{◌+◌, ◌≤◌, ◌∙◌, refl, arith, length-take}
use Rattle.shelf_io.proofs.Made.{Appends-nothing, Appends-more, front-more}
use Rattle.shelf_io.proofs.puts.put.Goals as goal

pub loop-written-init : goal.loop-written-init
loop-written-init g c = record {
  front = omega arith;
  made =
      Appends-nothing (g.P.Press.made c.args.press.now);
  at_hand = c.requires;
  faults = refl;
}

pub loop-written-preserved : goal.loop-written-preserved
loop-written-preserved g c =
    let made = g.P.Press.made in
    let written = c.loop-written.written in
    let count = c.in_ok-written.field-0 in
    let within = c.in_ok-written.ensures.within.1 in
    let short : written + count ≤ c.min-end.result = omega (arith, simp length-take at within) in
    record {
      front = omega arith;
      made = rw (front-more c.args.piece.now written count c.min-end.result short)
          (Appends-more (made c.args.press.now) (made c.loop-written.press) (made c.write.new.self) _ _
          c.loop-written.invariant.made c.in_ok-written.ensures.ok);
      at_hand = c.in_ok-written.ensures.at_hand;
      faults = c.in_ok-written.ensures.cause.same ∙ c.loop-written.invariant.faults;
    }
