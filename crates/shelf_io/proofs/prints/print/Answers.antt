-- Answers to the goals of `print` in src/prints.rt.
use Rattle.std.proofs.Common.{length, inr}
use Rattle.std.proofs.Math.Seq.{take-length}
use Rattle.shelf_io.proofs.Made.{printed, kept-refl, on_err_always}
use Rattle.shelf_io.proofs.prints.print.Goals as goal

pub returns-in_err-put-clause-err : goal.returns-in_err-put-clause-err
returns-in_err-put-clause-err g c =
    let made = g.P.Press.made in
    let front = c.in_err-put.ensures.err in
    on_err_always _ (inr (
      front.0,
      printed (made c.args.press.now) (made c.begin.new.self) (made c.put.new.press)
          (made c.put.new.press) c.args.name.now _ c.in_ok-begin.ensures.ok front.2 (kept-refl (made c.put.new.press)),
    ))

pub returns-in_err-end-clause-err : goal.returns-in_err-end-clause-err
returns-in_err-end-clause-err g c =
    let made = g.P.Press.made in
    let bytes = c.args.bytes.now in
    on_err_always _ (inr (
      length bytes,
      rw take-length
          (printed (made c.args.press.now) (made c.begin.new.self) (made c.put.new.press) (made c.end.new.self)
          c.args.name.now bytes c.in_ok-begin.ensures.ok c.in_ok-put.ensures.ok c.in_err-end.ensures.made),
    ))

pub returns-clause-ok : goal.returns-clause-ok
returns-clause-ok g c =
    let made = g.P.Press.made in
    printed (made c.args.press.now) (made c.begin.new.self) (made c.put.new.press) (made c.end.new.self) c.args.name.now
    c.args.bytes.now c.in_ok-begin.ensures.ok c.in_ok-put.ensures.ok c.in_ok-end.ensures.made
