-- Answers to the goals of `print_map` in src/prints.rt.
use Rattle.std.proofs.Common.{codes, length, inr, List, ℕ}
use Rattle.std.proofs.Math.Seq.{take-length}
use Rattle.shelf_io.proofs.Made.{printed, kept-refl, on_err_always}
use Rattle.shelf_io.specs.Made.{PrintsFront}
use Rattle.place_runs.specs.InsideMaps.{IsMapText}
use Rattle.place_runs.proofs.prints.print_map.Goals as goal

pub returns-in_err-print_text-clause-err : goal.returns-in_err-print_text-clause-err
returns-in_err-print_text-clause-err g c =
    let made = g.P.Press.made in
    let all : (said : List ℕ) → IsMapText c.args.names.now c.args.map.now said
    → PrintsFront (made c.args.press.now) (made c.print_text.new.press) (codes "-") said = λ said text.
    let front = c.in_err-print_text.ensures.err said text in
    inr (
      front.0,
      printed (made c.args.press.now) (made c.begin.new.self) (made c.print_text.new.press)
          (made c.print_text.new.press) (codes "-") _ c.in_ok-begin.ensures.ok front.2
          (kept-refl (made c.print_text.new.press)),
    ) in
    on_err_always _ all

pub returns-in_err-end-clause-err : goal.returns-in_err-end-clause-err
returns-in_err-end-clause-err g c =
    let made = g.P.Press.made in
    let all : (said : List ℕ) → IsMapText c.args.names.now c.args.map.now said
    → PrintsFront (made c.args.press.now) (made c.end.new.self) (codes "-") said = λ said text. inr (
      length said,
      rw take-length
          (printed (made c.args.press.now) (made c.begin.new.self) (made c.print_text.new.press) (made c.end.new.self)
          (codes "-") said c.in_ok-begin.ensures.ok (c.in_ok-print_text.ensures.ok said text) c.in_err-end.ensures.made),
    ) in
    on_err_always _ all

pub returns-clause-ok : goal.returns-clause-ok
returns-clause-ok g c said text =
    let made = g.P.Press.made in
    printed (made c.args.press.now) (made c.begin.new.self) (made c.print_text.new.press) (made c.end.new.self)
    (codes "-") said c.in_ok-begin.ensures.ok (c.in_ok-print_text.ensures.ok said text) c.in_ok-end.ensures.made
