-- Answers to the goals of `print_text` in src/prints.rt.
use Rattle.std.proofs.Common.{List, ℕ}
use Rattle.shelf_io.specs.Made.{AppendsFront}
use Rattle.shelf_io.proofs.Made.{on_err_always}
use Rattle.place_runs.specs.InsideMaps.{IsMapText}
use Rattle.place_runs.proofs.PrintedMaps.MapPrints.{opened, opening_front, sides_front, last_front, whole_text, end_front}
use Rattle.place_runs.proofs.prints.print_text.Goals as goal

pub returns-in_err-print_changes-clause-err : goal.returns-in_err-print_changes-clause-err
returns-in_err-print_changes-clause-err g c =
    let made = g.P.Press.made in
    let names = c.args.names.now in
    on_err_always _ (opening_front names c.args.map.now (made c.args.press.now) (made c.print_changes.new.press)
    c.add_opening.new.room.items (opened names _ _ c.requires.empty c.add_opening.ensures.text)
    c.in_err-print_changes.ensures.err)

pub returns-in_err-print_rings-clause-err : goal.returns-in_err-print_rings-clause-err
returns-in_err-print_rings-clause-err g c =
    let made = g.P.Press.made in
    let names = c.args.names.now in
    let all : (said : List ℕ) → IsMapText names c.args.map.now said
    → AppendsFront (made c.args.press.now) (made c.print_rings.new.press) said = λ said text.
    sides_front names c.args.map.now (made c.args.press.now) (made c.print_changes.new.press)
    c.add_opening.new.room.items c.print_changes.new.room.items
    (opened names _ _ c.requires.empty c.add_opening.ensures.text) c.in_ok-print_changes.ensures.ok said text
    (made c.print_rings.new.press) c.in_err-print_rings.ensures.err in
    on_err_always _ all

pub returns-in_err-write_out-clause-err : goal.returns-in_err-write_out-clause-err
returns-in_err-write_out-clause-err g c =
    let made = g.P.Press.made in
    let names = c.args.names.now in
    let all : (said : List ℕ) → IsMapText names c.args.map.now said
    → AppendsFront (made c.args.press.now) (made c.write_out.new.press) said = λ said text.
    last_front names c.args.map.now (made c.args.press.now) (made c.print_changes.new.press)
    c.add_opening.new.room.items c.print_changes.new.room.items
    (opened names _ _ c.requires.empty c.add_opening.ensures.text) c.in_ok-print_changes.ensures.ok said text
    (made c.print_rings.new.press) c.print_rings.new.room.items c.in_ok-print_rings.ensures.ok
    (made c.write_out.new.press) c.in_err-write_out.ensures.err in
    on_err_always _ all

pub returns-in_err-put-clause-err : goal.returns-in_err-put-clause-err
returns-in_err-put-clause-err g c =
    let made = g.P.Press.made in
    let names = c.args.names.now in
    let all : (said : List ℕ) → IsMapText names c.args.map.now said
    → AppendsFront (made c.args.press.now) (made c.put.new.press) said = λ said text.
    end_front names c.args.map.now (made c.args.press.now) (made c.print_changes.new.press)
    c.add_opening.new.room.items c.print_changes.new.room.items
    (opened names _ _ c.requires.empty c.add_opening.ensures.text) c.in_ok-print_changes.ensures.ok said text
    (made c.print_rings.new.press) c.print_rings.new.room.items c.in_ok-print_rings.ensures.ok
    (made c.write_out.new.press) c.write_out.new.room.items c.add_end.new.room.items c.in_ok-write_out.ensures.ok
    c.add_end.ensures.text (made c.put.new.press) (rw c.deref.ensures.value at c.in_err-put.ensures.err) in
    on_err_always _ all

pub returns-clause-ok : goal.returns-clause-ok
returns-clause-ok g c said text =
    let made = g.P.Press.made in
    let names = c.args.names.now in
    whole_text names c.args.map.now (made c.args.press.now) (made c.print_changes.new.press)
    c.add_opening.new.room.items c.print_changes.new.room.items
    (opened names _ _ c.requires.empty c.add_opening.ensures.text) c.in_ok-print_changes.ensures.ok said text
    (made c.print_rings.new.press) c.print_rings.new.room.items c.in_ok-print_rings.ensures.ok
    (made c.write_out.new.press) c.write_out.new.room.items c.add_end.new.room.items c.in_ok-write_out.ensures.ok
    c.add_end.ensures.text (made c.put.new.press) (rw c.deref.ensures.value at c.in_ok-put.ensures.ok)
