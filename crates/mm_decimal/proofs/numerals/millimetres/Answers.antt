-- Answers to the goals of `millimetres` in src/numerals.rt.
use Rattle.std.proofs.Common.{rules}
use Rattle.std.specs.Prelude.{FitsSigned}
use Rattle.std.proofs.lemmas.Int.{to_z-of_z}
use mir.Syntax.{w64}
use Rattle.mm_decimal.proofs.Floors.{view_read, view_too_large}
use Rattle.mm_decimal.proofs.numerals.millimetres.Goals as goal

pub returns-in-Some : goal.returns-in-Some
returns-in-Some c count read view =
    let fits : FitsSigned w64 c.apply_sign.result = search rules in
    simp to_z-of_z (rw c.apply_sign.ensures (view_read c.args.scan count read view c.if-scan-gt-HIGHEST.false
    c.zeros_of.result c.places_of.result c.zeros_of.ensures c.places_of.ensures
    c.in-Some.size (c.in-Some.ensures.size read.digits view.digits)))

pub returns-in-None : goal.returns-in-None
returns-in-None c count read view =
    view_too_large c.args.scan count read view c.if-scan-gt-HIGHEST.false c.zeros_of.result c.places_of.result
    c.zeros_of.ensures c.places_of.ensures
    (c.in-None.ensures.size read.digits view.digits)
