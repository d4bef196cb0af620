-- Answers to the goals of `read_points` in src/points.rt.
use Rattle.std.proofs.Common.{◌≡◌, ◌≤◌, ◌∙◌, ◌+◌, ◌++◌, ◌∷◌, [], ℕ, List, true, false, length, ap, refl, sym, subst, arith}
use Rattle.std.proofs.Common.{All, unsigned_abs, length-append}
use Rattle.std.proofs.lemmas.List.Elements.{All-push}
use Rattle.mm_decimal.specs.declared.limits.TheConstants.{LIMIT}
use Rattle.tin_height.specs.PointTexts.{ArePlaced}
use Rattle.tin_height.proofs.PlacedRows.{placed_more, placed_on}
use Rattle.std.proofs.lemmas.List.{map-append}
use Rattle.std.proofs.lemmas.List.Sums.{sum_by_push}
use Rattle.std.specs.Prelude.{Result, Ok}
use Rattle.sheet_base.specs.declared.faults.LayerFault.{LayerFault}
use Rattle.tin_height.specs.Points.{past_blanks, is_line_end, row_at, reading, ArePointsOf}
use Rattle.tin_height.specs.declared.points.LineRow.{LineRow}
use Rattle.tin_height.specs.declared.points.PointRow.{PointRow}
use Rattle.tin_height.proofs.PointLines.{IsReadTo, nothing_read, blank_line, row_line, row_fault, lines_end}
use Rattle.tin_height.proofs.PointLines.{points_fault}
use Rattle.tin_height.proofs.points.read_points.Goals as goal

pub loop-from-init : goal.loop-from-init
loop-from-init c =
    let none : c.new-rows.result.items ≡ [] = c.new-rows.ensures.items in
    rw none (
      omega arith,
      omega arith,
      ([], nothing_read c.args.how c.args.bytes.now, refl, refl),
      (0, omega arith, omega arith, omega arith),
      λ k d within. absurd (omega (arith, within)),
      omega arith,
      omega arith,
    )

pub loop-from-preserved-then-ends_line : goal.loop-from-preserved-then-ends_line
loop-from-preserved-then-ends_line c =
    let how = c.args.how in let bytes = c.args.bytes.now in let from = c.loop-from.from in
    let whole = reading how bytes in
    let (few, most, rest, order, heights, less, many) = c.loop-from.invariant in
    let (lines, to, rows, sum) = rest in let (past, past_from, past_end, placed) = order in
    let place = c.past_blanks-first.ensures.place in
    let ends : is_line_end bytes (past_blanks bytes from) ≡ true =
    ap (is_line_end bytes) (sym place) ∙ sym c.ends_line.ensures ∙ c.if-ends_line.true in (
      omega (arith, c.past_blanks-first.ensures.within),
      omega (arith, most, c.past_blanks-first.ensures.onward),
      (
        lines,
        subst (λ (f : ℕ). IsReadTo how bytes (f + 1) whole lines) (sym place)
            (blank_line how bytes from whole lines to c.loop-from-test.true ends),
        rows,
        sum,
      ),
      (past, omega (arith, past_from, c.past_blanks-first.ensures.onward), past_end, placed),
      heights,
      omega (arith, less, c.past_blanks-first.ensures.onward),
      many,
    )

pub returns-in_err-line-clause-points : goal.returns-in_err-line-clause-points
returns-in_err-line-clause-points c =
    let how = c.args.how in let bytes = c.args.bytes.now in let from = c.loop-from.from in
    let whole = reading how bytes in
    let (few, most, rest, order, heights, less, many) = c.loop-from.invariant in
    let (lines, to, rows, sum) = rest in let (past, past_from, past_end, placed) = order in
    let place = c.past_blanks-first.ensures.place in
    let ends : is_line_end bytes (past_blanks bytes from) ≡ false =
    ap (is_line_end bytes) (sym place) ∙ sym c.ends_line.ensures ∙ c.if-ends_line.false in
    let fault = c.in_err-line.field-0.0 in
    points_fault fault c.from_residual.result whole c.from_residual.ensures.1
    (row_fault how bytes from whole lines to c.loop-from-test.true ends fault
    (ap (row_at how bytes) (sym place) ∙ sym c.in_err-line.ensures.row))

pub loop-from-preserved : goal.loop-from-preserved
loop-from-preserved c =
    let how = c.args.how in let bytes = c.args.bytes.now in let from = c.loop-from.from in
    let whole = reading how bytes in let line = c.in_ok-line.line in
    let (few, most, rest, order, heights, less, many) = c.loop-from.invariant in
    let (lines, to, rows, sum) = rest in let (past, past_from, past_end, placed) = order in
    let place = c.past_blanks-first.ensures.place in
    let ends : is_line_end bytes (past_blanks bytes from) ≡ false =
    ap (is_line_end bytes) (sym place) ∙ sym c.ends_line.ensures ∙ c.if-ends_line.false in (
      omega (arith, c.in_ok-line.ensures.within),
      omega (arith, most, c.in_ok-line.ensures.few, c.in_ok-line.ensures.onward, c.past_blanks-first.ensures.onward),
      (
        lines ++ line ∷ [],
        row_line how bytes from whole lines to c.loop-from-test.true ends line
            (ap (row_at how bytes) (sym place) ∙ sym c.in_ok-line.ensures.row)
            (omega (arith, sym place, c.in_ok-line.ensures.onward)),
        c.in_ok-push.ensures.items ∙ ap (λ (all : List PointRow). all ++ line.row ∷ []) rows
            ∙ sym (map-append (λ (one : LineRow). one.row) lines (line ∷ [])),
        ap (λ (n : ℕ). n + line.inexact) sum ∙ sym (sum_by_push (λ (one : LineRow). one.inexact) lines line),
      ),
      (
        line.row.end,
        omega (arith, c.in_ok-line.ensures.end),
        omega (arith, c.in_ok-line.ensures.end, c.in_ok-line.ensures.within),
        subst (ArePlaced 0 line.row.end) (sym c.in_ok-push.ensures.items)
            (placed_more 0 past line.row.end c.loop-from.rows.items line.row placed
            (omega (arith, past_from, c.past_blanks-first.ensures.onward, c.in_ok-line.ensures.start))
            c.in_ok-line.ensures.order (omega arith)),
      ),
      subst (All (λ (row : PointRow). unsigned_abs row.z ≤ LIMIT)) (sym c.in_ok-push.ensures.items)
          (All-push (λ (row : PointRow). unsigned_abs row.z ≤ LIMIT) c.loop-from.rows.items line.row heights
          c.in_ok-line.ensures.reach),
      omega (
        arith,
        less,
        ap length c.in_ok-push.ensures.items,
        length-append c.loop-from.rows.items (line.row ∷ []),
        c.in_ok-line.ensures.onward,
        c.past_blanks-first.ensures.onward,
      ),
      omega (
        arith,
        less,
        ap length c.in_ok-push.ensures.items,
        length-append c.loop-from.rows.items (line.row ∷ []),
        c.loop-from-test.true,
      ),
    )

pub returns-clause-points : goal.returns-clause-points
returns-clause-points c =
    let how = c.args.how in let bytes = c.args.bytes.now in let from = c.loop-from.from in
    let whole = reading how bytes in
    let (few, most, rest, order, heights, less, many) = c.loop-from.invariant in
    let (lines, to, rows, sum) = rest in
    let all : whole ≡ Ok lines = lines_end how bytes from whole lines to (omega (arith, c.loop-from-test.false)) in
    subst (λ (read : Result (List LineRow) LayerFault). ArePointsOf (Ok (record {
      rows = c.of.result;
      inexact = c.loop-from.inexact;
    })) read) (sym all) (c.of.ensures ∙ rows, sum)

pub returns-clause-placed : goal.returns-clause-placed
returns-clause-placed c =
    let (few, most, rest, order, heights, less, many) = c.loop-from.invariant in
    let (past, past_from, past_end, placed) = order in
    subst (ArePlaced 0 (length c.args.bytes.now)) (sym c.of.ensures)
    (placed_on 0 past (length c.args.bytes.now) c.loop-from.rows.items placed past_end)
