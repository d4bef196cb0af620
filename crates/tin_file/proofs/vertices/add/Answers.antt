-- Answers to the goals of `add` in src/vertices.rt.
use Rattle.std.proofs.Common.{◌+◌, ◌∷◌, ◌++◌, [], sym, ap, ◌∙◌}
use Rattle.std.specs.Prelude.{if◌then◌else◌}
use Rattle.std.specs.List.{list_any, position_or_len}
use Rattle.indexmap.specs.IndexSet.{insert_key}
use Rattle.tin_file.specs.declared.vertices.Vertices.{Vertices}
use Rattle.tin_file.specs.contracts.vertices.NumbersPartialEq.TheImpl as equality
use Rattle.std.specs.Prelude.{not}
use Rattle.tin_file.proofs.FileRows.RowSteps.{collects}
use Rattle.tin_file.proofs.vertices.add.Goals as goal
use Rattle.tin_file.proofs.vertices.add.Goals.{then-is_new+in_ok-push-in-Ok, else-is_new}

pub returns-in_ok-push-in-Ok-2-clause-added : goal.returns-in_ok-push-in-Ok-2-clause-added
returns-in_ok-push-in-Ok-2-clause-added c rows h =
    let new = c.if-is_new.vertices in
    let old = c.args.vertices.now in
    let numbers = c.numbers_of.ensures in
    let corner = c.args.vertex.corner in
    elim c.if-is_new.branch [
      | then-is_new+in_ok-push-in-Ok w ↦
          collects old (record {
            corners = new.corners;
            numbers = c.push-in-Ok.new.self;
            inexact =
                new.inexact + c.args.vertex.inexact;
          }) c.args.seen.now c.insert_full.new.self rows c.args.vertex h
          c.in-Ok.is_new c.in-Ok.number
          (c.in-Ok.ensures.added ∙ ap (λ n. not (list_any ((equality.eq-value).it n) c.args.seen.now.keys)) numbers)
          (c.in-Ok.ensures.keys ∙ ap (insert_key (equality.eq-value).it c.args.seen.now.keys) numbers)
          (c.in-Ok.ensures.index ∙ ap (λ n. position_or_len ((equality.eq-value).it n) c.args.seen.now.keys) numbers)
          (ap (λ (v : Vertices). v.corners.items) w.vertices-is ∙ w.in_ok-push-in-Ok.ensures.items
          ∙ ap (λ b. if b then old.corners.items ++ corner ∷ [] else old.corners.items) (sym w.if-is_new.true))
          (c.in_ok-push-in-Ok-2.ensures.items ∙ ap (λ (v : Vertices). v.numbers.items ++ c.in-Ok.number ∷ [])
          w.vertices-is)
          (ap (λ (v : Vertices). v.inexact + c.args.vertex.inexact) w.vertices-is)
      | else-is_new w ↦
          collects old (record {
            corners = new.corners;
            numbers = c.push-in-Ok.new.self;
            inexact =
                new.inexact + c.args.vertex.inexact;
          }) c.args.seen.now c.insert_full.new.self rows c.args.vertex h
          c.in-Ok.is_new c.in-Ok.number
          (c.in-Ok.ensures.added ∙ ap (λ n. not (list_any ((equality.eq-value).it n) c.args.seen.now.keys)) numbers)
          (c.in-Ok.ensures.keys ∙ ap (insert_key (equality.eq-value).it c.args.seen.now.keys) numbers)
          (c.in-Ok.ensures.index ∙ ap (λ n. position_or_len ((equality.eq-value).it n) c.args.seen.now.keys) numbers)
          (ap (λ (v : Vertices). v.corners.items) w.vertices-is
          ∙ ap (λ b. if b then old.corners.items ++ corner ∷ [] else old.corners.items) (sym w.if-is_new.false))
          (c.in_ok-push-in-Ok-2.ensures.items ∙ ap (λ (v : Vertices). v.numbers.items ++ c.in-Ok.number ∷ [])
          w.vertices-is)
          (ap (λ (v : Vertices). v.inexact + c.args.vertex.inexact) w.vertices-is)
    ]
