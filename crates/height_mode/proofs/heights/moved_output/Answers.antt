-- Answers to the goals of `moved_output` in src/heights.rt.
use Rattle.std.proofs.Common.{◌≡◌, ◌+◌, List, [], ◌∷◌, length, false, rules, refl}
use Rattle.std.specs.Prelude.{string_bytes}
use Rattle.runs.specs.declared.output.LayerFile.{LayerFile}
use Rattle.runs.specs.declared.output.RunOutput.{RunOutput}
use Rattle.runs.specs.Output.{name_in}
use Rattle.height_mode.specs.Heights.{heights_text}
use Rattle.height_mode.proofs.HeightSteps.{output_files, output_form}
use Rattle.height_mode.proofs.heights.moved_output.Goals as goal

pub returns-clause-files : goal.returns-clause-files
returns-clause-files c =
    let heights = c.args.heights.now in let tin = c.args.tin.now in let moved = c.args.moved in
    let written : RunOutput = record { layers = c.push.new.self; said = c.of.result; changed = false } in
    let file : LayerFile = record { name = c.in_ok-name.name; text = moved.text } in
    let one : c.push.new.self.items ≡ file ∷ [] = search rules in
    let name : string_bytes c.in_ok-name.name ≡ name_in heights.out heights.points = search rules in
    let said : c.of.result ≡ heights_text (length tin.corners) (length tin.triangles) moved.count
    (tin.inexact + moved.inexact) = search rules in
    output_files heights tin written file moved.count moved.inexact one name said

pub returns-clause-form : goal.returns-clause-form
returns-clause-form c =
    let heights = c.args.heights.now in let tin = c.args.tin.now in let moved = c.args.moved in
    let written : RunOutput = record { layers = c.push.new.self; said = c.of.result; changed = false } in
    let file : LayerFile = record { name = c.in_ok-name.name; text = moved.text } in
    let one : c.push.new.self.items ≡ file ∷ [] = search rules in
    let name : string_bytes c.in_ok-name.name ≡ name_in heights.out heights.points = search rules in
    let said : c.of.result ≡ heights_text (length tin.corners) (length tin.triangles) moved.count
    (tin.inexact + moved.inexact) = search rules in
    output_form heights tin written file moved.count moved.inexact one name said refl
