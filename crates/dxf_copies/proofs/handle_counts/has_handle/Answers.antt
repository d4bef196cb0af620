-- Answers to the goals of `has_handle` in src/handle_counts.rt.
use Rattle.std.proofs.Common.{◌∙◌, ap, pos, length, nat_lt}
use Rattle.std.specs.Prelude.{filter}
use Rattle.dxf_entities.specs.Entities.{is_coded}
use Rattle.dxf_entities.proofs.Lists.{some_pass}
use Rattle.dxf_copies.proofs.handle_counts.has_handle.Goals as goal

pub returns : goal.returns
returns c = c.has_field.ensures ∙ (some_pass (is_coded (pos 5)) c.fields_of.result.now
    ∙ ap (λ fields. nat_lt 0 (length (filter (is_coded (pos 5)) fields))) c.fields_of.ensures)
