-- Answers to the goals of `ends_in` in src/formats.rt.
use Rattle.std.proofs.Common.{◌≡◌, ap₂, ◌∙◌, drop, map, subst, true, ◌↔◌, List, ℕ}
use Rattle.std.specs.Char.{to_ascii_lowercase}
use Rattle.std.specs.Str.{str_eq_ignore_ascii_case}
use Rattle.std.proofs.lemmas.List.{take_rest}
use Rattle.std.proofs.lemmas.Slice.Eq.{bytes_eq-Decides}
use Rattle.job_words.proofs.TestValues.{same-test}
use Rattle.job_words.proofs.formats.ends_in.Goals as goal

pub returns : goal.returns
returns c =
    let bytes = c.as_bytes.result.now in
    let ending = c.as_bytes-2.result.now in
    let start = c.saturating_sub-start.result in
    let test = subst (λ (end : List ℕ). (c.eq_ignore_ascii_case.result ≡ true)
    ↔ (map to_ascii_lowercase end ≡ map to_ascii_lowercase ending)) (take_rest bytes start)
    c.eq_ignore_ascii_case.ensures.test in
    let is = same-test c.eq_ignore_ascii_case.result _ test
    (bytes_eq-Decides (map to_ascii_lowercase (drop start bytes)) (map to_ascii_lowercase ending)) in
    is ∙ ap₂ str_eq_ignore_ascii_case (ap₂ drop c.saturating_sub-start.ensures c.as_bytes.ensures.value)
    c.as_bytes-2.ensures.value
