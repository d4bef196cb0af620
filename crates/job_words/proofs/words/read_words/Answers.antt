-- Answers to the goals of `read_words` in src/words.rt.
use Rattle.std.proofs.Common.{inr, sym, ◌∙◌, ap, map, string_bytes, Err}
use Rattle.std.proofs.lemmas.Result.{err_from_is_err_and}
use Rattle.clap.specs.Matches.{found_of}
use Rattle.clap.specs.Walk.{rows_of}
use Rattle.job_words.specs.declared.faults.WordsFault.TheVariants.{NoMode}
use Rattle.job_words.specs.Modes.{mode_of}
use Rattle.job_words.proofs.Answered.{answered-fault, answered-job, mode-answer, modeless, read-answer, unread-answer}
use Rattle.job_words.proofs.Answered.{wordless}
use Rattle.job_words.proofs.JobLaws.{kept-answer}
use Rattle.job_words.proofs.words.read_words.Goals as goal

pub returns-in_default-clause-refused : goal.returns-in_default-clause-refused
returns-in_default-clause-refused c =
    answered-fault (map string_bytes c.args.words.now) (Err NoMode)
    (inr (sym (wordless string_bytes c.args.words.now (sym c.in_default.ensures.value))))

pub returns-in_default-of-clause-refused : goal.returns-in_default-of-clause-refused
returns-in_default-of-clause-refused c =
    answered-fault (map string_bytes c.args.words.now) (Err NoMode)
    (inr (sym (modeless string_bytes c.args.words.now c.in-Some.word.now (sym c.in-Some.ensures.value)
    (sym (c.in_default-of.ensures ∙ ap mode_of c.as_str.ensures.value)))))

pub returns-in_err-matches-clause-refused : goal.returns-in_err-matches-clause-refused
returns-in_err-matches-clause-refused c =
    let words = map string_bytes c.args.words.now in
    let mode = c.in-Some-of.mode in
    let p = err_from_is_err_and c.from_residual.result c.from_residual.ensures.1 in
    answered-fault words c.from_residual.result
    (mode-answer string_bytes c.args.words.now c.in-Some.word.now mode c.from_residual.result
    (sym c.in-Some.ensures.value) (sym (c.in-Some-of.ensures ∙ ap mode_of c.as_str.ensures.value))
    (rw (p.1, p.2) (unread-answer words mode c.in_err-matches.field-0.0 c.in_err-matches.ensures.refused)))

pub returns-clause-job : goal.returns-clause-job
returns-clause-job c =
    let words = map string_bytes c.args.words.now in
    let mode = c.in-Some-of.mode in
    answered-job words c.job_of.result
    (mode-answer string_bytes c.args.words.now c.in-Some.word.now mode c.job_of.result
    (sym c.in-Some.ensures.value) (sym (c.in-Some-of.ensures ∙ ap mode_of c.as_str.ensures.value))
    (read-answer words mode (rows_of (found_of c.in_ok-matches.matches)) c.job_of.result c.in_ok-matches.ensures.read
    c.job_of.ensures))

pub returns-clause-kept : goal.returns-clause-kept
returns-clause-kept c =
    kept-answer c.in-Some-of.mode (rows_of (found_of c.in_ok-matches.matches)) c.job_of.result c.job_of.ensures

pub returns-clause-refused : goal.returns-clause-refused
returns-clause-refused c =
    let words = map string_bytes c.args.words.now in
    let mode = c.in-Some-of.mode in
    answered-fault words c.job_of.result
    (mode-answer string_bytes c.args.words.now c.in-Some.word.now mode c.job_of.result
    (sym c.in-Some.ensures.value) (sym (c.in-Some-of.ensures ∙ ap mode_of c.as_str.ensures.value))
    (read-answer words mode (rows_of (found_of c.in_ok-matches.matches)) c.job_of.result c.in_ok-matches.ensures.read
    c.job_of.ensures))
