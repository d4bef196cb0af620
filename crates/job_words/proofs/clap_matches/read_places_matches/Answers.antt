-- Answers to the goals of `read_places_matches` in src/clap_matches.rt.
use Rattle.clap.specs.Simple.{App}
use Rattle.clap.specs.Walk.{rows_of}
use Rattle.clap.specs.Matches.{found_of}
use Rattle.std.proofs.Common.{◌≡◌, ◌⊎◌, Some, None, IfOk, IfErr, map, string_bytes, subst}
use Rattle.job_words.specs.declared.faults.WordsFault.TheVariants.{NoMemory, Parse}
use Rattle.job_words.specs.Readings.{reading_by}
use Rattle.job_words.proofs.clap_matches.read_places_matches.Goals as goal

pub returns-clause-read : goal.returns-clause-read
returns-clause-read c =
    subst (λ (command : App). IfOk c.matches_by.result
    (λ matches. reading_by command (map string_bytes c.args.words.now) ≡ Some (rows_of (found_of matches))))
    c.in_ok-command.ensures c.matches_by.ensures.read

pub returns-clause-refused : goal.returns-clause-refused
returns-clause-refused c =
    subst (λ (command : App). IfErr c.matches_by.result
    (λ fault. (fault ≡ NoMemory) ⊎ ((fault ≡ Parse) × (reading_by command (map string_bytes c.args.words.now) ≡ None))))
    c.in_ok-command.ensures c.matches_by.ensures.refused
