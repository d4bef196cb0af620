-- Answers to the goals of `read_places` in src/places.rt.
use Rattle.clap.specs.Matches.{found_of}
use Rattle.clap.specs.Walk.{rows_of}
use Rattle.job_words.proofs.PlacesLaws.{kept-answer}
use Rattle.job_words.proofs.places.read_places.Goals as goal

pub returns-clause-kept : goal.returns-clause-kept
returns-clause-kept c =
    kept-answer (rows_of (found_of c.in_ok-matches.matches)) c.places_in.result c.places_in.ensures
