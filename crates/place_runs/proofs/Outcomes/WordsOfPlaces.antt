-- What words of `tinplaces` ask for is that of one job.
use Rattle.std.proofs.Common.{◌≡◌, ℕ, List, Result, Ok, Err, refl, sym}
use Rattle.job_words.specs.declared.faults.WordsFault.{WordsFault}
use Rattle.job_words.specs.declared.places.PlacesJob.{PlacesJob}
use Rattle.job_words.specs.PlacesJobs.{IsPlacesJobOf, places_answer_of, PlacesJobsAreKept}
use Rattle.place_runs.specs.declared.requests.Request.{Request}
use Rattle.place_runs.specs.Words.{AsksPlaces, MayBeCarried, request_of, request_in}

-- a request that is made of a job
pub record IsOfJob (words : List (List ℕ)) (request : Request) : Type 0 where
  pub job : PlacesJob
  pub asks : IsPlacesJobOf words job
  pub is : request ≡ request_of job

by_answer : (words : List (List ℕ)) (answer : Result PlacesJob WordsFault) (request : Request)
    → places_answer_of words ≡ answer → request_in answer ≡ Ok request → IsOfJob words request
by_answer words (Ok job) request is asks =
    record { job = job; asks = is; is = let same : request_of job ≡ request = cc in sym same }
by_answer words (Err fault) request is asks = absurd (cc)

of_job : (words : List (List ℕ)) (request : Request) → AsksPlaces words request → IsOfJob words request
of_job words request asks = by_answer words (places_answer_of words) request refl asks

-- its names may be taken
pub request_kept : PlacesJobsAreKept → (words : List (List ℕ)) (request : Request) → AsksPlaces words request
    → MayBeCarried request.migration
request_kept kept words request asks =
    let own = of_job words request asks in rw own.is (kept words own.job own.asks)
