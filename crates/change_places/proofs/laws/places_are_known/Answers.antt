-- The proof of the law `places_are_known` in src/laws.rt.
use Rattle.change_places.proofs.KnownPlaces.{places_known}
use Rattle.change_places.proofs.laws.places_are_known.Goals as goal

pub returns : goal.returns
returns c = places_known
