-- The proof of the law `places_are_json` in src/laws.rt.
use Rattle.change_places.proofs.PlacesJson.{places_json}
use Rattle.change_places.proofs.laws.places_are_json.Goals as goal

pub returns : goal.returns
returns c = places_json
