-- The lemmas of place_runs, in folders by subject.
mod LayerPaths
mod PrintedMaps
mod Outcomes
