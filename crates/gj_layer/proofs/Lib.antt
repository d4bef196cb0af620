-- The lemmas of gj_layer, in folders by subject.
mod Members
mod Coordinates
mod OpenObjects
mod Outcomes
mod WrittenPaths
mod WrittenValues
