-- The lemmas of wkt_layer, in folders by subject.
mod Grammar
mod Faults
mod CodeReads
mod SheetLaws
mod WrittenLayers
