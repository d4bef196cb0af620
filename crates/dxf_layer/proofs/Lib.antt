-- The lemmas of dxf_layer, in folders by subject.
mod EntityWalks
mod SheetEdits
mod WrittenDrawings
mod Outcomes
mod Rows
