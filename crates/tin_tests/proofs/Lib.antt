-- The files of lemmas of tin_tests.
mod PathTiles
mod SegmentTests
mod OwnPieces
