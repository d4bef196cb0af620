-- The files of lemmas of seg_walk.
mod NearCorners
mod FirstTriangles
mod CommonCorners
mod Leave
mod NextTriangles
mod SideSteps
mod Start
mod StepPieces
mod PointSlices
