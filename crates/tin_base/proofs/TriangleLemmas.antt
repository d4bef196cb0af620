-- Where triangles and their corners are, and what a triangulation is known by.
pub mod Members
pub mod TriangleCorners
pub mod TrianglePlaces
pub mod Closeness
pub mod InOrder
pub mod Empty
pub mod TestAnswers
pub mod NearTriangles
