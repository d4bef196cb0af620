-- Points in both frames, and their images.
pub mod Weights
pub mod Alike
pub mod Agreement
pub mod Converse
pub mod FrameExchange
mod CornerMixes
pub mod SegmentImages
