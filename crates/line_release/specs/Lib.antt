pub mod Whole
pub mod Both
pub mod PieceSegment
