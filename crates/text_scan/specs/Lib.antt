pub mod Head
pub mod Piece
pub mod Run
pub mod Parts
