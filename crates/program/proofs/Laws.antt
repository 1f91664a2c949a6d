pub mod Pieces
pub mod Program
