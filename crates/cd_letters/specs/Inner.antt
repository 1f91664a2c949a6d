pub mod Gathered
pub mod Lacks
pub mod LayerLetters
pub mod Placing
pub mod Ranked
pub mod Rising
