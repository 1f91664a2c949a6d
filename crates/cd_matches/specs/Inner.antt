pub mod Keys
pub mod LayerRead
pub mod Picking
pub mod Put
pub mod Records
