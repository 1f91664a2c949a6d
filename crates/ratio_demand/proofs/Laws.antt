pub mod Apart
pub mod Demand
pub mod DemandExample
pub mod Summing
