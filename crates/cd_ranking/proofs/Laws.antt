pub mod Arranged
pub mod Keys
pub mod Ranking
pub mod Same
pub mod Tallied
