pub mod Arranged
pub mod Rising
