pub mod Burst
pub mod EachLine
pub mod Lines
pub mod LinesBack
