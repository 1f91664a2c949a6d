pub mod Lendable
pub mod Rooms
