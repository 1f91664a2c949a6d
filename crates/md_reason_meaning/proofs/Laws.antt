pub mod Growths
pub mod Greatest
pub mod Numbered
pub mod Indexes
pub mod Listed
pub mod Reason
pub mod ReasonUtf8
