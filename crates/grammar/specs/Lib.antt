pub mod Machine
pub mod Makes
pub mod Limits
pub mod Lists
pub mod Judged
pub mod Read
