pub mod Keeps
pub mod Shows
