pub mod Effects
pub mod Party
pub mod Laws
pub mod Opening
pub mod Books
pub mod Codes
