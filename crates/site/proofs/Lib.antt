pub mod Listings
pub mod Examples
