pub mod Listing
pub mod Opening
pub mod Banks
pub mod Examples
