pub mod Bares
pub mod Kept
pub mod Owing
pub mod Said
pub mod Searched
pub mod Tabled
