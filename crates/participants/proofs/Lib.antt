pub mod Cells
pub mod Judged
pub mod Sound
pub mod Kept
pub mod Once
pub mod Over
pub mod Opened
