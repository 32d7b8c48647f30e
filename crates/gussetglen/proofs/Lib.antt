pub mod Unpacked
pub mod Ranges
pub mod Totals
