pub mod ChangeRule
pub mod ChangeTable
pub mod Pairs
pub mod Partners
pub mod Rows
pub mod Texts
pub mod Worked
