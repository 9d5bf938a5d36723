pub mod Statuses
mod Sums
pub mod Codes
pub mod UnderFront
pub mod Formats
pub mod Often
pub mod Memory
pub mod Working
pub mod Unread
mod JsonText
mod ScanStatuses
