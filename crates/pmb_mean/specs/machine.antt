-- What private fields hold. No public contract needs more of these than the name `HistoryStandsAt`.
pub mod Formats
pub mod History
