pub mod State
pub mod Answer
pub mod Protection
pub mod Apply
pub mod Reply
pub mod machine
