pub mod Reading
mod Items
