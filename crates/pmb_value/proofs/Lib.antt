pub mod SomeNearest
