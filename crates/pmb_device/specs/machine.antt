-- What the private fields say of the signals that came.
pub mod Standing
pub mod Device
