pub mod Down
pub mod Walk
