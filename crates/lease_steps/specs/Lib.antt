pub mod StandsFor
pub mod Laws
