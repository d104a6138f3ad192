pub mod Hmac
pub mod Stamps
pub mod Sealing
pub mod Cluster
pub mod Lives
