mod Bytes
mod Fields
mod Messages
mod Joined
