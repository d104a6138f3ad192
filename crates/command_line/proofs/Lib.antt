mod Texts
mod Parsed
mod Stopped
mod Endings
mod Leases
mod Made
