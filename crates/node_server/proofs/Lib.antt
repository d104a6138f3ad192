mod Bytes
mod Pieces
mod Writes
