mod Cells
mod Mountings
mod Formats
mod Clauses
