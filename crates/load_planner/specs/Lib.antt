-- What the line program keeps from line to line and from chunk to chunk.
pub mod Session
