-- What the readers of a table's rooms answer.
pub mod Rooms
