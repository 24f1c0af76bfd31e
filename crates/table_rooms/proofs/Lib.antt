-- Laws of the readers of a table's rooms.
pub mod RoomLaws
