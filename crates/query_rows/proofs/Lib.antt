-- Laws of this crate, in the order in which they use each other.
pub mod RowsIn
pub mod Rooms
pub mod TextRows
pub mod FlatRows
pub mod ReadRows
pub mod KindLaws
