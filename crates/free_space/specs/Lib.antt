pub mod FoundRoom
pub mod RoomNotes
