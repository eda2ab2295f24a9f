pub mod CellKeysLemmas
pub mod FoundRoomLemmas
pub mod RoomNotesLemmas
pub mod TableRunsLemmas
