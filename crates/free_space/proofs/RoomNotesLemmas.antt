-- What a change of the map of notes makes of what they say.
use Rattle.std.proofs.Common.{◌≡◌, ◌≢◌, ℕ, List, sym, ap, ◌∙◌, subst, inl, inr, Vec, Global, BuildHasherDefault, FoldHasher}
use Rattle.std.specs.Prelude.{false, IsTrue, Option, Some, Result, Ok, Err, OnOk}
use Rattle.std.specs.Option.{unwrap_or}
use Rattle.std.specs.Result.{is_ok}
use Rattle.std.specs.Map.{KeepsOthers, lookup}
use Rattle.std.specs.Str.{bytes_eq}
use Rattle.std.specs.Cmp.Lexicographic.{bytes_decides, nat_list_eq_equiv}
use Rattle.std.specs.HashMap.{HashMap, UpdatesBy}
use Rattle.std.proofs.lemmas.Bool.{false_from_ne_true}
use Rattle.mdc_words.specs.ByteOrder.{Entry}
use Rattle.mdc_sound.specs.StandingTable.{RoomNote}
use Rattle.free_space.specs.RoomNotes.{IsNoted, Notes, SaysNoMore, note_of, room_of}
use Rattle.free_space.specs.declared.rooms.Room.{Room}
use Rattle.free_space.specs.declared.rooms.Rooms.{Rooms}

-- what is looked up by these bytes
abbrev pub noted_at : Entry → List (Vec ℕ Global × Room) → Option Room
noted_at bytes entries = lookup (λ noted. bytes_eq bytes noted.items) entries

-- the map of the notes
abbrev pub NoteMap : Type 0
NoteMap = HashMap (Vec ℕ Global) Room (BuildHasherDefault FoldHasher)

differ : (a b : Entry) → a ≢ b → bytes_eq a b ≡ false
differ a b n = false_from_ne_true (bytes_eq a b) (λ e. n ((bytes_decides a b).0 e))

-- a change at a key leaves what is looked up by other bytes
pub noted_at_other : (bytes other : Entry) (old new : List (Vec ℕ Global × Room)) → KeepsOthers (λ x y. bytes_eq x.items y.items) (λ y. bytes_eq bytes y.items) old new → other ≢ bytes
    → noted_at other new ≡ noted_at other old
unfolding KeepsOthers
noted_at_other bytes other old new kept n =
    kept (λ y. bytes_eq other y.items) (λ x y. nat_list_eq_equiv.congr other x.items y.items)
    (λ k at. differ other k.items (λ e. n (e ∙ sym ((bytes_decides bytes k.items).0 at))))

-- what a note that may be there says
abbrev said : Option Room → RoomNote
said room = note_of (unwrap_or room (record { first = 0; is_of_cell = false }))

-- so it is noted of the cell with that key alone
pub noted_by : (bytes : Entry) (room : Room) (old new : Rooms) → UpdatesBy (λ x y. bytes_eq x.items y.items) (λ y. bytes_eq bytes y.items) old.rooms new.rooms (Some room) → IsNoted bytes (note_of room) old new
noted_by bytes room old new u = record {
  noted = ap said u.1;
  others = λ other n. ap said (noted_at_other bytes other old.rooms.entries new.rooms.entries u.3 n);
}

-- the same of a call that may have failed, and that took a copy of the key
pub noted_where_ok : {T E : Type 0} (bytes copy : Entry) (room : Room) (old new : Rooms) (before : NoteMap) (r : Result T E) → copy ≡ bytes → before ≡ old.rooms → IsTrue (is_ok r)
    → OnOk r (UpdatesBy (λ x y. bytes_eq x.items y.items) (λ y. bytes_eq copy y.items) before new.rooms (Some room)) → IsNoted bytes (note_of room) old new
noted_where_ok bytes copy room old new before (Ok x) same as_before done u =
    subst (λ (b : Entry). IsNoted b (note_of room) old new) same
    (noted_by copy room old new (subst (λ (m : NoteMap). UpdatesBy (λ x y. bytes_eq x.items y.items) (λ y. bytes_eq copy y.items) m new.rooms (Some room)) as_before u))
noted_where_ok bytes copy room old new before (Err e) same as_before done u = cc

-- ---- what callers take of it

-- no more is noted of the cell than this
pub noted_at_most : (key : Entry) (note : RoomNote) (old new : Rooms) → Notes key note old new → SaysNoMore (room_of new key) note
noted_at_most key note old new (inl noted) = inl noted.noted
noted_at_most key note old new (inr none) = inr (none key)

-- and of another one no more than there was
pub others_at_most : (key : Entry) (note : RoomNote) (old new : Rooms) → Notes key note old new → (other : Entry) → other ≢ key → SaysNoMore (room_of new other) (room_of old other)
others_at_most key note old new (inl noted) other differ = inl (noted.others other differ)
others_at_most key note old new (inr none) other differ = inr (none other)
