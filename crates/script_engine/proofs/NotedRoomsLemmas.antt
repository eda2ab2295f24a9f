-- The notes of one table, lent out of those of all tables and left there as the borrower has them.
use Rattle.std.proofs.Common.{◌≡◌, ◌≢◌, ◌<◌, ℕ, zero, suc, List, [], ◌∷◌, Some, ap, arith, get_or, length, refl, set, subst, sym}
use Rattle.std.specs.Prelude.{slice_get}
use Rattle.mdc_words.specs.ByteOrder.{Entry}
use Rattle.mdc_words.proofs.PlacesLemmas.{slice_get-set_other, slice_get-set_same}
use Rattle.mdc_ast.specs.declared.definition.TableDef.{TableDef}
use Rattle.mdc_ast.specs.Definitions.{Definitions, def_at}
use Rattle.mdc_sound.specs.StandingTable.{RoomNote}
use Rattle.free_space.specs.RoomNotes.{room_of}
use Rattle.free_space.specs.declared.rooms.Rooms.{Rooms}
use Rattle.script_engine.specs.NotedRooms.{note_in}
use Rattle.script_engine.specs.Ready.{AreServed}
use Rattle.script_engine.proofs.ServedDefsLemmas.{served_below}

-- an element of a list below its length is there, and no other is taken in its place
pub item_below : {X : Type 0} (xs : List X) (i : ℕ) → i < length xs → (x : X) × (slice_get xs i ≡ Some x) × (get_or xs i x ≡ x)
item_below [] i low = absurd (omega (arith, low))
item_below (x ∷ xs) zero low = (x, refl, refl)
item_below (x ∷ xs) (suc i) low = item_below xs i (omega (arith, low))

there : {X : Type 0} (xs : List X) (i : ℕ) (other : X) → i < length xs → slice_get xs i ≡ Some (get_or xs i other)
there [] i other low = absurd (omega (arith, low))
there (x ∷ xs) zero other low = refl
there (x ∷ xs) (suc i) other low = there xs i other (omega (arith, low))

-- a table that is defined has its place among the notes of 16
pub table_below : (defs : Definitions) (rooms : List Rooms) (table : ℕ) (def : TableDef) → AreServed defs → def_at defs table ≡ Some def → length rooms ≡ 16 → table < length rooms
table_below defs rooms table def served at long = omega (arith, served_below defs table def served at, long)

-- what is noted of a table is what the lent notes say
pub room_lent : (rooms : List Rooms) (table : ℕ) (other : Rooms) → table < length rooms → note_in (slice_get rooms table) ≡ room_of (get_or rooms table other)
room_lent rooms table other low = ap note_in (there rooms table other low)

-- and what the borrower left
pub room_left : (rooms : List Rooms) (table : ℕ) (left : Rooms) → table < length rooms → note_in (slice_get (set rooms table left) table) ≡ room_of left
room_left rooms table left low = ap note_in (slice_get-set_same rooms table left low)

-- what is noted of the others stays
pub rooms_beside : (rooms : List Rooms) (table : ℕ) (left : Rooms) (other : ℕ) → other ≢ table → note_in (slice_get (set rooms table left) other) ≡ note_in (slice_get rooms other)
rooms_beside rooms table left other apart = ap note_in (slice_get-set_other rooms table left other apart)

-- what is said by the notes that were lent and left is said by those of the table
pub rooms_as : (P : (Entry → RoomNote) → (Entry → RoomNote) → Type 0) {was is lent left : Entry → RoomNote} → was ≡ lent → is ≡ left → P lent left → P was is
rooms_as P {was} {is} {lent} {left} first second said = subst (λ (room : Entry → RoomNote). P room is) (sym first) (subst (P lent) (sym second) said)
