-- What is found in the block indexes.
use Rattle.std.specs.Prelude.{◌≡◌, ◌<◌, ◌+◌, ◌-◌, ◌^◌, ◌==◌, ℕ, Bool, IsTrue, List, [], ◌∷◌, length, count_by, Option, Some, None, Contains, if◌then◌else◌}
use Rattle.std.specs.Slice.Scan.{big_endian}
use Rattle.mdc_words.specs.ByteOrder.{Entry}
use Rattle.mdc_values.specs.declared.value.Value.{Value}
use Rattle.mdc_values.specs.declared.value.Value.TheVariants.{Null}
use Rattle.mdc_ast.specs.declared.definition.ColumnDef.{ColumnDef}
use Rattle.mdc_ast.specs.declared.span.Span.{Span}
use Rattle.key_codec.specs.Spans.{lies_in_span}
use Rattle.entry_tree.specs.EntryBounds.{Bound, IsEntryOf}
use Rattle.entry_tree.specs.Reading.{entries_from}
use Rattle.block_index.specs.Cells.{FitPlaces, entry_under, key_of_values}
use Rattle.block_index.specs.Numbered.{FindsNumber, IsLowestNumber}

-- ---- under one key

-- these are the blocks that an index has under a key
pub record AreBlocksUnder (key : List ℕ) (entries : List Entry) (blocks : List ℕ) : Type 0 where
  pub all : (block : ℕ) → block < 2 ^ 32 → IsEntryOf (entry_under key block) entries → Contains blocks block
  pub only : (block : ℕ) → Contains blocks block → IsEntryOf (entry_under key block) entries

-- the lowest block from a number on that an index has under a key
abbrev pub IsLowestUnder : List ℕ → List Entry → ℕ → ℕ → Type 0
IsLowestUnder key entries from block = IsLowestNumber 4 key entries from block

-- the same, or that there is none
abbrev pub FindsUnder : List ℕ → List Entry → ℕ → Option ℕ → Type 0
FindsUnder key entries from block = FindsNumber 4 key entries from block

-- ---- listed under values

-- an index of the columns in these places lists a block under values, which have keys there
pub record IsListed (columns : List ColumnDef) (places : List ℕ) (entries : List Entry) (values : List Value) (block : ℕ) : Type 0 where
  pub fit : FitPlaces columns places values
  pub many : length values ≡ length places
  pub small : block < 2 ^ 32
  pub there : IsEntryOf (entry_under (key_of_values columns places values) block) entries

-- an entry lists a block under some values
pub record IsKeyedEntry (columns : List ColumnDef) (places : List ℕ) (entries : List Entry) (entry : Entry) : Type 0 where
  pub values : List Value
  pub block : ℕ
  pub entry_is : entry ≡ entry_under (key_of_values columns places values) block
  pub listed : IsListed columns places entries values block

-- each entry lists a block under some values
abbrev pub AreKeyed : List ColumnDef → List ℕ → List Entry → Type 0
AreKeyed columns places entries = (entry : Entry) → IsEntryOf entry entries → IsKeyedEntry columns places entries entry

-- ---- within a span

-- the value that stands beside a column, at its first place
abbrev pub value_beside : List ℕ → List Value → ℕ → Value
value_beside [] values column = Null
value_beside (place ∷ places) [] column = Null
value_beside (place ∷ places) (value ∷ values) column = if place == column then value else value_beside places values column

-- under the values of a listing a column has a value in the span
abbrev pub LiesInSpan : List ℕ → ℕ → Span → List Value → Type 0
LiesInSpan places column span values = IsTrue (lies_in_span span (value_beside places values column))

-- these are the blocks that an index lists with a value of a column in a span
pub record AreBlocksInSpan (columns : List ColumnDef) (places : List ℕ) (column : ℕ) (span : Span) (entries : List Entry) (blocks : List ℕ) : Type 0 where
  pub all : (values : List Value) (block : ℕ) → IsListed columns places entries values block → LiesInSpan places column span values → Contains blocks block
  pub only : AreKeyed columns places entries → (block : ℕ) → Contains blocks block → (values : List Value) × IsListed columns places entries values block × LiesInSpan places column span values

-- a test of entries tells whether each lists its block with a value of the column in the span
abbrev pub TellsSpan : List ColumnDef → List ℕ → ℕ → Span → List Entry → (Entry → Bool) → Type 0
TellsSpan columns places column span entries lies =
    (values : List Value) (block : ℕ) → IsListed columns places entries values block
    → lies (entry_under (key_of_values columns places values) block) ≡ lies_in_span span (value_beside places values column)

-- the column in the first place, if there is one
abbrev pub IsFirstPlace : List ℕ → ℕ → Type 0
IsFirstPlace [] column = ⊥
IsFirstPlace (place ∷ places) column = place ≡ column

-- How many entries a call that looked for a span counted: where the column is the first of the index, those in the span, and
-- else all.
pub record CountsEntries (columns : List ColumnDef) (places : List ℕ) (column : ℕ) (span : Span) (entries : List Entry) (old new : ℕ) : Type 0 where
  pub first : IsFirstPlace places column → AreKeyed columns places entries → (lies : Entry → Bool) → TellsSpan columns places column span entries lies → new ≡ old + count_by lies entries
  pub other : (IsFirstPlace places column → ⊥) → new ≡ old + length entries

-- ---- leaf by leaf

-- the entries from a bound on, and none where there is no bound
abbrev pub entries_left : List Entry → Bound → List Entry
entries_left entries None = []
entries_left entries (Some bound) = entries_from bound entries

-- how much room there is above a bound of a width; none where there is no bound
abbrev pub room_above : ℕ → Bound → ℕ
room_above width None = 0
room_above width (Some bound) = 256 ^ width - big_endian 0 bound
