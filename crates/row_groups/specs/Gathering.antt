-- Groups as far as rows have come.
use Rattle.std.specs.Prelude.{◌≡◌, ◌≤◌, ◌<◌, ◌++◌, ℕ, zero, suc, List, [], ◌∷◌, length, map, filter, Bool, IsTrue, Option, Some, None, slice_index_or}
use Rattle.std.specs.BTreeMap.{BTreeMap}
use Rattle.std.specs.Global.{Vec}
use Rattle.std.specs.List.{AllByRecursion, IsDistinct}
use Rattle.std.specs.List.Sorted.{IsPermutation}
use Rattle.std.specs.Map.{keys_of, lookup}
use Rattle.std.specs.Map as entries
use Rattle.std.specs.Str.{bytes_eq}
use Rattle.mdc_ast.specs.declared.row.Row.{Row}
use Rattle.row_groups.specs.declared.grouping.Grouping.{Grouping}
use Rattle.row_groups.specs.declared.grouping.Grouping.TheVariants.{EachRow, AllRows, ByValues}
use Rattle.row_groups.specs.Adding.{Numbered, is_numbered_lower, line_of_row, lines_in}
use Rattle.row_groups.specs.Keys.{are_small, group_key}
use Rattle.row_groups.specs.Lines.{grouping_of, line_of}
use Rattle.row_groups.specs.Numbers.{by_number, values_of}
use Rattle.row_groups.specs.Ordering.{ordered}
use Rattle.row_groups.specs.Shape.{Shape}

-- the shape of the query, the lines that are found by keys, and the others
pub record GroupsSoFar : Type 0 where
  pub shape : Shape
  pub found : List (List ℕ × Numbered)
  pub lines : List Numbered

-- a row has the values with this key
abbrev pub has_key : List ℕ → List ℕ → Row → Bool
has_key columns key row = bytes_eq key (group_key columns row.values)

-- the line of a group of rows by rising number, and none of no rows
abbrev pub line_of_group : Shape → List Row → Option Numbered
line_of_group shape [] = None
line_of_group shape (first ∷ rows) = Some (record { number = first.number; line = line_of shape first.values (values_of (first ∷ rows)) })

-- the entries of a map, each key by its bytes
abbrev pub entries_of : {X : Type 0} → BTreeMap (Vec ℕ) X → List (List ℕ × X)
entries_of {X} found = map {B = List ℕ × X} (λ (e : Vec ℕ × X). (e.0.items, e.1)) found.entries

-- a line of nothing, which stands for one that isn't there
abbrev pub no_line : Numbered
no_line = record { number = 0; line = record { sorts = []; shows = [] } }

-- keys with the lines at their places
abbrev pub lines_at : List Numbered → List (List ℕ × ℕ) → List (List ℕ × Numbered)
lines_at lines places = map {B = List ℕ × Numbered} (λ (e : List ℕ × ℕ). (e.0, slice_index_or lines e.1 no_line)) places

-- so many places, from the last
abbrev pub places_below : ℕ → List ℕ
places_below zero = []
places_below (suc n) = n ∷ places_below n

-- each of so many places has a key of its own
pub record ArePlaced (count : ℕ) (places : List (List ℕ × ℕ)) : Type 0 where
  pub differ : IsDistinct bytes_eq (keys_of places)
  pub all : IsPermutation (places_below count) (entries.values_of places)
  pub below : (key : List ℕ) (place : ℕ) → lookup (bytes_eq key) places ≡ Some place → place < count
  pub apart : (a b : List ℕ) (place : ℕ) → lookup (bytes_eq a) places ≡ Some place → lookup (bytes_eq b) places ≡ Some place → a ≡ b

-- a key has this place, where that is known
abbrev pub IsPlaceOf : Option ℕ → List ℕ → List (List ℕ × ℕ) → Type 0
IsPlaceOf None key places = Unit {0}
IsPlaceOf (Some place) key places = lookup (bytes_eq key) places ≡ Some place

-- what a record of lines and the places of their keys says of itself: the key at hand has the place at hand
pub record IsKeyed (lines : List Numbered) (places : List (List ℕ × ℕ)) (key : List ℕ) (at_hand : Option ℕ) : Type 0 where
  pub placed : ArePlaced (length lines) places
  pub known : IsPlaceOf at_hand key places

-- all lines by rising number: these, and those that are found by keys, no two by the same
pub record AreAllLines (lines : List Numbered) (found : List (List ℕ × Numbered)) (all : List Numbered) : Type 0 where
  pub others : List Numbered
  pub permuted : IsPermutation (entries.values_of found) others
  pub differ : IsDistinct bytes_eq (keys_of found)
  pub same : all ≡ ordered is_numbered_lower (lines ++ others)

-- at each key stands the line of the rows with it
pub record AreFound (shape : Shape) (rows : List Row) (entries : List (List ℕ × Numbered)) : Type 0 where
  pub small : AllByRecursion (λ row. IsTrue (are_small shape.group row.values)) rows
  pub each : (key : List ℕ) → lookup (bytes_eq key) entries ≡ line_of_group shape (filter (has_key shape.group key) (by_number rows))

-- the lines of these rows, by which rows share one
abbrev pub AreGathered : Grouping → Shape → List Row → List (List ℕ × Numbered) → List Numbered → Type 0
AreGathered EachRow shape rows found lines = (found ≡ []) × (lines ≡ map (line_of_row shape) rows)
AreGathered AllRows shape rows found lines = (found ≡ []) × (lines_in lines ≡ line_of shape [] (values_of (by_number rows)) ∷ [])
AreGathered ByValues shape rows found lines = (lines ≡ []) × AreFound shape rows found

-- these are the groups that a query of this shape makes of these rows
pub record AreGroupsOf (shape : Shape) (rows : List Row) (groups : GroupsSoFar) : Type 0 where
  pub shape_is : groups.shape ≡ shape
  pub gathered : AreGathered (grouping_of shape.outs shape.group) shape rows groups.found groups.lines

-- rows share lines as the query says, and the one line of all rows is there
pub record IsGrouped (grouping : Grouping) (shape : Shape) (lines : List Numbered) : Type 0 where
  pub same : grouping ≡ grouping_of shape.outs shape.group
  pub whole : grouping ≡ AllRows → 1 ≤ length lines
