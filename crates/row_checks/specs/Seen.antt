-- Which rows had their keys looked at.
use Rattle.std.specs.Prelude.{◌≡◌, ℕ, List, IsTrue}
use Rattle.std.specs.BTreeSet.{BTreeSet, contains}
use Rattle.std.specs.Cmp.Lexicographic.{slice_cmp}
use Rattle.std.specs.Global.{Vec}
use Rattle.std.specs.List.{AllByRecursion, list_any}
use Rattle.std.specs.Ordering.{nat_cmp}
use Rattle.std.specs.Str.{bytes_eq}
use Rattle.mdc_values.specs.declared.value.Value.{Value}
use Rattle.row_groups.specs.Keys.{are_small, group_key}

-- the set has the keys of these rows in these columns, and no others
pub record HasSeen (columns : List ℕ) (rows : List (List Value)) (seen : BTreeSet (Vec ℕ)) : Type 0 where
  pub small : AllByRecursion (λ row. IsTrue (are_small columns row)) rows
  pub keys : (key : Vec ℕ) → contains (λ (a b : Vec ℕ). slice_cmp nat_cmp a.items b.items) seen key ≡ list_any (λ row. bytes_eq key.items (group_key columns row)) rows
