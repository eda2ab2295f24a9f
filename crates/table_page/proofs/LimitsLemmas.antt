-- What the limits of a definition say of its names and its lists.
use Rattle.std.specs.Prelude.{◌≤◌, ◌&&◌, nat_le, ℕ, IsTrue, List, length}
use Rattle.std.specs.List.{AllByRecursion, list_all}
use Rattle.std.proofs.lemmas.Bool.{leb-true}
use Rattle.mdc_ast.specs.Classes.{is_name}
use Rattle.mdc_ast.specs.declared.definition.ColumnDef.{ColumnDef}
use Rattle.mdc_ast.specs.declared.definition.IndexDef.{IndexDef}
use Rattle.mdc_ast.specs.declared.name.Name.{Name}
use Rattle.mdc_ast.specs.Definitions.{IsShort, is_good_type}
use Rattle.table_page.specs.Printing.{IsShortIndex}
use Rattle.mdc_ast.specs.TableLimits.{is_kept_word, is_given_name, is_good_column, is_good_source, is_good_dimension, IsGoodIndex}
use Rattle.table_page.proofs.PartsLemmas.{all_weaker, and_left, and_right, each_passes}

pub short_name : (name : Name) → IsTrue (is_given_name name) → IsShort name
short_name name h = leb-true (length name.0) 18 (and_right (is_kept_word name.0 && is_name name.0) (nat_le (length name.0) 18) h)

-- the name of a column may be given
pub name_of_column : (columns : List ColumnDef) (column : ColumnDef) → IsTrue (is_good_column columns column) → IsTrue (is_given_name column.name)
name_of_column columns column h =
    and_left (is_given_name column.name) (is_good_type column.ty)
    (and_left (is_given_name column.name && is_good_type column.ty) (is_good_source columns column.ty column.made) h)

pub short_columns : (columns some : List ColumnDef) → IsTrue (list_all (is_good_column columns) some) → AllByRecursion (λ column. IsShort column.name) some
short_columns columns some h =
    all_weaker (λ column. IsTrue (is_good_column columns column)) (λ column. IsShort column.name) (λ column good. short_name column.name (name_of_column columns column good)) some
    (each_passes (is_good_column columns) some h)

pub few_in_dim : (columns : List ColumnDef) (dim : List ℕ) → IsTrue (is_good_dimension columns dim) → length dim ≤ 16
few_in_dim columns dim h = leb-true (length dim) 16 (and_right _ (nat_le (length dim) 16) (and_left (_ && nat_le (length dim) 16) _ (and_left (_ && nat_le (length dim) 16 && _) _ h)))

pub few_in_dims : (columns : List ColumnDef) (dims : List (List ℕ)) → IsTrue (list_all (is_good_dimension columns) dims) → AllByRecursion (λ dim. length dim ≤ 16) dims
few_in_dims columns dims h =
    all_weaker (λ dim. IsTrue (is_good_dimension columns dim)) (λ dim. length dim ≤ 16) (few_in_dim columns) dims (each_passes (is_good_dimension columns) dims h)

pub short_indexes : (columns : List ColumnDef) (indexes : List IndexDef) → AllByRecursion (IsGoodIndex columns) indexes → AllByRecursion IsShortIndex indexes
short_indexes columns indexes good =
    all_weaker (IsGoodIndex columns) IsShortIndex (λ index is. record { name = short_name index.name is.name; parts = is.few_parts }) indexes good
