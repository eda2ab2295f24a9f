-- CREATE INDEX and DROP INDEX on definitions without roots.
use Rattle.std.proofs.Common.{◌≡◌, ◌+◌, ℕ, List, [], ◌∷◌, ◌++◌, ◌∙◌, refl, ap, map, length}
use Rattle.std.specs.Prelude.{Option, Some, None, cond, is_none, is_some, nat_le, option_map}
use Rattle.std.specs.List.{position_from}
use Rattle.std.specs.Option.{option_or}
use Rattle.std.proofs.lemmas.List.{length-map}
use Rattle.mdc_ast.specs.declared.definition.IndexDef.{IndexDef}
use Rattle.mdc_ast.specs.declared.definition.TableDef.{TableDef}
use Rattle.mdc_ast.specs.declared.name.Name.{Name}
use Rattle.mdc_ast.specs.declared.statement.KeyText.{KeyText}
use Rattle.mdc_ast.specs.declared.statement.Stmt.TheVariants as stmt
use Rattle.mdc_ast.specs.Definitions.{Definitions, column_names, def_named, index_in, index_place_from, index_place_of, is_same}
use Rattle.statement_meaning.specs.Binding.{bound_drop_index, bound_of}
use Rattle.statement_meaning.specs.Cause.{IndexExists, Limit, NoIndex, cause_if}
use Rattle.statement_meaning.specs.Judged.{index_judged, judged_of, long_name, long_parts, part_names}
use Rattle.statement_meaning.specs.Judging.{Judged, listed_names, no_fault, on_defined}
use Rattle.mdc_sound.specs.StandsForDatabase.{rootless, rootless_index}

-- the definitions of the plain database are those of the catalog, without roots
abbrev pub without_roots : Definitions → Definitions
without_roots defs = map (option_map rootless) defs

-- ---- looking up

index_from-rootless : (name : Name) (i : ℕ) (indexes : List IndexDef)
    → position_from (λ index. is_same index.name name) i (map rootless_index indexes) ≡ position_from (λ index. is_same index.name name) i indexes
index_from-rootless name i [] = refl
index_from-rootless name i (index ∷ indexes) = ap (cond (is_same index.name name) (Some i)) (index_from-rootless name (i + 1) indexes)

index_in-rootless : (name : Name) (def : Option TableDef) → index_in name (option_map rootless def) ≡ index_in name def
index_in-rootless name None = refl
index_in-rootless name (Some def) = index_from-rootless name 0 def.indexes

index_place_from-without_roots : (table : ℕ) (defs : Definitions) (name : Name) → index_place_from table (without_roots defs) name ≡ index_place_from table defs name
index_place_from-without_roots table [] name = refl
index_place_from-without_roots table (def ∷ defs) name =
    ap (λ found. option_or (option_map (λ index. (table, index)) found) (index_place_from (table + 1) (without_roots defs) name)) (index_in-rootless name def)
    ∙ ap (option_or (option_map (λ index. (table, index)) (index_in name def))) (index_place_from-without_roots (table + 1) defs name)

-- a record index stands in the same place
pub index_place_of-without_roots : (defs : Definitions) (name : Name) → index_place_of (without_roots defs) name ≡ index_place_of defs name
index_place_of-without_roots defs name = index_place_from-without_roots 0 defs name

-- ---- judging

-- what is said of a CREATE INDEX looks at the place of its name, and at the columns and the number of indexes of its table
abbrev index_with : Option (ℕ × ℕ) → Name → List KeyText → TableDef → Judged
index_with place name parts def = record no_fault {
  names = cause_if (is_some place) (IndexExists name);
  columns = listed_names (column_names def.columns) [] (part_names parts);
  limits = long_name name ++ cause_if (nat_le 8 (length def.indexes)) (Limit 8) ++ long_parts def.columns (part_names parts);
}

index_with-rootless : (place : Option (ℕ × ℕ)) (name : Name) (parts : List KeyText) (def : TableDef) → index_with place name parts (rootless def) ≡ index_with place name parts def
index_with-rootless place name parts def =
    ap (λ count. record no_fault {
      names = cause_if (is_some place) (IndexExists name);
      columns = listed_names (column_names def.columns) [] (part_names parts);
      limits = long_name name ++ cause_if (nat_le 8 count) (Limit 8) ++ long_parts def.columns (part_names parts);
    }) (length-map def.indexes rootless_index)

on_rootless : (table : Name) (def : Option TableDef) (place : Option (ℕ × ℕ)) (name : Name) (parts : List KeyText)
    → on_defined table (option_map rootless def) (index_with place name parts) ≡ on_defined table def (index_with place name parts)
on_rootless table None place name parts = refl
on_rootless table (Some def) place name parts = index_with-rootless place name parts def

-- the same is said of a CREATE INDEX
pub create_index-without_roots : (defs : Definitions) (table name : Name) (parts : List KeyText) → def_named (without_roots defs) table ≡ option_map rootless (def_named defs table)
    → on_defined table (def_named (without_roots defs) table) (index_judged (without_roots defs) name parts) ≡ on_defined table (def_named defs table) (index_judged defs name parts)
create_index-without_roots defs table name parts named =
    ap (λ place. on_defined table (def_named (without_roots defs) table) (index_with place name parts)) (index_place_of-without_roots defs name)
    ∙ ap (λ def. on_defined table def (index_with (index_place_of defs name) name parts)) named
    ∙ on_rootless table (def_named defs table) (index_place_of defs name) name parts

-- the same is said of a DROP INDEX, and it is bound to the same
pub drop_index-without_roots : (defs : Definitions) (name : Name)
    → (judged_of (without_roots defs) (stmt.DropIndex name) ≡ judged_of defs (stmt.DropIndex name)) × (bound_of (without_roots defs) (stmt.DropIndex name) ≡ bound_of defs (stmt.DropIndex name))
drop_index-without_roots defs name = (
  ap (λ place. record no_fault { names = cause_if (is_none place) (NoIndex name) }) (index_place_of-without_roots defs name),
  ap bound_drop_index (index_place_of-without_roots defs name),
)
