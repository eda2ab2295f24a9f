-- A definition whose record indexes have taken names, and one whose names are free.
use Rattle.std.proofs.Common.{◌≡◌, ◌+◌, ℕ, Option, Some, None, inr, refl, sym, subst}
use Rattle.std.specs.Prelude.{flat_map, slice_set}
use Rattle.mdc_ast.specs.declared.definition.TableDef.{TableDef}
use Rattle.mdc_ast.specs.TableLimits.{IsTableDef}
use Rattle.mdc_ast.specs.ValidDatabase.{index_names}
use Rattle.mdc_ast.specs.Definitions.{AllNamesDiffer, Definitions}
use Rattle.store_api.specs.declared.fault.StoreFault.TheVariants.{Damaged}
use Rattle.stored_catalog.specs.StoredDefinitions.{IsNameTaken, taken_index}
use Rattle.stored_catalog.proofs.IndexNamesLemmas.{index_names_put, none_taken, taken_shares}

-- the place in which a name is taken
pub index_name_taken : (defs : Definitions) (place : Option TableDef) (def : TableDef) (found : ℕ × ℕ) (n : ℕ) → place ≡ Some def → taken_index defs def.indexes ≡ Some found → n ≡ found.0
    → IsNameTaken defs place (Damaged (record { page = 1 + n; rule = 3 }))
index_name_taken defs place def found n is taken at =
    let one = taken_shares defs def.indexes found taken in
    subst (λ n. IsNameTaken defs place (Damaged (record { page = 1 + n; rule = 3 }))) (sym at) (record {
      place = found.0;
      holder = one.has.def;
      mine = def;
      stands = one.has.stands;
      is_mine = is;
      same = inr (record { index = one.has.index; other = one.index; in_first = one.has.there; in_second = one.there; same = one.has.same });
      names = refl;
    })

-- a definition of free names is put
pub index_names_put_new : (defs : Definitions) (t : ℕ) (def : TableDef) → taken_index defs def.indexes ≡ None → IsTableDef t def → AllNamesDiffer (flat_map index_names defs)
    → AllNamesDiffer (flat_map index_names (slice_set defs t (Some def)))
index_names_put_new defs t def free limits all = index_names_put defs t (Some def) all limits.indexes.differ (none_taken defs def.indexes free)

-- or none
pub index_names_left : (defs : Definitions) (t : ℕ) → AllNamesDiffer (flat_map index_names defs) → AllNamesDiffer (flat_map index_names (slice_set defs t None))
index_names_left defs t all = index_names_put defs t None all tt tt
