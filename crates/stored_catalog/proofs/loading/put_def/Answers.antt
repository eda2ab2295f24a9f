use Rattle.std.proofs.Common.{◌≡◌, ◌∙◌, ℕ, None, Some, ap, refl, subst, sym}
use Rattle.std.specs.Prelude.{flat_map, slice_set}
use Rattle.mdc_ast.specs.Definitions.{AllNamesDiffer, Definitions}
use Rattle.mdc_ast.specs.ValidDatabase.{AllDefsDiffer, index_names}
use Rattle.mdc_ast.proofs.DefinitionsLemmas.{differ_put}
use Rattle.stored_catalog.specs.StoredDefinitions.{IsNameTaken, IsWithinLimits, taken_index}
use Rattle.stored_catalog.proofs.LoadingLemmas.{differ_put_new, name_taken, put_as_it_is}
use Rattle.stored_catalog.proofs.TakenIndexesLemmas.{index_name_taken, index_names_left, index_names_put_new}
use Rattle.stored_catalog.proofs.loading.put_def.Goals as goal

pub returns-in_default-clause-names : goal.returns-in_default-clause-names
returns-in_default-clause-names c differ = subst AllDefsDiffer (sym c.leave.ensures) (differ_put c.args.catalog.now c.args.t None differ tt)

pub returns-in-Some-table-clause-taken : goal.returns-in-Some-table-clause-taken
returns-in-Some-table-clause-taken c =
    let earlier = c.in-Some-table.earlier.now in
    subst (IsNameTaken c.args.catalog.now c.args.def) (sym c.name_taken.ensures)
    (name_taken c.args.catalog.now c.args.def c.in-Some.def earlier earlier.number c.in-Some.is c.in-Some-table.ensures.found c.in-Some-table.ensures.place.0 refl)

pub returns-clause-puts : goal.returns-clause-puts
returns-clause-puts c =
    c.put.ensures ∙ (put_as_it_is c.args.catalog.now c.args.t c.in-Some.def (subst (IsWithinLimits c.args.t) c.in-Some.is c.requires.limits) ∙ ap (λ def. slice_set c.args.catalog.now c.args.t def) (sym c.in-Some.is))

pub returns-clause-names : goal.returns-clause-names
returns-clause-names c differ =
    let defs = c.args.catalog.now in
    subst AllDefsDiffer (sym (c.put.ensures ∙ put_as_it_is defs c.args.t c.in-Some.def (subst (IsWithinLimits c.args.t) c.in-Some.is c.requires.limits))) (differ_put_new defs c.args.t c.in-Some.def c.in_default-table.ensures.place differ)

pub returns-in_default-clause-index_names : goal.returns-in_default-clause-index_names
returns-in_default-clause-index_names c all = subst (λ (defs : Definitions). AllNamesDiffer (flat_map index_names defs)) (sym c.leave.ensures) (index_names_left c.args.catalog.now c.args.t all)

pub returns-in-Some-taken_index-clause-taken : goal.returns-in-Some-taken_index-clause-taken
returns-in-Some-taken_index-clause-taken c =
    let defs = c.args.catalog.now in
    let found : ℕ × ℕ = (c.in-Some-taken_index.earlier, c.in-Some-taken_index.field-0-1) in
    let taken : taken_index defs c.in-Some.def.indexes ≡ Some found = ap (taken_index defs) (sym c.as_slice.ensures) ∙ (sym c.taken_index.ensures.found ∙ c.in-Some-taken_index.is) in
    subst (IsNameTaken defs c.args.def) (sym c.name_taken-in-Some-taken_index.ensures) (index_name_taken defs c.args.def c.in-Some.def found c.in-Some-taken_index.earlier c.in-Some.is taken refl)

pub returns-clause-index_names : goal.returns-clause-index_names
returns-clause-index_names c all =
    let defs = c.args.catalog.now in
    let limits = subst (IsWithinLimits c.args.t) c.in-Some.is c.requires.limits in
    let free : taken_index defs c.in-Some.def.indexes ≡ None = ap (taken_index defs) (sym c.as_slice.ensures) ∙ (sym c.taken_index.ensures.found ∙ c.in_default-taken_index.is) in
    subst (λ (now : Definitions). AllNamesDiffer (flat_map index_names now)) (sym (c.put.ensures ∙ put_as_it_is defs c.args.t c.in-Some.def limits))
    (index_names_put_new defs c.args.t c.in-Some.def free limits all)
