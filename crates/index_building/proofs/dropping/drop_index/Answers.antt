use Rattle.std.proofs.Common.{◌<◌, ◌∙◌, length, Some, ap, subst, sym}
use Rattle.mdc_ast.specs.declared.definition.TableDef.{TableDef}
use Rattle.mdc_ast.specs.TableLimits.{IsTableDef}
use Rattle.store_api.proofs.RunsOverPagesLemmas.{runs_exit}
use Rattle.stored_catalog.specs.StoredDefinitions.{AreStored, AreWithinLimits, with_stored}
use Rattle.stored_catalog.proofs.DroppingLemmas.{others_untouched}
use Rattle.stored_catalog.proofs.LeftDefinitionsLemmas.{limits_at, stored_at}
use Rattle.index_building.proofs.DroppedIndexLemmas.{limits_without}
use Rattle.index_building.proofs.DroppingIndexLemmas.{drops, stands_for_less}
use Rattle.index_building.proofs.DroppingIndexRunsLemmas.{freeing_listed, memory_run, writing_listed}
use Rattle.index_building.proofs.PutDefinitionsLemmas.{defines_written, limits_put, of_there, own_number, stored_put}
use Rattle.index_building.proofs.dropping.drop_index.Goals as goal

pub without_index-requires-clause-defined : goal.without_index-requires-clause-defined
without_index-requires-clause-defined g c = own_number c.args.table c.in-Some.def.now (limits_at c.args.catalog.now c.args.table c.in-Some.def.now c.requires.catalog c.in-Some.ensures)

pub returns-in_err-now-clause-runs : goal.returns-in_err-now-clause-runs
returns-in_err-now-clause-runs g c =
    runs_exit c.from_residual.result c.from_residual.ensures.1 (memory_run g.P.Pages c.args.pages.now c.in_err-now.field-0.0 c.in_err-now.ensures.memory)

pub free_index-requires-clause-defined : goal.free_index-requires-clause-defined
free_index-requires-clause-defined g c = own_number c.args.table c.in-Some.def.now (limits_at c.args.catalog.now c.args.table c.in-Some.def.now c.requires.catalog c.in-Some.ensures)

pub returns-in_err-free_index-clause-runs : goal.returns-in_err-free_index-clause-runs
returns-in_err-free_index-clause-runs g c =
    runs_exit c.from_residual-in_err-free_index.result c.from_residual-in_err-free_index.ensures.1
    (freeing_listed g.P.Pages c.args.shape c.args.pages.now c.args.catalog.now c.args.table c.args.index c.in-Some.def.now c.in-Some.ensures c.in_err-free_index.ensures.runs)

pub write_def-requires-clause-limits : goal.write_def-requires-clause-limits
write_def-requires-clause-limits g c =
    let def = c.in-Some.def.now in
    let limits = limits_at c.args.catalog.now c.args.table def c.requires.catalog c.in-Some.ensures in
    subst (IsTableDef c.args.table) (sym c.in_ok-now.ensures.copy) (limits_without c.args.table def c.args.index (of_there (λ (d : TableDef). c.args.index < length d.indexes) _ def c.in-Some.ensures c.requires.index) limits)

pub returns-in_err-write_def-clause-runs : goal.returns-in_err-write_def-clause-runs
returns-in_err-write_def-clause-runs g c =
    runs_exit c.from_residual-in_err-write_def.result c.from_residual-in_err-write_def.ensures.1
    (writing_listed g.P.Pages c.args.shape c.args.pages.now c.args.catalog.now c.args.table c.args.index c.in-Some.def.now c.in-Some.ensures c.requires.place c.free_index.ensures.count c.in_ok-free_index.ensures.runs
    c.in_err-write_def.ensures.runs)

pub put-requires : goal.put-requires
put-requires g c =
    let limits = limits_at c.args.catalog.now c.args.table c.in-Some.def.now c.requires.catalog c.in-Some.ensures in
    (c.requires.place, ap (λ d. d.number) c.in_ok-now.ensures.copy ∙ limits.stands)

pub returns-clause-limits : goal.returns-clause-limits
returns-clause-limits g c =
    let def = c.in-Some.def.now in
    let limits = limits_at c.args.catalog.now c.args.table def c.requires.catalog c.in-Some.ensures in
    let now = subst (IsTableDef c.args.table) (sym c.in_ok-now.ensures.copy) (limits_without c.args.table def c.args.index (of_there (λ (d : TableDef). c.args.index < length d.indexes) _ def c.in-Some.ensures c.requires.index) limits) in
    subst AreWithinLimits (sym c.put.ensures) (limits_put c.args.catalog.now c.args.table c.in_ok-now.now now c.requires.catalog)

pub returns-clause-stored : goal.returns-clause-stored
returns-clause-stored g c told stored =
    let def = c.in-Some.def.now in
    let limits = limits_at c.args.catalog.now c.args.table def c.requires.catalog c.in-Some.ensures in
    let now = subst (IsTableDef c.args.table) (sym c.in_ok-now.ensures.copy) (limits_without c.args.table def c.args.index (of_there (λ (d : TableDef). c.args.index < length d.indexes) _ def c.in-Some.ensures c.requires.index) limits) in
    let run = writing_listed g.P.Pages c.args.shape c.args.pages.now c.args.catalog.now c.args.table c.args.index def c.in-Some.ensures c.requires.place c.free_index.ensures.count c.in_ok-free_index.ensures.runs
    c.in_ok-write_def.ensures.runs in
    let saved = c.in_ok-write_def.ensures.saves (c.in_ok-free_index.ensures.runs.works.steady.is_told ∙ told) in
    subst (AreStored (g.P.Pages.state c.write_def.new.pages).work) (sym c.put.ensures)
    (stored_put (g.P.Pages.state c.args.pages.now).work (g.P.Pages.state c.write_def.new.pages).work c.args.catalog.now c.args.table c.in_ok-now.now stored
    (λ u few apart. others_untouched g.P.Pages c.args.shape c.args.pages.now c.write_def.new.pages c.args.table u told run.touches (c.write_def.ensures.count ∙ c.free_index.ensures.count) few apart)
    (defines_written (g.P.Pages.state c.free_index.new.pages).work (g.P.Pages.state c.write_def.new.pages).work c.args.table c.in_ok-now.now now c.in_ok-write_def.ensures.there saved))

pub returns-clause-drops : goal.returns-clause-drops
returns-clause-drops g c told stored view keeps =
    let def = c.in-Some.def.now in
    let saved = c.in_ok-write_def.ensures.saves (c.in_ok-free_index.ensures.runs.works.steady.is_told ∙ told) in
    drops g.P.Pages c.args.shape c.args.notes.now c.free_index.new.notes c.args.pages.now c.free_index.new.pages c.args.table c.args.index def told c.requires.place (of_there (λ (d : TableDef). c.args.index < length d.indexes) _ def c.in-Some.ensures c.requires.index)
    c.free_index.ensures.count c.in_ok-free_index.ensures.runs.works.steady.is_told c.in_ok-free_index.ensures.runs.touches c.in_ok-free_index.ensures.frees
    (stored_at (g.P.Pages.state c.args.pages.now).work c.args.catalog.now c.args.table def stored c.in-Some.ensures) view keeps _
    (saved ∙ ap (λ d. with_stored (g.P.Pages.state c.free_index.new.pages).work c.args.table (Some d)) c.in_ok-now.ensures.copy)

pub returns-clause-stands_for : goal.returns-clause-stands_for
returns-clause-stands_for g c told stored view keeps =
    let def = c.in-Some.def.now in
    let saved = c.in_ok-write_def.ensures.saves (c.in_ok-free_index.ensures.runs.works.steady.is_told ∙ told) in
    stands_for_less g.P.Pages c.args.shape c.args.notes.now c.free_index.new.notes c.args.pages.now c.free_index.new.pages c.args.table c.args.index def told c.requires.place (of_there (λ (d : TableDef). c.args.index < length d.indexes) _ def c.in-Some.ensures c.requires.index)
    c.free_index.ensures.count c.in_ok-free_index.ensures.runs.works.steady.is_told c.in_ok-free_index.ensures.runs.touches c.in_ok-free_index.ensures.frees
    (stored_at (g.P.Pages.state c.args.pages.now).work c.args.catalog.now c.args.table def stored c.in-Some.ensures) view keeps _
    (saved ∙ ap (λ d. with_stored (g.P.Pages.state c.free_index.new.pages).work c.args.table (Some d)) c.in_ok-now.ensures.copy)

pub returns-clause-runs : goal.returns-clause-runs
returns-clause-runs g c =
    writing_listed g.P.Pages c.args.shape c.args.pages.now c.args.catalog.now c.args.table c.args.index c.in-Some.def.now c.in-Some.ensures c.requires.place c.free_index.ensures.count c.in_ok-free_index.ensures.runs
    c.in_ok-write_def.ensures.runs
