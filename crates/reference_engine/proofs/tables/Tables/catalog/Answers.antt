use Rattle.std.proofs.Common.{◌∙◌, sym, ap}
use Rattle.mdc_ast.specs.Database.{defs_of}
use Rattle.reference_engine.proofs.TablesLemmas.{defs_of-tables_of}
use Rattle.reference_engine.proofs.tables.Tables.catalog.Goals as goal

pub returns : goal.returns
returns c = sym (defs_of-tables_of c.self.inside.catalog c.self.inside.rows.items) ∙ ap defs_of c.self.view_is
