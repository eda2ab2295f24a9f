use Rattle.reference_engine.proofs.CopiedTables.{put_table_is}
use Rattle.reference_engine.proofs.tables.Tables.put_table.Goals as goal

pub returns : goal.returns
returns c =
    put_table_is c.self.inside.catalog c.put.new.self c.self.inside.rows.items c.args.self.now c.args.place c.args.def c.args.rows c.self.view_is c.self.invariant c.requires.1 c.put.ensures
