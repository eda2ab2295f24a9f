use Rattle.std.proofs.Common.{IfOk, List, subst, sym}
use Rattle.extent_map.specs.declared.kind.Kind.{Kind}
use Rattle.mdc_sound.specs.StandingTable.{StandsTable, TableForests}
use Rattle.table_scan.specs.FoundRows.{HaveQualifying}
use Rattle.table_scan.specs.SeenTable.{ListsBlocks, blocks_listed}
use Rattle.table_scan.proofs.choosing.listed_blocks.Goals as goal

pub returns-in-Some-clause-lists : goal.returns-in-Some-clause-lists
returns-in-Some-clause-lists g c =
    subst (λ pred. IfOk c.listed_by_cell.result (λ listed. ListsBlocks g.P.Pages c.args.pages.now c.args.def.now pred listed.items)) (sym c.in-Some.is) c.listed_by_cell.ensures.lists

pub returns-in-Some-clause-chosen : goal.returns-in-Some-clause-chosen
returns-in-Some-clause-chosen g c =
    subst (λ pred. IfOk c.listed_by_cell.result (λ listed. (owners : List Kind) (forests : TableForests) → StandsTable g.P.Pages c.args.shape c.args.pages.now c.args.def.now owners forests
    → HaveQualifying g.P.Pages c.args.shape c.args.pages.now c.args.def.now pred (blocks_listed listed.items) forests))
    (sym c.in-Some.is) c.listed_by_cell.ensures.chosen

pub returns-in-None-clause-lists : goal.returns-in-None-clause-lists
returns-in-None-clause-lists g c =
    subst (λ pred. IfOk c.listed_by_map.result (λ listed. ListsBlocks g.P.Pages c.args.pages.now c.args.def.now pred listed.items)) (sym c.in-None.is) c.listed_by_map.ensures.lists

pub returns-in-None-clause-chosen : goal.returns-in-None-clause-chosen
returns-in-None-clause-chosen g c =
    subst (λ pred. IfOk c.listed_by_map.result (λ listed. (owners : List Kind) (forests : TableForests) → StandsTable g.P.Pages c.args.shape c.args.pages.now c.args.def.now owners forests
    → HaveQualifying g.P.Pages c.args.shape c.args.pages.now c.args.def.now pred (blocks_listed listed.items) forests))
    (sym c.in-None.is) c.listed_by_map.ensures.chosen
