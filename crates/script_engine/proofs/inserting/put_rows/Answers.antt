use Rattle.std.proofs.Common.{◌≡◌, ◌∙◌, List, get_or, length, rules, subst, sym}
use Rattle.std.specs.Prelude.{OnOk}
use Rattle.std.proofs.lemmas.Option.{same_Some}
use Rattle.mdc_words.specs.ByteOrder.{Entry}
use Rattle.extent_map.specs.declared.kind.Kind.{Kind}
use Rattle.mdc_ast.specs.Database.{appended, numbered}
use Rattle.mdc_sound.specs.Placing.{block_slot_count}
use Rattle.mdc_sound.specs.StandingTable.{RoomNote, TableForests}
use Rattle.free_space.specs.RoomNotes.{room_of}
use Rattle.statement_rows.specs.RowsAndSpace.{PutsRowsBy}
use Rattle.statement_rows.specs.RowsOfStatement.{ChangesRowsOf, IsReadyBetween}
use Rattle.store_api.proofs.RunsOverPagesLemmas.{runs_wider}
use Rattle.script_engine.specs.Inserting.{numbered_on}
use Rattle.script_engine.proofs.NotedRoomsLemmas.{room_left, room_lent, rooms_as, table_below}
use Rattle.script_engine.proofs.PuttingTuplesLemmas.{becomes, defs_stay, may_put, number_stays, numbers_on, of_that, tuples_fit}
use Rattle.script_engine.proofs.ReadyTablesLemmas.{ready_between, served_def}
use Rattle.script_engine.proofs.ServedDefsLemmas.{none_made}
use Rattle.script_engine.proofs.inserting.put_rows.Goals as goal

pub insert_rows-result-requires-clause-defined : goal.insert_rows-result-requires-clause-defined
insert_rows-result-requires-clause-defined g c =
    (served_def c.args.tables.now.catalog c.args.table c.in-Some.def c.requires.served (sym c.in-Some.ensures.taken)).limits

pub insert_rows-result-requires-clause-fit : goal.insert_rows-result-requires-clause-fit
insert_rows-result-requires-clause-fit g c =
    let at = sym c.in-Some.ensures.taken in
    tuples_fit c.in-Some.def c.args.tuples (none_made c.args.tables.now.catalog c.args.table c.in-Some.def c.requires.served at)
    (may_put _ c.in-Some.def c.args.tuples at c.requires.there) (of_that _ c.in-Some.def _ at c.requires.unsaid)

pub put-requires : goal.put-requires
put-requires g c =
    let at = sym c.in-Some.ensures.taken in
    let served = served_def c.args.tables.now.catalog c.args.table c.in-Some.def c.requires.served at in
    (served.below, number_stays c.insert_rows-result.result c.in-Some.def c.insert_rows-result.new.def (length c.args.tuples) c.insert_rows-result.ensures.next c.insert_rows-result.ensures.kept ∙ served.number)

pub returns-clause-inserts : goal.returns-clause-inserts
returns-clause-inserts g c def at =
    let long : length c.args.tables.now.rooms.by_table ≡ 16 = search rules in
    let low = table_below c.args.tables.now.catalog c.args.tables.now.rooms.by_table c.args.table def c.requires.served at long in
    let same : c.in-Some.def ≡ def = same_Some c.in-Some.def def (c.in-Some.ensures.taken ∙ at) in
    rooms_as (λ (room room_now : Entry → RoomNote).
    OnOk c.insert_rows-result.result ((owners : List Kind) (forests : TableForests) → IsReadyBetween g.P.Pages c.args.tables.now.shape c.args.tables.now.notes room c.args.pages.now def owners forests
    → ChangesRowsOf g.P.Pages c.args.tables.now.shape c.args.tables.now.notes c.insert_rows-result.new.notes room_now c.args.pages.now c.insert_rows-result.new.pages def (numbered_on def (length c.args.tuples)) owners forests
    (λ was space is. PutsRowsBy def (block_slot_count c.args.tables.now.shape def) was (numbered def.next c.args.tuples) space is) (appended c.args.tuples)))
    (room_lent c.args.tables.now.rooms.by_table c.args.table c.index-tables-table.result low) (room_left c.args.tables.now.rooms.by_table c.args.table c.insert_rows-result.new.rooms low)
    (becomes c.insert_rows-result.result c.in-Some.def c.insert_rows-result.new.def (length c.args.tuples) c.insert_rows-result.ensures.next
    (λ d now. (owners : List Kind) (forests : TableForests)
    → IsReadyBetween g.P.Pages c.args.tables.now.shape c.args.tables.now.notes (room_of (get_or c.args.tables.now.rooms.by_table c.args.table c.index-tables-table.result)) c.args.pages.now d owners forests
    → ChangesRowsOf g.P.Pages c.args.tables.now.shape c.args.tables.now.notes c.insert_rows-result.new.notes (room_of c.insert_rows-result.new.rooms) c.args.pages.now c.insert_rows-result.new.pages d now owners forests
    (λ was space is. PutsRowsBy d (block_slot_count c.args.tables.now.shape d) was (numbered d.next c.args.tuples) space is) (appended c.args.tuples))
    def same c.insert_rows-result.ensures.inserts)

pub returns-clause-numbers : goal.returns-clause-numbers
returns-clause-numbers g c def at =
    numbers_on c.insert_rows-result.result c.in-Some.def c.insert_rows-result.new.def (length c.args.tuples) c.insert_rows-result.ensures.next
    c.args.tables.now.catalog c.take.new.self c.put.new.self c.args.table c.take.ensures.left c.put.ensures def (same_Some c.in-Some.def def (c.in-Some.ensures.taken ∙ at))

pub returns-clause-kept : goal.returns-clause-kept
returns-clause-kept g c =
    let at = sym c.in-Some.ensures.taken in
    defs_stay c.insert_rows-result.result c.in-Some.def c.insert_rows-result.new.def (length c.args.tuples) c.insert_rows-result.ensures.next
    c.args.tables.now.catalog c.take.new.self c.put.new.self c.args.table c.take.ensures.left c.put.ensures c.insert_rows-result.ensures.kept at
    (served_def c.args.tables.now.catalog c.args.table c.in-Some.def c.requires.served at).number

pub returns-clause-runs : goal.returns-clause-runs
returns-clause-runs g c =
    runs_wider c.insert_rows-result.ensures.runs (λ p there mine. mine) (λ p kind. kind)
    (λ damage breaks ready.
    let at = sym c.in-Some.ensures.taken in
    let long : length c.args.tables.now.rooms.by_table ≡ 16 = search rules in
    let low = table_below c.args.tables.now.catalog c.args.tables.now.rooms.by_table c.args.table c.in-Some.def c.requires.served at long in
    let between = ready_between g.P.Pages c.args.pages.now c.args.tables.now c.args.table c.in-Some.def c.requires.served ready at in
    breaks.broken ready.view.owners between.0
    (subst (λ (room : Entry → RoomNote). IsReadyBetween g.P.Pages c.args.tables.now.shape c.args.tables.now.notes room c.args.pages.now c.in-Some.def ready.view.owners between.0)
    (room_lent c.args.tables.now.rooms.by_table c.args.table c.index-tables-table.result low) between.1) tt)
