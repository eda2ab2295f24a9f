use Rattle.std.proofs.Common.{◌∙◌, ap, length, refl, sym, subst}
use Rattle.std.specs.Prelude.{IsSome}
use Rattle.store_api.proofs.RunsOverPagesLemmas.{runs_then}
use Rattle.entry_tree.proofs.ClaimsLemmas.{if_err_by}
use Rattle.script_engine.proofs.InsertedLemmas.{full_insert, inserted, lacks_never, may_number_back, numbered_back, stands_on}
use Rattle.script_engine.proofs.PuttingTuplesLemmas.{numbers_left, of_that, there_is}
use Rattle.script_engine.proofs.ServedDefsLemmas.{served_below, served_on}
use Rattle.script_engine.specs.Ready.{AreServed}
use Rattle.script_engine.specs.declared.tables.Tables.{Tables}
use Rattle.script_engine.proofs.inserting.put.Goals as goal

pub returns-in_err-put_rows-clause-full : goal.returns-in_err-put_rows-clause-full
returns-in_err-put_rows-clause-full g c =
    let there = there_is _ _ c.requires.there in
    if_err_by c.from_residual.result c.in_err-put_rows.field-0.0 _ c.from_residual.ensures.1
    (full_insert g.P.Pages c.args.pages.now c.args.tables.now c.args.table there.0 c.args.tuples c.in_err-put_rows.field-0.0 c.requires.served there.1 c.requires.silent (c.in_err-put_rows.ensures.full there.0 there.1))

pub save_next-requires-clause-place : goal.save_next-requires-clause-place
save_next-requires-clause-place g c =
    served_below c.args.tables.now.catalog c.args.table (there_is _ _ c.requires.there).0 c.requires.served (there_is _ _ c.requires.there).1

pub save_next-requires-clause-defined : goal.save_next-requires-clause-defined
save_next-requires-clause-defined g c =
    let there = there_is _ _ c.requires.there in
    subst IsSome (sym (stands_on c.args.tables.now.catalog c.put_rows.new.tables.catalog c.args.table there.0 (length c.args.tuples) c.requires.served there.1
    (c.in_ok-put_rows.ensures.numbers there.0 there.1))) refl

pub number_back-requires-clause-served : goal.number_back-requires-clause-served
number_back-requires-clause-served g c =
    let there = there_is _ _ c.requires.there in
    subst AreServed (sym (c.in_ok-put_rows.ensures.numbers there.0 there.1))
    (served_on c.args.tables.now.catalog c.args.table there.0 (length c.args.tuples) c.requires.served there.1 (numbers_left there.0 c.args.tuples (of_that _ there.0 _ there.1 c.requires.unsaid)))

pub number_back-requires-clause-there : goal.number_back-requires-clause-there
number_back-requires-clause-there g c =
    let there = there_is _ _ c.requires.there in
    may_number_back c.args.tables.now.catalog c.put_rows.new.tables.catalog c.args.table there.0 (length c.args.tuples) c.requires.served there.1
    (c.in_ok-put_rows.ensures.numbers there.0 there.1) c.len-count.result c.len-count.ensures

pub returns-in-Ok-clause-does : goal.returns-in-Ok-clause-does
returns-in-Ok-clause-does g c ready =
    let there = there_is _ _ c.requires.there in
    inserted g.P.Pages c.args.pages.now c.put_rows.new.pages c.save_next.new.pages c.args.tables.now c.put_rows.new.tables c.args.table there.0 c.args.tuples c.len-count.result (record {
      served = c.requires.served;
      at = there.1;
      unsaid = of_that _ there.0 _ there.1 c.requires.unsaid;
      silent = c.requires.silent;
      inserts = c.in_ok-put_rows.ensures.inserts there.0 there.1;
      catalog = c.in_ok-put_rows.ensures.numbers there.0 there.1;
      shape = c.in_ok-put_rows.ensures.shape;
      rooms = c.in_ok-put_rows.ensures.rooms;
      told_mid = c.in_ok-put_rows.ensures.runs.works.steady.is_told;
      told_new = c.in-Ok.ensures.runs.works.steady.is_told;
      saves = c.in-Ok.ensures.saves;
      counts = c.len-count.ensures;
    }) ready

pub returns-in-Ok-clause-keeps : goal.returns-in-Ok-clause-keeps
returns-in-Ok-clause-keeps g c =
    let there = there_is _ _ c.requires.there in
    record {
      shape = c.in_ok-put_rows.ensures.shape;
      settings = c.in_ok-put_rows.ensures.settings;
      served = subst AreServed (sym (c.in_ok-put_rows.ensures.numbers there.0 there.1))
          (served_on c.args.tables.now.catalog c.args.table there.0 (length c.args.tuples) c.requires.served there.1 (numbers_left there.0 c.args.tuples (of_that _ there.0 _ there.1 c.requires.unsaid)));
      kept = tt;
    }

pub returns-in-Ok-clause-runs : goal.returns-in-Ok-clause-runs
returns-in-Ok-clause-runs g c =
    let there = there_is _ _ c.requires.there in
    runs_then c.in_ok-put_rows.ensures.runs c.in-Ok.ensures.runs (λ p there mine. tt) (λ p kind. tt)
    (λ damage lacks ready. lacks_never g.P.Pages c.args.pages.now c.put_rows.new.pages c.args.tables.now there.0 c.args.table damage there.1
    c.in_ok-put_rows.ensures.runs.works.no_shorter lacks ready)

pub returns-in-Err-clause-keeps : goal.returns-in-Err-clause-keeps
returns-in-Err-clause-keeps g c =
    let there = there_is _ _ c.requires.there in
    let back = numbered_back c.args.tables.now.catalog c.put_rows.new.tables.catalog c.args.table there.0 (length c.args.tuples) c.requires.served there.1
    (c.in_ok-put_rows.ensures.numbers there.0 there.1) c.len-count.result c.number_back.new.tables.catalog c.len-count.ensures c.number_back.ensures.numbers in
    record { shape = ap (λ (t : Tables). t.shape) c.number_back.ensures.same ∙ c.in_ok-put_rows.ensures.shape; settings = ap (λ (t : Tables). t.settings) c.number_back.ensures.same ∙ c.in_ok-put_rows.ensures.settings; served = subst AreServed (sym back) c.requires.served; kept = back }

pub returns-in-Err-clause-runs : goal.returns-in-Err-clause-runs
returns-in-Err-clause-runs g c =
    let there = there_is _ _ c.requires.there in
    runs_then c.in_ok-put_rows.ensures.runs c.in-Err.ensures.runs (λ p there mine. tt) (λ p kind. tt)
    (λ damage lacks ready. lacks_never g.P.Pages c.args.pages.now c.put_rows.new.pages c.args.tables.now there.0 c.args.table damage there.1
    c.in_ok-put_rows.ensures.runs.works.no_shorter lacks ready)
