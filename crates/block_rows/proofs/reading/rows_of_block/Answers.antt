use Rattle.std.proofs.Common.{◌∙◌, [], ap, length, map, sym}
use Rattle.std.proofs.lemmas.List.{length-map}
use Rattle.mdc_sound.specs.StandingTable.{pages_of}
use Rattle.mdc_sound.specs.TableRows.{rows_in_block}
use Rattle.block_rows.specs.HeldRows.{placed_row}
use Rattle.block_rows.proofs.GivingLemmas.{qualifying-all}
use Rattle.block_rows.proofs.reading.rows_of_block.Goals as goal

pub returns-clause-rows : goal.returns-clause-rows
returns-clause-rows g c = λ told.
    c.in_ok-scan_block.ensures.given told [] (ap (map placed_row) c.new-hits.ensures.items)
    ∙ qualifying-all c.in-Ok.filter.pred.now (rows_in_block c.args.shape (pages_of g.P.Pages c.args.pages.now) c.args.def.now c.args.block) c.in-Ok.ensures.pred

pub returns-clause-seen : goal.returns-clause-seen
returns-clause-seen g c = λ told.
    let seen = c.in_ok-scan_block.ensures.seen told in
    record {
      there = seen.there;
      forms = seen.forms;
      counted = sym (length-map c.scan_block.new.sink.items placed_row) ∙ ap length (returns-clause-rows g c told);
      read = seen.read;
    }
