use Rattle.std.proofs.Common.{◌∙◌, subst}
use Rattle.mdc_words.specs.ByteOrder.{Entry}
use Rattle.table_trees.specs.TableTrees.{record_places}
use Rattle.record_index.specs.RecordIndexes.{place_of_record_index}
use Rattle.record_index.specs.SweptLeaf.{SweepsOneLeaf}
use Rattle.row_entries.proofs.RowKeysLemmas.{there_at}
use Rattle.row_entries.proofs.WalkLemmas.{next_place}
use Rattle.cleaner.specs.Passes.{key_width_at}
use Rattle.cleaner.proofs.PassesLemmas.{entries_wide, index_width, steps_done}
use Rattle.cleaner.proofs.sweeping.sweep.Goals as goal

pub returns-clause-among : goal.returns-clause-among
returns-clause-among g c owners places trees i st here =
    let d = c.in_ok-swept.ensures.sweeps owners places trees i st here in
    let def = c.args.def.now in
    let pass = c.args.pass.now in
    let from = c.bytes.ensures ∙ c.begins_at-bound.ensures.begins in
    record {
      owners_now = d.owners_now;
      was = d.was;
      is = d.is;
      there = d.there;
      moves = record {
        next = c.in_ok-swept.swept.next;
        sweeps = subst (λ (bound : Entry). SweepsOneLeaf bound (key_width_at def pass.index) pass.blocks c.in_ok-swept.swept.removed c.in_ok-swept.swept.next d.was d.is) from d.moves;
        on = c.go_on.ensures;
      };
      changes = d.changes;
    }

pub returns-clause-sweeps : goal.returns-clause-sweeps
returns-clause-sweeps g c owners trees st =
    let def = c.args.def.now in
    let pass = c.args.pass.now in
    let which = there_at def.indexes pass.index c.requires.there in
    let at = next_place def pass.index which.0 which.1 in
    let d = returns-clause-among g c owners (record_places def) trees pass.index st at in
    record {
      owners_now = d.owners_now;
      tree = d.was;
      after = d.is;
      there = d.there;
      steps = d.moves;
      changes = d.changes;
      done = steps_done def pass trees d.was d.is d.there c.go_on.new.pass c.in_ok-swept.swept.removed d.moves
          (entries_wide c.args.alloc c.args.shape c.args.pages.now owners (record_places def) trees pass.index (place_of_record_index def pass.index) d.was (index_width def pass.index c.requires.defined c.requires.there) st at d.there);
    }
