use Rattle.std.proofs.Common.{◌≡◌, ◌++◌, ap, arith, length, subst, sym, ◌∙◌, None, Some}
use Rattle.store_api.specs.declared.fault.StoreFault.{StoreFault}
use Rattle.store_api.proofs.RunsOverPagesLemmas.{runs_exit, runs_memory}
use Rattle.entry_tree.specs.EntryBounds.{Bound}
use Rattle.entry_tree.specs.Forest.{leaf_entries}
use Rattle.entry_tree.specs.Reading.{entries_from}
use Rattle.entry_tree.proofs.ReadLeafLemmas.{holds_still}
use Rattle.block_index.specs.PartRanges.{entries_until, walked}
use Rattle.block_index.specs.Reading.{entries_left}
use Rattle.block_index.proofs.PartRangesLemmas.{long_entries}
use Rattle.block_index.proofs.ReadingRunsLemmas.{ReadsTree, reads_more}
use Rattle.block_index.proofs.TakenLemmas.{leaf_counted, leaf_ended, leaf_ended_counted, leaf_walked}
use Rattle.std.specs.Prelude.{map}
use Rattle.std.proofs.lemmas.List.{map-append}
use Rattle.record_index.specs.FoundRids.{rid_in_entry, rid_of_number}
use Rattle.record_index.proofs.in_span.walk_range.Goals as goal

pub returns-in_err-bound-clause-runs : goal.returns-in_err-bound-clause-runs
returns-in_err-bound-clause-runs g c =
    let inv = c.leaves.invariant in
    runs_exit c.from_residual.result c.from_residual.ensures.1 (reads_more g.P.Pages c.args.tree.now c.args.pages.now c.leaves.pages c.read_leaf.new.pages _ inv.runs inv.same c.in_err-bound.ensures.runs)

pub take_rids-requires-clause-long : goal.take_rids-requires-clause-long
take_rids-requires-clause-long g c = long_entries 6 c.args.tree.now.width c.read_leaf.new.leaf.entries (omega (arith, c.requires.within)) c.in_ok-bound.ensures.width

pub take_rids-requires-clause-small : goal.take_rids-requires-clause-small
take_rids-requires-clause-small g c = c.leaves.invariant.small

pub returns-in_err-take_rids-clause-runs : goal.returns-in_err-take_rids-clause-runs
returns-in_err-take_rids-clause-runs g c =
    let inv = c.leaves.invariant in
    let run = reads_more g.P.Pages c.args.tree.now c.args.pages.now c.leaves.pages c.read_leaf.new.pages None inv.runs inv.same c.in_ok-bound.ensures.runs in
    runs_exit c.from_residual-in_err-take_rids.result c.from_residual-in_err-take_rids.ensures.1
    (subst (λ (f : StoreFault). ReadsTree g.P.Pages c.args.tree.now c.args.pages.now c.read_leaf.new.pages (Some f)) (sym c.in_err-take_rids.ensures.memory) (runs_memory run))

pub returns-then-branch-clause-numbers : goal.returns-then-branch-clause-numbers
returns-then-branch-clause-numbers g c t h =
    let inv = c.leaves.invariant in
    let all = leaf_entries t in
    let range = c.args.range.now in
    let given = c.read_leaf.new.leaf.entries in
    let whole = c.in_ok-bound.ensures.read t (holds_still inv.runs.works.steady inv.same h) in
    let before : map rid_in_entry (walked c.args.tree.now.width range all) ≡ map rid_of_number c.leaves.numbers.items ++ map rid_in_entry (entries_until range (entries_from c.bytes.result.now all)) =
    inv.taken t h ∙ ap (λ (b : Bound). map rid_of_number c.leaves.numbers.items ++ map rid_in_entry (entries_until range (entries_left all b))) (c.in-Some.is ∙ ap Some (sym c.bytes.ensures)) in
    leaf_ended (map rid_in_entry) range all given c.bytes.result.now c.in_ok-bound.bound (map rid_of_number c.leaves.numbers.items) (map rid_of_number c.take_rids.new.numbers.items) whole c.in_ok-take_rids.ensures.numbers (c.in_ok-take_rids.ensures.ended c.if-branch.true (entries_left all c.in_ok-bound.bound)) ∙ sym before

pub returns-then-branch-clause-counted : goal.returns-then-branch-clause-counted
returns-then-branch-clause-counted g c t h =
    let inv = c.leaves.invariant in
    let all = leaf_entries t in
    let range = c.args.range.now in
    let given = c.read_leaf.new.leaf.entries in
    let whole = c.in_ok-bound.ensures.read t (holds_still inv.runs.works.steady inv.same h) in
    omega (
      arith,
      inv.counted t h,
      ap (λ (b : Bound). length (entries_until range (entries_left all b))) (c.in-Some.is ∙ ap Some (sym c.bytes.ensures)),
      c.in_ok-take_rids.ensures.counted,
      leaf_ended_counted (map rid_in_entry) range all given c.bytes.result.now c.in_ok-bound.bound (map rid_of_number c.leaves.numbers.items) (map rid_of_number c.take_rids.new.numbers.items) whole c.in_ok-take_rids.ensures.numbers (c.in_ok-take_rids.ensures.ended c.if-branch.true (entries_left all c.in_ok-bound.bound)),
    )

pub returns-then-branch-clause-runs : goal.returns-then-branch-clause-runs
returns-then-branch-clause-runs g c =
    let inv = c.leaves.invariant in
    reads_more g.P.Pages c.args.tree.now c.args.pages.now c.leaves.pages c.read_leaf.new.pages None inv.runs inv.same c.in_ok-bound.ensures.runs

pub leaves-preserved : goal.leaves-preserved
leaves-preserved g c =
    let inv = c.leaves.invariant in
    let range = c.args.range.now in
    let given = c.read_leaf.new.leaf.entries in
    record {
      same = c.in_ok-bound.ensures.same ∙ inv.same;
      going = c.in_ok-bound.ensures.runs.works.steady.ended ∙ inv.going;
      runs = reads_more g.P.Pages c.args.tree.now c.args.pages.now c.leaves.pages c.read_leaf.new.pages None inv.runs inv.same c.in_ok-bound.ensures.runs;
      fits = c.in_ok-bound.ensures.next;
      small = c.in_ok-take_rids.ensures.small;
      taken = λ t h.
          let all = leaf_entries t in
          let whole = c.in_ok-bound.ensures.read t (holds_still inv.runs.works.steady inv.same h) in
          inv.taken t h ∙ (ap (λ (b : Bound). map rid_of_number c.leaves.numbers.items ++ map rid_in_entry (entries_until range (entries_left all b))) (c.in-Some.is ∙ ap Some (sym c.bytes.ensures))
          ∙ leaf_walked (map rid_in_entry) range all given c.bytes.result.now c.in_ok-bound.bound (map rid_of_number c.leaves.numbers.items) (map rid_of_number c.take_rids.new.numbers.items) whole c.in_ok-take_rids.ensures.numbers (c.in_ok-take_rids.ensures.goes_on c.if-branch.false (entries_left all c.in_ok-bound.bound)) (map-append rid_in_entry));
      counted = λ t h.
          let all = leaf_entries t in
          let whole = c.in_ok-bound.ensures.read t (holds_still inv.runs.works.steady inv.same h) in
          omega (
            arith,
            inv.counted t h,
            ap (λ (b : Bound). length (entries_until range (entries_left all b))) (c.in-Some.is ∙ ap Some (sym c.bytes.ensures)),
            c.in_ok-take_rids.ensures.counted,
            leaf_counted (map rid_in_entry) range all given c.bytes.result.now c.in_ok-bound.bound (map rid_of_number c.leaves.numbers.items) (map rid_of_number c.take_rids.new.numbers.items) whole c.in_ok-take_rids.ensures.numbers (c.in_ok-take_rids.ensures.goes_on c.if-branch.false (entries_left all c.in_ok-bound.bound)),
          );
    }
