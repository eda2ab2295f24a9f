use Rattle.std.proofs.Common.{◌∙◌, List, ℕ, arith, get_or, refl, subst, sym, take, ap}
use Rattle.std.specs.Prelude.{Contains, IsTrue, MatchBool, map}
use Rattle.store_api.proofs.RunsOverPagesLemmas.{runs_exit, runs_none}
use Rattle.entry_tree.specs.Forest.{Forest, leaf_entries}
use Rattle.table_trees.specs.TableTrees.{place_of_tree}
use Rattle.table_trees.specs.ToldPages.{HasTree, PageList}
use Rattle.mdc_sound.specs.TableRows.{PlacedRow, rows_in_block}
use Rattle.block_rows.specs.HeldRows.{placed_row}
use Rattle.file_check.specs.TableIndexes.{AreReadable, LacksOne, NotesEntries, entries_of_blocks, entry_of_kind, noted_entries}
use Rattle.file_check.proofs.BlockMapsLemmas.{is_listed}
use Rattle.file_check.proofs.UnlessLemmas.{runs_to_damage}
use Rattle.file_check.proofs.IndexJudgingLemmas.{ReadsListed, blocks_more, lacks_of_blocks, notes_then, runs_in_tree, runs_listed, when_false, when_true}
use Rattle.file_check.proofs.RowEntriesLemmas.{notes_none}
use Rattle.file_check.proofs.TableRowsLemmas.{rows_as_before}
use Rattle.file_check.proofs.record_indexes.note_rows.Given.{Over}
use Rattle.file_check.proofs.record_indexes.note_rows.Goals.{In-loop-block, In_ok-note_entries}
use Rattle.file_check.proofs.record_indexes.note_rows.Goals as goal

-- a block is to be read
reads : (g : Over) (c : In-loop-block g)
    → ReadsListed g.P.Pages c.args.shape c.args.def.now c.args.used.now (place_of_tree c.args.index.now.tree) c.args.pages.now c.loop-block.pages (get_or c.as_slice-block-items.result.now c.loop-block.block-index 0)
reads g c =
    let inv = c.loop-block.invariant in
    record { there = is_listed c.as_slice-block-items.result.now c.args.used.now c.loop-block.block-index c.as_slice-block-items.ensures.value c.loop-block-test.true; same = inv.same; runs = inv.runs }

-- what was noted of its rows
notes : (g : Over) (c : In_ok-note_entries g)
    → ReadsListed g.P.Pages c.args.shape c.args.def.now c.args.used.now (place_of_tree c.args.index.now.tree) c.args.pages.now c.loop-block.pages (get_or c.as_slice-block-items.result.now c.loop-block.block-index 0)
    → IsTrue (g.P.Pages.state c.args.pages.now).is_told → AreReadable c.args.shape (g.P.Pages.state c.args.pages.now).work c.args.def.now c.args.used.now
    → (tree : Forest) → HasTree (g.P.Pages.state c.args.pages.now).work (place_of_tree c.args.index.now.tree) tree
    → ((entry : List ℕ) → Contains (noted_entries c.args.noted.now) entry → Contains (leaf_entries tree) entry)
    → MatchBool c.in_ok-note_entries.field-0
    (NotesEntries (map (entry_of_kind c.args.index.now.kind c.args.def.now c.args.index.now.parts) (rows_in_block c.args.shape (g.P.Pages.state c.args.pages.now).work c.args.def.now (get_or c.as_slice-block-items.result.now c.loop-block.block-index 0))) (leaf_entries tree) c.loop-block.noted c.note_entries.new.noted)
    (LacksOne (map (entry_of_kind c.args.index.now.kind c.args.def.now c.args.index.now.parts) (rows_in_block c.args.shape (g.P.Pages.state c.args.pages.now).work c.args.def.now (get_or c.as_slice-block-items.result.now c.loop-block.block-index 0))) (leaf_entries tree))
notes g c read told readable tree has all =
    let inv = c.loop-block.invariant in
    let index = c.args.index.now in
    let entry = entry_of_kind index.kind c.args.def.now index.parts in
    let block = get_or c.as_slice-block-items.result.now c.loop-block.block-index 0 in
    let tells = c.in_ok-hits.ensures.runs.works.steady.is_told ∙ (inv.runs.works.steady.is_told ∙ told) in
    let still = subst (λ (pages : PageList). HasTree pages (place_of_tree index.tree) tree) (sym (c.in_ok-hits.ensures.same ∙ inv.same)) has in
    subst (λ (placed : List PlacedRow). MatchBool c.in_ok-note_entries.field-0 (NotesEntries (map entry placed) (leaf_entries tree) c.loop-block.noted c.note_entries.new.noted) (LacksOne (map entry placed) (leaf_entries tree)))
    (ap (map placed_row) c.deref.ensures.value
    ∙ rows_as_before g.P.Pages c.args.shape c.args.pages.now c.loop-block.pages c.args.def.now block (map placed_row c.in_ok-hits.hits.items) inv.runs.works.steady.is_told inv.same c.in_ok-hits.ensures.rows told (readable block read.there).1)
    (c.in_ok-note_entries.ensures.notes tells tree still (inv.notes told readable tree has all).has)

pub loop-block-init : goal.loop-block-init
loop-block-init g c = record {
  notes = λ told readable tree has all. notes_none (leaf_entries tree) c.args.noted.now all;
  same = refl;
  going = c.requires.going;
  runs = runs_none;
}

pub returns-then-block-shape-clause-runs : goal.returns-then-block-shape-clause-runs
returns-then-block-shape-clause-runs g c =
    let read = reads g (goal.at.returns-then-block-shape-clause-runs g c).In-loop-block in
    runs_to_damage (record { page = c.args.def.now.roots.map; rule = 6 }) c.no_extent.result c.no_extent.ensures read.runs
    (λ told readable tree has. absurd (omega (arith, (readable (get_or c.as_slice-block-items.result.now c.loop-block.block-index 0) read.there).0, c.if-block-shape.true)))

pub returns-in_err-hits-clause-runs : goal.returns-in_err-hits-clause-runs
returns-in_err-hits-clause-runs g c =
    runs_exit c.from_residual.result c.from_residual.ensures.1 (runs_listed (reads g (goal.at.returns-in_err-hits-clause-runs g c).In-loop-block) c.in_err-hits.ensures.runs)

pub returns-in_err-note_entries-clause-runs : goal.returns-in_err-note_entries-clause-runs
returns-in_err-note_entries-clause-runs g c =
    let read = reads g (goal.at.returns-in_err-note_entries-clause-runs g c).In-loop-block in
    runs_exit c.from_residual-in_err-note_entries.result c.from_residual-in_err-note_entries.ensures.1
    (runs_in_tree c.args.shape c.args.def.now c.args.used.now (place_of_tree c.args.index.now.tree) (runs_listed read c.in_ok-hits.ensures.runs) (c.in_ok-hits.ensures.same ∙ read.same) c.in_err-note_entries.ensures.runs)

pub returns-then-not-branch-clause-notes : goal.returns-then-not-branch-clause-notes
returns-then-not-branch-clause-notes g c told readable tree has all =
    let at = goal.at.returns-then-not-branch-clause-notes g c in
    let read = reads g at.In-loop-block in
    lacks_of_blocks c.args.index.now.kind c.args.shape (g.P.Pages.state c.args.pages.now).work c.args.def.now c.args.index.now.parts c.args.used.now (get_or c.as_slice-block-items.result.now c.loop-block.block-index 0) (leaf_entries tree) read.there
    (when_false c.in_ok-note_entries.field-0 _ _ c.if-not-branch.true (notes g at.In_ok-note_entries read told readable tree has all))

pub returns-then-not-branch-clause-runs : goal.returns-then-not-branch-clause-runs
returns-then-not-branch-clause-runs g c =
    let read = reads g (goal.at.returns-then-not-branch-clause-runs g c).In-loop-block in
    runs_in_tree c.args.shape c.args.def.now c.args.used.now (place_of_tree c.args.index.now.tree) (runs_listed read c.in_ok-hits.ensures.runs) (c.in_ok-hits.ensures.same ∙ read.same) c.in_ok-note_entries.ensures.runs

pub loop-block-preserved : goal.loop-block-preserved
loop-block-preserved g c =
    let at = goal.at.loop-block-preserved g c in
    let inv = c.loop-block.invariant in
    let read = reads g at.In-loop-block in
    let index = c.args.index.now in
    let def = c.args.def.now in
    let work = (g.P.Pages.state c.args.pages.now).work in
    let items = c.as_slice-block-items.result.now in
    let block = get_or items c.loop-block.block-index 0 in
    let same = c.in_ok-hits.ensures.same ∙ read.same in
    record {
      notes = λ told readable tree has all.
          subst (λ (wanted : List (List ℕ)). NotesEntries wanted (leaf_entries tree) c.args.noted.now c.note_entries.new.noted)
          (sym (blocks_more index.kind c.args.shape work def index.parts items c.loop-block.block-index block c.loop-block-test.true refl))
          (notes_then (entries_of_blocks index.kind c.args.shape work def index.parts (take c.loop-block.block-index items)) (map (entry_of_kind index.kind def index.parts) (rows_in_block c.args.shape work def block))
          (leaf_entries tree) c.args.noted.now c.loop-block.noted c.note_entries.new.noted (inv.notes told readable tree has all)
          (when_true c.in_ok-note_entries.field-0 _ _ c.if-not-branch.false (notes g at.In_ok-note_entries read told readable tree has all)));
      same = c.in_ok-note_entries.ensures.same ∙ same;
      going = c.in_ok-note_entries.ensures.runs.works.steady.ended ∙ (c.in_ok-hits.ensures.runs.works.steady.ended ∙ inv.going);
      runs = runs_in_tree c.args.shape def c.args.used.now (place_of_tree index.tree) (runs_listed read c.in_ok-hits.ensures.runs) same c.in_ok-note_entries.ensures.runs;
    }
