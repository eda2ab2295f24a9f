use Rattle.std.proofs.Common.{◌≡◌, ◌⊎◌, ◌∙◌, ℕ, List, refl, sym, subst}
use Rattle.std.specs.Prelude.{Contains, ◌↔◌, map}
use Rattle.std.proofs.Common.{take}
use Rattle.store_api.proofs.RunsOverPagesLemmas.{runs_exit, runs_none, runs_then}
use Rattle.entry_tree.specs.Forest.{leaf_entries}
use Rattle.mdc_sound.proofs.ElementsLemmas.{contains_entry, entry_in, in_map}
use Rattle.block_rows.specs.HeldRows.{HasReadValues, placed_row}
use Rattle.file_check.specs.TableIndexes.{NotesEntries, entry_of_kind, noted_entries}
use Rattle.file_check.proofs.UnlessLemmas.{runs_to_memory}
use Rattle.file_check.proofs.RowEntriesLemmas.{entry_width, holds_told, images_more, notes_added, notes_again, notes_none, unless_tree}
use Rattle.file_check.proofs.row_entries.note_entries.Goals as goal

pub loop-hit-init : goal.loop-hit-init
loop-hit-init g c = record {
  notes = λ told tree has all. notes_none (leaf_entries tree) c.args.noted.now all;
  same = refl;
  going = c.requires.going;
  runs = runs_none;
}

pub loop-hit-preserved-then-has : goal.loop-hit-preserved-then-has
loop-hit-preserved-then-has g c =
    let inv = c.loop-hit.invariant in
    let entry_of = entry_of_kind c.args.index.now.kind c.args.def.now c.args.index.now.parts in
    let i = c.loop-hit.hit-index in
    let hits = c.args.hits.now in
    record {
      notes = λ told tree has all.
          subst (λ wanted. NotesEntries wanted (leaf_entries tree) c.args.noted.now c.loop-hit.noted)
          (sym (images_more placed_row entry_of hits i c.hit-item.result c.loop-hit-test.true (sym c.hit-item.is)))
          (notes_again (map entry_of (map placed_row (take i hits))) (leaf_entries tree) (entry_of (placed_row c.hit-item.result)) c.args.noted.now c.loop-hit.noted c.loop-hit.noted (inv.notes told tree has all)
          (subst (Contains (noted_entries c.loop-hit.noted)) (c.deref.ensures.value ∙ c.in_ok-entry.ensures.entry) (c.has.ensures.0 c.if-has.true)));
      same = inv.same;
      going = inv.going;
      runs = inv.runs;
    }

pub has-requires-in-loop-hit-clause-width : goal.has-requires-in-loop-hit-clause-width
has-requires-in-loop-hit-clause-width g c =
    entry_width c.args.def.now c.args.index.now (placed_row c.hit-item.result) c.deref-in-loop-hit.result.now c.requires.index
    (subst (λ hit. HasReadValues c.args.def.now.columns hit.row) (sym c.hit-item.is) (c.requires.read c.loop-hit.hit-index c.hit-item.result c.loop-hit-test.true))
    (c.deref-in-loop-hit.ensures.value ∙ c.in_ok-entry.ensures.entry)

pub returns-in_err-has-clause-runs : goal.returns-in_err-has-clause-runs
returns-in_err-has-clause-runs g c =
    let inv = c.loop-hit.invariant in
    runs_exit c.from_residual-in_err-has.result c.from_residual-in_err-has.ensures.1
    (runs_then inv.runs c.in_err-has.ensures.runs (λ p there mine. mine) (λ p is. tt)
    (λ damage b. unless_tree c.args.pages.now c.loop-hit.pages c.args.index.now.tree damage inv.runs.works.steady.is_told inv.same b))

pub returns-then-not-branch-clause-notes : goal.returns-then-not-branch-clause-notes
returns-then-not-branch-clause-notes g c told tree has all =
    let inv = c.loop-hit.invariant in
    let entry_of = entry_of_kind c.args.index.now.kind c.args.def.now c.args.index.now.parts in
    let hit = c.hit-item.result in
    let held = holds_told c.loop-hit.pages (g.P.Pages.state c.args.pages.now).work c.args.index.now.tree tree (inv.runs.works.steady.is_told ∙ told) inv.same has in
    let there : Contains c.args.hits.now hit = (c.loop-hit.hit-index, c.loop-hit-test.true, sym c.hit-item.is) in (
      entry_of (placed_row hit),
      in_map entry_of (map placed_row c.args.hits.now) (placed_row hit) (in_map placed_row c.args.hits.now hit there),
      λ listed.
          let found = (c.in_ok-has.ensures.has tree held).1 (entry_in (leaf_entries tree) c.deref-in-loop-hit.result.now
          (subst (Contains (leaf_entries tree)) (sym (c.deref-in-loop-hit.ensures.value ∙ c.in_ok-entry.ensures.entry)) listed)) in
          absurd (cc (found, c.if-not-branch.true)),
    )

pub returns-then-not-branch-clause-runs : goal.returns-then-not-branch-clause-runs
returns-then-not-branch-clause-runs g c =
    let inv = c.loop-hit.invariant in
    runs_then inv.runs c.in_ok-has.ensures.runs (λ p there mine. mine) (λ p is. tt)
    (λ damage b. unless_tree c.args.pages.now c.loop-hit.pages c.args.index.now.tree damage inv.runs.works.steady.is_told inv.same b)

pub returns-in_err-add-clause-runs : goal.returns-in_err-add-clause-runs
returns-in_err-add-clause-runs g c =
    let inv = c.loop-hit.invariant in
    runs_exit c.from_residual-in_err-add.result c.from_residual-in_err-add.ensures.1
    (runs_to_memory _ c.in_err-add.ensures.memory (runs_then inv.runs c.in_ok-has.ensures.runs (λ p there mine. mine) (λ p is. tt)
    (λ damage b. unless_tree c.args.pages.now c.loop-hit.pages c.args.index.now.tree damage inv.runs.works.steady.is_told inv.same b)))

pub loop-hit-preserved : goal.loop-hit-preserved
loop-hit-preserved g c =
    let inv = c.loop-hit.invariant in
    let entry_of = entry_of_kind c.args.index.now.kind c.args.def.now c.args.index.now.parts in
    let i = c.loop-hit.hit-index in
    let hits = c.args.hits.now in
    let hit = c.hit-item.result in
    record {
      notes = λ told tree has all.
          let held = holds_told c.loop-hit.pages (g.P.Pages.state c.args.pages.now).work c.args.index.now.tree tree (inv.runs.works.steady.is_told ∙ told) inv.same has in
          let listed = subst (Contains (leaf_entries tree)) (c.deref-in-loop-hit.ensures.value ∙ c.in_ok-entry.ensures.entry)
          (contains_entry (leaf_entries tree) c.deref-in-loop-hit.result.now ((c.in_ok-has.ensures.has tree held).0 c.if-not-branch.false)) in
          subst (λ wanted. NotesEntries wanted (leaf_entries tree) c.args.noted.now c.add.new.self)
          (sym (images_more placed_row entry_of hits i hit c.loop-hit-test.true (sym c.hit-item.is)))
          (notes_added (map entry_of (map placed_row (take i hits))) (leaf_entries tree) (entry_of (placed_row hit)) c.args.noted.now c.loop-hit.noted c.add.new.self (inv.notes told tree has all) listed
          (subst (λ (e : List ℕ). (other : List ℕ) → Contains (noted_entries c.add.new.self) other ↔ (other ≡ e) ⊎ Contains (noted_entries c.loop-hit.noted) other) c.in_ok-entry.ensures.entry c.in_ok-add.ensures.all));
      same = c.in_ok-has.ensures.same ∙ inv.same;
      going = c.in_ok-has.ensures.runs.works.steady.ended ∙ inv.going;
      runs = runs_then inv.runs c.in_ok-has.ensures.runs (λ p there mine. mine) (λ p is. tt)
          (λ damage b. unless_tree c.args.pages.now c.loop-hit.pages c.args.index.now.tree damage inv.runs.works.steady.is_told inv.same b);
    }
