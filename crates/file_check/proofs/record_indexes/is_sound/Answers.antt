use Rattle.std.proofs.Common.{◌≡◌, ◌-◌, ◌∙◌, List, ℕ, arith, subst}
use Rattle.std.specs.Prelude.{Contains}
use Rattle.store_api.proofs.RunsOverPagesLemmas.{runs_exit}
use Rattle.key_codec.specs.Keys.{width_of_parts}
use Rattle.entry_tree.specs.Forest.{leaf_entries}
use Rattle.file_check.specs.TableIndexes.{NotesEntries, bytes_behind_key, entries_of_blocks, noted_entries}
use Rattle.file_check.proofs.IndexJudgingLemmas.{noted_as_sound, runs_entries, sound_as_noted, when_true}
use Rattle.file_check.proofs.RowEntriesLemmas.{holds_told}
use Rattle.file_check.proofs.record_indexes.is_sound.Goals as goal

pub returns-in_err-entries-clause-runs : goal.returns-in_err-entries-clause-runs
returns-in_err-entries-clause-runs g c =
    runs_exit c.from_residual-in_err-entries.result c.from_residual-in_err-entries.ensures.1
    (runs_entries c.args.shape c.args.def.now c.args.used.now c.args.index.now.tree c.in_ok-note_rows.ensures.runs c.in_ok-note_rows.ensures.same c.in_err-entries.ensures.runs)

pub returns-clause-sound : goal.returns-clause-sound
returns-clause-sound g c told readable tree has =
    let index = c.args.index.now in
    let wanted = entries_of_blocks index.kind c.args.shape (g.P.Pages.state c.args.pages.now).work c.args.def.now index.parts c.args.used.now in
    let fresh : (entry : List ℕ) → Contains (noted_entries c.new-noted.result) entry → Contains (leaf_entries tree) entry =
    λ entry there. (let (k, low, at) = subst (λ (entries : List (List ℕ)). Contains entries entry) c.new-noted.ensures there in absurd (omega (arith, low))) in
    let notes = when_true c.in_ok-note_rows.field-0 (NotesEntries wanted (leaf_entries tree) c.new-noted.result c.note_rows.new.noted) _ c.if-not-branch.false (c.in_ok-note_rows.ensures.notes told readable tree has fresh) in
    let held = holds_told c.note_rows.new.pages (g.P.Pages.state c.args.pages.now).work index.tree tree (c.in_ok-note_rows.ensures.runs.works.steady.is_told ∙ told) c.in_ok-note_rows.ensures.same has in
    let read = c.in_ok-entries.ensures.all tree held in
    let key = width_of_parts c.args.def.now.columns index.parts in
    let key_is : index.tree.width - bytes_behind_key index.kind ≡ key = omega (arith, c.requires.index.width) in (
      λ yes.
          sound_as_noted wanted (leaf_entries tree) _ c.args.spare.now c.new-noted.result c.note_rows.new.noted key (index.tree.width - bytes_behind_key index.kind) notes c.new-noted.ensures read key_is
          (c.has_no_others.ensures.0 yes),
      λ sound.
          c.has_no_others.ensures.1
          (noted_as_sound wanted (leaf_entries tree) _ c.args.spare.now c.new-noted.result c.note_rows.new.noted key (index.tree.width - bytes_behind_key index.kind) notes read key_is sound),
    )

pub returns-clause-runs : goal.returns-clause-runs
returns-clause-runs g c = runs_entries c.args.shape c.args.def.now c.args.used.now c.args.index.now.tree c.in_ok-note_rows.ensures.runs c.in_ok-note_rows.ensures.same c.in_ok-entries.ensures.runs
