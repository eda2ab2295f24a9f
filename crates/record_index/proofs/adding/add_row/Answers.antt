use Rattle.std.proofs.Common.{ap, arith, length, ◌∙◌}
use Rattle.store_api.specs.Causes.{store_fault_in}
use Rattle.extent_map.specs.Damages.{store_part_of}
use Rattle.record_index.proofs.FullMapLemmas.{fills_extents, root_among}
use Rattle.record_index.proofs.OneIndexLemmas.{adding_runs, adds_change, adds_grow, adds_one, asks_change, full_states, on_full, on_ok}
use Rattle.record_index.proofs.adding.add_row.Goals as goal

pub enter-requires-clause-width : goal.enter-requires-clause-width
enter-requires-clause-width g c = omega (arith, ap length c.bytes.ensures, c.tree_and_entry-entry.ensures.width)

pub returns-clause-adds : goal.returns-clause-adds
returns-clause-adds g c =
    let made = c.tree_and_entry-entry in
    let it = adds_one c.args.shape c.args.notes.now c.enter.new.notes c.args.pages.now c.enter.new.pages made.result.0 _ made.ensures.tree _ _ (c.bytes.ensures ∙ made.ensures.entry) in
    on_ok c.enter.result (λ adds. it c.enter.ensures.runs.touches c.enter.ensures.runs.works.steady.is_told adds) c.enter.ensures.adds

pub returns-clause-makes : goal.returns-clause-makes
returns-clause-makes g c =
    let made = c.tree_and_entry-entry in
    let it = adds_change c.args.shape c.args.notes.now c.enter.new.notes c.args.pages.now c.enter.new.pages made.result.0 _ made.ensures.tree _ _ (c.bytes.ensures ∙ made.ensures.entry) in
    on_ok c.enter.result (λ adds. it c.enter.ensures.runs.touches c.enter.ensures.runs.works.steady.is_told adds) c.enter.ensures.adds

pub returns-clause-grows : goal.returns-clause-grows
returns-clause-grows g c =
    let made = c.tree_and_entry-entry in
    let it = adds_grow c.args.shape c.args.notes.now c.enter.new.notes c.args.pages.now c.enter.new.pages made.result.0 _ made.ensures.tree _ _ (c.bytes.ensures ∙ made.ensures.entry) in
    on_ok c.enter.result (λ adds. it adds) c.enter.ensures.adds

pub returns-clause-full : goal.returns-clause-full
returns-clause-full g c =
    let made = c.tree_and_entry-entry in
    let it = fills_extents c.args.shape c.args.pages.now c.enter.new.pages made.result.0 _ made.ensures.tree _ _ (c.bytes.ensures ∙ made.ensures.entry) in
    full_states c.args.shape.extents c.enter.result (λ full. it c.args.notes.now c.enter.new.notes c.enter.ensures.runs.touches c.enter.ensures.runs.works.steady.is_told full) c.enter.ensures.full

pub returns-clause-asks : goal.returns-clause-asks
returns-clause-asks g c =
    let made = c.tree_and_entry-entry in
    let it = asks_change c.args.shape c.args.notes.now c.enter.new.notes c.args.pages.now c.enter.new.pages made.result.0 _ made.ensures.tree _ _ (c.bytes.ensures ∙ made.ensures.entry) in
    on_full c.args.shape.extents c.enter.result (λ full. it full) c.enter.ensures.full

pub returns-clause-root : goal.returns-clause-root
returns-clause-root g c =
    let made = c.tree_and_entry-entry in
    let it = root_among c.args.shape c.args.pages.now c.enter.new.pages made.result.0 _ made.ensures.tree _ _ (c.bytes.ensures ∙ made.ensures.entry) in
    it c.enter.ensures.root

pub returns-clause-runs : goal.returns-clause-runs
returns-clause-runs g c =
    let made = c.tree_and_entry-entry in
    let it = adding_runs c.args.shape c.args.notes.now c.enter.new.notes c.args.pages.now c.enter.new.pages made.result.0 _ made.ensures.tree _ _ (c.bytes.ensures ∙ made.ensures.entry) in
    it (store_fault_in store_part_of c.enter.result) c.enter.ensures.runs
