use Rattle.std.proofs.Common.{◌∙◌, ◌++◌, ℕ, List, ap, inr, get_or, map}
use Rattle.std.specs.Prelude.{Contains, IsTrue, flat_map}
use Rattle.std.proofs.lemmas.List.{take_all}
use Rattle.store_api.proofs.RunsOverPagesLemmas.{runs_exit, runs_then}
use Rattle.entry_tree.specs.Forest.{Forest}
use Rattle.entry_tree.specs.HeldTrees.{HoldsTree}
use Rattle.block_map.specs.MapLines.{used_blocks}
use Rattle.table_trees.specs.TableTrees.{map_place}
use Rattle.table_trees.specs.ToldPages.{HasTree}
use Rattle.mdc_sound.specs.TableRows.{rows_in_block}
use Rattle.std.proofs.Common.{arith, below_more, subst}
use Rattle.reference_reader.specs.ReadPages.{HasRowPages}
use Rattle.reference_reader.proofs.ReadBlocksLemmas.{is_listed, judged_block, rows_of_block_more}
use Rattle.reference_reader.proofs.ReadMapsLemmas.{breaks_past, breaks_used_block, held_by_handle, runs_over_map, runs_to_damage}
use Rattle.reference_reader.proofs.rows.rows_of_table.Goals as goal

pub returns-in_err-blocks-clause-runs : goal.returns-in_err-blocks-clause-runs
returns-in_err-blocks-clause-runs g c =
    runs_exit c.from_residual.result c.from_residual.ensures.1
    (runs_over_map c.args.shape c.at.result.tree c.args.def.now c.at.ensures
    (λ told t has. held_by_handle c.args.pages.now c.at.result.tree c.args.def.now t c.at.ensures c.at.result.seven ((c.told_stores_hold_their_pages.ensures.trees told (map_place c.args.def.now) t).1 has))
    c.in_err-blocks.ensures.runs)

pub loop-block-init : goal.loop-block-init
loop-block-init g c = record {
  rows = λ told. c.new-rows.ensures.items;
  judged = λ told i low. absurd (omega (arith, low));
  same = c.list.ensures.same;
  going = c.in_ok-blocks.ensures.runs.works.steady.ended ∙ c.requires.going;
  runs = runs_over_map c.args.shape c.at.result.tree c.args.def.now c.at.ensures
      (λ told t has. held_by_handle c.args.pages.now c.at.result.tree c.args.def.now t c.at.ensures c.at.result.seven ((c.told_stores_hold_their_pages.ensures.trees told (map_place c.args.def.now) t).1 has))
      c.in_ok-blocks.ensures.runs;
}

pub returns-then-block-shape-clause-runs : goal.returns-then-block-shape-clause-runs
returns-then-block-shape-clause-runs g c =
    let held : IsTrue (g.P.Pages.state c.args.pages.now).is_told → (t : Forest) → HasTree (g.P.Pages.state c.args.pages.now).work (map_place c.args.def.now) t → HoldsTree g.P.Pages c.args.pages.now c.at.result.tree t =
    λ told t has. held_by_handle c.args.pages.now c.at.result.tree c.args.def.now t c.at.ensures c.at.result.seven ((c.told_stores_hold_their_pages.ensures.trees told (map_place c.args.def.now) t).1 has) in
    let items : List ℕ = c.as_slice-block-items.result.now in
    runs_to_damage (record { page = c.args.def.now.roots.map; rule = 6 }) c.no_extent.result c.no_extent.ensures c.loop-block.invariant.runs (record {
      broken = λ told map_tree shows.
          breaks_past c.args.shape (g.P.Pages.state c.args.pages.now).work c.args.def.now map_tree (get_or items c.loop-block.block-index 0) shows
          (is_listed items (used_blocks map_tree) c.loop-block.block-index (c.as_slice-block-items.ensures.value ∙ c.in_ok-blocks.ensures.listed map_tree (held told map_tree shows.has_map)) c.loop-block-test.true) c.if-block-shape.true;
    })

pub returns-in_err-rows_of_block-clause-runs : goal.returns-in_err-rows_of_block-clause-runs
returns-in_err-rows_of_block-clause-runs g c =
    let inv = c.loop-block.invariant in
    let held : IsTrue (g.P.Pages.state c.args.pages.now).is_told → (t : Forest) → HasTree (g.P.Pages.state c.args.pages.now).work (map_place c.args.def.now) t → HoldsTree g.P.Pages c.args.pages.now c.at.result.tree t =
    λ told t has. held_by_handle c.args.pages.now c.at.result.tree c.args.def.now t c.at.ensures c.at.result.seven ((c.told_stores_hold_their_pages.ensures.trees told (map_place c.args.def.now) t).1 has) in
    let items : List ℕ = c.as_slice-block-items.result.now in
    let used : IsTrue (g.P.Pages.state c.args.pages.now).is_told → (t : Forest) → HasTree (g.P.Pages.state c.args.pages.now).work (map_place c.args.def.now) t → Contains (used_blocks t) (get_or items c.loop-block.block-index 0) =
    λ told t has. is_listed items (used_blocks t) c.loop-block.block-index (c.as_slice-block-items.ensures.value ∙ c.in_ok-blocks.ensures.listed t (held told t has)) c.loop-block-test.true in
    runs_exit c.from_residual-in_err-rows_of_block.result c.from_residual-in_err-rows_of_block.ensures.1
    (runs_then inv.runs c.in_err-rows_of_block.ensures.runs (λ p there mine. mine) (λ p is told t has. inr (get_or items c.loop-block.block-index 0, used told t has, is))
    (λ damage b. breaks_used_block c.args.shape (g.P.Pages.state c.args.pages.now) (g.P.Pages.state c.loop-block.pages) c.args.def.now (get_or items c.loop-block.block-index 0) damage
    inv.runs.works.steady.is_told inv.same used b))

pub loop-block-preserved : goal.loop-block-preserved
loop-block-preserved g c =
    let inv = c.loop-block.invariant in
    let held : IsTrue (g.P.Pages.state c.args.pages.now).is_told → (t : Forest) → HasTree (g.P.Pages.state c.args.pages.now).work (map_place c.args.def.now) t → HoldsTree g.P.Pages c.args.pages.now c.at.result.tree t =
    λ told t has. held_by_handle c.args.pages.now c.at.result.tree c.args.def.now t c.at.ensures c.at.result.seven ((c.told_stores_hold_their_pages.ensures.trees told (map_place c.args.def.now) t).1 has) in
    let items : List ℕ = c.as_slice-block-items.result.now in
    let used : IsTrue (g.P.Pages.state c.args.pages.now).is_told → (t : Forest) → HasTree (g.P.Pages.state c.args.pages.now).work (map_place c.args.def.now) t → Contains (used_blocks t) (get_or items c.loop-block.block-index 0) =
    λ told t has. is_listed items (used_blocks t) c.loop-block.block-index (c.as_slice-block-items.ensures.value ∙ c.in_ok-blocks.ensures.listed t (held told t has)) c.loop-block-test.true in
    record {
      rows = λ told.
          rows_of_block_more (rows_in_block c.args.shape (g.P.Pages.state c.args.pages.now).work c.args.def.now) items c.loop-block.block-index c.loop-block.rows.items c.rows_of_block.new.rows.items
          c.loop-block-test.true (inv.rows told)
          (c.in_ok-rows_of_block.ensures.rows (inv.runs.works.steady.is_told ∙ told)
          ∙ ap (λ pages. c.loop-block.rows.items ++ map (λ placed. placed.row) (rows_in_block c.args.shape pages c.args.def.now (get_or items c.loop-block.block-index 0))) inv.same);
      judged = λ told.
          below_more (λ i. HasRowPages c.args.shape (g.P.Pages.state c.args.pages.now).work c.args.def.now (get_or items i 0)) c.loop-block.block-index (inv.judged told)
          (subst (λ pages. HasRowPages c.args.shape pages c.args.def.now (get_or items c.loop-block.block-index 0)) inv.same (c.in_ok-rows_of_block.ensures.judged (inv.runs.works.steady.is_told ∙ told)));
      same = c.rows_of_block.ensures.same ∙ inv.same;
      going = c.in_ok-rows_of_block.ensures.runs.works.steady.ended ∙ inv.going;
      runs = runs_then inv.runs c.in_ok-rows_of_block.ensures.runs (λ p there mine. mine) (λ p is told t has. inr (get_or items c.loop-block.block-index 0, used told t has, is))
          (λ damage b. breaks_used_block c.args.shape (g.P.Pages.state c.args.pages.now) (g.P.Pages.state c.loop-block.pages) c.args.def.now (get_or items c.loop-block.block-index 0) damage
          inv.runs.works.steady.is_told inv.same used b);
    }

pub returns-clause-rows : goal.returns-clause-rows
returns-clause-rows g c told map_tree has =
    let held = held_by_handle c.args.pages.now c.at.result.tree c.args.def.now map_tree c.at.ensures c.at.result.seven ((c.told_stores_hold_their_pages.ensures.trees told (map_place c.args.def.now) map_tree).1 has) in
    c.loop-block.invariant.rows told
    ∙ ap (λ items. map (λ placed. placed.row) (flat_map (rows_in_block c.args.shape (g.P.Pages.state c.args.pages.now).work c.args.def.now) items))
    (take_all c.loop-block.block-index c.as_slice-block-items.result.now c.loop-block-test.false
    ∙ (c.as_slice-block-items.ensures.value ∙ c.in_ok-blocks.ensures.listed map_tree held))

pub returns-clause-judged : goal.returns-clause-judged
returns-clause-judged g c told map_tree block has there =
    let held = held_by_handle c.args.pages.now c.at.result.tree c.args.def.now map_tree c.at.ensures c.at.result.seven ((c.told_stores_hold_their_pages.ensures.trees told (map_place c.args.def.now) map_tree).1 has) in
    judged_block (HasRowPages c.args.shape (g.P.Pages.state c.args.pages.now).work c.args.def.now) c.as_slice-block-items.result.now (used_blocks map_tree) c.loop-block.block-index
    (c.as_slice-block-items.ensures.value ∙ c.in_ok-blocks.ensures.listed map_tree held) c.loop-block-test.false (c.loop-block.invariant.judged told) block there
