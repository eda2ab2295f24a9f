-- A table or a record index that is dropped gives the pages of its trees back, and takes none: what is left of the index pages stays.
use Rattle.std.proofs.Common.{◌≡◌, ◌<◌, ◌∙◌, ℕ, [], ◌∷◌, Some, None, ap, arith, inl, inr, length, subst, sum_by, sym}
use Rattle.std.specs.Prelude.{IsTrue}
use Rattle.std.proofs.lemmas.Bool.{cases_lt}
use Rattle.std.proofs.lemmas.List.{get_or_past}
use Rattle.std.proofs.lemmas.List.Sums.{get_or-le-sum_by, sum_by-append}
use Rattle.mdc_ast.specs.declared.definition.TableDef.{TableDef}
use Rattle.store_api.specs.Frame.{Touches}
use Rattle.store_api.specs.declared.pages.Pages.{Ghosts}
use Rattle.store_api.specs.declared.shape.Shape.{Shape}
use Rattle.extent_map.specs.Owners.{IsExtentPage, IsUsedPage}
use Rattle.extent_map.specs.declared.space_notes.SpaceNotes.{SpaceNotes}
use Rattle.entry_tree.specs.Forest.{times}
use Rattle.entry_tree.specs.Forest.Forest.{Nil}
use Rattle.entry_tree.specs.Pruning.{without_pages}
use Rattle.table_trees.specs.ToldPages.{PageList}
use Rattle.table_trees.specs.TreesBeside.{KeepsOwners, table_of_block}
use Rattle.table_trees.proofs.KeptOwnersLemmas.{block_of_table, keeps_returns}
use Rattle.table_trees.proofs.TreeListsLemmas.{times-one}
use Rattle.mdc_sound.specs.SoundDatabase.{KeepAllRules}
use Rattle.mdc_sound.specs.SpaceRules.{DatabaseView}
use Rattle.mdc_sound.specs.StandingTable.{pages_of}
use Rattle.mdc_sound.specs.TablePages.{DefinesTable}
use Rattle.mdc_sound.specs.TableViews.{TableView, trees_of_table}
use Rattle.mdc_sound.proofs.StandingTableLemmas.{map_of_rules, stands_of_rules, trees_used}
use Rattle.stored_catalog.specs.AroundTable.{view_with}
use Rattle.stored_catalog.specs.GivenBack.{OnlyGivesBack}
use Rattle.stored_catalog.specs.TableSteps.{DropsTable}
use Rattle.stored_catalog.specs.TreeRuns.{IsDroppingPage}
use Rattle.stored_catalog.proofs.FreedTreesLemmas.{free_without_pages}
use Rattle.stored_catalog.proofs.GivenBackLemmas.{page_stays}
use Rattle.stored_catalog.proofs.OpenedTableLemmas.{defined_there}
use Rattle.index_building.specs.IndexSteps.{DropsIndex}
use Rattle.index_building.specs.IndexViews.{index_tree, view_without_index}
use Rattle.script_engine.specs.Others.{GoesWhole, LeavesNoTree}

-- ---- pages

-- no page of an extent is one that the dropping of a tree may touch
extent_off : (shape : Shape) (place p : ℕ) → place < 16 → IsExtentPage shape p → IsDroppingPage shape place p → ⊥
extent_off shape place p low page (inl is) = omega (arith, page.behind, is, low)
extent_off shape place p low page (inr on) = omega (arith, page.behind, on.1)

-- ---- a table

-- one that was dropped went whole
pub goes_whole : (shape : Shape) (before noted : SpaceNotes) (old new : PageList) (t : ℕ) (def : TableDef) (view : DatabaseView) → t < 16 → KeepAllRules shape old view → DefinesTable old t def
    → DropsTable shape before noted old new t view → GoesWhole shape old new t def
goes_whole shape before noted old new t def view low keeps defines dropped =
    let found = defined_there shape old view t def keeps low defines in
    let held_now = map_of_rules shape new (view_with view dropped.owners_now t None) dropped.sound.first in
    record {
      freed = record {
        owners = view.owners;
        owners_now = dropped.owners_now;
        held = map_of_rules shape old view keeps.first;
        held_now = held_now;
        freed = dropped.freed;
      };
      trees = subst (LeavesNoTree shape old new) found.same (record {
        trees = trees_of_table found.table;
        held = (stands_of_rules shape old view keeps.first t found.table found.there).trees.held;
        owners_now = dropped.owners_now;
        held_now = held_now;
        unused = dropped.unused found.table found.there;
      });
      gives = dropped.gives;
    }

-- ---- the tree of a record index

-- its pages are among those of the table
among_all : (table : TableView) (index p : ℕ) → 0 < times p (index_tree table index) → 0 < sum_by (times p) (trees_of_table table)
among_all table index p some = elim (cases_lt index (length table.indexes)) [
  | inl within ↦ omega (arith, some, get_or-le-sum_by (times p) table.indexes index Nil within, sum_by-append (times p) (table.map ∷ table.composite ∷ table.dims) table.indexes)
  | inr past ↦ absurd (omega (arith, some, ap (times p) (get_or_past table.indexes index Nil past)))
]

module _ {S : Type 0} (g : Ghosts S) (shape : Shape) (before noted : SpaceNotes) (old new : S) (place index : ℕ) (view : DatabaseView) (keeps : KeepAllRules shape (pages_of g old) view)
    (dropped : DropsIndex shape before noted (g.state new).work place index view) where
  page_of : (p : ℕ) → 0 < sum_by (times p) (index_tree dropped.table index ∷ []) → IsExtentPage shape p
  page_of p some =
      (trees_used shape (pages_of g old) view keeps.first p place dropped.table dropped.there (among_all dropped.table index p (omega (arith, some, times-one p (index_tree dropped.table index))))).page

  -- what is not of its tree has the owner that it had
  kept : KeepsOwners shape view.owners (index_tree dropped.table index ∷ []) (without_pages shape view.owners dropped.given) []
  kept =
      keeps_returns shape view.owners dropped.given (index_tree dropped.table index ∷ []) [] (map_of_rules shape (pages_of g old) view keeps.first).count page_of
      (λ q. omega (arith, dropped.pages q, times-one q (index_tree dropped.table index)))

  -- a page that is used was used
  was_used : (p : ℕ) → IsUsedPage shape (without_pages shape view.owners dropped.given) p → IsUsedPage shape view.owners p
  was_used p used = elim (kept.used p used) [
    | inl in_none ↦ absurd (omega (arith, in_none))
    | inr was ↦ was.0
  ]

  pub gives_back : place < 16 → IsTrue (g.state old).is_told → Touches g (IsDroppingPage shape place) old new → length (pages_of g new) ≡ length (pages_of g old) → OnlyGivesBack shape (pages_of g old) (pages_of g new)
  gives_back low told touches count = record {
    owners = view.owners;
    owners_now = without_pages shape view.owners dropped.given;
    held = map_of_rules shape (pages_of g old) view keeps.first;
    held_now = map_of_rules shape (pages_of g new) (view_with view (without_pages shape view.owners dropped.given) place (Some (view_without_index dropped.table index))) dropped.sound.first;
    used = λ p used.
        let was = was_used p used in
        (was, page_stays g (IsDroppingPage shape place) old new p told touches count (extent_off shape place p low was.page));
    free = free_without_pages shape view.owners dropped.given;
    blocks = λ e t is. block_of_table _ t (sym (kept.blocks e) ∙ ap table_of_block is);
    count = count;
  }
