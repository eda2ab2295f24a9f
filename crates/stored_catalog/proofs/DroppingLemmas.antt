-- A table less: its blocks and its trees are given back beside those of all others, and its table page of zeros closes the database.
use Rattle.std.proofs.Common.{◌≡◌, ◌≢◌, ◌<◌, ◌+◌, ℕ, List, [], ◌∷◌, ◌++◌, Option, Some, None, length, sum_by, ap, arith, sym, ◌∙◌, subst, inl, inr, get_or, get_or-set_other, get_or-set_same, length-set}
use Rattle.std.proofs.lemmas.Bool.{cases_lt}
use Rattle.std.proofs.lemmas.List.{get_or_past}
use Rattle.std.proofs.lemmas.Option.{same_Some}
use Rattle.std.specs.Prelude.{IsTrue, slice_get}
use Rattle.mdc_ast.specs.declared.definition.TableDef.{TableDef}
use Rattle.mdc_ast.specs.Database.{Database, PlainTable, with_place}
use Rattle.store_api.specs.Frame.{Touches}
use Rattle.store_api.specs.StoreState.{page_at, zero_page}
use Rattle.store_api.specs.declared.pages.Pages.{Ghosts}
use Rattle.store_api.specs.declared.shape.Shape.{Shape}
use Rattle.extent_map.specs.Map.{IsMapPage}
use Rattle.extent_map.specs.Owners.{IsExtentPage, IsUsedPage, owner_of}
use Rattle.extent_map.specs.declared.kind.Kind.{Kind}
use Rattle.extent_map.specs.declared.kind.Kind.TheVariants.{Free, Block}
use Rattle.extent_map.specs.declared.space_notes.SpaceNotes.{SpaceNotes}
use Rattle.extent_map.proofs.UsedPagesLemmas.{no_space_page}
use Rattle.entry_tree.specs.Forest.{Forest, times}
use Rattle.entry_tree.specs.Pruning.{without_pages}
use Rattle.table_page.specs.TablePage.{IsTablePageOf, table_page}
use Rattle.table_trees.specs.TableTrees.{tree_places}
use Rattle.table_trees.specs.ToldPages.{PageList}
use Rattle.table_trees.specs.TreesBeside.{StandTrees}
use Rattle.mdc_sound.specs.SoundDatabase.{KeepAllRules}
use Rattle.mdc_sound.specs.SpaceRules.{DatabaseView, IsBlockMapSound}
use Rattle.mdc_sound.specs.StandingTable.{pages_of}
use Rattle.mdc_sound.specs.StandsForDatabase.{HoldsPlace, PagesStandFor}
use Rattle.mdc_sound.specs.TablePages.{DefinesTable, table_page_at}
use Rattle.mdc_sound.specs.TableViews.{TableView, trees_of_table}
use Rattle.mdc_sound.proofs.SpaceRulesLemmas.{there_at}
use Rattle.mdc_sound.proofs.StandingTableLemmas.{map_of_rules, number_of_place}
use Rattle.stored_catalog.specs.AroundTable.{HasNoBlocks, StandsBut, view_with, with_owners}
use Rattle.stored_catalog.specs.GivenBack.{OnlyGivesBack}
use Rattle.stored_catalog.specs.StoredDefinitions.{with_stored}
use Rattle.stored_catalog.specs.TableSteps.{DropsTable}
use Rattle.stored_catalog.specs.TreeRuns.{FreesTrees, GivesBlocks, IsDroppingPage, blocks_in_map, without_blocks}
use Rattle.stored_catalog.proofs.AroundDroppingLemmas.{block_before_freeing, freed_around, given_around, no_blocks_freed, trees_beside}
use Rattle.stored_catalog.proofs.AroundTableLemmas.{ChangesAround, around_kept, around_place_kept, page_around, page_written, stands_for_but}
use Rattle.stored_catalog.proofs.BlocksInMapLemmas.{block_there, blocks_owned, no_blocks_left}
use Rattle.stored_catalog.proofs.FreedTreesLemmas.{free_without_pages}
use Rattle.stored_catalog.proofs.GivenBackLemmas.{page_stays}
use Rattle.stored_catalog.proofs.GivenBlocksLemmas.{block_before, free_stays, owner_given, used_before}
use Rattle.stored_catalog.proofs.OpenedTableLemmas.{IsDefinedThere, closed_dropping, defined_there, opened_dropping}

module _ {S : Type 0} (g : Ghosts S) (shape : Shape) (before mid noted : SpaceNotes) (old middle new : S) (t : ℕ) (def : TableDef) (told : IsTrue (g.state old).is_told) (low : t < 16)
    (count_one : length (g.state middle).work ≡ length (g.state old).work) (told_one : (g.state middle).is_told ≡ (g.state old).is_told)
    (touched_one : Touches g (IsMapPage shape) old middle)
    (gives : (owners : List Kind) (map_tree : Forest) (rest : List Forest) → StandTrees g shape old owners (tree_places def) (map_tree ∷ rest) → GivesBlocks g shape before mid middle owners (blocks_in_map map_tree))
    (count_two : length (g.state new).work ≡ length (g.state middle).work) (told_two : (g.state new).is_told ≡ (g.state middle).is_told)
    (touched_two : Touches g (IsMapPage shape) middle new)
    (frees : (owners : List Kind) (trees : List Forest) → StandTrees g shape middle owners (tree_places def) trees → FreesTrees g shape mid noted new owners trees)
    (defines : DefinesTable (pages_of g old) t def) (view : DatabaseView) (keeps : KeepAllRules shape (pages_of g old) view) where
  there : IsDefinedThere view t def
  there = defined_there shape (pages_of g old) view t def keeps low defines

  abbrev table : TableView
  table = there.table

  -- the place is empty, and its trees stand beside all others
  abbrev view_at_first : DatabaseView
  view_at_first = view_with view view.owners t None

  abbrev trees : List Forest
  trees = trees_of_table table

  stands_first : StandsBut shape (pages_of g old) view_at_first t (tree_places def) trees
  stands_first = subst (λ d. StandsBut shape (pages_of g old) view_at_first t (tree_places d) trees) there.same (opened_dropping shape (pages_of g old) view t table keeps there.there)

  number : table.def.number ≡ t
  number = (number_of_place shape (pages_of g old) view keeps.first t table there.there).1

  map_sound : IsBlockMapSound shape view.owners table.def table.map
  map_sound = there_at (λ other. IsBlockMapSound shape view.owners other.def other.map) view.places t table there.there keeps.first.rule6

  -- its blocks are given back
  gave : GivesBlocks g shape before mid middle view.owners (blocks_in_map table.map)
  gave = gives view.owners table.map (table.composite ∷ table.dims ++ table.indexes) (trees_beside g old told shape view_at_first t (tree_places def) trees stands_first)

  abbrev owners_then : List Kind
  owners_then = without_blocks view.owners (blocks_in_map table.map)

  around_one : ChangesAround shape (pages_of g old) (pages_of g middle) view.owners t trees owners_then (tree_places def) trees
  around_one =
      given_around g shape old middle view_at_first t (tree_places def) trees told stands_first count_one told_one touched_one (blocks_in_map table.map)
      (λ e named. (blocks_owned shape view.owners table.def table.map map_sound e named).1 ∙ ap Block number) gave

  stands_then : StandsBut shape (pages_of g middle) (with_owners view_at_first owners_then) t (tree_places def) trees
  stands_then = around_kept shape (pages_of g old) (pages_of g middle) view_at_first t (tree_places def) trees owners_then (tree_places def) trees stands_first around_one

  no_blocks : HasNoBlocks owners_then t
  no_blocks = subst (HasNoBlocks owners_then) number (no_blocks_left shape view.owners table.def table.map keeps.first.rule2.count map_sound)

  -- and then its trees
  freed : FreesTrees g shape mid noted new owners_then trees
  freed = frees owners_then trees (trees_beside g middle (told_one ∙ told) shape (with_owners view_at_first owners_then) t (tree_places def) trees stands_then)

  abbrev owners_last : List Kind
  owners_last = without_pages shape owners_then freed.given

  around_two : ChangesAround shape (pages_of g middle) (pages_of g new) owners_then t trees owners_last [] []
  around_two =
      freed_around g shape middle new (with_owners view_at_first owners_then) t (tree_places def) trees (told_one ∙ told) stands_then count_two told_two touched_two freed

  stands_last : StandsBut shape (pages_of g new) (view_with view owners_last t None) t [] []
  stands_last = around_kept shape (pages_of g middle) (pages_of g new) (with_owners view_at_first owners_then) t (tree_places def) trees owners_last [] [] stands_then around_two

  -- what was a block of the table is free
  all_freed : (e : ℕ) → owner_of view.owners e ≡ Block t → owner_of owners_last e ≡ Free
  all_freed e is =
      let own : owner_of view.owners e ≡ Block table.def.number = is ∙ ap Block (sym number) in
      let named = block_there shape view.owners table.def table.map e keeps.first.rule2.count map_sound own in
      free_without_pages shape owners_then freed.given e (owner_given view.owners (blocks_in_map table.map) e named)

  -- what is free then was free, or was given back
  free_last : (e : ℕ) → owner_of view.owners e ≡ Free → owner_of owners_last e ≡ Free
  free_last e free = free_without_pages shape owners_then freed.given e (free_stays view.owners (blocks_in_map table.map) e free)

  -- what is a block then was one
  was_block : (e u : ℕ) → owner_of owners_last e ≡ Block u → owner_of view.owners e ≡ Block u
  was_block e u is =
      block_before view.owners (blocks_in_map table.map) e u
      (block_before_freeing g shape middle new (with_owners view_at_first owners_then) t (tree_places def) trees (told_one ∙ told) stands_then count_two told_two touched_two freed e u is)

  -- a page that is used then was used
  was_used : (p : ℕ) → IsUsedPage shape owners_last p → IsUsedPage shape view.owners p
  was_used p used = elim (around_two.used_pages p used) [
    | inl none ↦ absurd (omega (arith, none))
    | inr mid ↦ used_before shape view.owners (blocks_in_map table.map) p mid.0
  ]

  -- and not by a tree of the table
  no_tree_left : (other : TableView) → slice_get view.places t ≡ Some (Some other) → (p : ℕ) → 0 < sum_by (times p) (trees_of_table other) → IsUsedPage shape owners_last p → ⊥
  no_tree_left other at p some used =
      let same : table ≡ other = same_Some table other (same_Some (Some table) (Some other) (sym there.there ∙ at)) in
      elim (around_two.used_pages p used) [
        | inl none ↦ omega (arith, none)
        | inr mid ↦ omega (arith, mid.1, ap (λ (it : TableView). sum_by (times p) (trees_of_table it)) same, some)
      ]

  -- and no call touched it
  page_last : (p : ℕ) → IsExtentPage shape p → page_at (with_stored (pages_of g new) t None) p ≡ page_at (pages_of g old) p
  page_last p page =
      get_or-set_other (pages_of g new) (1 + t) p zero_page [] (λ is. omega (arith, page.behind, is, low))
      ∙ page_stays g (IsMapPage shape) middle new p (told_one ∙ told) touched_two count_two (λ on. no_space_page shape p page (inr on))
      ∙ page_stays g (IsMapPage shape) old middle p told touched_one count_one (λ on. no_space_page shape p page (inr on))

  -- with zeros as its table page the place is empty
  sound_last : KeepAllRules shape (with_stored (pages_of g new) t None) (view_with view owners_last t None)
  sound_last =
      closed_dropping shape (pages_of g new) (view_with view owners_last t None) t stands_last
      (no_blocks_freed g shape middle new (with_owners view_at_first owners_then) t (tree_places def) trees (told_one ∙ told) stands_then count_two told_two touched_two freed no_blocks)

  -- and space was only given back
  gives_last : OnlyGivesBack shape (pages_of g old) (with_stored (pages_of g new) t None)
  gives_last = record {
    owners = view.owners;
    owners_now = owners_last;
    held = map_of_rules shape (pages_of g old) view keeps.first;
    held_now = map_of_rules shape (with_stored (pages_of g new) t None) (view_with view owners_last t None) sound_last.first;
    used = λ p used. let was = was_used p used in (was, page_last p was.page);
    free = free_last;
    blocks = was_block;
    count = length-set (pages_of g new) (1 + t) zero_page ∙ (count_two ∙ count_one);
  }

  pub drops_table : (last : PageList) → last ≡ with_stored (pages_of g new) t None → DropsTable shape before noted (pages_of g old) last t view
  drops_table last is = record {
    owners_now = owners_last;
    sound = subst (λ pages. KeepAllRules shape pages (view_with view owners_last t None)) (sym is) sound_last;
    notes = λ right. freed.notes (gave.notes right);
    freed = all_freed;
    unused = no_tree_left;
    gives = subst (OnlyGivesBack shape (pages_of g old)) (sym is) gives_last;
  }

  -- and each other place holds what it held
  place_kept : (u : ℕ) (other : Option PlainTable) → u < 16 → u ≢ t → HoldsPlace shape (pages_of g old) u other → HoldsPlace shape (with_stored (pages_of g new) t None) u other
  place_kept u other few apart held =
      around_place_kept shape (pages_of g new) (with_stored (pages_of g new) t None) (view_with view owners_last t None) t [] [] owners_last [] [] stands_last
      (page_around shape (pages_of g new) (view_with view owners_last t None) t [] [] zero_page stands_last) u other few apart
      (around_place_kept shape (pages_of g middle) (pages_of g new) (with_owners view_at_first owners_then) t (tree_places def) trees owners_last [] [] stands_then around_two u other few apart
      (around_place_kept shape (pages_of g old) (pages_of g middle) view_at_first t (tree_places def) trees owners_then (tree_places def) trees stands_first around_one u other few apart held))

  pub stands_for_dropped : (last : PageList) → last ≡ with_stored (pages_of g new) t None → (db : Database) → PagesStandFor shape (pages_of g old) db → PagesStandFor shape last (with_place db t None)
  stands_for_dropped last is db were =
      subst (λ pages. PagesStandFor shape pages (with_place db t None)) (sym is)
      (stands_for_but shape (pages_of g old) (with_stored (pages_of g new) t None) db t None were place_kept
      (page_written shape (pages_of g new) (view_with view owners_last t None) t [] [] zero_page stands_last))

-- a page without bytes defines no table
no_empty_table : (t : ℕ) (def : TableDef) → IsTablePageOf t def [] → ⊥
unfolding table_page
no_empty_table t def p = let mark : 0 ≡ 84 = ap (λ page. get_or page 0 0) p.printed in absurd (omega (arith, mark))

-- so one that defines a table is there
pub defined_within : (pages : PageList) (t : ℕ) (def : TableDef) → DefinesTable pages t def → 1 + t < length pages
defined_within pages t def defines = elim (cases_lt (1 + t) (length pages)) [
  | inl within ↦ within
  | inr past ↦ absurd (no_empty_table t def (subst (IsTablePageOf t def) (get_or_past pages (1 + t) [] past) defines))
]

-- so that it is zeros once it was written over, whatever became of other pages
pub page_cleared : (old mid last : PageList) (t : ℕ) (def : TableDef) → DefinesTable old t def → length mid ≡ length old → last ≡ with_stored mid t None → table_page_at last t ≡ zero_page
page_cleared old mid last t def defines count is =
    ap (λ pages. table_page_at pages t) is ∙ get_or-set_same mid (1 + t) zero_page [] (omega (arith, defined_within old t def defines, count))

-- each other table page is as it was where only this one and those of the extent map were touched
pub others_untouched : {S : Type 0} (g : Ghosts S) (shape : Shape) (old new : S) (t u : ℕ) → IsTrue (g.state old).is_told → Touches g (IsDroppingPage shape t) old new
    → length (g.state new).work ≡ length (g.state old).work → u < 16 → u ≢ t → table_page_at (pages_of g new) u ≡ table_page_at (pages_of g old) u
others_untouched g shape old new t u told touched count few apart = page_stays g (IsDroppingPage shape t) old new (1 + u) told touched count off
  where
    off : IsDroppingPage shape t (1 + u) → ⊥
    off (inl same) = apart (omega (arith, same))
    off (inr on) = omega (arith, on.0, few)
