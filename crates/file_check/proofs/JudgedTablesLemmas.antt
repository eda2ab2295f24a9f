-- What was judged of the blocks of a table is judged of the table, and by rule.
use Rattle.std.proofs.Common.{◌≡◌, ◌∙◌, ◌≤◌, ◌<◌, ◌+◌, ◌++◌, ◌∷◌, [], ℕ, List, Option, Some, None, ap, get_or, length, subst, sym, take}
use Rattle.std.specs.Prelude.{Contains, flat_map}
use Rattle.std.proofs.lemmas.List.{flat_map_more, take_all, take_more}
use Rattle.mdc_ast.specs.declared.definition.TableDef.{TableDef}
use Rattle.store_api.specs.Frame.{NoPage}
use Rattle.store_api.specs.RunsOverPages.{RunsOverPages}
use Rattle.store_api.specs.declared.fault.StoreFault.{StoreFault}
use Rattle.store_api.specs.declared.pages.Pages.{Ghosts}
use Rattle.store_api.specs.declared.shape.Shape.{Shape}
use Rattle.store_api.proofs.RunsOverPagesLemmas.{runs_wider}
use Rattle.entry_tree.specs.Forest.{Forest}
use Rattle.block_map.specs.MapLines.{used_blocks}
use Rattle.table_trees.specs.ToldPages.{PageList}
use Rattle.mdc_sound.specs.BlockRules.{AreBlockRowsSound, IsOfOneCell}
use Rattle.mdc_sound.specs.TableRows.{PlacedRow, rows_in_block}
use Rattle.mdc_sound.proofs.BlockRulesLemmas.{each_of}
use Rattle.file_check.specs.BlockEntries.{IsBlockEntered, IsFirstEntered, LacksBlock, LacksFirst}
use Rattle.file_check.specs.BlocksJudged.{BreaksBlockCell, BreaksBlockCount, BreaksBlockRows, IsBlockCounted}
use Rattle.file_check.specs.Judging.{Judges, JudgesEach, lower}
use Rattle.file_check.specs.KeysJudged.{AreNumbersOf, HasTableRows}
use Rattle.file_check.specs.KnownTables.{TableHasRows, TableHasTrees, TellsMap, TellsTable}
use Rattle.file_check.specs.Looking.{AnyPage, Unless}
use Rattle.file_check.specs.RowsJudged.{JudgesAllUsed, JudgesTable, JudgesUsed}
use Rattle.file_check.specs.RulesOfTables.{TableBreaks, TableKeeps, TableKnownFor, found_of}
use Rattle.file_check.specs.TableIndexes.{HasIndexes}
use Rattle.file_check.specs.declared.block_judging.UsedRows.{UsedRows}
use Rattle.file_check.specs.declared.block_rule.BlockRule.TheVariants.{Cells, Counts, RowPages}
use Rattle.file_check.specs.declared.findings.Findings.{Findings}
use Rattle.file_check.specs.declared.table_index.IndexKind.{IndexKind}
use Rattle.file_check.specs.declared.table_index.IndexKind.TheVariants.{Blocks, Rows}
use Rattle.file_check.specs.declared.table_rule.TableRule.{TableRule}
use Rattle.file_check.specs.declared.table_rule.TableRule.TheVariants.{Block, Index, Keys}
use Rattle.file_check.proofs.BlockMapsLemmas.{block_within}
use Rattle.file_check.proofs.BlockSlotsLemmas.{sound_breaks_none}
use Rattle.file_check.proofs.JudgingLemmas.{judges_next, judges_nothing, member-breaks_any}

-- ---- findings

-- nothing was found
pub nothing_found : (rule : TableRule) (found : Findings) → found.row_pages ≡ None → found.counts ≡ None → found.cells ≡ None → found.block_indexes ≡ None → found.record_indexes ≡ None → found.keys ≡ None → found_of rule found ≡ None
nothing_found (Block RowPages) found a b c d e f = a
nothing_found (Block Counts) found a b c d e f = b
nothing_found (Block Cells) found a b c d e f = c
nothing_found (Index Blocks) found a b c d e f = d
nothing_found (Index Rows) found a b c d e f = e
nothing_found Keys found a b c d e f = f

-- the lower pages of two findings
pub lower_found : (rule : TableRule) (x y low : Findings) → low.row_pages ≡ lower x.row_pages y.row_pages → low.counts ≡ lower x.counts y.counts → low.cells ≡ lower x.cells y.cells
    → low.block_indexes ≡ lower x.block_indexes y.block_indexes → low.record_indexes ≡ lower x.record_indexes y.record_indexes → low.keys ≡ lower x.keys y.keys
    → found_of rule low ≡ lower (found_of rule x) (found_of rule y)
lower_found (Block RowPages) x y low a b c d e f = a
lower_found (Block Counts) x y low a b c d e f = b
lower_found (Block Cells) x y low a b c d e f = c
lower_found (Index Blocks) x y low a b c d e f = d
lower_found (Index Rows) x y low a b c d e f = e
lower_found Keys x y low a b c d e f = f

-- ---- what is known of a table

module _ {shape : Shape} {pages : PageList} {def : TableDef} {map_tree : Forest} (known : TableHasRows shape pages def map_tree) where
  -- its rows are told
  pub rows_told : HasTableRows shape pages def map_tree
  rows_told = record { map = known.trees.map; rows = known.rows }

  -- so are its indexes of a kind
  pub indexes_told : (kind : IndexKind) → HasIndexes kind shape pages def map_tree
  indexes_told kind = record {
    map = known.trees.map.tree;
    form = known.trees.map.form;
    used = λ block there. (block_within shape.extents 1 map_tree block known.trees.map.within there, (known.rows block there).forms);
    trees = known.trees.indexes kind;
  }

-- ---- blocks

module _ (shape : Shape) (pages : PageList) (def : TableDef) (map_tree : Forest) where
  -- none was judged yet
  pub none_judged : (found : UsedRows) → found.counts ≡ None → found.cells ≡ None → found.entries ≡ None → found.numbers.items ≡ [] → JudgesUsed shape pages def map_tree [] found
  none_judged found counts cells entries numbers = record {
    counts = subst (JudgesEach (IsBlockCounted shape pages def map_tree) (BreaksBlockCount shape pages def map_tree) []) (sym counts) (judges_nothing (IsBlockCounted shape pages def map_tree) (BreaksBlockCount shape pages def map_tree));
    cells = subst (JudgesEach (IsOfOneCell shape pages def) (BreaksBlockCell shape pages def) []) (sym cells) (judges_nothing (IsOfOneCell shape pages def) (BreaksBlockCell shape pages def));
    entries = subst (JudgesEach (IsBlockEntered shape pages def) (LacksBlock shape pages def) []) (sym entries) (judges_nothing (IsBlockEntered shape pages def) (LacksBlock shape pages def));
    numbers = numbers;
  }

  -- one more was
  pub one_more_judged : (block : ℕ) (done : List ℕ) (old new : UsedRows) (counts cells entries : Option ℕ) (rows : List PlacedRow) → rows ≡ rows_in_block shape pages def block
      → new.counts ≡ lower old.counts counts → new.cells ≡ lower old.cells cells → new.entries ≡ lower old.entries entries
      → ((before : List PlacedRow) → AreNumbersOf old.numbers.items before → AreNumbersOf new.numbers.items (before ++ rows))
      → Judges (IsBlockCounted shape pages def map_tree block) (BreaksBlockCount shape pages def map_tree block) counts
      → Judges (IsOfOneCell shape pages def block) (BreaksBlockCell shape pages def block) cells
      → Judges (IsFirstEntered pages def rows) (LacksFirst pages def rows) entries
      → JudgesUsed shape pages def map_tree done old → JudgesUsed shape pages def map_tree (done ++ block ∷ []) new
  one_more_judged block done old new counts cells entries rows are lower_counts lower_cells lower_entries pushed count cell entered before = record {
    counts = subst (JudgesEach (IsBlockCounted shape pages def map_tree) (BreaksBlockCount shape pages def map_tree) (done ++ block ∷ [])) (sym lower_counts)
        (judges_next (IsBlockCounted shape pages def map_tree) (BreaksBlockCount shape pages def map_tree) done block old.counts counts before.counts count);
    cells = subst (JudgesEach (IsOfOneCell shape pages def) (BreaksBlockCell shape pages def) (done ++ block ∷ [])) (sym lower_cells)
        (judges_next (IsOfOneCell shape pages def) (BreaksBlockCell shape pages def) done block old.cells cells before.cells cell);
    entries = subst (JudgesEach (IsBlockEntered shape pages def) (LacksBlock shape pages def) (done ++ block ∷ [])) (sym lower_entries)
        (judges_next (IsBlockEntered shape pages def) (LacksBlock shape pages def) done block old.entries entries before.entries
        (subst (λ (placed : List PlacedRow). Judges (IsFirstEntered pages def placed) (LacksFirst pages def placed) entries) are entered));
    numbers = subst (AreNumbersOf new.numbers.items) (ap (λ placed. flat_map (rows_in_block shape pages def) done ++ placed) are ∙ flat_map_more (rows_in_block shape pages def) [] done block)
        (pushed (flat_map (rows_in_block shape pages def) done) before.numbers);
  }

  -- so were all
  pub all_judged : (items : List ℕ) (i : ℕ) (found : UsedRows) → items ≡ used_blocks map_tree → length items ≤ i → found.blocks ≡ length items → JudgesUsed shape pages def map_tree (take i items) found
      → JudgesAllUsed shape pages def map_tree found
  all_judged items i found are past count judged = record {
    judged = subst (λ (blocks : List ℕ). JudgesUsed shape pages def map_tree blocks found) (take_all i items past ∙ are) judged;
    count = count ∙ ap length are;
  }

-- one more was, of later pages that are the same
pub next_judged : (shape : Shape) (pages later : PageList) (def : TableDef) (map_tree : Forest) (items : List ℕ) (i : ℕ) (old new : UsedRows) → later ≡ pages → i < length items
    → (TableHasRows shape later def map_tree → JudgesUsed shape later def map_tree (take i items) old → JudgesUsed shape later def map_tree (take i items ++ get_or items i 0 ∷ []) new)
    → TableHasRows shape pages def map_tree → JudgesUsed shape pages def map_tree (take i items) old → JudgesUsed shape pages def map_tree (take (i + 1) items) new
next_judged shape pages later def map_tree items i old new same low step known before =
    subst (λ (blocks : List ℕ). JudgesUsed shape pages def map_tree blocks new) (sym (take_more items i 0 low))
    (subst (λ (told : PageList). TableHasRows shape told def map_tree → JudgesUsed shape told def map_tree (take i items) old → JudgesUsed shape told def map_tree (take i items ++ get_or items i 0 ∷ []) new) same step known before)

-- ---- damage

-- a Used block of a table with rows is known
abbrev pub KnowsBlock : Shape → TableDef → ℕ → PageList → Type 0
KnowsBlock shape def block pages = (map_tree : Forest) × TableHasRows shape pages def map_tree × Contains (used_blocks map_tree) block

-- the Used blocks are listed
pub runs_listing_used : {S : Type 0} {g : Ghosts S} {old new : S} {fault : Option StoreFault} (shape : Shape) (def : TableDef) → RunsOverPages g NoPage AnyPage (Unless g old (TellsMap shape def)) old new fault
    → RunsOverPages g NoPage AnyPage (Unless g old (TellsTable shape def)) old new fault
runs_listing_used shape def run = runs_wider run (λ p there mine. mine) (λ p is. is) (λ damage unless told tells. unless told (tells.0, tells.1.trees.map))

-- ---- by rule

module _ {shape : Shape} {pages : PageList} {def : TableDef} {map_tree : Forest} where
  -- row pages that were judged to be sound
  pub rows_kept : (row_pages : Option ℕ) → row_pages ≡ None → JudgesEach (AreBlockRowsSound shape pages def) (BreaksBlockRows shape pages def) (used_blocks map_tree) row_pages → TableHasTrees shape pages def map_tree → TableHasRows shape pages def map_tree
  rows_kept None is judged trees = record { trees = trees; rows = λ block there. each_of (AreBlockRowsSound shape pages def) (used_blocks map_tree) block judged.holds there }
  rows_kept (Some page) is judged trees = absurd (cc)

  -- and ones that weren't
  rows_broken : (page : ℕ) → JudgesEach (AreBlockRowsSound shape pages def) (BreaksBlockRows shape pages def) (used_blocks map_tree) (Some page) → TableHasRows shape pages def map_tree → ⊥
  rows_broken page judged known =
      let block = member-breaks_any (BreaksBlockRows shape pages def) (used_blocks map_tree) page judged.breaks in
      sound_breaks_none shape pages def block.0 (known.rows block.0 block.1) page block.2

  -- each rule is judged where the row pages are broken
  pub judged_broken : (rule : TableRule) (found : Findings) (row_pages : Option ℕ) (page : ℕ) → row_pages ≡ Some page → found.row_pages ≡ Some page
      → (TableHasTrees shape pages def map_tree → JudgesEach (AreBlockRowsSound shape pages def) (BreaksBlockRows shape pages def) (used_blocks map_tree) row_pages) → TableKnownFor rule shape pages def map_tree
      → Judges (TableKeeps rule shape pages def map_tree) (TableBreaks rule shape pages def map_tree) (found_of rule found)
  judged_broken rule found None page is here judged known = absurd (cc)
  judged_broken (Block RowPages) found (Some other) page is here judged known = subst (JudgesEach (AreBlockRowsSound shape pages def) (BreaksBlockRows shape pages def) (used_blocks map_tree)) (is ∙ sym here) (judged known)
  judged_broken (Block Counts) found (Some other) page is here judged known = absurd (rows_broken other (judged known.trees) known)
  judged_broken (Block Cells) found (Some other) page is here judged known = absurd (rows_broken other (judged known.trees) known)
  judged_broken (Index kind) found (Some other) page is here judged known = absurd (rows_broken other (judged known.rows.trees) known.rows)
  judged_broken Keys found (Some other) page is here judged known = absurd (rows_broken other (judged known.rows.trees) known.rows)

  -- and where they are sound
  pub judged_sound : (rule : TableRule) (found : Findings) (row_pages : Option ℕ) → row_pages ≡ None
      → (TableHasTrees shape pages def map_tree → JudgesEach (AreBlockRowsSound shape pages def) (BreaksBlockRows shape pages def) (used_blocks map_tree) row_pages)
      → (TableHasRows shape pages def map_tree → JudgesTable shape pages def map_tree found) → TableKnownFor rule shape pages def map_tree
      → Judges (TableKeeps rule shape pages def map_tree) (TableBreaks rule shape pages def map_tree) (found_of rule found)
  judged_sound (Block RowPages) found row_pages none rows judged known =
      subst (JudgesEach (AreBlockRowsSound shape pages def) (BreaksBlockRows shape pages def) (used_blocks map_tree)) (none ∙ sym (judged (rows_kept row_pages none (rows known) known)).row_pages) (rows known)
  judged_sound (Block Counts) found row_pages none rows judged known = (judged known).counts
  judged_sound (Block Cells) found row_pages none rows judged known = (judged known).cells
  judged_sound (Index Blocks) found row_pages none rows judged known = (judged known.rows).block_indexes known
  judged_sound (Index Rows) found row_pages none rows judged known = (judged known.rows).record_indexes
  judged_sound Keys found row_pages none rows judged known = (judged known.rows).keys
