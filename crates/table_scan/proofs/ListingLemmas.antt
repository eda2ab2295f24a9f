-- The blocks that a scan lists, one after the other, with their lines and their cells.
use Rattle.std.proofs.Common.{◌≡◌, ◌≤◌, ◌==◌, ℕ, List, [], ◌∷◌, ◌++◌, length, map, take, ap, arith, inl, refl, subst, sym, ◌∙◌, Option, Some, None}
use Rattle.std.specs.Prelude.{Bool, Contains, cond, false, filter, true}
use Rattle.std.specs.List.{AllByRecursion}
use Rattle.std.proofs.lemmas.Bool.{eqb-true}
use Rattle.std.proofs.lemmas.List.{map-append, take_all}
use Rattle.mdc_values.specs.Rising.{IsLower, IsRising}
use Rattle.mdc_ast.specs.declared.definition.TableDef.{TableDef}
use Rattle.mdc_ast.specs.declared.predicate.Pred.{Pred}
use Rattle.mdc_ast.specs.declared.row.Cell.{Cell}
use Rattle.store_api.specs.Frame.{NoPage}
use Rattle.store_api.specs.RunsOverPages.{RunsOverPages}
use Rattle.store_api.specs.declared.fault.StoreFault.{StoreFault}
use Rattle.store_api.specs.declared.pages.Pages.{Ghosts}
use Rattle.store_api.specs.declared.shape.Shape.{Shape}
use Rattle.store_api.proofs.FrameLemmas.{touches_same}
use Rattle.store_api.proofs.RunsOverPagesLemmas.{runs_then}
use Rattle.extent_map.specs.declared.kind.Kind.{Kind}
use Rattle.entry_tree.specs.Forest.{Forest, leaf_entries}
use Rattle.block_map.specs.MapLines.{MapLine, lines_of_state, map_lines, used_blocks}
use Rattle.block_map.specs.MapRows.{line_of}
use Rattle.block_map.specs.declared.row.BlockRow.{BlockRow}
use Rattle.block_map.proofs.MapLinesLemmas.{contains_more}
use Rattle.block_map.proofs.WalkingLemmas.{blocks_are}
use Rattle.block_index.specs.ListedCells.{AreCellEntries}
use Rattle.block_index.specs.declared.listed_cells.CellBlock.{CellBlock}
use Rattle.block_rows.proofs.MetRowsLemmas.{each_append}
use Rattle.table_trees.specs.RowCells.{cell_values}
use Rattle.table_trees.specs.TableTrees.{TreePlace, composite_place, map_place}
use Rattle.table_trees.specs.TreesBeside.{HoldsTreeAt, IsTreePageAt}
use Rattle.table_trees.proofs.SideBySideLemmas.{tree_still}
use Rattle.mdc_sound.specs.StandingTable.{BreaksExpected, BreaksTable, StandsTable, TableForests, pages_of}
use Rattle.mdc_sound.specs.TableRows.{PlacedRow, rows_in_block}
use Rattle.mdc_sound.proofs.BlockRulesLemmas.{each_of}
use Rattle.mdc_sound.proofs.ElementsLemmas.{each_in}
use Rattle.mdc_sound.proofs.StandingTableLemmas.{stands_same}
use Rattle.mdc_table.specs.SeenBlocks.{IsListedSo, used_line_of}
use Rattle.mdc_table.specs.TableReading.{HasUsedBlock}
use Rattle.mdc_table.specs.declared.listed.ListedBlock.{ListedBlock}
use Rattle.table_scan.specs.Choices.{ChoosesBlocks, IsOfEntry, blocks_chosen}
use Rattle.table_scan.specs.declared.choosing.ChosenEntry.{ChosenEntry}
use Rattle.table_scan.specs.FoundRows.{IsChoicePage}
use Rattle.table_scan.specs.SeenTable.{AreListedSo, HasCellThatMay, IsListedAs, ListsBlocks, blocks_listed, listed_line}

-- these blocks were listed, and the block map has the line of each
pub record AreListedTo {S : Type 0} (g : Ghosts S) (s : S) (def : TableDef) (listed : List ListedBlock) (blocks : List ℕ) : Type 0 where
  pub blocks_are : blocks_listed listed ≡ blocks
  pub lines : (t : Forest) → HoldsTreeAt g s (map_place def) t → AllByRecursion (λ one. Contains (map_lines t) (used_line_of one)) listed

-- ---- blocks by their lines

-- a line of a block map that says Used
abbrev IsUsedLineOf : List MapLine → MapLine → Type 0
IsUsedLineOf all line = Contains all line × (line.state ≡ 1)

used_lines_of : (all : List MapLine) → AllByRecursion (IsUsedLineOf all) (filter (λ line. line.state == 1) all)
used_lines_of [] = tt
used_lines_of (line ∷ all) = go (line.state == 1) refl (each_in (IsUsedLineOf (line ∷ all)) rest (λ other there. let is = each_of (IsUsedLineOf all) rest other (used_lines_of all) there in (contains_more other line all is.0, is.1)))
  where
    rest : List MapLine
    rest = filter (λ line. line.state == 1) all

    go : (b : Bool) → (line.state == 1) ≡ b → AllByRecursion (IsUsedLineOf (line ∷ all)) rest → AllByRecursion (IsUsedLineOf (line ∷ all)) (cond b (line ∷ rest) rest)
    go true is later = (((0, omega arith, refl), eqb-true line.state 1 is), later)
    go false is later = later

-- rows of a block map that say so are listed as Used blocks
lines_there : (all : List MapLine) (lines : List BlockRow) → AllByRecursion (IsUsedLineOf all) (map line_of lines) → AllByRecursion (λ one. Contains all (used_line_of one)) (map listed_line lines)
lines_there all [] used = tt
lines_there all (line ∷ lines) used =
    (subst (λ (state : ℕ). Contains all (record { block = line.block; state = state; rows = line.rows })) used.0.1 used.0.0, lines_there all lines used.1)

blocks_of_lines : (lines : List BlockRow) → blocks_listed (map listed_line lines) ≡ map (λ (line : BlockRow). line.block) lines
blocks_of_lines [] = refl
blocks_of_lines (line ∷ lines) = ap (λ (l : List ℕ). line.block ∷ l) (blocks_of_lines lines)

without_cells : (lines : List BlockRow) → AllByRecursion (λ one. one.cell ≡ None) (map listed_line lines)
without_cells [] = tt
without_cells (line ∷ lines) = (refl, without_cells lines)

module _ {S : Type 0} {g : Ghosts S} (def : TableDef) where
  -- a tree stays where the work does
  stays : (old mid : S) (place : TreePlace) (t : Forest) → (g.state mid).is_told ≡ (g.state old).is_told → (g.state mid).work ≡ (g.state old).work → HoldsTreeAt g old place t → HoldsTreeAt g mid place t
  stays old mid place t told same held = tree_still (λ (q : ℕ). ⊥) old mid place t held (touches_same told same) told (λ q l mine. mine)

  -- none was listed
  pub none_listed : (s : S) (listed : List ListedBlock) → listed ≡ [] → AreListedTo g s def listed []
  none_listed s listed none = record { blocks_are = ap blocks_listed none; lines = λ t held. subst (AllByRecursion (λ one. Contains (map_lines t) (used_line_of one))) (sym none) tt }

  -- one more was
  pub listed_more : (old mid : S) (listed now : List ListedBlock) (blocks blocks_now : List ℕ) (one : ListedBlock) → (g.state mid).is_told ≡ (g.state old).is_told → (g.state mid).work ≡ (g.state old).work
      → now ≡ listed ++ one ∷ [] → blocks_now ≡ blocks ++ one.block ∷ [] → ((t : Forest) → HoldsTreeAt g mid (map_place def) t → Contains (map_lines t) (used_line_of one))
      → AreListedTo g old def listed blocks → AreListedTo g old def now blocks_now
  listed_more old mid listed now blocks blocks_now one told same pushed more line were = record {
    blocks_are = ap blocks_listed pushed ∙ (map-append (λ (one : ListedBlock). one.block) listed (one ∷ []) ∙ (ap (λ l. l ++ one.block ∷ []) were.blocks_are ∙ sym more));
    lines = λ t held.
        let Has : ListedBlock → Type 0 = λ one. Contains (map_lines t) (used_line_of one) in
        subst (AllByRecursion Has) (sym pushed) (each_append Has listed (one ∷ []) (were.lines t held) (line t (stays old mid (map_place def) t told same held), tt));
  }

  -- ---- all of them, without a predicate

  pub lists_lines : (s : S) (lines : List BlockRow) (listed : List ListedBlock) → listed ≡ map listed_line lines → IsRising IsLower (map (λ line. line.block) lines)
      → ((t : Forest) → HoldsTreeAt g s (map_place def) t → map line_of lines ≡ lines_of_state 1 t) → ListsBlocks g s def None listed
  lists_lines s lines listed are rising held_so =
      let blocks : blocks_listed listed ≡ map (λ (line : BlockRow). line.block) lines = ap blocks_listed are ∙ blocks_of_lines lines in
      let no_cells = subst (AllByRecursion (λ one. one.cell ≡ None)) (sym are) (without_cells lines) in
      record {
        rising = subst (IsRising IsLower) (sym blocks) rising;
        whole = λ t held. blocks ∙ blocks_are 1 t lines (held_so t held);
        lines = λ t held. subst (AllByRecursion (λ one. Contains (map_lines t) (used_line_of one))) (sym are)
            (lines_there (map_lines t) lines (subst (AllByRecursion (IsUsedLineOf (map_lines t))) (sym (held_so t held)) (used_lines_of (map_lines t))));
        cells = no_cells;
        entries = λ t held all is. each_in (IsListedAs all) listed (λ one there cell has. let none = each_of (λ (one : ListedBlock). one.cell ≡ None) listed one no_cells there in absurd cc);
      }

  pub all_listed_so : (shape : Shape) (s : S) (listed : List ListedBlock) (owners : List Kind) (forests : TableForests) → HoldsTreeAt g s (map_place def) forests.map
      → ListsBlocks g s def None listed → AreListedSo g shape s def owners forests listed
  all_listed_so shape s listed owners forests held lists =
      each_in (λ one. IsListedSo g shape s def one owners forests) listed (λ one there. record {
        line = each_of (λ one. Contains (map_lines forests.map) (used_line_of one)) listed one (lists.lines forests.map held) there;
        cell = λ cell is. let none = each_of (HasCellThatMay def None) listed one lists.cells there in absurd cc;
      })

  -- ---- and by the entries of the composite index

  pub lists_chosen : (s : S) (pred : Pred) (entries : List CellBlock) (listed : List ListedBlock) (chosen : List ChosenEntry) (n : ℕ) → length chosen ≤ n → AreListedTo g s def listed (blocks_chosen (take n chosen))
      → ChoosesBlocks def pred entries (blocks_chosen chosen) → ((t : Forest) → HoldsTreeAt g s (composite_place def) t → (all : List CellBlock) → AreCellEntries def (leaf_entries t) all → entries ≡ all)
      → AllByRecursion (IsOfEntry def pred entries) listed → ListsBlocks g s def (Some pred) listed
  lists_chosen s pred entries listed chosen n all to chooses whole of_entries =
      let are : blocks_listed listed ≡ blocks_chosen chosen = to.blocks_are ∙ ap blocks_chosen (take_all n chosen all) in
      record {
        rising = subst (IsRising IsLower) (sym are) chooses.rising;
        whole = λ t held all is. subst (λ l. ChoosesBlocks def pred l (blocks_listed listed)) (whole t held all is) (subst (ChoosesBlocks def pred entries) (sym are) chooses);
        lines = to.lines;
        cells = each_in (HasCellThatMay def (Some pred)) listed (λ one there. let e = each_of (IsOfEntry def pred entries) listed one of_entries there in (e.cell, e.cell_is, e.may));
        entries = λ t held all is. each_in (IsListedAs all) listed (λ one there cell has.
            let e = each_of (IsOfEntry def pred entries) listed one of_entries there in
            let same : e.cell ≡ cell = let both = sym e.cell_is ∙ has in cc in
            subst (λ (c : Cell). Contains all (record { cell = c; block = one.block })) same (subst (λ l. Contains l (record { cell = e.cell; block = one.block })) (whole t held all is) e.there));
      }

  pub chosen_listed_so : (shape : Shape) (s : S) (pred : Pred) (entries : List CellBlock) (listed : List ListedBlock) (owners : List Kind) (forests : TableForests) → HoldsTreeAt g s (map_place def) forests.map
      → ((one : CellBlock) → Contains entries one → (placed : PlacedRow) × Contains (rows_in_block shape (pages_of g s) def one.block) placed × (one.cell.values ≡ cell_values def placed.row.values))
      → AllByRecursion (IsOfEntry def pred entries) listed → ((t : Forest) → HoldsTreeAt g s (map_place def) t → AllByRecursion (λ one. Contains (map_lines t) (used_line_of one)) listed)
      → AreListedSo g shape s def owners forests listed
  chosen_listed_so shape s pred entries listed owners forests held its of_entries lines =
      each_in (λ one. IsListedSo g shape s def one owners forests) listed (λ one there. record {
        line = each_of (λ one. Contains (map_lines forests.map) (used_line_of one)) listed one (lines forests.map held) there;
        cell = λ cell is.
            let e = each_of (IsOfEntry def pred entries) listed one of_entries there in
            let same : e.cell ≡ cell = let both = sym e.cell_is ∙ is in cc in
            let (placed, within, values) = its (record { cell = e.cell; block = one.block }) e.there in
            (placed, within, sym (ap (λ (c : Cell). c.values) same) ∙ values);
      })

  -- ---- runs

  -- the line of a block that is Used where the table stands
  pub runs_line : {old now new : S} {fault : Option StoreFault} (shape : Shape) (block : ℕ) → (g.state now).work ≡ (g.state old).work
      → ((owners : List Kind) (forests : TableForests) → StandsTable g shape old def owners forests → Contains (used_blocks forests.map) block)
      → RunsOverPages g NoPage (IsChoicePage g shape old def) (BreaksTable g shape old def) old now None
      → RunsOverPages g NoPage (IsTreePageAt g now (map_place def)) (BreaksExpected g shape now def (HasUsedBlock block)) now new fault
      → RunsOverPages g NoPage (IsChoicePage g shape old def) (BreaksTable g shape old def) old new fault
  runs_line {old} {now} shape block same used first second =
      let told = first.works.steady.is_told in
      runs_then first second (λ p there none. absurd none) (λ p is owners forests st. inl (is forests.map (stands_same shape old now def owners forests told same st).trees.held.0))
      (λ damage b. record { names = b.names; broken = λ owners forests st. b.broken owners forests (stands_same shape old now def owners forests told same st) (record { used = used owners forests st }) })
