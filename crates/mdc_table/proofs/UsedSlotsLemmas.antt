-- The rows in some slots of a block that may be Used: none of another.
use Rattle.std.proofs.Common.{◌≡◌, ◌∙◌, ◌<◌, ℕ, Bool, true, false, cond, List, [], ◌∷◌, None, Some, Option, ap, arith, get_or, inl, inr, length, map, refl, subst, sym}
use Rattle.std.specs.Prelude.{◌==◌, Contains, IsTrue, nat_lt, slice_get}
use Rattle.std.specs.List.{list_any}
use Rattle.std.proofs.lemmas.Bool.{eq-eqb, lt-ltb, ne_eqb}
use Rattle.std.proofs.lemmas.List.{get_or_default}
use Rattle.std.proofs.lemmas.List.Folds.{list_any_at, list_any_none}
use Rattle.std.proofs.lemmas.Option.{same_Some}
use Rattle.mdc_ast.specs.declared.definition.IndexDef.{IndexDef}
use Rattle.mdc_ast.specs.declared.definition.TableDef.{TableDef}
use Rattle.mdc_ast.specs.declared.predicate.Pred.{Pred}
use Rattle.store_api.specs.Fetching.{BringsOnce}
use Rattle.store_api.specs.Frame.{NoPage}
use Rattle.store_api.specs.RunsOverPages.{RunsOverPages}
use Rattle.store_api.specs.declared.fault.StoreFault.{StoreFault}
use Rattle.store_api.specs.declared.pages.Pages.{Ghosts}
use Rattle.store_api.specs.declared.shape.Shape.{Shape}
use Rattle.store_api.proofs.FetchingLemmas.{only_once}
use Rattle.store_api.proofs.RunsOverPagesLemmas.{runs_then, runs_wider}
use Rattle.entry_tree.specs.Forest.{Forest}
use Rattle.block_map.specs.MapLines.{used_blocks}
use Rattle.block_rows.specs.Giving.{WasGiven}
use Rattle.block_rows.specs.HeldRows.{BreaksRows, qualifying}
use Rattle.block_rows.specs.ListedSlots.{IsPageOfSlots, rows_in_slots}
use Rattle.block_rows.specs.declared.row_sink.RowSink.{Ghosts as SinkGhosts}
use Rattle.block_rows.proofs.GivingLemmas.{given_none}
use Rattle.free_space.proofs.TableRunsLemmas.{runs_broken}
use Rattle.mdc_sound.specs.StandingTable.{BreaksExpected, BreaksTable, IsPageOfBlock, NamesTablePart, pages_of, roots_in}
use Rattle.mdc_sound.specs.TableRows.{PlacedRow, rows_in_block}
use Rattle.mdc_sound.proofs.StandingTableLemmas.{stands_same}
use Rattle.table_blocks.specs.SeenSlots.{IsUsedInMap}
use Rattle.table_trees.specs.TableTrees.{map_place, record_place}
use Rattle.table_trees.specs.ToldPages.{PageList}
use Rattle.table_trees.specs.TreesBeside.{IsTreePageAt}
use Rattle.mdc_table.specs.TableReading.{rows_if_used}
use Rattle.mdc_table.specs.UsedSlots.{HasFilledSlots, HasRowsInSlots, IsSlotsPage, NamesLackingRow}
use Rattle.mdc_table.specs.UsedSlots.NamesLackingRow.{of_block, of_index}
use Rattle.mdc_table.proofs.StandingBlocksLemmas.{breaks_rows_of_used}

-- ---- rows

pub is_listed : (numbers : List ℕ) (n : ℕ) → Contains numbers n → list_any (λ m. m == n) numbers ≡ true
is_listed numbers n (k, low, is) = list_any_at (λ m. m == n) numbers k n low (eq-eqb (get_or numbers k n) n is)

pub is_unlisted : (numbers : List ℕ) (n : ℕ) → (Contains numbers n → ⊥) → list_any (λ m. m == n) numbers ≡ false
is_unlisted numbers n none = list_any_none (λ m. m == n) numbers (λ k d low. ne_eqb (get_or numbers k d) n (λ same. none (k, low, get_or_default numbers k n d low ∙ same)))

module _ (shape : Shape) (pages : PageList) (def : TableDef) (map_tree : Forest) (block : ℕ) (slots : List ℕ) where
  -- the rows in the slots, whatever their block is
  abbrev found : List PlacedRow
  found = rows_in_slots slots (rows_if_used shape pages def map_tree block)

  -- all of them in a Used block
  abbrev all : List PlacedRow
  all = rows_in_slots slots (rows_in_block shape pages def block)

  found_is : (used : Bool) → used ≡ list_any (λ m. m == block) (used_blocks map_tree) → found ≡ rows_in_slots slots (cond used (rows_in_block shape pages def block) [])
  found_is used is = ap (λ (b : Bool). rows_in_slots slots (cond b (rows_in_block shape pages def block) [])) (sym is)

  module _ (unused : false ≡ list_any (λ m. m == block) (used_blocks map_tree)) where
    -- of another block a sink is given nothing
    pub none_given : {K : Type 0} (sinks : SinkGhosts K) (pred : Option Pred) (sink : K) → WasGiven sinks sink sink (qualifying pred found)
    none_given sinks pred sink = subst (λ (rows : List PlacedRow). WasGiven sinks sink sink (qualifying pred rows)) (sym (found_is false unused)) (given_none sinks sink)

    -- and there is no row in its slots
    pub none_there : false ≡ nat_lt 0 (length found)
    none_there = sym (ap (λ (rows : List PlacedRow). nat_lt 0 (length rows)) (found_is false unused))

  module _ (used : true ≡ list_any (λ m. m == block) (used_blocks map_tree)) where
    -- of a Used one it is given all that it has there
    pub all_given : {K : Type 0} (sinks : SinkGhosts K) (pred : Option Pred) (old new : K) → WasGiven sinks old new (qualifying pred all) → WasGiven sinks old new (qualifying pred found)
    all_given sinks pred old new given = subst (λ (rows : List PlacedRow). WasGiven sinks old new (qualifying pred rows)) (sym (found_is true used)) given

    -- and there is one, where each slot has a row
    pub one_there : 0 < length slots → length all ≡ length slots → true ≡ nat_lt 0 (length found)
    one_there some filled = sym (ap (λ (rows : List PlacedRow). nat_lt 0 (length rows)) (found_is true used) ∙ lt-ltb 0 (length all) (omega (arith, some, filled)))

-- ---- damage

-- the root of the first record index is one of the table
first_root : (def : TableDef) (indexes : List IndexDef) (which : IndexDef) → slice_get indexes 0 ≡ Some which → Contains (roots_in (map (record_place def) indexes)) which.root
first_root def [] which at = absurd cc
first_root def (index ∷ indexes) which at = (0, omega arith, ap (λ (i : IndexDef). i.root) (same_Some index which at))

module _ {S : Type 0} {g : Ghosts S} {s new : S} (shape : Shape) (def : TableDef) (block : ℕ) (slots : List ℕ) where
  -- the pages of the slots of a Used block, and what their bytes may break
  pub runs_of_slots : {fault : Option StoreFault} → block < shape.extents → BringsOnce g (IsPageOfSlots shape def block slots) s new
      → RunsOverPages g NoPage (IsPageOfBlock shape block) (BreaksRows g shape s def block) s new fault
      → RunsOverPages g NoPage (IsPageOfSlots shape def block slots) (BreaksExpected g shape s def (HasFilledSlots g shape s def block slots)) s new fault
  runs_of_slots {fault} low once run =
      let these : RunsOverPages g NoPage (IsPageOfSlots shape def block slots) (BreaksRows g shape s def block) s new fault =
      record { works = run.works; touches = run.touches; brings = only_once once; cause = run.cause } in
      runs_wider these (λ p there none. absurd none) (λ p is. is)
      (λ damage b.
      let breaks = breaks_rows_of_used shape s def block damage low b in
      record { names = breaks.names; broken = λ owners forests st has. breaks.broken owners forests st (record { used = has.used }) })

  -- and a slot without a row
  pub runs_lacking : (fault : StoreFault) (count : ℕ) → NamesLackingRow shape def block fault
      → (IsTrue (g.state s).is_told → count ≡ length (rows_in_slots slots (rows_in_block shape (pages_of g s) def block))) → (count ≡ length slots → ⊥)
      → RunsOverPages g NoPage (IsPageOfSlots shape def block slots) (BreaksExpected g shape s def (HasFilledSlots g shape s def block slots)) s new None
      → RunsOverPages g NoPage (IsPageOfSlots shape def block slots) (BreaksExpected g shape s def (HasFilledSlots g shape s def block slots)) s new (Some fault)
  runs_lacking fault count (of_index which at is) counted lacks run =
      runs_broken fault is run (record { names = NamesTablePart.record_index refl (first_root def def.indexes which at); broken = λ owners forests st has. lacks (counted st.told ∙ has.filled) })
  runs_lacking fault count (of_block none is) counted lacks run =
      runs_broken fault is run (record { names = NamesTablePart.row_count block refl refl; broken = λ owners forests st has. lacks (counted st.told ∙ has.filled) })

-- ---- runs

module _ {S : Type 0} {g : Ghosts S} (shape : Shape) (def : TableDef) (block : ℕ) (slots : List ℕ) where
  -- a call on the block map
  pub slots_of_map : {old new : S} {fault : Option StoreFault} → RunsOverPages g NoPage (IsTreePageAt g old (map_place def)) (BreaksTable g shape old def) old new fault
      → RunsOverPages g NoPage (IsSlotsPage g shape old def block slots) (BreaksExpected g shape old def (HasRowsInSlots g shape old def block slots)) old new fault
  slots_of_map run =
      runs_wider run (λ p there none. absurd none) (λ p is. inl is) (λ damage b. record { names = b.names; broken = λ owners forests st has. b.broken owners forests st })

  -- and one on the slots of a block that it showed to be Used
  pub slots_of_rows : {old mid new : S} {fault : Option StoreFault} → (g.state mid).work ≡ (g.state old).work → IsUsedInMap g old def block
      → RunsOverPages g NoPage (IsTreePageAt g old (map_place def)) (BreaksTable g shape old def) old mid None
      → RunsOverPages g NoPage (IsPageOfSlots shape def block slots) (BreaksExpected g shape mid def (HasFilledSlots g shape mid def block slots)) mid new fault
      → RunsOverPages g NoPage (IsSlotsPage g shape old def block slots) (BreaksExpected g shape old def (HasRowsInSlots g shape old def block slots)) old new fault
  slots_of_rows {old} {mid} {new} same used first second =
      runs_then (slots_of_map {fault = None} first) second (λ p there none. absurd none) (λ p is. inr (λ owners forests st. (used forests.map st.trees.held.0, is)))
      (λ damage b. record {
        names = b.names;
        broken = λ owners forests st has.
            let is = used forests.map st.trees.held.0 in
            b.broken owners forests (stands_same shape old mid def owners forests first.works.steady.is_told same st) (record {
              used = is;
              filled = subst (λ (pages : PageList). length (rows_in_slots slots (rows_in_block shape pages def block)) ≡ length slots) (sym same) (has is);
            });
      })
