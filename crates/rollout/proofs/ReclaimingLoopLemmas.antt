-- The Free blocks of a table given back one after the other, in the order of the block map.
use Rattle.std.proofs.Common.{◌≡◌, ◌<◌, ◌≤◌, ◌+◌, ◌∙◌, ◌++◌, ℕ, zero, suc, List, [], ◌∷◌, None, get_or, length, map, set, sum_by, take, refl, sym, ap, subst, arith, inl, inr}
use Rattle.std.specs.Prelude.{Contains, Option, slice_index_or}
use Rattle.std.proofs.lemmas.Bool.{cases_lt}
use Rattle.std.proofs.lemmas.List.{length-take-le, take_more}
use Rattle.std.proofs.lemmas.List.Elements.{Contains-get_or}
use Rattle.std.proofs.lemmas.List.Sums.{sum_by-cons}
use Rattle.mdc_values.specs.Rising.{IsLower, IsRising}
use Rattle.mdc_ast.specs.TableLimits.{IsTableDef}
use Rattle.mdc_ast.specs.declared.definition.TableDef.{TableDef}
use Rattle.store_api.specs.Frame.{NoPage}
use Rattle.store_api.specs.RunsOverPages.{RunsOverPages}
use Rattle.store_api.specs.declared.fault.StoreFault.{StoreFault}
use Rattle.store_api.specs.declared.pages.Pages.{Ghosts}
use Rattle.store_api.specs.declared.shape.Shape.{Shape}
use Rattle.store_api.proofs.RunsOverPagesLemmas.{runs_as, runs_wider}
use Rattle.extent_map.specs.declared.kind.Kind.{Kind}
use Rattle.extent_map.specs.declared.space_notes.SpaceNotes.{SpaceNotes}
use Rattle.entry_tree.specs.Forest.{times}
use Rattle.entry_tree.specs.HeldTrees.{IsTreePage}
use Rattle.entry_tree.specs.declared.tree.Tree.{Tree}
use Rattle.block_map.specs.BlockMaps.{AnyMap, BreaksMapTree}
use Rattle.block_map.specs.MapLines.{free_blocks}
use Rattle.block_map.proofs.MapLinesLemmas.{contains_cases}
use Rattle.table_trees.specs.SpaceChanges.{MakesChanges}
use Rattle.table_trees.specs.ToldPages.{PageList}
use Rattle.table_trees.proofs.PageCountLemmas.{grows_pages_then}
use Rattle.mdc_sound.specs.Placing.{AfterReturns, Spot, SpotsAfterReturns}
use Rattle.mdc_sound.specs.Placing.Spot.{FreeBlock, FreeExtent, OtherBlock}
use Rattle.mdc_sound.specs.StandingTable.{BreaksExpected, BreaksTable, ChangesTable, NamesTablePart, StandsTable, TableForests, forests_in_order, pages_of, spots_of}
use Rattle.mdc_sound.proofs.TableSpotsLemmas.{free_block_of_spot, free_block_spot}
use Rattle.mdc_sound.proofs.MappedBlocksLemmas.{few_extents}
use Rattle.table_blocks.specs.BlockChanges.{IsTreeOrMapPageOfTable}
use Rattle.table_blocks.specs.BlockSteps.{HasFreeBlock, ReclaimsBlock, reclaimed_changes}
use Rattle.table_blocks.proofs.MapOfTableLemmas.{breaks_map, map_of_table}
use Rattle.table_blocks.proofs.SpotChangesLemmas.{returns_change}
use Rattle.mdc_table.proofs.StandingBlocksLemmas.{free_within}
use Rattle.cell_change.proofs.ChangedRowLemmas.{same_returns}
use Rattle.cell_change.proofs.SpotStepsLemmas.{returns_then, set_both}
use Rattle.rollout.specs.RolledBlocks.{GivesBackSpace}
use Rattle.rollout.proofs.LeavingRowsLemmas.{space_none, space_then}
use Rattle.rollout.proofs.LookedTableLemmas.{looked_table, spots_looked}
use Rattle.rollout.proofs.TakenCellsLemmas.{in_take}
use Rattle.rollout.proofs.RollingTableLemmas.{few_of}
use Rattle.rollout.specs.RolledSome.{turned}
use Rattle.rollout.proofs.TurnedSpotsLemmas.{turned_more, turned_other}

-- ---- rising numbers

-- the first is below all others
rising_above : (x : ℕ) (xs : List ℕ) → IsRising IsLower (x ∷ xs) → (y : ℕ) → Contains xs y → x < y
rising_above x [] rising y there = absurd (omega (arith, there.1))
rising_above x (z ∷ zs) rising y there = elim (contains_cases y z zs there) [ inl here ↦ omega (arith, rising.0, here) | inr later ↦ omega (arith, rising.0, rising_above z zs rising.1 y later) ]

rising_rest : (x : ℕ) (xs : List ℕ) → IsRising IsLower (x ∷ xs) → IsRising IsLower xs
rising_rest x [] rising = tt
rising_rest x (y ∷ xs) rising = rising.1

pub rising_at : (xs : List ℕ) → IsRising IsLower xs → (i j d : ℕ) → i < j → j < length xs → get_or xs i d < get_or xs j d
rising_at [] rising i j d low high = absurd (omega (arith, high))
rising_at (x ∷ xs) rising i zero d low high = absurd (omega (arith, low))
rising_at (x ∷ xs) rising zero (suc j) d low high = rising_above x xs rising (get_or xs j d) (Contains-get_or xs j d (omega (arith, high)))
rising_at (x ∷ xs) rising (suc i) (suc j) d low high = rising_at xs (rising_rest x xs rising) i j d (omega (arith, low)) (omega (arith, high))

-- ---- spots

-- a Free block stays one where trees give extents back
free_on : (xs ys : List Spot) (e : ℕ) → SpotsAfterReturns xs ys → slice_index_or xs e OtherBlock ≡ FreeBlock → slice_index_or ys e OtherBlock ≡ FreeBlock
free_on [] [] e all is = is
free_on [] (y ∷ ys) e all is = absurd all
free_on (x ∷ xs) [] e all is = absurd all
free_on (x ∷ xs) (y ∷ ys) zero all is = sym (subst (λ (a : Spot). AfterReturns a y) is all.0)
free_on (x ∷ xs) (y ∷ ys) (suc e) all is = free_on xs ys e all.1 is

-- ---- two changes of a table that bring no page to its trees

module _ {S : Type 0} (g : Ghosts S) (shape : Shape) (old mid new : S) (def : TableDef) (owners owners_mid owners_now : List Kind) (forests forests_mid forests_now : TableForests) where
  pub fewer_then : {before between noted : SpaceNotes} → ChangesTable g shape before between old mid def owners forests owners_mid forests_mid → ChangesTable g shape between noted mid new def owners_mid forests_mid owners_now forests_now
      → ((p : ℕ) → 0 < sum_by (times p) (forests_in_order forests_mid) → 0 < sum_by (times p) (forests_in_order forests)) → ((p : ℕ) → 0 < sum_by (times p) (forests_in_order forests_now) → 0 < sum_by (times p) (forests_in_order forests_mid))
      → length (pages_of g old) ≤ length (pages_of g mid) → length (pages_of g mid) ≤ length (pages_of g new) → ChangesTable g shape before noted old new def owners forests owners_now forests_now
  fewer_then first second fewer still_fewer longer still_longer = record {
    stands = second.stands;
    others_blocks = λ e t other is. second.others_blocks e t other (first.others_blocks e t other is);
    no_others_blocks = λ e t other is. first.no_others_blocks e t other (second.no_others_blocks e t other is);
    others_pages = λ p used none. second.others_pages p (first.others_pages p used none) (none_mid p none);
    used_pages = λ p used. elim (second.used_pages p used) [
      | inl some ↦ inl some
      | inr was ↦ elim (first.used_pages p was.0) [ inl some ↦ absurd (omega (arith, some, was.1)) | inr earlier ↦ inr earlier ]
    ];
    pages = λ p some. inl (fewer p (still_fewer p some));
    grows = grows_pages_then shape old mid new longer still_longer first.grows second.grows;
    notes = λ right. second.notes (first.notes right);
  }
    where
      none_mid : (p : ℕ) → sum_by (times p) (forests_in_order forests) ≡ 0 → sum_by (times p) (forests_in_order forests_mid) ≡ 0
      none_mid p none = elim (cases_lt 0 (sum_by (times p) (forests_in_order forests_mid))) [ inl some ↦ absurd (omega (arith, fewer p some, none)) | inr not ↦ omega (arith, not) ]

-- ---- one block

-- its changes of space take nothing
pub space_reclaimed : (shape : Shape) (old new : PageList) (def : TableDef) (block : ℕ) → MakesChanges shape old (reclaimed_changes def block) new → GivesBackSpace shape old new
space_reclaimed shape old new def block makes = record { changes = reclaimed_changes def block; each = (tt, (tt, tt)); makes = makes }

-- none lies past the extents
pub past_extents : {S : Type 0} (g : Ghosts S) (shape : Shape) (s : S) (def : TableDef) (block : ℕ) → shape.extents ≤ block → BreaksExpected g shape s def (HasFreeBlock block) (record { page = def.roots.map; rule = 6 })
past_extents g shape s def block past = record {
  names = NamesTablePart.block_map refl refl;
  broken = λ owners forests st has. omega (arith, past, free_within shape s def owners forests st block has.free);
}

-- ---- some blocks

-- These blocks are free extents now, and trees may have given extents back; no page came to them, and all indexes have the trees that
-- they had.
pub record ReclaimsSome {S : Type 0} (g : Ghosts S) (shape : Shape) (before noted : SpaceNotes) (old now : S) (def : TableDef) (gone : List ℕ) (owners : List Kind) (forests : TableForests) : Type 0 where
  pub owners_now : List Kind
  pub forests_now : TableForests
  pub changes : ChangesTable g shape before noted old now def owners forests owners_now forests_now
  pub composite : forests_now.composite ≡ forests.composite
  pub dims : forests_now.dims ≡ forests.dims
  pub records : forests_now.indexes ≡ forests.indexes
  pub pages : (p : ℕ) → 0 < sum_by (times p) (forests_in_order forests_now) → 0 < sum_by (times p) (forests_in_order forests)
  pub spots : SpotsAfterReturns (turned FreeExtent gone (spots_of g shape old def owners forests)) (spots_of g shape now def owners_now forests_now)

-- The first Free blocks were given back, so many, and no call failed.
pub record IsReclaiming {S : Type 0} (g : Ghosts S) (shape : Shape) (before noted : SpaceNotes) (old now : S) (def : TableDef) (gone : List ℕ) (total : ℕ) : Type 0 where
  pub reclaims : (owners : List Kind) (forests : TableForests) → StandsTable g shape old def owners forests → ReclaimsSome g shape before noted old now def gone owners forests
  pub counted : (owners : List Kind) (forests : TableForests) → StandsTable g shape old def owners forests → total ≡ length gone
  pub space : (owners : List Kind) (forests : TableForests) → StandsTable g shape old def owners forests → GivesBackSpace shape (pages_of g old) (pages_of g now)
  pub count : length (g.state now).work ≡ length (g.state old).work
  pub runs : RunsOverPages g (IsTreeOrMapPageOfTable g shape old def) (IsTreeOrMapPageOfTable g shape old def) (BreaksTable g shape old def) old now None

module _ {S : Type 0} (g : Ghosts S) (shape : Shape) (def : TableDef) (defined : IsTableDef def.number def) (old : S) where
  -- ---- none yet

  module _ (tree : Tree) (root : tree.root ≡ def.roots.map) (width : tree.width ≡ 7) (looked : S) where
    -- the block map was read, which changes nothing
    pub runs_listed : (fault : Option StoreFault) → RunsOverPages g NoPage (IsTreePage g old tree) (BreaksMapTree g old tree AnyMap) old looked fault
        → RunsOverPages g (IsTreeOrMapPageOfTable g shape old def) (IsTreeOrMapPageOfTable g shape old def) (BreaksTable g shape old def) old looked fault
    runs_listed fault run =
        runs_wider run (λ p low none. absurd none)
        (λ p is owners forests st. inl (omega (arith, is forests.map (map_of_table shape old def defined tree root width owners forests st), sum_by-cons (times p) forests.map (forests.composite ∷ forests.dims ++ forests.indexes))))
        (breaks_map shape old def defined tree root width)

    pub reclaiming_none : {noted : SpaceNotes} → (g.state looked).is_told ≡ (g.state old).is_told → (g.state looked).work ≡ (g.state old).work
        → RunsOverPages g NoPage (IsTreePage g old tree) (BreaksMapTree g old tree AnyMap) old looked None → IsReclaiming g shape noted noted old looked def [] 0
    reclaiming_none told work run = record {
      reclaims = λ owners forests st. record {
        owners_now = owners;
        forests_now = forests;
        changes = looked_table g shape old looked def told work owners forests st;
        composite = refl;
        dims = refl;
        records = refl;
        pages = λ p some. some;
        spots = subst (SpotsAfterReturns (spots_of g shape old def owners forests)) (sym (spots_looked g shape old looked def told work owners forests)) (same_returns (spots_of g shape old def owners forests));
      };
      counted = λ owners forests st. refl;
      space = λ owners forests st. subst (GivesBackSpace shape (pages_of g old)) (sym work) (space_none g shape def old owners forests st);
      count = ap length work;
      runs = runs_listed None run;
    }

  -- ---- the next one

  module _ {before noted : SpaceNotes} (now : S) (free : List ℕ) (rising : IsRising IsLower free) (listed : (owners : List Kind) (forests : TableForests) → StandsTable g shape old def owners forests → free ≡ free_blocks forests.map)
      (n block : ℕ) (low : n < length free) (is : block ≡ get_or free n block) (total : ℕ) (so_far : IsReclaiming g shape before noted old now def (take n free) total) where
    -- it isn't among those that went
    not_before : Contains (take n free) block → ⊥
    not_before there =
        let at = in_take free n block there in
        omega (arith, rising_at free rising at.0 n block at.1 low, at.3, is)

    still_free : (owners : List Kind) (forests : TableForests) (st : StandsTable g shape old def owners forests) → Contains (free_blocks (so_far.reclaims owners forests st).forests_now.map) block
    still_free owners forests st =
        let some = so_far.reclaims owners forests st in
        let there : Contains (free_blocks forests.map) block = subst (λ l. Contains l block) (listed owners forests st) (subst (Contains free) (sym is) (Contains-get_or free n block low)) in
        let then = spots_of g shape old def owners forests in
        let was : slice_index_or (turned FreeExtent (take n free) then) block OtherBlock ≡ FreeBlock =
        turned_other FreeExtent (take n free) then block not_before ∙ free_block_spot shape (pages_of g old) def owners forests.map block OtherBlock st.map there in
        free_block_of_spot shape (pages_of g now) def some.owners_now some.forests_now.map some.changes.stands.map block
        (free_on (turned FreeExtent (take n free) then) (spots_of g shape now def some.owners_now some.forests_now) block some.spots was)

    -- a table has fewer blocks than a number can count
    few_free : (owners : List Kind) (forests : TableForests) → StandsTable g shape old def owners forests → length free ≤ shape.extents
    few_free owners forests st = few_of free shape.extents (λ i j d before later same. omega (arith, rising_at free rising i j d before later, same)) (λ b there. free_within shape old def owners forests st b (subst (λ l. Contains l b) (listed owners forests st) there))

    pub reclaiming_runs : (new : S) (fault : Option StoreFault)
        → RunsOverPages g (IsTreeOrMapPageOfTable g shape now def) (IsTreeOrMapPageOfTable g shape now def) (BreaksExpected g shape now def (HasFreeBlock block)) now new fault
        → RunsOverPages g (IsTreeOrMapPageOfTable g shape old def) (IsTreeOrMapPageOfTable g shape old def) (BreaksTable g shape old def) old new fault
    reclaiming_runs new fault run = runs_as so_far.runs run (λ p there mine. mine) (λ p there mine. back p mine) (λ p mine. mine) back (λ damage breaks. record {
      names = breaks.names;
      broken = λ owners forests st.
          let some = so_far.reclaims owners forests st in
          breaks.broken some.owners_now some.forests_now some.changes.stands (record { free = still_free owners forests st });
    })
      where
        back : (p : ℕ) → IsTreeOrMapPageOfTable g shape now def p → IsTreeOrMapPageOfTable g shape old def p
        back p mine owners forests st =
            let some = so_far.reclaims owners forests st in
            elim (mine some.owners_now some.forests_now some.changes.stands) [ inl tree ↦ inl (some.pages p tree) | inr map ↦ inr map ]

    pub reclaiming_next : {noted_now : SpaceNotes} (new : S) (total_now : ℕ) → (total + 1 < 4294967296 → total_now ≡ total + 1)
        → ((owners : List Kind) (forests : TableForests) → StandsTable g shape now def owners forests → Contains (free_blocks forests.map) block → ReclaimsBlock g shape noted noted_now now new def block owners forests)
        → ((owners : List Kind) (forests : TableForests) → StandsTable g shape now def owners forests → Contains (free_blocks forests.map) block → GivesBackSpace shape (pages_of g now) (pages_of g new))
        → length (g.state new).work ≡ length (g.state now).work
        → RunsOverPages g (IsTreeOrMapPageOfTable g shape now def) (IsTreeOrMapPageOfTable g shape now def) (BreaksExpected g shape now def (HasFreeBlock block)) now new None
        → IsReclaiming g shape before noted_now old new def (take (n + 1) free) total_now
    reclaiming_next {noted_now} new total_now more_counted reclaims space count run = record {
      reclaims = λ owners forests st. subst (λ front. ReclaimsSome g shape before noted_now old new def front owners forests) (sym (take_more free n block low ∙ ap (λ b. take n free ++ b ∷ []) (sym is))) (more owners forests st);
      counted = λ owners forests st.
          let so_many : length (take n free) ≡ n = length-take-le n free (omega (arith, low)) in
          let now_many : length (take (n + 1) free) ≡ n + 1 = length-take-le (n + 1) free (omega (arith, low)) in
          let is_now = more_counted (omega (arith, so_far.counted owners forests st, so_many, low, few_free owners forests st, few_extents shape)) in
          omega (arith, is_now, so_far.counted owners forests st, so_many, now_many);
      space = λ owners forests st.
          let some = so_far.reclaims owners forests st in
          space_then shape (pages_of g old) (pages_of g now) (pages_of g new) (so_far.space owners forests st) (space some.owners_now some.forests_now some.changes.stands (still_free owners forests st));
      count = count ∙ so_far.count;
      runs = reclaiming_runs new None run;
    }
      where
        more : (owners : List Kind) (forests : TableForests) → StandsTable g shape old def owners forests → ReclaimsSome g shape before noted_now old new def (take n free ++ block ∷ []) owners forests
        more owners forests st =
            let some = so_far.reclaims owners forests st in
            let one = reclaims some.owners_now some.forests_now some.changes.stands (still_free owners forests st) in
            let then = spots_of g shape old def owners forests in
            let spots_now = spots_of g shape now def some.owners_now some.forests_now in
            let front = turned FreeExtent (take n free) then in
            record {
              owners_now = one.owners_now;
              forests_now = one.forests_now;
              changes = fewer_then g shape old now new def owners some.owners_now one.owners_now forests some.forests_now one.forests_now some.changes one.turns.changes some.pages one.pages (omega (arith, so_far.count)) (omega (arith, count));
              composite = one.composite ∙ some.composite;
              dims = one.dims ∙ some.dims;
              records = one.turns.records ∙ some.records;
              pages = λ p mine. some.pages p (one.pages p mine);
              spots = subst (λ l. SpotsAfterReturns l (spots_of g shape new def one.owners_now one.forests_now)) (sym (turned_more FreeExtent (take n free) block then))
                  (returns_then (set front block FreeExtent) (set spots_now block FreeExtent) (spots_of g shape new def one.owners_now one.forests_now) (set_both AfterReturns front spots_now block FreeExtent (returns_change.stays FreeExtent) some.spots) one.turns.spots);
            }
