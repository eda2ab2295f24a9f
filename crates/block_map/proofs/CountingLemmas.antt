-- The row of a Used block, and what counting one of its rows does.
use Rattle.std.proofs.Common.{◌≡◌, ◌<◌, ◌≤◌, ◌^◌, ◌%◌, ◌⊎◌, ℕ, [], ap, sym, ◌∙◌, subst, refl, inl}
use denote.Enum.Bare.{sameb}
use Rattle.std.specs.Prelude.{Option, Some, None, IfNone, IfSome, not, true, false}
use Rattle.std.proofs.Math.Nat.{mod-eq_of_lt}
use Rattle.byteorder.specs.Numbers.{big_from-bytes}
use Rattle.mdc_words.specs.ByteOrder.{Entry}
use Rattle.store_api.specs.Frame.{NoPage}
use Rattle.store_api.specs.RunsOverPages.{RunsOverPages}
use Rattle.store_api.specs.Works.{Steady}
use Rattle.store_api.specs.declared.fault.Damage.{Damage}
use Rattle.store_api.specs.declared.fault.StoreFault.{StoreFault}
use Rattle.store_api.specs.declared.pages.Pages.{Ghosts}
use Rattle.store_api.proofs.RunsOverPagesLemmas.{runs_then, runs_wider}
use Rattle.entry_tree.specs.Forest.{Forest}
use Rattle.entry_tree.specs.HeldTrees.{BreaksTree, HoldsTree, IsTreePage}
use Rattle.entry_tree.specs.declared.tree.Tree.{Tree}
use Rattle.entry_tree.proofs.FindingLemmas.{found_still}
use Rattle.entry_tree.proofs.ReadLeafLemmas.{breaks_still, holds_still, tree_page_still}
use Rattle.block_map.specs.BlockMaps.{AnyMap, BreaksMapTree, FindsBlock, HasRow, IsMapForm}
use Rattle.block_map.specs.Counting.{FindsUsedRow, HasRoom, IfUsed, LacksRoom, used_row}
use Rattle.block_map.specs.FoundRows.{IsRowFound, LacksBlock, found_row}
use Rattle.block_map.specs.MapChanges.{ChangesRowTo}
use Rattle.block_map.specs.MapLines.{map_line}
use Rattle.block_map.specs.MapRows.{row_entry, state_number}
use Rattle.block_map.specs.contracts.state.BlockState.{the_type}
use Rattle.block_map.specs.declared.looking.FoundRow.{FoundRow}
use Rattle.block_map.specs.declared.row.BlockRow.{BlockRow}
use Rattle.block_map.specs.declared.state.BlockState.{BlockState}
use Rattle.block_map.specs.declared.state.BlockState.TheVariants.{Free, Used, Pending}
use Rattle.block_map.proofs.MapFormLemmas.{form_one}
use Rattle.block_map.proofs.MapLinesLemmas.{line_block, row_rows, row_state}

-- a map has one row of a block
one_row : (t : Forest) (a b : BlockRow) → IsMapForm t → a.block ≡ b.block → HasRow a t → HasRow b t → row_entry a ≡ row_entry b
one_row t a b form same i j =
    form_one t (row_entry a) (row_entry b) form i j
    (line_block a.block (state_number a.state) a.rows ∙ ap (λ (n : ℕ). n % 256 ^ 4) same ∙ sym (line_block b.block (state_number b.state) b.rows))

used_state : (state : BlockState) → state_number state ≡ 1 → state ≡ Used
used_state Free e = cc
used_state Used e = refl
used_state Pending e = cc

-- what a test for that state says
pub is_used : (state : BlockState) → not (sameb the_type state Used) ≡ false → state ≡ Used
is_used Free e = cc
is_used Used e = refl
is_used Pending e = cc

pub isnt_used : (state : BlockState) → not (sameb the_type state Used) ≡ true → state ≡ Used → ⊥
isnt_used Free e is = cc
isnt_used Used e is = cc
isnt_used Pending e is = cc

-- so it isn't a Used one where another state was found
pub not_used : (t : Forest) (block rows : ℕ) (row : BlockRow) → IsMapForm t → row.block ≡ block → (row.state ≡ Used → ⊥) → HasRow row t → HasRow (used_row block rows) t → ⊥
not_used t block rows row form same other i j =
    let e = one_row t row (used_row block rows) form same i j in
    other (used_state row.state (sym (row_state row) ∙ ap (λ (v : Entry). (map_line v).state) e ∙ row_state (used_row block rows)))

-- and it has one number of rows
pub used_once : (t : Forest) (block a b : ℕ) → IsMapForm t → a < 2 ^ 16 → b < 2 ^ 16 → HasRow (used_row block a) t → HasRow (used_row block b) t → a ≡ b
used_once t block a b form fits small i j =
    let e = one_row t (used_row block a) (used_row block b) form refl i j in
    sym (row_rows (used_row block a) fits) ∙ ap (λ (v : Entry). (map_line v).rows) e ∙ row_rows (used_row block b) small

-- a row of a Used block, by its number of rows
pub used_is : (row : BlockRow) (block : ℕ) → row.block ≡ block → row.state ≡ Used → row ≡ used_row block row.rows
used_is row block same state = ap (λ (b : ℕ). record row { block = b }) same ∙ ap (λ (s : BlockState). record { block = block; state = s; rows = row.rows }) state

module _ {S : Type 0} {g : Ghosts S} {old mid : S} {tree : Tree} {block : ℕ} {found : FoundRow} (f : FindsUsedRow g old mid tree block found) {t : Forest} (h : HoldsTree g old tree t) where
  -- the map had the row that was found
  pub used_there : HasRow (used_row block found.row.rows) t
  used_there = subst (λ (r : BlockRow). HasRow r t) f.used (f.there t h)

  -- which has one number of rows
  pub used_rows : (rows : ℕ) → IsMapForm t → rows < 2 ^ 16 → HasRow (used_row block rows) t → found.row.rows ≡ rows
  used_rows rows form fits has = used_once t block found.row.rows rows form f.stands.few fits used_there has

  -- and became another one
  pub used_changes : {new : S} (is : BlockRow) → Steady g old mid → (g.state mid).work ≡ (g.state old).work → IsMapForm t
      → ((u : Forest) → HoldsTree g mid tree u → IsMapForm u → ChangesRowTo g new tree found.row is u) → ChangesRowTo g new tree (used_row block found.row.rows) is t
  used_changes {new} is steady same form changes = subst (λ (r : BlockRow). ChangesRowTo g new tree r is t) f.used (changes t (holds_still steady same h) form)

module _ {S : Type 0} {g : Ghosts S} where
  -- a read, in a call that may change what was read
  pub runs_read : {Kind : ℕ → Type 0} {Breaks : Damage → Type 0} {old new : S} {fault : Option StoreFault} → RunsOverPages g NoPage Kind Breaks old new fault → RunsOverPages g Kind Kind Breaks old new fault
  runs_read run = runs_wider run (λ p there none. absurd none) (λ p is. is) (λ d b. b)

  -- a row is found, and then another one is put in its place
  pub runs_counted : {old mid new : S} {fault : Option StoreFault} (tree : Tree) → RunsOverPages g NoPage (IsTreePage g old tree) (BreaksMapTree g old tree AnyMap) old mid None
      → (g.state mid).work ≡ (g.state old).work → RunsOverPages g (IsTreePage g mid tree) (IsTreePage g mid tree) (BreaksTree g mid tree) mid new fault
      → RunsOverPages g (IsTreePage g old tree) (IsTreePage g old tree) (BreaksMapTree g old tree AnyMap) old new fault
  runs_counted tree first same second =
      let steady = first.works.steady in
      runs_then (runs_read first) second (λ p there is. tree_page_still p steady same is) (λ p is. tree_page_still p steady same is) (λ d b. inl (breaks_still d steady same b))

-- a row that was found stands where it was as long as the pages are the same
pub row_found_still : {S : Type 0} {g : Ghosts S} {old mid : S} {tree : Tree} (found : FoundRow) → Steady g old mid → (g.state mid).work ≡ (g.state old).work → IsRowFound g old tree found → IsRowFound g mid tree found
row_found_still found steady same f = record { entry = f.entry; few = f.few; stands = found_still found.place steady same f.stands }

-- ---- room is looked for

module _ {S : Type 0} (g : Ghosts S) (old mid : S) (tree : Tree) (block most : ℕ) where
  -- no row was found
  pub full_where_none : (o : Option FoundRow) → IfNone o ((t : Forest) → HoldsTree g old tree t → LacksBlock block t)
      → IfNone o ((t : Forest) → HoldsTree g old tree t → IsMapForm t → IfUsed block (λ rows. (most ≤ rows) ⊎ (rows ≡ 65535)) t)
  full_where_none None lacks = λ t h form rows small has. absurd (lacks t h (used_row block rows) refl has)
  full_where_none (Some found) lacks = tt

  -- one without room
  pub full_where_lacking : (o : Option FoundRow) → IfNone o ((t : Forest) → HoldsTree g old tree t → LacksBlock block t) → ((t : Forest) → HoldsTree g old tree t → FindsBlock t block (found_row o))
      → IfSome o (λ found. found.row.block ≡ block) → IfSome o (IsRowFound g mid tree) → IfSome o (λ found. LacksRoom most found.row)
      → (t : Forest) → HoldsTree g old tree t → IsMapForm t → IfUsed block (λ rows. (most ≤ rows) ⊎ (rows ≡ 65535)) t
  full_where_lacking None lacks finds named stands lacking t h form rows small has = absurd (lacks t h (used_row block rows) refl has)
  full_where_lacking (Some found) lacks finds named stands lacking t h form rows small has =
      let there = (finds t h).1 in
      let e = one_row t found.row (used_row block rows) form named there has in
      let state = used_state found.row.state (sym (row_state found.row) ∙ ap (λ (v : Entry). (map_line v).state) e ∙ row_state (used_row block rows)) in
      let used = subst (λ (r : BlockRow). HasRow r t) (used_is found.row block named state) there in
      let same = used_once t block found.row.rows rows form stands.few small used has in
      subst (λ (n : ℕ). (most ≤ n) ⊎ (n ≡ 65535)) same (lacking state)

  -- one with room
  pub finds_with_room : (o : Option FoundRow) → ((t : Forest) → HoldsTree g old tree t → FindsBlock t block (found_row o)) → IfSome o (λ found. found.row.block ≡ block) → IfSome o (IsRowFound g mid tree)
      → IfSome o (λ found. HasRoom most found.row) → IfSome o (FindsUsedRow g old mid tree block)
  finds_with_room None finds named stands room = tt
  finds_with_room (Some found) finds named stands room = record { used = used_is found.row block named room.0; there = λ t h. (finds t h).1; stands = stands }
