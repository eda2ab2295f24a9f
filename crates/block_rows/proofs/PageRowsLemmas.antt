-- One page of a block: its slots by its bits, and what a call on its bytes makes of the page in the store.
use Rattle.std.proofs.Common.{◌≡◌, ◌<◌, ◌≤◌, ◌+◌, ℕ, zero, suc, List, [], ◌∷◌, ◌++◌, length, get_or, set, take, Option, Some, None, Bool, IsTrue, true, false, cond, not, Result, Ok, Err, IfErr, refl, ap, sym, ◌∙◌, arith, subst}
use Rattle.std.specs.Prelude.{MatchOption, is_some}
use Rattle.std.proofs.lemmas.List.{get_or-set_same, length-set}
use Rattle.std.proofs.lemmas.List.Sums.{count_by-le-length, sum_by-cons}
use Rattle.mdc_ast.specs.declared.definition.ColumnDef.{ColumnDef}
use Rattle.mdc_ast.specs.declared.row.Row.{Row}
use Rattle.mdc_words.proofs.ListedLemmas.{get_or-listed, length-listed}
use Rattle.store_api.specs.Calls.{Edits}
use Rattle.store_api.specs.Causes.{NoDamage, fault_of}
use Rattle.store_api.specs.Frame.{HoldsPage, NoPage, OnlyPage}
use Rattle.store_api.specs.RunsOverPages.{RunsOverPages}
use Rattle.store_api.specs.StoreState.{page_at, seen}
use Rattle.store_api.specs.declared.fault.Damage.{Damage}
use Rattle.store_api.specs.declared.fault.StoreFault.{StoreFault}
use Rattle.store_api.specs.declared.fault.StoreFault.TheVariants.{Device, Damaged, Memory}
use Rattle.store_api.specs.declared.pages.Pages.{Ghosts}
use Rattle.store_api.proofs.FrameLemmas.{holds_along}
use Rattle.store_api.proofs.RunsOverPagesLemmas.{runs_damage, runs_memory, runs_on, runs_then, runs_wider}
use Rattle.row_page.specs.RowPage.{IsFirstSlot, IsRowPage, StartsAsRowPage, count_rows, is_slot_filled, rows_of, slot_bytes, slot_count, slot_row, stated_rows}
use Rattle.row_page.specs.Row.{row_in}
use Rattle.mdc_sound.specs.Placing.{HoldsNowhere, IsEmptySlot}
use Rattle.mdc_sound.specs.TableRows.{rows_from_slot}
use Rattle.block_rows.proofs.PlacedRowsLemmas.{rows_from_slot-all, rows_from_slot-so_far}
use Rattle.block_rows.specs.HeldRows.{IsFilledSlot}
use Rattle.block_rows.specs.PageRows.{HoldsRowPage, IsFaultOfBytes, IsLowestEmpty, RefusesPage}
use Rattle.block_rows.specs.SeenRows.{IsSeenPage, SeesIfRow, SeesSlotOfPage}

-- ---- the slots of a page

module _ (columns : List ColumnDef) (page : List ℕ) where
  pub length-slots : (slots : List (Option Row)) → rows_of columns page ≡ slots → length slots ≡ slot_count columns
  length-slots slots has = ap length (sym has) ∙ length-listed (slot_count columns) (slot_row columns page)

  pub slot-at : (slots : List (Option Row)) (slot : ℕ) (d : Option Row) → rows_of columns page ≡ slots → slot < slot_count columns → get_or slots slot d ≡ slot_row columns page slot
  slot-at slots slot d has below = ap (λ l. get_or l slot d) (sym has) ∙ get_or-listed (slot_count columns) (slot_row columns page) slot d below

  not_empty : (b : Bool) (row : Row) → b ≡ true → IsEmptySlot (cond b (Some row) None) → ⊥
  not_empty true row is empty = empty
  not_empty false row is empty = absurd cc

  is_empty : (b : Bool) (row : Row) → b ≡ false → cond b (Some row) None ≡ None
  is_empty true row is = absurd cc
  is_empty false row is = refl

  not_false : (b : Bool) → not b ≡ false → b ≡ true
  not_false true is = refl
  not_false false is = absurd cc

  not_true : (b : Bool) → not b ≡ true → b ≡ false
  not_true true is = absurd cc
  not_true false is = refl

  filled-at : (slots : List (Option Row)) (slot : ℕ) (d : Option Row) → rows_of columns page ≡ slots → slot < slot_count columns → not (is_slot_filled page slot) ≡ false → IsEmptySlot (get_or slots slot d) → ⊥
  filled-at slots slot d has below filled empty =
      not_empty (is_slot_filled page slot) _ (not_false (is_slot_filled page slot) filled) (subst IsEmptySlot (slot-at slots slot d has below) empty)

  -- the lowest empty slot, by the bits
  pub lowest-bits : (slots : List (Option Row)) (found : Option ℕ) → rows_of columns page ≡ slots → IsFirstSlot (λ slot. not (is_slot_filled page slot)) 0 (slot_count columns) found → IsLowestEmpty slots found
  lowest-bits slots None has first = λ k d within empty.
      let below : k < slot_count columns = omega (arith, within, length-slots slots has) in
      filled-at slots k d has below (first k (omega arith) below) empty
  lowest-bits slots (Some slot) has first = record {
    within = omega (arith, first.1, length-slots slots has);
    is_it = λ d. slot-at slots slot d has first.1 ∙ is_empty (is_slot_filled page slot) _ (not_true (is_slot_filled page slot) first.2);
    holds = tt;
    lowest = λ k d less empty. filled-at slots k d has (omega (arith, less, first.1)) (first.3 k (omega arith) less) empty;
  }

-- a list with as many rows as slots has no empty one
pub all-filled : (slots : List (Option Row)) → count_rows slots ≡ length slots → HoldsNowhere IsEmptySlot slots
all-filled [] full k d within empty = absurd (omega arith)
all-filled (None ∷ slots) full k d within empty =
    absurd (omega (arith, full, sum_by-cons (λ slot. cond (is_some slot) 1 0) None slots, count_by-le-length is_some slots))
all-filled (Some row ∷ slots) full zero d within empty = empty
all-filled (Some row ∷ slots) full (suc k) d within empty =
    all-filled slots (omega (arith, full, sum_by-cons (λ slot. cond (is_some slot) 1 0) (Some row) slots)) k d (omega arith) empty

-- a row is found where a bit says so
pub some_as_bit : {X : Type 0} (found : Option X) (bit : Bool) (Said : X → Type 0) → MatchOption found (bit ≡ false) Said → ((x : X) → Said x → bit ≡ true) → is_some found ≡ bit
some_as_bit None bit Said said filled = sym said
some_as_bit (Some x) bit Said said filled = sym (filled x said)

-- ---- a view of the page

module _ (columns view_columns : List ColumnDef) (page view_page : List ℕ) (same : view_page ≡ page) (alike : view_columns ≡ columns) where
  -- it states as many rows as it has slots
  pub full-view : (rows capacity : ℕ) → ((slots : List (Option Row)) → IsRowPage view_columns view_page slots → rows ≡ count_rows slots) → rows ≡ capacity → capacity ≡ slot_count columns
      → (slots : List (Option Row)) → IsRowPage columns page slots → HoldsNowhere IsEmptySlot slots
  full-view rows capacity counted full most slots is =
      let there : IsRowPage view_columns view_page slots = subst (λ k. IsRowPage k view_page slots) (sym alike) (subst (λ b. IsRowPage columns b slots) (sym same) is) in
      all-filled slots (sym (counted slots there) ∙ (full ∙ (most ∙ sym (length-slots columns page slots is.has))))

  pub lowest-view : (found : Option ℕ) → IsFirstSlot (λ slot. not (is_slot_filled view_page slot)) 0 (slot_count view_columns) found
      → (slots : List (Option Row)) → IsRowPage columns page slots → IsLowestEmpty slots found
  lowest-view found first slots is =
      lowest-bits columns page slots found is.has
      (subst (λ k. IsFirstSlot (λ slot. not (is_slot_filled page slot)) 0 (slot_count k) found) alike
      (subst (λ b. IsFirstSlot (λ slot. not (is_slot_filled b slot)) 0 (slot_count view_columns) found) same first))

  pub empty-view : (slot : ℕ) → slot < slot_count columns → is_slot_filled view_page slot ≡ false
      → (slots : List (Option Row)) → rows_of columns page ≡ slots → None ≡ get_or slots slot None
  empty-view slot below empty slots has =
      sym (slot-at columns page slots slot None has below ∙ is_empty columns page (is_slot_filled page slot) _ (ap (λ b. is_slot_filled b slot) (sym same) ∙ empty))

  pub filled-view : (slot : ℕ) (row : Row) (row_columns : List ColumnDef) (bytes : List ℕ) → slot < slot_count columns → is_slot_filled view_page slot ≡ true
      → row_columns ≡ view_columns → bytes ≡ slot_bytes view_columns view_page slot → row ≡ row_in row_columns bytes
      → (slots : List (Option Row)) → rows_of columns page ≡ slots → Some row ≡ get_or slots slot None
  filled-view slot row row_columns bytes below filled of are is slots has =
      let here : row_in row_columns bytes ≡ row_in columns (slot_bytes columns page slot) =
      ap (λ k. row_in k bytes) (of ∙ alike) ∙ ap (row_in columns) (are ∙ (ap (λ k. slot_bytes k view_page slot) alike ∙ ap (λ b. slot_bytes columns b slot) same)) in
      ap Some (is ∙ here) ∙ sym (slot-at columns page slots slot None has below ∙ filled_is (is_slot_filled page slot) _ (ap (λ b. is_slot_filled b slot) (sym same) ∙ filled))
    where
      filled_is : (b : Bool) (row : Row) → b ≡ true → cond b (Some row) None ≡ Some row
      filled_is true row is = refl
      filled_is false row is = absurd cc

  -- whether there is a row in a slot
  pub taken-view : (slot : ℕ) → slot < slot_count columns → (slots : List (Option Row)) → rows_of columns page ≡ slots → IsFilledSlot slots slot (is_slot_filled view_page slot)
  taken-view slot below slots has =
      sym (ap is_some (slot-at columns page slots slot None has below) ∙ as_bit (is_slot_filled page slot) _ ∙ ap (λ b. is_slot_filled b slot) (sym same))
    where
      as_bit : (b : Bool) (row : Row) → is_some (cond b (Some row) None) ≡ b
      as_bit true row = refl
      as_bit false row = refl

  -- so it was seen
  pub seen-slot : (slot : ℕ) (filled : Bool) → slot < slot_count columns → StartsAsRowPage columns page → filled ≡ is_slot_filled view_page slot → SeesIfRow (SeesSlotOfPage columns page slot) filled
  seen-slot slot filled below starts bit = record {
    row = get_or (rows_of columns page) slot None;
    sees = record { starts = starts; row_is = refl };
    filled_is = bit ∙ taken-view slot below (rows_of columns page) refl;
  }

  -- the next slot with a row, and the empty ones before it
  pub passed-view : (from end : ℕ) → end ≤ slot_count columns → ((k : ℕ) → from ≤ k → k < end → is_slot_filled view_page k ≡ false)
      → (slots : List (Option Row)) → rows_of columns page ≡ slots → (k : ℕ) → from ≤ k → k < end → get_or slots k None ≡ None
  passed-view from end most empty slots has k late early = sym (empty-view k (omega (arith, most, early)) (empty k late early) slots has)

  -- the rows so far, with the next one
  pub next-view : (block base from slot : ℕ) (row_columns : List ColumnDef) (bytes : List ℕ) → from ≤ slot_count columns
      → IsFirstSlot (is_slot_filled view_page) from (slot_count view_columns) (Some slot)
      → row_columns ≡ view_columns → bytes ≡ slot_bytes view_columns view_page slot
      → rows_from_slot block base (take (slot + 1) (rows_of columns page))
      ≡ rows_from_slot block base (take from (rows_of columns page)) ++ record { rid = record { block = block; slot = base + slot }; row = row_in row_columns bytes } ∷ []
  next-view block base from slot row_columns bytes within first of are =
      let slots = rows_of columns page in
      let long : length slots ≡ slot_count columns = length-slots columns page slots refl in
      let below : slot < slot_count columns = omega (arith, first.1, ap slot_count alike) in
      rows_from_slot-so_far block base from slots slot (row_in row_columns bytes) first.0 (omega (arith, below, long))
      (passed-view from slot (omega (arith, below)) first.3 slots refl)
      (sym (filled-view slot (row_in row_columns bytes) row_columns bytes below first.2 of are refl slots refl))

  -- no row is left
  pub ends-view : (block base from : ℕ) → from ≤ slot_count columns → IsFirstSlot (is_slot_filled view_page) from (slot_count view_columns) None
      → rows_from_slot block base (take from (rows_of columns page)) ≡ rows_from_slot block base (rows_of columns page)
  ends-view block base from within none =
      let slots = rows_of columns page in
      let long : length slots ≡ slot_count columns = length-slots columns page slots refl in
      let most : slot_count view_columns ≡ slot_count columns = ap slot_count alike in
      rows_from_slot-all block base from slots (omega (arith, within, long)) (λ k late early.
      passed-view from (slot_count columns) (omega arith) (λ i behind before. none i behind (omega (arith, before, most))) slots refl k late (omega (arith, early, long)))

  -- it has as many rows as its head says
  pub seen-view : (rows counted : ℕ) → StartsAsRowPage columns page → rows ≡ stated_rows view_page → counted ≡ count_rows (rows_of columns page) → counted ≡ rows → IsSeenPage columns page
  seen-view rows counted starts stated is equal = record { starts = starts; counted = ap stated_rows (sym same) ∙ (sym stated ∙ (sym equal ∙ is)) }

  -- or it is no row page
  pub unheaded-view : (rows counted : ℕ) → ((slots : List (Option Row)) → IsRowPage view_columns view_page slots → rows ≡ count_rows slots) → counted ≡ count_rows (rows_of columns page) → (counted ≡ rows → ⊥)
      → (slots : List (Option Row)) → IsRowPage columns page slots → ⊥
  unheaded-view rows counted stated is other slots has =
      let there : IsRowPage view_columns view_page slots = subst (λ k. IsRowPage k view_page slots) (sym alike) (subst (λ b. IsRowPage columns b slots) (sym same) has) in
      other (is ∙ (ap count_rows has.has ∙ sym (stated slots there)))

-- ---- the page in the store

-- the page at hand is the one that was told
pub at_hand : {S : Type 0} {g : Ghosts S} {s : S} {hand : Option (List ℕ)} {page bytes : List ℕ} (p : ℕ) → ((bytes : List ℕ) → HoldsPage g s p bytes → hand ≡ Some bytes) → hand ≡ Some page → HoldsPage g s p bytes → page ≡ bytes
at_hand {bytes = bytes} p told lent holds = let same = sym lent ∙ told bytes holds in cc

module _ {S : Type 0} {g : Ghosts S} {columns : List ColumnDef} {p : ℕ} where
  -- the page at hand
  pub rows_at_hand : {s : S} {hand : Option (List ℕ)} {page : List ℕ} {slots : List (Option Row)} → ((bytes : List ℕ) → HoldsPage g s p bytes → hand ≡ Some bytes) → hand ≡ Some page
      → HoldsRowPage g columns s p slots → IsRowPage columns page slots
  rows_at_hand {slots = slots} at_hand lent holds =
      let same : Some holds.bytes ≡ Some _ = sym (at_hand holds.bytes holds.page) ∙ lent in
      subst (λ bytes. IsRowPage columns bytes slots) (cc) holds.has

  -- the same page
  pub rows_along : {old new : S} {slots : List (Option Row)} → (g.state new).is_told ≡ (g.state old).is_told → (g.state new).work ≡ (g.state old).work
      → HoldsRowPage g columns old p slots → HoldsRowPage g columns new p slots
  rows_along told same holds = record { bytes = holds.bytes; page = holds_along told same holds.page; has = holds.has }

  -- a call on its bytes, behind a run
  pub page_fault_runs : {X : Type 0} {Mine Kind : ℕ → Type 0} {old new : S} (bytes : List ℕ) (result : Result X StoreFault)
      → RunsOverPages g Mine Kind NoDamage old new None → IfErr result (IsFaultOfBytes columns bytes p)
      → ((slots : List (Option Row)) → HoldsRowPage g columns old p slots → IsRowPage columns bytes slots)
      → RunsOverPages g Mine Kind (RefusesPage g columns old p) old new (fault_of result)
  page_fault_runs bytes (Ok x) run refuses told = runs_on run
  page_fault_runs bytes (Err Device) run refuses told = absurd refuses
  page_fault_runs bytes (Err (Damaged damage)) run refuses told =
      runs_damage (runs_on run) (record { page = refuses.page; rule = refuses.rule; no_rows = λ slots holds. refuses.no_rows slots (told slots holds) })
  page_fault_runs bytes (Err Memory) run refuses told = runs_memory (runs_on run)

  -- the page that was lent
  pub rows_of_told : {s : S} {page : List ℕ} → (IsTrue (g.state s).is_told → page ≡ page_at (g.state s).work p) → (slots : List (Option Row)) → HoldsRowPage g columns s p slots → IsRowPage columns page slots
  rows_of_told told slots holds =
      subst (λ bytes. IsRowPage columns bytes slots) (sym (told holds.page.is_told ∙ holds.page.bytes_are)) holds.has

  -- the page that was lent, once it has been given back
  pub rows_edited : {old new : S} {was now : List (Option Row)} (bytes : List ℕ) → Edits p bytes (g.state old) (g.state new) → HoldsRowPage g columns old p was → IsRowPage columns bytes now
      → HoldsRowPage g columns new p now
  rows_edited {old} {new} bytes edits holds is =
      let same : (g.state new).work ≡ set (g.state old).work p bytes = ap (λ s. s.work) edits ∙ ap (λ b. seen b (set (g.state old).work p bytes)) holds.page.is_told in
      let there : p < length (g.state old).work = holds.page.within in
      record {
        bytes = bytes;
        page = record {
          is_told = ap (λ s. s.is_told) edits ∙ holds.page.is_told;
          within = omega (arith, there, ap length same, length-set (g.state old).work p bytes);
          bytes_are = ap (λ pages. page_at pages p) same ∙ get_or-set_same (g.state old).work p bytes [] there;
        };
        has = is;
      }

  -- what was said of the same page earlier
  pub refuses_before : {old new : S} → (g.state new).is_told ≡ (g.state old).is_told → (g.state new).work ≡ (g.state old).work
      → (damage : Damage) → RefusesPage g columns new p damage → RefusesPage g columns old p damage
  refuses_before told same damage refuses = record { page = refuses.page; rule = refuses.rule; no_rows = λ slots holds. refuses.no_rows slots (rows_along told same holds) }

  -- a look at the page, and then a change of it
  pub look_then_change : {old mid new : S} {fault : Option StoreFault} → RunsOverPages g NoPage (OnlyPage p) (RefusesPage g columns old p) old mid None → (g.state mid).work ≡ (g.state old).work
      → RunsOverPages g (OnlyPage p) (OnlyPage p) (RefusesPage g columns mid p) mid new fault → RunsOverPages g (OnlyPage p) (OnlyPage p) (RefusesPage g columns old p) old new fault
  look_then_change {old = old} look same change =
      let first : RunsOverPages g (OnlyPage p) (OnlyPage p) (RefusesPage g columns old p) old _ None = runs_wider look (λ q there none. absurd none) (λ q is. is) (λ damage breaks. breaks) in
      runs_then first change (λ q there is. is) (λ q is. is) (refuses_before look.works.steady.is_told same)
