-- The slots of a block by its pages: page j of it has part j of them.
use Rattle.std.proofs.Common.{◌≡◌, ◌<◌, ◌≤◌, ◌+◌, ◌-◌, ◌*◌, ◌/◌, ◌%◌, ℕ, IsTrue, List, ◌++◌, length, get_or, set, take, drop, replicate, Option, Some, None, Bool, refl, ap, sym, ◌∙◌, inl, inr, arith, subst}
use Rattle.std.specs.Prelude.{Contains, is_some}
use Rattle.std.proofs.Math.Nat.{div-lt_iff_lt-mul, mul-le-mul_right}
use Rattle.std.proofs.lemmas.Bool.{cases_eq}
use Rattle.std.proofs.lemmas.Nat.{div-add-mod'}
use Rattle.std.proofs.lemmas.List.{length-replicate, length-set, length-take, length-take-le, take-append-drop, take_all}
use Rattle.mdc_ast.specs.declared.definition.ColumnDef.{ColumnDef}
use Rattle.mdc_ast.specs.declared.definition.TableDef.{TableDef}
use Rattle.mdc_ast.specs.declared.row.Row.{Row}
use Rattle.mdc_words.proofs.ListedLemmas.{length-listed}
use Rattle.store_api.specs.Extents.{first_page_of}
use Rattle.store_api.specs.Fetching.{BringsOnce, PagesBetween}
use Rattle.store_api.specs.Frame.{HoldsPage, NoPage, OnlyPage, Touches, WritesPage}
use Rattle.store_api.specs.RunsOverPages.{RunsOverPages}
use Rattle.store_api.specs.StoreState.{page_at}
use Rattle.store_api.specs.declared.fault.Damage.{Damage}
use Rattle.store_api.specs.declared.fault.StoreFault.{StoreFault}
use Rattle.store_api.specs.declared.pages.Pages.{Ghosts}
use Rattle.store_api.specs.declared.shape.Shape.{Shape}
use Rattle.store_api.proofs.FetchingLemmas.{once_then}
use Rattle.store_api.proofs.FrameLemmas.{holds_along, holds_here, holds_still}
use Rattle.store_api.proofs.RunsOverPagesLemmas.{runs_then, runs_wider}
use Rattle.extent_map.proofs.ExtentsLemmas.{extent_of-page, is_extent_page}
use Rattle.row_page.specs.RowPage.{IsRowPage, rows_of, slot_count, slot_row}
use Rattle.table_trees.specs.ToldPages.{PageList}
use Rattle.mdc_sound.specs.Placing.{HoldsNowhere, IsEmptySlot, IsLowestAt}
use Rattle.mdc_sound.specs.StandingTable.{IsPageOfBlock, pages_of}
use Rattle.mdc_sound.specs.TableRows.{block_page, block_slots, rows_from_slot}
use Rattle.block_rows.specs.HeldRows.{BreaksExtent, BreaksRows, HoldsRows, IsFilledSlot, PutsFirst}
use Rattle.block_rows.specs.PageRows.{HoldsRowPage, PutsInPage, RefusesPage}
use Rattle.block_rows.specs.SeenRows.{SeesIfRow, SeesSlot, SeesSlotOfPage}
use Rattle.block_rows.proofs.PageRowsLemmas.{rows_along}
use Rattle.block_rows.proofs.PartsLemmas.{get_or-part, length-parts, part, part-parts, part-replicate, part-set, part-set_other, parts-part, take-parts}
use Rattle.block_rows.proofs.PlacedRowsLemmas.{lowest-append, lowest-front, nowhere-append, nowhere-contains, rows_from_slot-append}

-- ---- the slots of a block

-- none before the first page
pub none_before : {X : Type 0} (P : X → Type 0) (c : ℕ) (slots : List X) → HoldsNowhere P (take (0 * c) slots)
none_before P c slots k d within holds = let none : 0 * c ≡ 0 = omega arith in absurd (omega (arith, none, length-take (0 * c) slots, within))

module _ {X : Type 0} (P : X → Type 0) (c j : ℕ) (slots : List X) where
  -- one page more without any
  pub nowhere_more : HoldsNowhere P (take (j * c) slots) → HoldsNowhere P (part c j slots) → HoldsNowhere P (take ((j + 1) * c) slots)
  nowhere_more front here = subst (HoldsNowhere P) (sym (take-parts c j slots)) (nowhere-append P (take (j * c) slots) (part c j slots) front here)

  -- the lowest of a page, behind pages without any
  pub lowest_in_block : (k : ℕ) (x : X) → j * c ≤ length slots → HoldsNowhere P (take (j * c) slots) → IsLowestAt P (part c j slots) k x → IsLowestAt P slots (j * c + k) x
  lowest_in_block k x within front here =
      let rest : IsLowestAt P (drop (j * c) slots) k x =
      subst (λ l. IsLowestAt P l k x) (take-append-drop c (drop (j * c) slots)) (lowest-front P (part c j slots) (drop c (drop (j * c) slots)) k x here) in
      subst (λ l. IsLowestAt P l (j * c + k) x) (take-append-drop (j * c) slots)
      (lowest-append P (take (j * c) slots) (drop (j * c) slots) (j * c) k x (length-take-le (j * c) slots within) front rest)

-- the rows of one page more
pub rows_more : (block c j : ℕ) (slots : List (Option Row)) → j * c ≤ length slots
    → rows_from_slot block 0 (take ((j + 1) * c) slots) ≡ rows_from_slot block 0 (take (j * c) slots) ++ rows_from_slot block (j * c) (part c j slots)
rows_more block c j slots within =
    let behind : 0 + length (take (j * c) slots) ≡ j * c = omega (arith, length-take-le (j * c) slots within) in
    ap (rows_from_slot block 0) (take-parts c j slots)
    ∙ (rows_from_slot-append block 0 (take (j * c) slots) (part c j slots)
    ∙ ap (λ k. rows_from_slot block 0 (take (j * c) slots) ++ rows_from_slot block k (part c j slots)) behind)

-- so many parts are within
pub parts_within : (n c j length_of : ℕ) → length_of ≡ n * c → j ≤ n → j * c ≤ length_of
parts_within n c j length_of long most = let less : j * c ≤ n * c = mul-le-mul_right c most in omega (arith, less, long)

module _ (shape : Shape) (block : ℕ) where
  -- its first page
  abbrev pub first : ℕ
  first = first_page_of shape.extents shape.extent_pages block

  -- a page of it
  pub page_of_block : (j : ℕ) → block < shape.extents → j < shape.extent_pages → IsPageOfBlock shape block (first + j)
  page_of_block j below less = (is_extent_page shape block j below less, extent_of-page shape block j less)

  pub only_page_of_block : (p j : ℕ) → block < shape.extents → j < shape.extent_pages → p ≡ first + j → IsPageOfBlock shape block p
  only_page_of_block p j below less is = subst (IsPageOfBlock shape block) (sym is) (page_of_block j below less)

  -- one of its first pages
  pub between_pages_of_block : (p j : ℕ) → block < shape.extents → j ≤ shape.extent_pages → PagesBetween first (first + j) p → IsPageOfBlock shape block p
  between_pages_of_block p j below most between = only_page_of_block p (p - first) below (omega (arith, between.0, between.1, most)) (omega (arith, between.0))

-- its slots on a page of it
pub part_of_page : (shape : Shape) (pages : PageList) (def : TableDef) (block j : ℕ) → j < shape.extent_pages → part (slot_count def.columns) j (block_slots shape pages def block) ≡ rows_of def.columns (block_page shape pages block j)
part_of_page shape pages def block j less =
    let at : ℕ → List (Option Row) = λ i. rows_of def.columns (block_page shape pages block i) in
    let here : 0 + j ≡ j = omega arith in
    part-parts (slot_count def.columns) at 0 shape.extent_pages j (λ i. length-listed (slot_count def.columns) (slot_row def.columns (block_page shape pages block i))) less ∙ ap at here

-- a row page, by the slots that it has
its_own : (columns : List ColumnDef) (bytes : List ℕ) (slots : List (Option Row)) → IsRowPage columns bytes slots → IsRowPage columns bytes (rows_of columns bytes)
its_own columns bytes slots is = subst (IsRowPage columns bytes) (sym is.has) is

-- ---- a block of a store

module _ {S : Type 0} (g : Ghosts S) (shape : Shape) (def : TableDef) (block : ℕ) where
  -- how many slots a page of it has
  abbrev c : ℕ
  c = slot_count def.columns

  page_within : (s : S) (j : ℕ) → first_page_of shape.extents shape.extent_pages (block + 1) ≤ length (pages_of g s) → j < shape.extent_pages → first shape block + j < length (pages_of g s)
  page_within s j there less = omega (arith, there, less)

  abbrev slots_of_page : S → ℕ → List (Option Row)
  slots_of_page s j = rows_of def.columns (block_page shape (pages_of g s) block j)

  length-page : (s : S) (j : ℕ) → length (slots_of_page s j) ≡ c
  length-page s j = length-listed (slot_count def.columns) (slot_row def.columns (block_page shape (pages_of g s) block j))

  pub length_of_rows : {s : S} {slots : List (Option Row)} → HoldsRows g shape s def block slots → length slots ≡ shape.extent_pages * c
  length_of_rows {s} {slots} holds = ap length (sym holds.slots_are) ∙ length-parts c (slots_of_page s) 0 shape.extent_pages (length-page s)

  -- page j
  pub page_of_rows : {s : S} {slots : List (Option Row)} (j : ℕ) → j < shape.extent_pages → HoldsRows g shape s def block slots → HoldsRowPage g def.columns s (first shape block + j) (part c j slots)
  page_of_rows {s} {slots} j less holds =
      let parts : part c j slots ≡ slots_of_page s j = ap (part c j) (sym holds.slots_are) ∙ part_of_page shape (pages_of g s) def block j less in
      record {
        bytes = block_page shape (pages_of g s) block j;
        page = holds_here (first shape block + j) holds.told (page_within s j holds.there less);
        has = subst (IsRowPage def.columns (block_page shape (pages_of g s) block j)) (sym parts) (holds.forms j less);
      }

  -- the block, from its pages
  pub rows_of_pages : {s : S} {slots : List (Option Row)} → IsTrue (g.state s).is_told → first_page_of shape.extents shape.extent_pages (block + 1) ≤ length (pages_of g s) → length slots ≡ shape.extent_pages * c
      → ((j : ℕ) → j < shape.extent_pages → HoldsRowPage g def.columns s (first shape block + j) (part c j slots)) → HoldsRows g shape s def block slots
  rows_of_pages {s} {slots} told there long pages =
      let form : (j : ℕ) → j < shape.extent_pages → IsRowPage def.columns (block_page shape (pages_of g s) block j) (part c j slots) = λ j less.
      let page = pages j less in
      subst (λ bytes. IsRowPage def.columns bytes (part c j slots)) (sym page.page.bytes_are) page.has in
      record {
        told = told;
        there = there;
        forms = λ j less. its_own def.columns (block_page shape (pages_of g s) block j) (part c j slots) (form j less);
        slots_are = parts-part c (slots_of_page s) 0 shape.extent_pages slots long (λ j less. let here : 0 + j ≡ j = omega arith in ap (slots_of_page s) here ∙ (form j less).has);
      }

  -- the same pages
  pub rows_stay : {old new : S} {slots : List (Option Row)} → (g.state new).is_told ≡ (g.state old).is_told → (g.state new).work ≡ (g.state old).work → HoldsRows g shape old def block slots → HoldsRows g shape new def block slots
  rows_stay told same holds =
      rows_of_pages (told ∙ holds.told) (omega (arith, holds.there, ap length same)) (length_of_rows holds) (λ j less. rows_along told same (page_of_rows j less holds))

  apart : (i j : ℕ) → (i ≡ j → ⊥) → first shape block + i ≡ first shape block + j → ⊥
  apart i j other same = other (omega (arith, same))

  -- a page that a change of another left
  page_stays : {old new : S} {slots : List (Option Row)} (i j : ℕ) → (i ≡ j → ⊥) → Touches g (OnlyPage (first shape block + j)) old new
      → HoldsRowPage g def.columns old (first shape block + i) slots → HoldsRowPage g def.columns new (first shape block + i) slots
  page_stays i j other touches holds = record { bytes = holds.bytes; page = holds_still touches (apart i j other) holds.page; has = holds.has }

  -- one slot of a page changed, and no other page
  pub rows_changed : {Kind : ℕ → Type 0} {Breaks : Damage → Type 0} {fault : Option StoreFault} {old new : S} {slots : List (Option Row)} (j k : ℕ) (x : Option Row) → j < shape.extent_pages → k < c
      → RunsOverPages g (OnlyPage (first shape block + j)) Kind Breaks old new fault → length (g.state new).work ≡ length (g.state old).work
      → HoldsRows g shape old def block slots → HoldsRowPage g def.columns new (first shape block + j) (set (part c j slots) k x) → HoldsRows g shape new def block (set slots (j * c + k) x)
  rows_changed {new = new} {slots = slots} j k x less below runs count holds changed =
      rows_of_pages (runs.works.steady.is_told ∙ holds.told) (omega (arith, holds.there, count)) (length-set slots (j * c + k) x ∙ length_of_rows holds) (λ i inside.
      elim (cases_eq i j) [
        | inl same ↦
            subst (λ n. HoldsRowPage g def.columns new (first shape block + n) (part c n (set slots (j * c + k) x))) (sym same)
            (subst (HoldsRowPage g def.columns new (first shape block + j)) (sym (part-set c j k slots x below)) changed)
        | inr other ↦
            subst (HoldsRowPage g def.columns new (first shape block + i)) (sym (part-set_other c i j k slots x other below)) (page_stays i j other runs.touches (page_of_rows i inside holds))
      ])

  -- ---- pages wiped one by one

  -- one page more
  pub wiped_more : {Kind : ℕ → Type 0} {Breaks : Damage → Type 0} {fault : Option StoreFault} (old new : S) (bytes : List ℕ) (p j : ℕ) → p ≡ first shape block + j → IsTrue (g.state old).is_told
      → p < length (g.state old).work → RunsOverPages g (OnlyPage p) Kind Breaks old new fault → WritesPage g p bytes old new
      → IsRowPage def.columns bytes (replicate c None) → ((i : ℕ) → i < j → HoldsRowPage g def.columns old (first shape block + i) (replicate c None))
      → (i : ℕ) → i < j + 1 → HoldsRowPage g def.columns new (first shape block + i) (replicate c None)
  wiped_more old new bytes p j at told within runs writes empty so_far i before = elim (cases_eq i j) [
    | inl same ↦
        subst (λ q. HoldsRowPage g def.columns new q (replicate c None)) (at ∙ ap (λ n. first shape block + n) (sym same))
        (record { bytes = bytes; page = writes.there (page_at (g.state old).work p) (holds_here p told within); has = empty })
    | inr other ↦ page_stays i j other (subst (λ q. Touches g (OnlyPage q) old new) at runs.touches) (so_far i (omega (arith, before, other)))
  ]

  -- all of them
  pub wiped_all : {s : S} → IsTrue (g.state s).is_told → first_page_of shape.extents shape.extent_pages (block + 1) ≤ length (g.state s).work
      → ((i : ℕ) → i < shape.extent_pages → HoldsRowPage g def.columns s (first shape block + i) (replicate c None)) → HoldsRows g shape s def block (replicate (shape.extent_pages * c) None)
  wiped_all {s} told there each =
      rows_of_pages told there (length-replicate (shape.extent_pages * c) None) (λ j less.
      subst (HoldsRowPage g def.columns s (first shape block + j)) (sym (part-replicate c shape.extent_pages j None less)) (each j less))

  -- ---- runs

  -- a page of the block that isn't a row page, met behind a run that changed nothing
  pub breaks_of_page : {old new : S} (p j : ℕ) → p ≡ first shape block + j → block < shape.extents → j < shape.extent_pages → (g.state new).is_told ≡ (g.state old).is_told → (g.state new).work ≡ (g.state old).work
      → (damage : Damage) → RefusesPage g def.columns new p damage → BreaksRows g shape old def block damage
  breaks_of_page {old} {new} p j at below less told same damage refuses = inr (record {
    page = only_page_of_block shape block damage.page j below less (refuses.page ∙ at);
    rule = refuses.rule;
    no_rows = λ bytes page is. refuses.no_rows (rows_of def.columns bytes) (record {
      bytes = bytes;
      page = subst (λ q. HoldsPage g new q bytes) refuses.page (holds_along told same page);
      has = is;
    });
  })

  -- a call on one page, behind a run that changed nothing
  pub runs_on_page : {columns : List ColumnDef} {First Mine Kind : ℕ → Type 0} {fault : Option StoreFault} {old mid new : S} (p j : ℕ) → columns ≡ def.columns → p ≡ first shape block + j → block < shape.extents → j < shape.extent_pages
      → ((q : ℕ) → First q → Mine q) → ((q : ℕ) → q ≡ p → Kind q)
      → RunsOverPages g Mine Kind (BreaksRows g shape old def block) old mid None → (g.state mid).work ≡ (g.state old).work
      → RunsOverPages g First (OnlyPage p) (RefusesPage g columns mid p) mid new fault → RunsOverPages g Mine Kind (BreaksRows g shape old def block) old new fault
  runs_on_page {mid = mid} p j of at below less mine kind so_far same call =
      runs_then so_far call (λ q there is. mine q is) kind
      (λ damage refuses. breaks_of_page p j at below less so_far.works.steady.is_told same damage (subst (λ k. RefusesPage g k mid p damage) of refuses))

  pub runs_page : {columns : List ColumnDef} {First Mine : ℕ → Type 0} {fault : Option StoreFault} {old mid new : S} (p j : ℕ) → columns ≡ def.columns → p ≡ first shape block + j → block < shape.extents → j < shape.extent_pages → ((q : ℕ) → First q → Mine q)
      → RunsOverPages g Mine (IsPageOfBlock shape block) (BreaksRows g shape old def block) old mid None → (g.state mid).work ≡ (g.state old).work
      → RunsOverPages g First (OnlyPage p) (RefusesPage g columns mid p) mid new fault → RunsOverPages g Mine (IsPageOfBlock shape block) (BreaksRows g shape old def block) old new fault
  runs_page p j of at below less mine so_far same call =
      runs_on_page p j of at below less mine (λ q is. only_page_of_block shape block q j below less (is ∙ at)) so_far same call

  -- each page of it that was brought so far, and the next
  pub once_more : {Kind : ℕ → Type 0} {old mid new : S} (p j : ℕ) → p ≡ first shape block + j → BringsOnce g (PagesBetween (first shape block) (first shape block + j)) old mid → BringsOnce g (OnlyPage p) mid new
      → ((q : ℕ) → PagesBetween (first shape block) (first shape block + (j + 1)) q → Kind q) → BringsOnce g Kind old new
  once_more p j at so_far call kind =
      once_then so_far call (λ q between is. omega (arith, between.1, is, at)) (λ q between. kind q (between.0, omega (arith, between.1))) (λ q is. kind q (omega (arith, is, at), omega (arith, is, at)))

  -- ---- the lowest empty slot

  module _ {columns : List ColumnDef} (old mid new : S) (p j : ℕ) (row : Row) (of : columns ≡ def.columns) (at : p ≡ first shape block + j) (less : j < shape.extent_pages) (told : (g.state mid).is_told ≡ (g.state old).is_told) (same : (g.state mid).work ≡ (g.state old).work)
      (full : (slots : List (Option Row)) → HoldsRows g shape old def block slots → HoldsNowhere IsEmptySlot (take (j * c) slots)) where
    page_now : (slots : List (Option Row)) → HoldsRows g shape old def block slots → HoldsRowPage g columns mid p (part c j slots)
    page_now slots holds =
        subst (λ k. HoldsRowPage g k mid p (part c j slots)) (sym of)
        (subst (λ q. HoldsRowPage g def.columns mid q (part c j slots)) (sym at) (rows_along told same (page_of_rows j less holds)))

    -- it isn't on this page either
    pub full_more : (found : Option ℕ) → found ≡ None → ((slots : List (Option Row)) → HoldsRowPage g columns mid p slots → PutsInPage g columns mid new p row slots found)
        → (slots : List (Option Row)) → HoldsRows g shape old def block slots → HoldsNowhere IsEmptySlot (take ((j + 1) * c) slots)
    full_more None is puts slots holds = nowhere_more IsEmptySlot c j slots (full slots holds) (puts (part c j slots) (page_now slots holds)).0
    full_more (Some slot) is puts slots holds = absurd cc

    -- it is on this page
    pub puts_in_block : {Kind : ℕ → Type 0} {Breaks : Damage → Type 0} {fault : Option StoreFault} (found : Option ℕ) (slot number : ℕ) → found ≡ Some slot → number ≡ j * slot_count columns + slot → slot < slot_count columns
        → RunsOverPages g (OnlyPage p) Kind Breaks mid new fault → length (g.state new).work ≡ length (g.state mid).work
        → ((slots : List (Option Row)) → HoldsRowPage g columns mid p slots → PutsInPage g columns mid new p row slots found)
        → (slots : List (Option Row)) → HoldsRows g shape old def block slots → PutsFirst g shape old new def block row slots (Some number)
    puts_in_block {Kind} {Breaks} {fault} found slot number is at_number below runs count puts slots holds =
        let put : PutsInPage g columns mid new p row (part c j slots) (Some slot) = subst (PutsInPage g columns mid new p row (part c j slots)) is (puts (part c j slots) (page_now slots holds)) in
        let page : HoldsRowPage g def.columns new p (set (part c j slots) slot (Some row)) = subst (λ k. HoldsRowPage g k new p (set (part c j slots) slot (Some row))) of put.1 in
        let this : number ≡ j * c + slot = at_number ∙ ap (λ k. j * slot_count k + slot) of in
        let long = length_of_rows holds in
        let now : HoldsRows g shape new def block (set slots (j * c + slot) (Some row)) =
        rows_changed j slot (Some row) less (omega (arith, below, ap slot_count of)) (subst (λ q. RunsOverPages g (OnlyPage q) Kind Breaks mid new fault) at runs) count (rows_stay told same holds)
        (subst (λ q. HoldsRowPage g def.columns new q (set (part c j slots) slot (Some row))) at page) in
        let lowest : IsLowestAt IsEmptySlot slots (j * c + slot) None =
        lowest_in_block IsEmptySlot c j slots slot None (parts_within shape.extent_pages c j (length slots) long (omega (arith, less))) (full slots holds) put.0 in (
          subst (λ n. IsLowestAt IsEmptySlot slots n None) (sym this) lowest,
          subst (λ n. HoldsRows g shape new def block (set slots n (Some row))) (sym this) now,
        )

  -- none is empty
  pub full_block : {s : S} (j : ℕ) (slots : List (Option Row)) → shape.extent_pages ≤ j → HoldsRows g shape s def block slots → HoldsNowhere IsEmptySlot (take (j * c) slots) → Contains slots None → ⊥
  full_block j slots end holds full =
      let all : shape.extent_pages * c ≤ j * c = mul-le-mul_right c end in
      nowhere-contains slots (subst (HoldsNowhere IsEmptySlot) (take_all (j * c) slots (omega (arith, length_of_rows holds, all))) full)

  -- ---- one slot

  module _ {columns : List ColumnDef} (s : S) (slot page place : ℕ) (of : columns ≡ def.columns) (at : page ≡ first shape block + slot / slot_count columns) (is : place ≡ slot % slot_count columns)
      (below : place < slot_count columns) (within : slot < shape.extent_pages * c) where
    place_below : place < c
    place_below = omega (arith, below, ap slot_count of)

    its_number : page ≡ first shape block + slot / c
    its_number = at ∙ ap (λ k. first shape block + slot / slot_count k) of

    in_its_page : slot / c * c + place ≡ slot
    in_its_page = ap (λ k. slot / c * c + k) (is ∙ ap (λ k. slot % slot_count k) of) ∙ div-add-mod' slot c

    its_page : slot / c < shape.extent_pages
    its_page = let some : 0 < c = omega (arith, place_below) in (div-lt_iff_lt-mul some).1 within

    page_of_slot : (slots : List (Option Row)) → HoldsRows g shape s def block slots → HoldsRowPage g columns s page (part c (slot / c) slots)
    page_of_slot slots holds =
        subst (λ k. HoldsRowPage g k s page (part c (slot / c) slots)) (sym of)
        (subst (λ p. HoldsRowPage g def.columns s p (part c (slot / c) slots)) (sym its_number) (page_of_rows (slot / c) its_page holds))

    slot_of_part : (slots : List (Option Row)) → get_or (part c (slot / c) slots) place None ≡ get_or slots slot None
    slot_of_part slots = get_or-part c (slot / c) place slots None place_below ∙ ap (λ k. get_or slots k None) in_its_page

    pub found_in_block : (row : Option Row) → ((slots : List (Option Row)) → HoldsRowPage g columns s page slots → row ≡ get_or slots place None)
        → (slots : List (Option Row)) → HoldsRows g shape s def block slots → row ≡ get_or slots slot None
    found_in_block row found slots holds = found (part c (slot / c) slots) (page_of_slot slots holds) ∙ slot_of_part slots

    pub seen_in_block : (row : Option Row) → first_page_of shape.extents shape.extent_pages (block + 1) ≤ length (pages_of g s) → SeesSlotOfPage columns (page_at (pages_of g s) page) place row
        → SeesSlot shape (pages_of g s) def (record { block = block; slot = slot }) row
    seen_in_block row there sees =
        let here : SeesSlotOfPage def.columns (block_page shape (pages_of g s) block (slot / c)) place row =
        subst (λ p. SeesSlotOfPage def.columns (page_at (pages_of g s) p) place row) its_number
        (subst (λ k. SeesSlotOfPage k (page_at (pages_of g s) page) place row) of sees) in
        record {
          there = there;
          starts = here.starts;
          row_is = here.row_is ∙ (ap (λ l. get_or l place None) (sym (part_of_page shape (pages_of g s) def block (slot / c) its_page)) ∙ slot_of_part (block_slots shape (pages_of g s) def block));
        }

    pub seen_if_in_block : (filled : Bool) → first_page_of shape.extents shape.extent_pages (block + 1) ≤ length (pages_of g s) → SeesIfRow (SeesSlotOfPage columns (page_at (pages_of g s) page) place) filled
        → SeesIfRow (SeesSlot shape (pages_of g s) def (record { block = block; slot = slot })) filled
    seen_if_in_block filled there sees = record { row = sees.row; sees = seen_in_block sees.row there sees.sees; filled_is = sees.filled_is }

    pub changed_in_block : {Kind : ℕ → Type 0} {Breaks : Damage → Type 0} {fault : Option StoreFault} (new : S) (x : Option Row)
        → RunsOverPages g (OnlyPage page) Kind Breaks s new fault → length (g.state new).work ≡ length (g.state s).work
        → ((slots : List (Option Row)) → HoldsRowPage g columns s page slots → HoldsRowPage g columns new page (set slots place x))
        → (slots : List (Option Row)) → HoldsRows g shape s def block slots → HoldsRows g shape new def block (set slots slot x)
    changed_in_block {Kind} {Breaks} {fault} new x runs count changes slots holds =
        let changed : HoldsRowPage g def.columns new page (set (part c (slot / c) slots) place x) =
        subst (λ k. HoldsRowPage g k new page (set (part c (slot / c) slots) place x)) of (changes (part c (slot / c) slots) (page_of_slot slots holds)) in
        subst (λ k. HoldsRows g shape new def block (set slots k x)) in_its_page
        (rows_changed (slot / c) place x its_page place_below (subst (λ p. RunsOverPages g (OnlyPage p) Kind Breaks s new fault) its_number runs) count holds
        (subst (λ p. HoldsRowPage g def.columns new p (set (part c (slot / c) slots) place x)) its_number changed))

    pub filled_in_block : (filled : Bool) → ((slots : List (Option Row)) → HoldsRowPage g columns s page slots → IsFilledSlot slots place filled)
        → (slots : List (Option Row)) → HoldsRows g shape s def block slots → IsFilledSlot slots slot filled
    filled_in_block filled was slots holds = was (part c (slot / c) slots) (page_of_slot slots holds) ∙ ap is_some (slot_of_part slots)

    pub page_of_slot_in_block : (p : ℕ) → block < shape.extents → p ≡ page → IsPageOfBlock shape block p
    page_of_slot_in_block p there same = only_page_of_block shape block p (slot / c) there its_page (same ∙ its_number)

    pub breaks_at_slot : block < shape.extents → (damage : Damage) → RefusesPage g columns s page damage → BreaksRows g shape s def block damage
    breaks_at_slot there damage refuses = breaks_of_page page (slot / c) its_number there its_page refl refl damage (subst (λ k. RefusesPage g k s page damage) of refuses)

-- the extent lies past the pages
pub breaks_extent : {S : Type 0} {g : Ghosts S} {shape : Shape} {def : TableDef} {block : ℕ} {Mine Kind : ℕ → Type 0} {s : S} {fault : Option StoreFault}
    → RunsOverPages g NoPage NoPage (BreaksExtent g shape s block) s s fault → RunsOverPages g Mine Kind (BreaksRows g shape s def block) s s fault
breaks_extent run = runs_wider run (λ p there none. absurd none) (λ p none. absurd none) (λ damage breaks. inl breaks)
