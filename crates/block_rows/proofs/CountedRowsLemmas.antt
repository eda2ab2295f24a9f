-- The pages of a block that are read until so many rows were met, and the rows on them.
use Rattle.std.proofs.Common.{◌≡◌, ◌<◌, ◌≤◌, ◌+◌, ◌*◌, ℕ, Bool, IsTrue, List, ◌++◌, get_or, length, length-append, take, drop, Option, ap, refl, sym, ◌∙◌, inl, inr, arith, subst}
use Rattle.std.specs.Prelude.{◌⊎◌, ◌↔◌, is_some, nat_lt}
use Rattle.std.specs.List.{AllByRecursion, range_with_len}
use Rattle.std.proofs.lemmas.Bool.{cases_eq, cases_lt, ltb-false, ltb-true}
use Rattle.std.proofs.lemmas.List.{append-nil, nil_from_length, take-append-drop}
use Rattle.std.proofs.lemmas.List.FromFn.{get_or-range_with_len, length-range_with_len}
use Rattle.std.proofs.lemmas.List.Sums.{count_by-le-length, prefix_len-le-length, prefix_len_passes, prefix_len_stops}
use Rattle.mdc_ast.specs.declared.definition.TableDef.{TableDef}
use Rattle.mdc_ast.specs.declared.predicate.Pred.{Pred}
use Rattle.mdc_ast.specs.declared.row.Cell.{Cell}
use Rattle.store_api.specs.Extents.{first_page_of}
use Rattle.store_api.specs.Fetching.{PagesBetween}
use Rattle.store_api.specs.declared.pages.Pages.{Ghosts as PageGhosts}
use Rattle.store_api.specs.declared.shape.Shape.{Shape}
use Rattle.row_page.specs.RowPage.{slot_count}
use Rattle.table_trees.specs.ToldPages.{PageList}
use Rattle.mdc_sound.specs.StandingTable.{pages_of}
use Rattle.mdc_sound.specs.TableRows.{PlacedRow, block_slots, rows_from_slot, rows_in_block}
use Rattle.mdc_sound.proofs.SlotRowsLemmas.{few_slots, length-rows_from_slot}
use Rattle.block_rows.specs.CountedRows.{HasSeenCounted, IsCountedPage, counted_pages, counted_rows, rows_on_pages}
use Rattle.block_rows.specs.Giving.{WasGiven}
use Rattle.block_rows.specs.HeldRows.{HasReadValues, qualifying}
use Rattle.block_rows.specs.SeenRows.{AreInCell, HasSeenRows}
use Rattle.block_rows.specs.declared.met_rows.MetRows.{MetRows}
use Rattle.block_rows.specs.declared.row_sink.RowSink.{Ghosts}
use Rattle.block_rows.proofs.HeldRowsLemmas.{between_pages_of_block, only_page_of_block}
use Rattle.block_rows.proofs.MetRowsLemmas.{all_met}
use Rattle.block_rows.proofs.PlacedRowsLemmas.{rows_from_slot-append}
use Rattle.block_rows.proofs.SeenPagesLemmas.{SeesPages, rows_on_all}

module _ (shape : Shape) (pages : PageList) (def : TableDef) (block : ℕ) where
  -- how many rows lie on the first pages
  abbrev count_on : ℕ → ℕ
  count_on n = length (rows_on_pages shape pages def block n)

  -- the rows of the block, and those behind its first pages
  rows_behind : (n : ℕ) → (rest : List PlacedRow) × (rows_in_block shape pages def block ≡ rows_on_pages shape pages def block n ++ rest)
  rows_behind n =
      let slots = block_slots shape pages def block in
      let at = n * slot_count def.columns in
      (rows_from_slot block (0 + length (take at slots)) (drop at slots), ap (rows_from_slot block 0) (sym (take-append-drop at slots)) ∙ rows_from_slot-append block 0 (take at slots) (drop at slots))

  -- fewer than so many lie before each page up to this one
  abbrev pub AreFewBefore : ℕ → ℕ → Type 0
  AreFewBefore rows n = (j : ℕ) → j < n → length (rows_on_pages shape pages def block j) < rows

  pub few_none : (rows : ℕ) → AreFewBefore rows 0
  few_none rows j before = absurd (omega (arith, before))

  -- and before the next
  pub few_more : (rows n count : ℕ) → AreFewBefore rows n → count ≡ length (rows_on_pages shape pages def block n) → count < rows → AreFewBefore rows (n + 1)
  few_more rows n count few is less j before = elim (cases_eq j n) [
    | inl same ↦ subst (λ k. length (rows_on_pages shape pages def block k) < rows) (sym same) (omega (arith, is, less))
    | inr other ↦ few j (omega (arith, before, other))
  ]

  module _ (rows : ℕ) where
    abbrev is_few : ℕ → Bool
    is_few j = nat_lt (length (rows_on_pages shape pages def block j)) rows

    pub counted_within : counted_pages shape pages def block rows ≤ shape.extent_pages
    counted_within = omega (arith, prefix_len-le-length is_few (range_with_len 0 shape.extent_pages), length-range_with_len 0 shape.extent_pages)

    -- so many rows lie on them, unless they are all
    counted_enough : counted_pages shape pages def block rows < shape.extent_pages → rows ≤ count_on (counted_pages shape pages def block rows)
    counted_enough less =
        let n : ℕ = counted_pages shape pages def block rows in
        let at : get_or (range_with_len 0 shape.extent_pages) n 0 ≡ n = omega (arith, get_or-range_with_len 0 shape.extent_pages n 0 less) in
        let stops = prefix_len_stops is_few (range_with_len 0 shape.extent_pages) 0 (omega (arith, less, length-range_with_len 0 shape.extent_pages)) in
        ltb-false (count_on n) rows (ap is_few (sym at) ∙ stops)

    -- and fewer before each of them
    counted_few : (j : ℕ) → j < counted_pages shape pages def block rows → count_on j < rows
    counted_few j before =
        let at : get_or (range_with_len 0 shape.extent_pages) j 0 ≡ j = omega (arith, get_or-range_with_len 0 shape.extent_pages j 0 (omega (arith, before, counted_within))) in
        let passes = prefix_len_passes is_few (range_with_len 0 shape.extent_pages) j 0 before in
        ltb-true (count_on j) rows (ap is_few (sym at) ∙ passes)

    -- these are the pages of which that is so
    counted_is : (n : ℕ) → n ≤ shape.extent_pages → AreFewBefore rows n → (n < shape.extent_pages → rows ≤ count_on n) → counted_pages shape pages def block rows ≡ n
    counted_is n within few enough = elim (cases_lt n (counted_pages shape pages def block rows)) [
      | inl behind ↦ absurd (omega (arith, counted_few n behind, enough (omega (arith, behind, counted_within))))
      | inr most ↦ elim (cases_lt (counted_pages shape pages def block rows) n) [
        | inl before ↦ absurd (omega (arith, few (counted_pages shape pages def block rows) before, counted_enough (omega (arith, before, within))))
        | inr least ↦ omega (arith, most, least)
      ]
    ]

    -- ---- a block that has no more rows

    -- all its rows lie on them
    pub counted_whole : length (rows_in_block shape pages def block) ≤ rows → counted_rows shape pages def block rows ≡ rows_in_block shape pages def block
    counted_whole most = elim (cases_lt (counted_pages shape pages def block rows) shape.extent_pages) [
      | inl less ↦
          let (rest, is) = rows_behind (counted_pages shape pages def block rows) in
          let none = nil_from_length rest (omega (arith, ap length is, length-append (counted_rows shape pages def block rows) rest, counted_enough less, most)) in
          sym (append-nil (counted_rows shape pages def block rows)) ∙ (ap (λ l. counted_rows shape pages def block rows ++ l) (sym none) ∙ sym is)
      | inr all ↦ rows_on_all shape pages def block (counted_pages shape pages def block rows) all
    ]

    -- fewer rows take all its pages
    counted_all : length (rows_in_block shape pages def block) < rows → shape.extent_pages ≤ counted_pages shape pages def block rows
    counted_all fewer = elim (cases_lt (counted_pages shape pages def block rows) shape.extent_pages) [
      | inl less ↦
          let (rest, is) = rows_behind (counted_pages shape pages def block rows) in
          absurd (omega (arith, ap length is, length-append (counted_rows shape pages def block rows) rest, counted_enough less, fewer))
      | inr all ↦ all
    ]

  -- ---- more rows than a block has

  fewer_rows : (rows : ℕ) → 12864 < rows → length (rows_in_block shape pages def block) < rows
  fewer_rows rows many =
      let slots = block_slots shape pages def block in
      omega (arith, many, few_slots shape pages def block slots refl, count_by-le-length is_some slots, length-rows_from_slot block 0 slots)

  pub unbounded_rows : (rows : ℕ) → 12864 < rows → counted_rows shape pages def block rows ≡ rows_in_block shape pages def block
  unbounded_rows rows many = counted_whole rows (omega (arith, fewer_rows rows many))

  pub unbounded_seen : (rows count : ℕ) → 12864 < rows → HasSeenCounted shape pages def block rows count → HasSeenRows shape pages def block count
  unbounded_seen rows count many seen =
      let is = unbounded_rows rows many in
      record {
        there = seen.there;
        forms = λ j less. seen.forms j (omega (arith, less, counted_all rows (fewer_rows rows many)));
        counted = seen.counted ∙ ap length is;
        read = subst (AllByRecursion (λ placed. HasReadValues def.columns placed.row)) is seen.read;
      }

  -- ---- a walk that ends behind them

  module _ {K : Type 0} (sinks : Ghosts K) (places : List ℕ) (given : Option Cell) (pred : Option Pred) (rows j : ℕ) (old now : K) (met : MetRows) (within : j ≤ shape.extent_pages) (few : AreFewBefore rows j)
      (end : (rows ≤ met.rows) ⊎ (shape.extent_pages ≤ j)) (sees : SeesPages sinks shape pages def block places given pred j old now met) where
    ends : j ≡ counted_pages shape pages def block rows
    ends = sym (counted_is rows j within few (λ less. elim end [ inl enough ↦ omega (arith, enough, sees.met.counted) | inr all ↦ absurd (omega (arith, less, all)) ]))

    all_seen : SeesPages sinks shape pages def block places given pred (counted_pages shape pages def block rows) old now met
    all_seen = subst (λ n. SeesPages sinks shape pages def block places given pred n old now met) ends sees

    pub seen_counted : first_page_of shape.extents shape.extent_pages (block + 1) ≤ length pages → HasSeenCounted shape pages def block rows met.rows
    seen_counted there = record { there = there; forms = all_seen.forms; counted = all_seen.met.counted; read = all_seen.read }

    pub given_counted : WasGiven sinks old now (qualifying pred (counted_rows shape pages def block rows))
    given_counted = all_seen.given_rows

    pub in_cell_counted : IsTrue met.in_cell ↔ AreInCell places given (counted_rows shape pages def block rows)
    in_cell_counted = all_met places given met (counted_rows shape pages def block rows) all_seen.met

-- ---- the pages that came to hand

module _ {S : Type 0} (g : PageGhosts S) (shape : Shape) (s : S) (def : TableDef) (block rows j : ℕ) (below : block < shape.extents) where
  -- page j of the block
  pub counted_page : (p : ℕ) → p ≡ first_page_of shape.extents shape.extent_pages block + j → j < shape.extent_pages → (IsTrue (g.state s).is_told → AreFewBefore shape (pages_of g s) def block rows (j + 1))
      → (q : ℕ) → q ≡ p → IsCountedPage g shape s def block rows q
  counted_page p at less few q is = record {
    of_block = only_page_of_block shape block q j below less (is ∙ at);
    few = λ told i there. few told i (omega (arith, there, is, at));
  }

  -- the first ones
  pub counted_between : j ≤ shape.extent_pages → (IsTrue (g.state s).is_told → AreFewBefore shape (pages_of g s) def block rows j)
      → (q : ℕ) → PagesBetween (first_page_of shape.extents shape.extent_pages block) (first_page_of shape.extents shape.extent_pages block + j) q → IsCountedPage g shape s def block rows q
  counted_between within few q between = record {
    of_block = between_pages_of_block shape block q j below within between;
    few = λ told i there. few told i (omega (arith, there, between.1));
  }
