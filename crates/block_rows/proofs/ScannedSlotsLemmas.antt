-- What was seen of some slots: on one page, one slot after the other; and of a block, one page after the other.
use Rattle.std.proofs.Common.{◌≡◌, ◌∙◌, ◌<◌, ◌≤◌, ◌+◌, ◌*◌, ◌/◌, ℕ, List, [], ◌∷◌, ◌++◌, Option, None, Some, get_or, length, length-append, take, refl, ap, sym, inl, inr, arith, subst}
use Rattle.std.specs.Prelude.{Contains}
use Rattle.std.proofs.Math.Nat.{div-eq_of_lt-le, mul-le-mul_right}
use Rattle.std.proofs.lemmas.Bool.{cases_lt}
use Rattle.std.proofs.lemmas.List.{get_or_default}
use Rattle.std.proofs.lemmas.List.Elements.{filter-append}
use Rattle.mdc_values.specs.Rising.{IsLower, IsRising}
use Rattle.mdc_ast.specs.declared.definition.ColumnDef.{ColumnDef}
use Rattle.mdc_ast.specs.declared.definition.TableDef.{TableDef}
use Rattle.mdc_ast.specs.declared.predicate.Pred.{Pred}
use Rattle.mdc_ast.specs.declared.row.Row.{Row}
use Rattle.store_api.specs.Extents.{first_page_of}
use Rattle.store_api.specs.Fetching.{BringsOnce}
use Rattle.store_api.specs.StoreState.{page_at}
use Rattle.store_api.specs.declared.pages.Pages.{Ghosts as PageGhosts}
use Rattle.store_api.specs.declared.shape.Shape.{Shape}
use Rattle.store_api.proofs.FetchingLemmas.{once_then}
use Rattle.row_page.specs.RowPage.{StartsAsRowPage, rows_of, slot_count}
use Rattle.table_trees.specs.ToldPages.{PageList}
use Rattle.mdc_sound.specs.TableRows.{block_page, rows_from_slot, rows_in_block}
use Rattle.block_rows.specs.CountedRows.{rows_on_pages}
use Rattle.block_rows.specs.Giving.{WasGiven}
use Rattle.block_rows.specs.HeldRows.{qualifying}
use Rattle.block_rows.specs.ListedSlots.{HasSeenSlots, IsPageForSlots, IsPageOfSlots, SeesSlotsOfPage, rows_in_slots}
use Rattle.block_rows.specs.declared.row_sink.RowSink.{Ghosts}
use Rattle.block_rows.proofs.GivingLemmas.{given_more_qualifying, given_none}
use Rattle.block_rows.proofs.ListedSlotsLemmas.{AreBelow, AreFrom, IsLeftFrom, front_in, front_on_page, row_at, rows_of_none, rows_of_page, rows_one_more, slot_on_page}
use Rattle.block_rows.proofs.MetRowsLemmas.{each_at}
use Rattle.block_rows.proofs.PageRowsLemmas.{length-slots}
use Rattle.block_rows.proofs.SeenPagesLemmas.{rows_on_all, rows_on_more, rows_on_none}

-- ---- the slots of a page

module _ {K : Type 0} (sinks : Ghosts K) (columns : List ColumnDef) (page : List ℕ) (block first : ℕ) (pred : Option Pred) where
  -- none was looked at
  pub seen_none : (sink : K) (starts : 0 < length {A = ℕ} [] → StartsAsRowPage columns page) → SeesSlotsOfPage sinks columns page block first [] pred sink sink 0
  seen_none sink starts =
      let none = rows_of_none (rows_from_slot block first (rows_of columns page)) in
      record {
        starts = starts;
        given_rows = subst (λ rows. WasGiven sinks sink sink (qualifying pred rows)) (sym none) (given_none sinks sink);
        counted = sym (ap length none);
      }

  -- there are none
  pub seen_no_slots : (slots : List ℕ) (sink : K) → length slots ≡ 0 → SeesSlotsOfPage sinks columns page block first slots pred sink sink 0
  seen_no_slots [] sink none = seen_none sink (λ some. absurd (omega (arith, some)))
  seen_no_slots (slot ∷ slots) sink none = absurd (omega (arith, none))

  -- one more
  pub seen_more : (slots : List ℕ) (i slot k : ℕ) (row : Option Row) (old mid now : K) (count count_now : ℕ) → StartsAsRowPage columns page → IsRising IsLower slots → i < length slots → slot ≡ get_or slots i slot → slot ≡ first + k
      → row ≡ get_or (rows_of columns page) k None → WasGiven sinks mid now (qualifying pred (row_at block slot row)) → count_now ≡ count + length (row_at block slot row)
      → SeesSlotsOfPage sinks columns page block first (take i slots) pred old mid count → SeesSlotsOfPage sinks columns page block first (take (i + 1) slots) pred old now count_now
  seen_more slots i slot k row old mid now count count_now starts rise low at is found given counts so_far =
      let rows = rows_from_slot block first (rows_of columns page) in
      let more : rows_in_slots (take (i + 1) slots) rows ≡ rows_in_slots (take i slots) rows ++ row_at block slot row =
      rows_one_more slots i slot block first k (rows_of columns page) rise low at is ∙ ap (λ r. rows_in_slots (take i slots) rows ++ row_at block slot r) (sym found) in
      record {
        starts = λ some. starts;
        given_rows = subst (λ l. WasGiven sinks old now (qualifying pred l)) (sym more)
            (given_more_qualifying sinks pred old mid now (rows_in_slots (take i slots) rows) (row_at block slot row) so_far.given_rows given);
        counted = omega (arith, counts, so_far.counted, ap length more, length-append (rows_in_slots (take i slots) rows) (row_at block slot row));
      }

-- ---- the slots of a block

-- The first pages of a block were passed: those in which one of the slots lies begin as row pages do, a sink was given the rows in them
-- that qualify, and how many of the slots have a row is known.
pub record PassesPages {K : Type 0} (sinks : Ghosts K) (shape : Shape) (pages : PageList) (def : TableDef) (block : ℕ) (slots : List ℕ) (pred : Option Pred) (n : ℕ) (old new : K) (count : ℕ) : Type 0 where
  pub starts : (slot : ℕ) → Contains slots slot → slot < n * slot_count def.columns → StartsAsRowPage def.columns (block_page shape pages block (slot / slot_count def.columns))
  pub given_rows : WasGiven sinks old new (qualifying pred (rows_in_slots slots (rows_on_pages shape pages def block n)))
  pub counted : count ≡ length (rows_in_slots slots (rows_on_pages shape pages def block n))

-- a slot of a page lies in it
page_of_slot : (slot j c : ℕ) → j * c ≤ slot → slot < j * c + c → slot / c ≡ j
page_of_slot slot j c low high = div-eq_of_lt-le {k = j} c low (omega (arith, high))

module _ (shape : Shape) (def : TableDef) (block : ℕ) (slots : List ℕ) where
  -- one of those pages, before page j of the block
  abbrev pub IsPageBefore : ℕ → ℕ → Type 0
  IsPageBefore j p = IsPageOfSlots shape def block slots p × (p < first_page_of shape.extents shape.extent_pages block + j)

  module _ {K : Type 0} (sinks : Ghosts K) (pages : PageList) (pred : Option Pred) where
    -- none was passed
    pub passes_none : (sink : K) → PassesPages sinks shape pages def block slots pred 0 sink sink 0
    passes_none sink =
        let none : rows_in_slots slots (rows_on_pages shape pages def block 0) ≡ [] = ap (rows_in_slots slots) (rows_on_none shape pages def block) in
        record {
          starts = λ slot there low. absurd (omega (arith, low));
          given_rows = subst (λ rows. WasGiven sinks sink sink (qualifying pred rows)) (sym none) (given_none sinks sink);
          counted = sym (ap length none);
        }

    module _ (j : ℕ) (old now : K) (count : ℕ) (end : shape.extent_pages ≤ j) (all : PassesPages sinks shape pages def block slots pred j old now count) where
      -- all were
      pub passed_all : first_page_of shape.extents shape.extent_pages (block + 1) ≤ length pages → HasSeenSlots shape pages def block slots
      passed_all there = record {
        there = there;
        starts = λ slot listed below.
            let most : shape.extent_pages * slot_count def.columns ≤ j * slot_count def.columns = mul-le-mul_right (slot_count def.columns) end in
            all.starts slot listed (omega (arith, below, most));
      }

      pub given_to_end : WasGiven sinks old now (qualifying pred (rows_in_slots slots (rows_in_block shape pages def block)))
      given_to_end = subst (λ rows. WasGiven sinks old now (qualifying pred (rows_in_slots slots rows))) (rows_on_all shape pages def block j end) all.given_rows

      pub counted_to_end : count ≡ length (rows_in_slots slots (rows_in_block shape pages def block))
      counted_to_end = all.counted ∙ ap (λ rows. length (rows_in_slots slots rows)) (rows_on_all shape pages def block j end)

  module _ (j : ℕ) (less : j < shape.extent_pages) {left : List ℕ} (so_left : IsLeftFrom slots (j * slot_count def.columns) left) (here behind : List ℕ) (parts : left ≡ here ++ behind)
      (below : AreBelow (j * slot_count def.columns + slot_count def.columns) here) (rest : AreFrom (j * slot_count def.columns + slot_count def.columns) behind) where
    abbrev c : ℕ
    c = slot_count def.columns

    -- one page more
    pub passes_more : {K : Type 0} (sinks : Ghosts K) (pages : PageList) (pred : Option Pred) (columns : List ColumnDef) (p first : ℕ) (old mid now : K) (count here_count count_now : ℕ) → columns ≡ def.columns
        → p ≡ first_page_of shape.extents shape.extent_pages block + j → first ≡ j * slot_count columns → count_now ≡ count + here_count → PassesPages sinks shape pages def block slots pred j old mid count
        → SeesSlotsOfPage sinks columns (page_at pages p) block first here pred mid now here_count → PassesPages sinks shape pages def block slots pred (j + 1) old now count_now
    passes_more sinks pages pred columns p first old mid now count here_count count_now of at begins counts so_far page =
        let first_is : first ≡ j * c = begins ∙ ap (λ k. j * slot_count k) of in
        let seen : SeesSlotsOfPage sinks def.columns (block_page shape pages block j) block (j * c) here pred mid now here_count =
        subst (λ f. SeesSlotsOfPage sinks def.columns (block_page shape pages block j) block f here pred mid now here_count) first_is
        (subst (λ q. SeesSlotsOfPage sinks def.columns (page_at pages q) block first here pred mid now here_count) at
        (subst (λ k. SeesSlotsOfPage sinks k (page_at pages p) block first here pred mid now here_count) of page)) in
        let xs = rows_of def.columns (block_page shape pages block j) in
        let before = rows_on_pages shape pages def block j in
        let more : rows_in_slots slots (rows_on_pages shape pages def block (j + 1)) ≡ rows_in_slots slots before ++ rows_in_slots here (rows_from_slot block (j * c) xs) =
        ap (rows_in_slots slots) (rows_on_more shape pages def block j less)
        ∙ (filter-append _ before (rows_from_slot block (j * c) xs)
        ∙ ap (λ l. rows_in_slots slots before ++ l) (rows_of_page so_left c here behind parts below rest block xs (length-slots def.columns (block_page shape pages block j) xs refl))) in
        record {
          starts = λ slot there low. elim (cases_lt slot (j * c)) [
            | inl early ↦ so_far.starts slot there early
            | inr late ↦
                let high : slot < j * c + c = omega (arith, low) in
                let on_page = slot_on_page so_left c here behind parts below rest slot there late high in
                subst (λ i. StartsAsRowPage def.columns (block_page shape pages block i)) (sym (page_of_slot slot j c late high)) (seen.starts (omega (arith, on_page.1)))
          ];
          given_rows = subst (λ rows. WasGiven sinks old now (qualifying pred rows)) (sym more)
              (given_more_qualifying sinks pred old mid now (rows_in_slots slots before) (rows_in_slots here (rows_from_slot block (j * c) xs)) so_far.given_rows seen.given_rows);
          counted = omega (arith, counts, so_far.counted, seen.counted, ap length more, length-append (rows_in_slots slots before) (rows_in_slots here (rows_from_slot block (j * c) xs)));
        }

    -- each of those pages came to hand once so far, and so did the next one
    pub once_passed : {S : Type 0} {g : PageGhosts S} {old mid new : S} (p : ℕ) → p ≡ first_page_of shape.extents shape.extent_pages block + j → BringsOnce g (IsPageBefore j) old mid → BringsOnce g (IsPageForSlots here p) mid new
        → BringsOnce g (IsPageBefore (j + 1)) old new
    once_passed p at so_far call =
        once_then so_far call (λ q is this. omega (arith, is.1, this.0, at)) (λ q is. (is.0, omega (arith, is.1)))
        (λ q this.
        let slot : ℕ = get_or here 0 0 in
        let there : Contains here slot = (0, this.1, sym (get_or_default here 0 0 slot this.1)) in
        let low : j * c ≤ slot = each_at (λ s. j * c ≤ s) here 0 0 (front_on_page so_left c here behind parts below).behind this.1 in
        let high : slot < j * c + c = each_at (λ s. s < j * c + c) here 0 0 below this.1 in
        let next : j + 1 ≤ shape.extent_pages = omega arith in
        let most : (j + 1) * c ≤ shape.extent_pages * c = mul-le-mul_right c next in (
          record {
            slot = slot;
            there = front_in so_left c here behind parts below slot there;
            below = omega (arith, high, most);
            page = this.0 ∙ (at ∙ ap (λ n. first_page_of shape.extents shape.extent_pages block + n) (sym (page_of_slot slot j c low high)));
          },
          omega (arith, this.0, at),
        ))
