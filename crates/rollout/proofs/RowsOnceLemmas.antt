-- Pages that count come to hand at most once, over one run after the other.
use Rattle.std.proofs.Common.{◌≡◌, ◌<◌, ◌+◌, ◌-◌, ◌⊎◌, ℕ, List, ◌++◌, Some, get_or, length, sum_by, refl, sym, ap, subst, arith, inl, inr, length-append}
use Rattle.std.proofs.lemmas.Bool.{cases_lt}
use Rattle.std.proofs.lemmas.List.{get_or_append_left, get_or-append_right}
use Rattle.std.proofs.lemmas.List.Elements.{All-append, All-weaker}
use Rattle.store_api.specs.Fetching.{BringsOnce, BringsOnly}
use Rattle.store_api.specs.declared.pages.Pages.{Ghosts}
use Rattle.store_api.specs.declared.shape.Shape.{Shape}
use Rattle.store_api.proofs.FetchingLemmas.{brought_then}
use Rattle.mdc_ast.specs.declared.definition.TableDef.{TableDef}
use Rattle.extent_map.specs.Map.{IsMapPage}
use Rattle.extent_map.specs.Owners.{extent_of, owner_of, place_in_extent}
use Rattle.extent_map.specs.declared.kind.Kind.{Kind}
use Rattle.extent_map.proofs.UsedPagesLemmas.{no_space_page}
use Rattle.entry_tree.specs.Forest.{times}
use Rattle.table_trees.specs.TreesBeside.{table_of_block}
use Rattle.table_trees.proofs.KeptOwnersLemmas.{used_no_block}
use Rattle.mdc_sound.specs.StandingTable.{IsBlockPageOf, StandsTable, TableForests, forests_in_order}
use Rattle.rollout.specs.RolledPages.{BringsCountedOnce}

module _ {S : Type 0} {g : Ghosts S} {Counted : ℕ → Type 0} where
  -- no page that counts came
  pub none_counted : {Mine Kind : ℕ → Type 0} {old new : S} → BringsOnly g Mine old new → ((p : ℕ) → Counted p → Mine p → ⊥) → BringsCountedOnce g Counted Kind old new
  none_counted {Mine} {Kind} run apart = record {
    pages = run.pages;
    brought = run.brought;
    kind = All-weaker Mine (λ p. Counted p → Kind p) (λ p mine counts. absurd (apart p counts mine)) run.pages run.kind;
    once = λ i j below within counts same. apart (get_or run.pages j 0) counts (run.kind j 0 within);
  }

  -- none came twice at all
  pub all_once : {Kind : ℕ → Type 0} {old new : S} → BringsOnce g Kind old new → BringsCountedOnce g Counted Kind old new
  all_once {Kind} run = record {
    pages = run.pages;
    brought = run.brought;
    kind = All-weaker Kind (λ p. Counted p → Kind p) (λ p is counts. is) run.pages run.kind;
    once = λ i j below within counts. run.once.apart i j below within;
  }

  -- two runs that have none in common that counts
  pub counted_then : {First Second Both : ℕ → Type 0} {old mid new : S} → BringsCountedOnce g Counted First old mid → BringsCountedOnce g Counted Second mid new
      → ((p : ℕ) → Counted p → First p → Second p → ⊥) → ((p : ℕ) → First p → Both p) → ((p : ℕ) → Second p → Both p) → BringsCountedOnce g Counted Both old new
  counted_then {First} {Second} {Both} first second apart left right = record {
    pages = first.pages ++ second.pages;
    brought = brought_then first.brought second.brought;
    kind = All-append (λ p. Counted p → Both p) first.pages second.pages (All-weaker (λ p. Counted p → First p) (λ p. Counted p → Both p) (λ p is counts. left p (is counts)) first.pages first.kind)
        (All-weaker (λ p. Counted p → Second p) (λ p. Counted p → Both p) (λ p is counts. right p (is counts)) second.pages second.kind);
    once = λ i j below within.
        let pages = first.pages in
        let more = second.pages in
        let long : j < length pages + length more = omega (arith, within, length-append pages more) in
        elim (cases_lt j (length pages)) [
          | inl in_first ↦ rw (get_or_append_left pages more 0 i (omega (arith, below, in_first)), get_or_append_left pages more 0 j in_first) (first.once i j below in_first)
          | inr in_second ↦ elim (cases_lt i (length pages)) [
            | inl early ↦ rw (get_or_append_left pages more 0 i early, get_or-append_right pages more (length pages) j 0 refl in_second)
                (λ counts e. apart (get_or pages i 0) (subst Counted (sym e) counts) (first.kind i 0 early (subst Counted (sym e) counts)) (subst Second (sym e) (second.kind (j - length pages) 0 (omega (arith, long, in_second)) counts)))
            | inr late ↦ rw (get_or-append_right pages more (length pages) i 0 refl late, get_or-append_right pages more (length pages) j 0 refl in_second)
                (second.once (i - length pages) (j - length pages) (omega (arith, below, late, in_second)) (omega (arith, long, in_second)))
          ]
        ];
  }

  pub counted_wider : {Kind Wider : ℕ → Type 0} {old new : S} → BringsCountedOnce g Counted Kind old new → ((p : ℕ) → Kind p → Wider p) → BringsCountedOnce g Counted Wider old new
  counted_wider {Kind} {Wider} run wider = record {
    pages = run.pages;
    brought = run.brought;
    kind = All-weaker (λ p. Counted p → Kind p) (λ p. Counted p → Wider p) (λ p is counts. wider p (is counts)) run.pages run.kind;
    once = run.once;
  }

-- a page of a tree of the table, or of the extent map, is none of its blocks
pub no_row_page : {S : Type 0} {g : Ghosts S} (shape : Shape) (s : S) (def : TableDef) (owners : List Kind) (forests : TableForests) → StandsTable g shape s def owners forests → (p : ℕ) → IsBlockPageOf shape owners def.number p
    → 0 < sum_by (times p) (forests_in_order forests) ⊎ IsMapPage shape p → ⊥
no_row_page shape s def owners forests st p of (inl tree) =
    let used = st.trees.used p tree in
    let none = used_no_block (place_in_extent shape p) (owner_of owners (extent_of shape p)) used.used in
    let some : table_of_block (owner_of owners (extent_of shape p)) ≡ Some def.number = ap table_of_block of.block in
    absurd cc
no_row_page shape s def owners forests st p of (inr map) = no_space_page shape p of.page (inr map)
