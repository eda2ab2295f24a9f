-- Two changes of a table one after the other: what they make together, and which pages the second may touch, as seen before the
-- first.
use Rattle.std.proofs.Common.{◌≡◌, ◌≢◌, ◌<◌, ◌≤◌, ◌⊎◌, ℕ, Bool, true, false, zero, suc, List, [], ◌∷◌, None, Some, length, replicate, set, get_or, sum_by, refl, ap, arith, sym, ◌∙◌, subst, inl, inr, cond}
use Rattle.std.specs.Prelude.{IsTrue, Option, ◌==◌, is_none}
use Rattle.std.specs.Int.{bit_at}
use Rattle.std.specs.List.{AllZip, list_all}
use Rattle.std.proofs.lemmas.Bool.{cases_eq, cases_lt, eq-eqb}
use Rattle.std.proofs.lemmas.Nat.Bits.{bit_at-lt}
use Rattle.std.proofs.lemmas.List.{get_or-set_other, get_or-set_same, get_or_past}
use Rattle.mdc_values.specs.declared.rid.Rid.{Rid}
use Rattle.mdc_ast.specs.declared.definition.TableDef.{TableDef}
use Rattle.mdc_ast.specs.declared.row.Row.{Row}
use Rattle.store_api.specs.declared.pages.Pages.{Ghosts}
use Rattle.store_api.specs.declared.shape.Shape.{Shape}
use Rattle.extent_map.specs.Map.{IsSpacePage}
use Rattle.extent_map.specs.Kinds.{is_unused_place, is_used_place}
use Rattle.extent_map.specs.Owners.{IsExtentPage, IsUnusedPage, IsUsedPage, extent_of, owner_of, place_in_extent}
use Rattle.extent_map.specs.declared.kind.Kind.{Kind}
use Rattle.extent_map.specs.declared.kind.Kind.TheVariants.{Free, Block, Index}
use Rattle.extent_map.specs.declared.space_notes.SpaceNotes.{SpaceNotes}
use Rattle.entry_tree.specs.Forest.{Forest, times}
use Rattle.entry_tree.specs.Standing.{IsIdlePage}
use Rattle.entry_tree.proofs.UsedPagesLemmas.{used_not_idle}
use Rattle.block_map.specs.MapLines.{map_lines, mapped_state}
use Rattle.table_trees.specs.TreesBeside.{table_of_block}
use Rattle.table_trees.proofs.KeptOwnersLemmas.{idle_no_block, used_no_block}
use Rattle.table_trees.proofs.PageCountLemmas.{grows_pages_none, grows_pages_then}
use Rattle.table_trees.specs.ToldPages.{PageList}
use Rattle.mdc_sound.specs.Placing.{AfterClaims, AfterReturns, ChangesRow, PutsRow, Spot, SpotsAfterClaims, SpotsAfterReturns, TakesRow, block_slot_count, left_with, spot_of_kind, spot_of_state}
use Rattle.mdc_sound.specs.Placing.Spot.{FreeExtent, IndexExtent, OtherBlock, FreeBlock, PendingBlock, UsedBlock}
use Rattle.mdc_sound.specs.StandingTable.{ChangesTable, IsBlockPageOf, StandsTable, TableForests, forests_in_order, pages_of, spots_of}
use Rattle.mdc_sound.specs.TableRows.{block_slots}
use Rattle.mdc_sound.proofs.TableSpotsLemmas.{spot_at}

-- ---- spots that are no blocks

-- a free extent, or one with pages of trees
abbrev IsNoBlock : Spot → Type 0
IsNoBlock FreeExtent = Unit {0}
IsNoBlock IndexExtent = Unit {0}
IsNoBlock spot = ⊥

some_block : (free used pending : Bool) (slots : List (Option Row)) → IsNoBlock (cond free FreeBlock (cond used (UsedBlock slots) (cond pending PendingBlock OtherBlock))) → ⊥
some_block true used pending slots none = none
some_block false true pending slots none = none
some_block false false true slots none = none
some_block false false false slots none = none

some_owner : (own : Bool) (state : ℕ) (slots : List (Option Row)) → IsNoBlock (cond own (spot_of_state state slots) OtherBlock) → ⊥
some_owner true state slots none = some_block (state == 0) (state == 1) (state == 2) slots none
some_owner false state slots none = none

some_left : (all : Bool) (slots : List (Option Row)) → IsNoBlock (cond all FreeBlock (UsedBlock slots)) → ⊥
some_left true slots none = none
some_left false slots none = none

no_block_of_kind : (shape : Shape) (pages : PageList) (def : TableDef) (map_tree : Forest) (e : ℕ) (kind : Kind) → table_of_block kind ≡ None → IsNoBlock (spot_of_kind shape pages def map_tree e kind)
no_block_of_kind shape pages def map_tree e Free none = tt
no_block_of_kind shape pages def map_tree e (Block t) none = absurd cc
no_block_of_kind shape pages def map_tree e (Index used) none = tt

kind_of_no_block : (shape : Shape) (pages : PageList) (def : TableDef) (map_tree : Forest) (e : ℕ) (kind : Kind) → IsNoBlock (spot_of_kind shape pages def map_tree e kind) → table_of_block kind ≡ None
kind_of_no_block shape pages def map_tree e Free none = refl
kind_of_no_block shape pages def map_tree e (Block t) none = absurd (some_owner (t == def.number) (mapped_state e (map_lines map_tree)) (block_slots shape pages def e) none)
kind_of_no_block shape pages def map_tree e (Index used) none = refl

before_return : (a b : Spot) → AfterReturns a b → IsNoBlock b → IsNoBlock a
before_return FreeExtent b after none = tt
before_return IndexExtent b after none = tt
before_return OtherBlock b after none = subst IsNoBlock (sym after) none
before_return FreeBlock b after none = subst IsNoBlock (sym after) none
before_return PendingBlock b after none = subst IsNoBlock (sym after) none
before_return (UsedBlock slots) b after none = subst IsNoBlock (sym after) none

before_returns : (xs ys : List Spot) (e : ℕ) → AllZip AfterReturns xs ys → IsNoBlock (get_or ys e OtherBlock) → IsNoBlock (get_or xs e OtherBlock)
before_returns [] [] e all none = none
before_returns [] (y ∷ ys) e all none = absurd all
before_returns (x ∷ xs) [] e all none = absurd all
before_returns (x ∷ xs) (y ∷ ys) zero all none = before_return x y all.0 none
before_returns (x ∷ xs) (y ∷ ys) (suc e) all none = before_returns xs ys e all.1 none

before_setting : (spots : List Spot) (block e : ℕ) (spot : Spot) → (IsNoBlock spot → ⊥) → block < length spots → IsNoBlock (get_or (set spots block spot) e OtherBlock) → IsNoBlock (get_or spots e OtherBlock)
before_setting spots block e spot some low none = elim (cases_eq e block) [
  | inl here ↦ absurd (some (subst IsNoBlock (ap (λ i. get_or (set spots block spot) i OtherBlock) here ∙ get_or-set_same spots block spot OtherBlock low) none))
  | inr other ↦ subst IsNoBlock (get_or-set_other spots block e spot OtherBlock other) none
]

-- what is no block once trees may have taken free extents was none
before_claim : (a b : Spot) → AfterClaims a b → IsNoBlock b → IsNoBlock a
before_claim FreeExtent b after none = tt
before_claim IndexExtent b after none = tt
before_claim OtherBlock b after none = subst IsNoBlock (sym after) none
before_claim FreeBlock b after none = subst IsNoBlock (sym after) none
before_claim PendingBlock b after none = subst IsNoBlock (sym after) none
before_claim (UsedBlock slots) b after none = subst IsNoBlock (sym after) none

before_claims : (xs ys : List Spot) (e : ℕ) → AllZip AfterClaims xs ys → IsNoBlock (get_or ys e OtherBlock) → IsNoBlock (get_or xs e OtherBlock)
before_claims [] [] e all none = none
before_claims [] (y ∷ ys) e all none = absurd all
before_claims (x ∷ xs) [] e all none = absurd all
before_claims (x ∷ xs) (y ∷ ys) zero all none = before_claim x y all.0 none
before_claims (x ∷ xs) (y ∷ ys) (suc e) all none = before_claims xs ys e all.1 none

-- nor does a row that is taken out or put make less of a block
before_taking : (old new : List Spot) (rid : Rid) (row : Row) (e : ℕ) → TakesRow old rid row new → IsNoBlock (get_or new e OtherBlock) → IsNoBlock (get_or old e OtherBlock)
before_taking old new rid row e takes none =
    let slots = set takes.slots rid.slot None in
    before_setting old rid.block e (left_with slots) (some_left (list_all is_none slots) slots) takes.lies.within (subst (λ (spots : List Spot). IsNoBlock (get_or spots e OtherBlock)) takes.is_left none)

before_use : (old new : List Spot) (block e : ℕ) (slots : List (Option Row)) → block < length old → new ≡ set old block (UsedBlock slots) → IsNoBlock (get_or new e OtherBlock) → IsNoBlock (get_or old e OtherBlock)
before_use old new block e slots low is none = before_setting old block e (UsedBlock slots) (λ wrong. wrong) low (subst (λ (spots : List Spot). IsNoBlock (get_or spots e OtherBlock)) is none)

before_putting : (def : TableDef) (n : ℕ) (old new : List Spot) (row : Row) (rid : Rid) (e : ℕ) → PutsRow def n old row new rid → IsNoBlock (get_or new e OtherBlock) → IsNoBlock (get_or old e OtherBlock)
before_putting def n old new row _ e (PutsRow.in_cell block slot slots room empty is) none = before_use old new block e (set slots slot (Some row)) room.within is none
before_putting def n old new row _ e (PutsRow.in_free_block block no_room free is) none = before_use old new block e (set (replicate n None) 0 (Some row)) free.within is none
before_putting def n old new row _ e (PutsRow.in_free_extent block no_room no_free free is) none = before_use old new block e (set (replicate n None) 0 (Some row)) free.within is none

before_turning : (def : TableDef) (n : ℕ) (old new : List Spot) (row other : Row) (rid to : Rid) (e : ℕ) → ChangesRow def n old rid row other new to → IsNoBlock (get_or new e OtherBlock) → IsNoBlock (get_or old e OtherBlock)
before_turning def n old new row other rid _ e (ChangesRow.stays slots cell lies returns) none =
    before_use old (set old rid.block (UsedBlock (set slots rid.slot (Some other)))) rid.block e (set slots rid.slot (Some other)) lies.within refl
    (before_returns (set old rid.block (UsedBlock (set slots rid.slot (Some other)))) new e returns none)
before_turning def n old new row other rid _ e (ChangesRow.moves left free to apart takes returns puts) none =
    before_taking old left rid row e takes (before_returns left free e returns (before_putting def n free new other to e puts none))

-- ---- idle pages

-- a page is idle where its extent is no block and it isn't used
idle_if : (shape : Shape) (owners : List Kind) (p : ℕ) → IsExtentPage shape p → table_of_block (owner_of owners (extent_of shape p)) ≡ None → (IsUsedPage shape owners p → ⊥) → IsIdlePage shape owners p
idle_if shape owners p page no_block unused = record { page = page; idle = go (owner_of owners (extent_of shape p)) refl }
  where
    go : (kind : Kind) → owner_of owners (extent_of shape p) ≡ kind → IsUnusedPage shape owners p ⊎ (owner_of owners (extent_of shape p) ≡ Free)
    go Free is = inr is
    go (Block table) is = let some = sym (ap table_of_block is) ∙ no_block in absurd cc
    go (Index used) is = elim (cases_eq (bit_at used (place_in_extent shape p)) 0) [
      | inl clear ↦ inl (record { page = page; unused = subst (λ k. IsTrue (is_unused_place (place_in_extent shape p) k)) (sym is) (eq-eqb (bit_at used (place_in_extent shape p)) 0 clear) })
      | inr set_bit ↦ absurd (unused (record {
        page = page;
        used = subst (λ k. IsTrue (is_used_place (place_in_extent shape p) k)) (sym is) (eq-eqb (bit_at used (place_in_extent shape p)) 1 (omega (arith, set_bit, bit_at-lt used (place_in_extent shape p))));
      }))
    ]

-- a page of the trees, of the extent map or an idle one is one of the table's
pub tree_space : (shape : Shape) (def : TableDef) (owners : List Kind) (forests : TableForests) (p : ℕ) → 0 < sum_by (times p) (forests_in_order forests) ⊎ (IsSpacePage shape p ⊎ IsIdlePage shape owners p)
    → 0 < sum_by (times p) (forests_in_order forests) ⊎ (IsBlockPageOf shape owners def.number p ⊎ (IsSpacePage shape p ⊎ IsIdlePage shape owners p))
tree_space shape def owners forests p (inl tree) = inl tree
tree_space shape def owners forests p (inr space) = inr (inr space)

-- ---- one change, and another behind it

module _ {S : Type 0} (g : Ghosts S) (shape : Shape) (old : S) (def : TableDef) (owners : List Kind) (forests : TableForests) where
  -- a table that stands is a change of itself
  pub same_table : {noted : SpaceNotes} → StandsTable g shape old def owners forests → ChangesTable g shape noted noted old old def owners forests owners forests
  same_table st = record {
    stands = st;
    others_blocks = λ e t other is. is;
    no_others_blocks = λ e t other is. is;
    others_pages = λ p used none. used;
    used_pages = λ p used. elim (cases_lt 0 (sum_by (times p) (forests_in_order forests))) [ inl some ↦ inl some | inr none ↦ inr (used, omega (arith, none)) ];
    pages = λ p some. inl some;
    grows = grows_pages_none shape old;
    notes = λ right. right;
  }

module _ {S : Type 0} (g : Ghosts S) (shape : Shape) (old middle : S) (def : TableDef) (owners : List Kind) (forests : TableForests) where
  -- where each spot that is no block now was none, no block was given up
  gives_up_none : (owners_mid : List Kind) (forests_mid : TableForests) → StandsTable g shape old def owners forests
      → ((e : ℕ) → IsNoBlock (get_or (spots_of g shape middle def owners_mid forests_mid) e OtherBlock) → IsNoBlock (get_or (spots_of g shape old def owners forests) e OtherBlock))
      → (e : ℕ) → table_of_block (owner_of owners_mid e) ≡ None → table_of_block (owner_of owners e) ≡ None
  gives_up_none owners_mid forests_mid st earlier e none = elim (cases_lt e shape.extents) [
    | inl low ↦
        let shown = spot_at shape (pages_of g middle) def owners_mid forests_mid.map e OtherBlock (omega (arith, low)) in
        let now : IsNoBlock (get_or (spots_of g shape middle def owners_mid forests_mid) e OtherBlock) = subst IsNoBlock (sym shown) (no_block_of_kind shape (pages_of g middle) def forests_mid.map e (owner_of owners_mid e) none) in
        kind_of_no_block shape (pages_of g old) def forests.map e (owner_of owners e) (subst IsNoBlock (spot_at shape (pages_of g old) def owners forests.map e OtherBlock low) (earlier e now))
    | inr past ↦ ap table_of_block (get_or_past owners e Free (omega (arith, past, st.trees.map.count)))
  ]

  -- what becomes of the spots leaves each block one: a row is taken out, put, or becomes another, or trees alone take extents or give
  -- them back
  module _ (st : StandsTable g shape old def owners forests) (owners_mid : List Kind) (forests_mid : TableForests) (mid : List Spot) where
    abbrev spots_old : List Spot
    spots_old = spots_of g shape old def owners forests

    abbrev spots_mid : List Spot
    spots_mid = spots_of g shape middle def owners_mid forests_mid

    pub takes_no_block : (row : Row) (rid : Rid) → TakesRow spots_old rid row mid → SpotsAfterReturns mid spots_mid → (e : ℕ) → table_of_block (owner_of owners_mid e) ≡ None → table_of_block (owner_of owners e) ≡ None
    takes_no_block row rid takes returns = gives_up_none owners_mid forests_mid st (λ e none. before_taking spots_old mid rid row e takes (before_returns mid spots_mid e returns none))

    pub puts_no_block : (row : Row) (rid : Rid) → PutsRow def (block_slot_count shape def) spots_old row mid rid → SpotsAfterClaims mid spots_mid → (e : ℕ) → table_of_block (owner_of owners_mid e) ≡ None → table_of_block (owner_of owners e) ≡ None
    puts_no_block row rid puts claims = gives_up_none owners_mid forests_mid st (λ e none. before_putting def (block_slot_count shape def) spots_old mid row rid e puts (before_claims mid spots_mid e claims none))

    pub turns_no_block : (row other : Row) (rid to : Rid) → ChangesRow def (block_slot_count shape def) spots_old rid row other mid to → SpotsAfterClaims mid spots_mid
        → (e : ℕ) → table_of_block (owner_of owners_mid e) ≡ None → table_of_block (owner_of owners e) ≡ None
    turns_no_block row other rid to turns claims =
        gives_up_none owners_mid forests_mid st (λ e none. before_turning def (block_slot_count shape def) spots_old mid row other rid to e turns (before_claims mid spots_mid e claims none))

  pub returns_no_block : (owners_mid : List Kind) (forests_mid : TableForests) → StandsTable g shape old def owners forests → SpotsAfterReturns (spots_of g shape old def owners forests) (spots_of g shape middle def owners_mid forests_mid)
      → (e : ℕ) → table_of_block (owner_of owners_mid e) ≡ None → table_of_block (owner_of owners e) ≡ None
  returns_no_block owners_mid forests_mid st returns =
      gives_up_none owners_mid forests_mid st (λ e none. before_returns (spots_of g shape old def owners forests) (spots_of g shape middle def owners_mid forests_mid) e returns none)

  module _ {before mid : SpaceNotes} (owners_mid : List Kind) (forests_mid : TableForests) (first : ChangesTable g shape before mid old middle def owners forests owners_mid forests_mid) where
    -- a used page outside the table's trees is outside of them still
    none_now : (p : ℕ) → IsUsedPage shape owners p → sum_by (times p) (forests_in_order forests) ≡ 0 → sum_by (times p) (forests_in_order forests_mid) ≡ 0
    none_now p used none = elim (cases_lt 0 (sum_by (times p) (forests_in_order forests_mid))) [
      | inl some ↦ elim (first.pages p some) [ inl was ↦ absurd (omega (arith, was, none)) | inr idle ↦ absurd (used_not_idle shape owners p used idle) ]
      | inr not ↦ omega (arith, not)
    ]

    -- what a page was that is in no block of another table and is no used one outside the trees
    was_of_table : (p : ℕ) → IsExtentPage shape p → ((t : ℕ) → t ≢ def.number → owner_of owners_mid (extent_of shape p) ≡ Block t → ⊥) → (IsUsedPage shape owners_mid p → ⊥)
        → 0 < sum_by (times p) (forests_in_order forests) ⊎ (IsBlockPageOf shape owners def.number p ⊎ IsIdlePage shape owners p)
    was_of_table p page no_other unused = elim (cases_lt 0 (sum_by (times p) (forests_in_order forests))) [
      | inl some ↦ inl some
      | inr none ↦ inr (go (owner_of owners (extent_of shape p)) refl (omega (arith, none)))
    ]
      where
        no_used : sum_by (times p) (forests_in_order forests) ≡ 0 → IsUsedPage shape owners p → ⊥
        no_used none used = unused (first.others_pages p used none)

        go : (kind : Kind) → owner_of owners (extent_of shape p) ≡ kind → sum_by (times p) (forests_in_order forests) ≡ 0 → IsBlockPageOf shape owners def.number p ⊎ IsIdlePage shape owners p
        go Free is none = inr (idle_if shape owners p page (ap table_of_block is) (no_used none))
        go (Block t) is none = elim (cases_eq t def.number) [
          | inl mine ↦ inl (record { page = page; block = is ∙ ap Block mine })
          | inr other ↦ absurd (no_other t other (first.others_blocks (extent_of shape p) t other is))
        ]
        go (Index used) is none = inr (idle_if shape owners p page (ap table_of_block is) (no_used none))

    -- the pages that a call on the table may touch then are pages that one may touch before
    pub space_before : (p : ℕ) → 0 < sum_by (times p) (forests_in_order forests_mid) ⊎ (IsBlockPageOf shape owners_mid def.number p ⊎ (IsSpacePage shape p ⊎ IsIdlePage shape owners_mid p))
        → 0 < sum_by (times p) (forests_in_order forests) ⊎ (IsBlockPageOf shape owners def.number p ⊎ (IsSpacePage shape p ⊎ IsIdlePage shape owners p))
    space_before p mine = elim mine [
      | inl some ↦ elim (first.pages p some) [ inl was ↦ inl was | inr idle ↦ inr (inr (inr idle)) ]
      | inr more ↦ elim more [
        | inl of ↦
            wider (was_of_table p of.page
            (λ t other is. let same : Block t ≡ Block def.number = sym is ∙ of.block in other cc)
            (λ used. let none = used_no_block _ (owner_of owners_mid (extent_of shape p)) used.used in let some = ap table_of_block of.block in absurd cc))
        | inr rest ↦ elim rest [
          | inl space ↦ inr (inr (inl space))
          | inr idle ↦
              let none = idle_no_block shape owners_mid p idle in
              wider (was_of_table p idle.page (λ t other is. let some = ap table_of_block is in absurd cc) (λ used. used_not_idle shape owners_mid p used idle))
        ]
      ]
    ]
      where
        wider : 0 < sum_by (times p) (forests_in_order forests) ⊎ (IsBlockPageOf shape owners def.number p ⊎ IsIdlePage shape owners p)
            → 0 < sum_by (times p) (forests_in_order forests) ⊎ (IsBlockPageOf shape owners def.number p ⊎ (IsSpacePage shape p ⊎ IsIdlePage shape owners p))
        wider (inl some) = inl some
        wider (inr (inl of)) = inr (inl of)
        wider (inr (inr idle)) = inr (inr (inr idle))

    -- where the first left each block one, both together are one change
    pub changes_table_then : {noted : SpaceNotes} (new : S) (owners_now : List Kind) (forests_now : TableForests) → ChangesTable g shape mid noted middle new def owners_mid forests_mid owners_now forests_now
        → ((e : ℕ) → table_of_block (owner_of owners_mid e) ≡ None → table_of_block (owner_of owners e) ≡ None)
        → length (pages_of g old) ≤ length (pages_of g middle) → length (pages_of g middle) ≤ length (pages_of g new)
        → ChangesTable g shape before noted old new def owners forests owners_now forests_now
    changes_table_then new owners_now forests_now second no_block longer still_longer = record {
      stands = second.stands;
      others_blocks = λ e t other is. second.others_blocks e t other (first.others_blocks e t other is);
      no_others_blocks = λ e t other is. first.no_others_blocks e t other (second.no_others_blocks e t other is);
      others_pages = λ p used none.
          second.others_pages p (first.others_pages p used none) (none_now p used none);
      used_pages = λ p used. elim (second.used_pages p used) [
        | inl some ↦ inl some
        | inr was ↦ elim (first.used_pages p was.0) [ inl some ↦ absurd (omega (arith, some, was.1)) | inr earlier ↦ inr earlier ]
      ];
      pages = λ p some. elim (second.pages p some) [
        | inl was ↦ first.pages p was
        | inr idle ↦
            elim (cases_lt 0 (sum_by (times p) (forests_in_order forests))) [
              | inl was ↦ inl was
              | inr none ↦ inr (idle_if shape owners p idle.page (no_block (extent_of shape p) (idle_no_block shape owners_mid p idle))
                  (λ used. used_not_idle shape owners_mid p (first.others_pages p used (omega (arith, none))) idle))
            ]
      ];
      grows = grows_pages_then shape old middle new longer still_longer first.grows second.grows;
      notes = λ right. second.notes (first.notes right);
    }
