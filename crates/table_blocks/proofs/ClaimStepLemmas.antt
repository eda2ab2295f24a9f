-- A free extent becomes a block of the table, which it takes into use.
use Rattle.std.proofs.Common.{◌≡◌, ◌≢◌, ◌<◌, ◌⊎◌, ◌+◌, ◌-◌, ℕ, List, Some, length, max, inl, inr, ap, sym, subst, ◌∙◌, arith, get_or-set_same}
use Rattle.std.specs.Prelude.{IsTrue, Option, sum_by}
use Rattle.std.proofs.lemmas.Bool.{cases_eq, cases_lt}
use Rattle.mdc_values.specs.declared.value.Value.{Value}
use Rattle.mdc_ast.specs.declared.definition.TableDef.{TableDef}
use Rattle.mdc_ast.specs.declared.row.Row.{Row}
use Rattle.store_api.specs.Extents.{first_page_of, map_pages}
use Rattle.store_api.specs.Frame.{Touches}
use Rattle.store_api.specs.declared.fault.Damage.{Damage}
use Rattle.store_api.specs.declared.pages.Pages.{Ghosts}
use Rattle.store_api.specs.declared.shape.Shape.{Shape}
use Rattle.extent_map.specs.Damages.{BreaksSpace}
use Rattle.extent_map.specs.Kinds.{is_unused_place}
use Rattle.extent_map.specs.Map.{HoldsMap, IsSpacePage, IsWholeCount, StatesGrowth}
use Rattle.extent_map.specs.Owners.{AreRightNotes, IsUsedPage, extent_of, owner_of, place_in_extent, with_block}
use Rattle.extent_map.specs.declared.kind.Kind.{Kind}
use Rattle.extent_map.specs.declared.kind.Kind.TheVariants.{Free, Block, Index}
use Rattle.extent_map.specs.declared.space_notes.SpaceNotes.{SpaceNotes}
use Rattle.extent_map.proofs.ExtentsLemmas.{some_extents}
use Rattle.extent_map.proofs.UsedPagesLemmas.{used-with_block}
use Rattle.entry_tree.specs.Forest.{times}
use Rattle.entry_tree.specs.Standing.{IsIdlePage}
use Rattle.mdc_ast.specs.TableLimits.{IsTableDef}
use Rattle.table_trees.specs.TreesBeside.{table_of_block}
use Rattle.table_trees.proofs.KeptOwnersLemmas.{idle_back}
use Rattle.table_trees.proofs.PageCountLemmas.{grows_pages_then}
use Rattle.mdc_sound.specs.Placing.{AfterClaims, Spot}
use Rattle.mdc_sound.specs.Placing.Spot.{UsedBlock}
use Rattle.mdc_sound.specs.StandingTable.{BreaksTable, ChangesTable, NamesTablePart, StandsTable, TableForests, forests_in_order}
use Rattle.table_blocks.specs.BlockChanges.{BreaksAround, ChangesAround, IsSpaceAround, TurnsSpot, spot_in}
use Rattle.table_blocks.specs.BlockNow.{IsUsedNow}
use Rattle.table_blocks.specs.BlockSteps.{ClaimsBlock}
use Rattle.table_blocks.proofs.AroundLemmas.{around_none, own_still}
use Rattle.table_blocks.proofs.ClosingLemmas.{spot_of_used, spots_beside, stands_used}
use Rattle.table_blocks.proofs.OwnerStepLemmas.{around_owner, block_unused, owner_here, owner_there, spot_stays, used_were}
use Rattle.table_blocks.proofs.OpeningLemmas.{around_block, unlisted_now, unnamed_now}
use Rattle.table_blocks.proofs.SpotChangesLemmas.{claims_change}

-- ---- owners with a block more

block_of_table : (kind : Kind) (t : ℕ) → table_of_block kind ≡ Some t → kind ≡ Block t
block_of_table Free t is = absurd cc
block_of_table (Block table) t is = let same : table ≡ t = cc in ap Block same
block_of_table (Index used) t is = absurd cc

-- an idle page was so
idle_were : (shape : Shape) (owners : List Kind) (block table : ℕ) → block < length owners → (p : ℕ) → IsIdlePage shape (with_block owners block table) p → IsIdlePage shape owners p
idle_were shape owners block table low p idle = record {
  page = idle.page;
  idle = elim idle.idle [
    | inl unused ↦
        let other : extent_of shape p ≢ block = λ here.
        (let no = subst (λ k. IsTrue (is_unused_place (place_in_extent shape p) k)) (owner_here owners block (Block table) (extent_of shape p) here low) unused.unused in absurd cc) in
        inl (record { page = idle.page; unused = subst (λ k. IsTrue (is_unused_place (place_in_extent shape p) k)) (owner_there owners block (Block table) (extent_of shape p) other) unused.unused })
    | inr free ↦
        let other : extent_of shape p ≢ block = λ here. (let no = sym (owner_here owners block (Block table) (extent_of shape p) here low) ∙ free in absurd cc) in
        inr (sym (owner_there owners block (Block table) (extent_of shape p) other) ∙ free)
  ];
}

-- ---- a claim

module _ {S : Type 0} {g : Ghosts S} (shape : Shape) (before mid_notes : SpaceNotes) (old mid : S) (def : TableDef) (block : ℕ) (owners : List Kind) (forests : TableForests) (defined : IsTableDef def.number def) (st : StandsTable g shape old def owners forests) where
  whole_claimed : length (g.state mid).work ≡ max (length (g.state old).work) (first_page_of shape.extents shape.extent_pages (block + 1)) → block < shape.extents
      → IsWholeCount g shape old → IsWholeCount g shape mid
  whole_claimed count low is = elim (cases_lt (length (g.state old).work) (first_page_of shape.extents shape.extent_pages (block + 1))) [
    | inl more ↦ record { extents = block + 1; within = omega (arith, low); count = omega (arith, count, more) }
    | inr there ↦ record { extents = is.extents; within = is.within; count = omega (arith, count, there, is.count) }
  ]

  pub claims_block : block < shape.extents → owner_of owners block ≡ Free → HoldsMap g shape mid (with_block owners block def.number) → (AreRightNotes shape before owners → AreRightNotes shape mid_notes (with_block owners block def.number))
      → StatesGrowth g old mid → length (g.state mid).work ≡ max (length (g.state old).work) (first_page_of shape.extents shape.extent_pages (block + 1))
      → Touches g (IsSpacePage shape) old mid → (g.state mid).is_told ≡ (g.state old).is_told → ClaimsBlock g shape before mid_notes old mid def block owners forests
  claims_block low free map notes stated count touched told = record {
    free = free;
    stands = around_owner shape old mid def block (Block def.number) owners forests (around_block shape old def owners forests defined st block) touched map (λ p used. used-with_block shape owners block def.number p free used) told;
    own = record {
      within = low;
      owned = get_or-set_same owners block (Block def.number) Free (omega (arith, low, st.trees.map.count));
    };
    unnamed = unnamed_now shape old def owners forests defined st block free;
    unlisted = unlisted_now shape old def owners forests defined st block free;
    spots = spot_stays shape old mid def block (Block def.number) owners forests (around_block shape old def owners forests defined st block) touched;
    longer = omega (arith, count);
    grows = record { stated = stated; whole = whole_claimed count low };
    notes = notes;
  }

  -- what was done with the block since
  module _ (claims : ClaimsBlock g shape before mid_notes old mid def block owners forests) where
    below : block < length owners
    below = omega (arith, claims.own.within, st.trees.map.count)

    -- a block of another table
    other_block : (e t : ℕ) → t ≢ def.number → owner_of owners e ≡ Block t → owner_of (with_block owners block def.number) e ≡ Block t
    other_block e t other is = elim (cases_eq e block) [
      | inl here ↦ (let wrong = sym is ∙ (ap (owner_of owners) here ∙ claims.free) in absurd (cc))
      | inr there ↦ owner_there owners block (Block def.number) e there ∙ is
    ]

    other_block_was : (e t : ℕ) → t ≢ def.number → owner_of (with_block owners block def.number) e ≡ Block t → owner_of owners e ≡ Block t
    other_block_was e t other is = elim (cases_eq e block) [
      | inl here ↦ (let same : Block t ≡ Block def.number = sym is ∙ owner_here owners block (Block def.number) e here below in let number : t ≡ def.number = cc in absurd (other number))
      | inr there ↦ sym (owner_there owners block (Block def.number) e there) ∙ is
    ]

    -- used and idle pages
    used_now : (p : ℕ) → IsUsedPage shape owners p → IsUsedPage shape (with_block owners block def.number) p
    used_now p used = used-with_block shape owners block def.number p claims.free used

    used_was : (p : ℕ) → IsUsedPage shape (with_block owners block def.number) p → IsUsedPage shape owners p
    used_was p used = used_were owners block (Block def.number) shape below (block_unused def.number) p used

    idle_was : (p : ℕ) → IsIdlePage shape (with_block owners block def.number) p → IsIdlePage shape owners p
    idle_was p idle = idle_were shape owners block def.number below p idle

    module _ (noted : SpaceNotes) (new : S) (owners_now : List Kind) (forests_now : TableForests)
        (changes : ChangesAround g AfterClaims shape mid_notes noted mid new def block (with_block owners block def.number) forests owners_now forests_now) where
      changes_claimed : StandsTable g shape new def owners_now forests_now → ChangesTable g shape before noted old new def owners forests owners_now forests_now
      changes_claimed stands = record {
        stands = stands;
        others_blocks = λ e t other is. block_of_table (owner_of owners_now e) t (changes.trees.kept.blocks e ∙ ap table_of_block (other_block e t other is));
        no_others_blocks = λ e t other is. other_block_was e t other (block_of_table (owner_of (with_block owners block def.number) e) t (sym (changes.trees.kept.blocks e) ∙ ap table_of_block is));
        others_pages = λ p used none. changes.trees.kept.others p (used_now p used) none;
        used_pages = λ p used. elim (changes.trees.kept.used p used) [
          | inl mine ↦ inl mine
          | inr was ↦ inr (used_was p was.0, was.1)
        ];
        pages = λ p l. elim (changes.trees.pages p l) [ inl mine ↦ inl mine | inr idle ↦ inr (idle_was p idle) ];
        grows = grows_pages_then shape old mid new claims.longer changes.longer claims.grows changes.grows;
        notes = λ right. changes.trees.notes (claims.notes right);
      }

  pub turns_claimed : (noted : SpaceNotes) (new : S) (owners_now : List Kind) (forests_now : TableForests) (values : List Value) (slots : List (Option Row)) → ClaimsBlock g shape before mid_notes old mid def block owners forests
      → ChangesAround g AfterClaims shape mid_notes noted mid new def block (with_block owners block def.number) forests owners_now forests_now → IsUsedNow g shape new def owners_now forests_now block values slots
      → TurnsSpot g AfterClaims shape before noted old new def block (UsedBlock slots) owners forests owners_now forests_now
  turns_claimed noted new owners_now forests_now values slots claims changes now = record {
    changes = changes_claimed claims noted new owners_now forests_now changes (stands_used shape new def owners_now forests_now defined block values slots changes.stands now);
    records = changes.records;
    spots = spots_beside g claims_change shape old new def block (UsedBlock slots) owners owners_now forests forests_now
        claims.own.within
        (λ e other. subst (λ (was : Spot). AfterClaims was (spot_in g shape new def owners_now forests_now e)) (claims.spots e other) (changes.spots e other))
        (spot_of_used shape new def owners_now forests_now defined block values slots changes.stands now);
  }

  -- the pages that may be touched since, after a change
  pub space_since_change : (claims : ClaimsBlock g shape before mid_notes old mid def block owners forests) (noted : SpaceNotes) (new : S) (owners_now : List Kind) (forests_now : TableForests)
      → ChangesAround g AfterClaims shape mid_notes noted mid new def block (with_block owners block def.number) forests owners_now forests_now → (p : ℕ) → IsSpaceAround g shape new def block p
      → 0 < sum_by (times p) (forests_in_order forests) ⊎ (IsSpacePage shape p ⊎ IsIdlePage shape owners p)
  space_since_change claims noted new owners_now forests_now changes p is =
      let own = own_still shape mid_notes noted mid new def block (with_block owners block def.number) owners_now forests forests_now changes claims.own in
      elim (is owners_now forests_now changes.stands own) [
        | inl mine ↦ elim (changes.trees.pages p mine) [ inl was ↦ inl was | inr idle ↦ inr (inr (idle_was claims p idle)) ]
        | inr rest ↦ elim rest [
          | inl here ↦ inr (inr (record {
            page = here.0;
            idle = inr (ap (owner_of owners) here.1 ∙ claims.free);
          }))
          | inr more ↦ elim more [
            | inl space ↦ inr (inl space)
            | inr idle ↦ elim (idle_back shape (with_block owners block def.number) owners_now (forests_in_order forests) (forests_in_order forests_now) p changes.trees.kept idle) [
              | inl was ↦ inl was
              | inr idle_then ↦ inr (inr (idle_was claims p idle_then))
            ]
          ]
        ]
      ]

  -- and right behind the claim
  pub space_since_claim : (p : ℕ) → ClaimsBlock g shape before mid_notes old mid def block owners forests → IsSpaceAround g shape mid def block p
      → 0 < sum_by (times p) (forests_in_order forests) ⊎ (IsSpacePage shape p ⊎ IsIdlePage shape owners p)
  space_since_claim p claims is =
      space_since_change claims mid_notes mid (with_block owners block def.number) forests (around_none claims_change shape mid_notes mid def block (with_block owners block def.number) forests claims.stands) p is

-- ---- damage

-- damage that the claim meets
pub breaks_claiming : {S : Type 0} (g : Ghosts S) (shape : Shape) (s : S) (def : TableDef) (damage : Damage) → BreaksSpace g shape s damage → BreaksTable g shape s def damage
breaks_claiming g shape s def damage (inl breaks) = record {
  names = NamesTablePart.count breaks.rule breaks.page;
  broken = λ owners forests st.
      let some = some_extents shape in
      let last = st.trees.map.pages (map_pages shape.extents - 1) (omega (arith, some)) in
      omega (arith, last.page.within, breaks.short, some);
}
breaks_claiming g shape s def damage (inr (i, breaks)) = record {
  names = NamesTablePart.map_page breaks.rule (omega (arith, breaks.page), omega (arith, breaks.page, breaks.on_map));
  broken = λ owners forests st. breaks.none_told owners (st.trees.map.pages i breaks.on_map) tt;
}

-- damage that is met since
pub breaks_since_claim : {S : Type 0} (g : Ghosts S) (shape : Shape) (before mid_notes : SpaceNotes) (old mid : S) (def : TableDef) (block : ℕ) (Expected : List Kind → TableForests → Type 0) (damage : Damage)
    → ((owners : List Kind) (forests : TableForests) → StandsTable g shape old def owners forests → ClaimsBlock g shape before mid_notes old mid def block owners forests)
    → ((owners : List Kind) (forests : TableForests) → StandsTable g shape old def owners forests → Expected (with_block owners block def.number) forests)
    → BreaksAround g shape mid def block Expected damage → BreaksTable g shape old def damage
breaks_since_claim g shape before mid_notes old mid def block Expected damage claims expects breaks = record {
  names = breaks.names;
  broken = λ owners forests st.
      let claim = claims owners forests st in
      breaks.broken (with_block owners block def.number) forests claim.stands claim.own (expects owners forests st);
}
