-- The pages of a table's other blocks stay where a call on one block, or on none, may have touched pages.
use Rattle.std.proofs.Common.{◌≡◌, ◌≢◌, ◌<◌, ◌+◌, ℕ, List, length, refl, ap, arith, sym, ◌∙◌, subst, ◌⊎◌, inl, inr}
use Rattle.std.specs.Prelude.{IfOk, IfSome, Option, None, Some, Result, Ok, Err, sum_by}
use Rattle.store_api.specs.Extents.{first_page_of}
use Rattle.store_api.specs.Frame.{HoldsPage, Touches}
use Rattle.store_api.specs.RunsOverPages.{RunsOverPages}
use Rattle.store_api.specs.StoreState.{page_at}
use Rattle.store_api.specs.declared.fault.Damage.{Damage}
use Rattle.store_api.specs.declared.fault.StoreFault.{StoreFault}
use Rattle.store_api.specs.declared.pages.Pages.{Ghosts}
use Rattle.store_api.specs.declared.shape.Shape.{Shape}
use Rattle.store_api.proofs.RunsOverPagesLemmas.{runs_wider}
use Rattle.extent_map.specs.Map.{IsSpacePage}
use Rattle.extent_map.specs.Owners.{extent_of, owner_of, place_in_extent}
use Rattle.extent_map.specs.declared.kind.Kind.{Kind}
use Rattle.extent_map.specs.declared.kind.Kind.TheVariants.{Free}
use Rattle.extent_map.proofs.ExtentsLemmas.{extent_below, page_of-parts, place_below}
use Rattle.extent_map.proofs.HoldsMapLemmas.{map_page_at}
use Rattle.entry_tree.specs.Forest.{times}
use Rattle.entry_tree.specs.Standing.{IsIdlePage}
use Rattle.entry_tree.proofs.StandingLemmas.{extent_not_space}
use Rattle.mdc_ast.specs.declared.definition.TableDef.{TableDef}
use Rattle.table_trees.specs.ToldPages.{PageList}
use Rattle.table_trees.specs.TreesBeside.{table_of_block}
use Rattle.table_trees.proofs.KeptOwnersLemmas.{idle_no_block, used_no_block}
use Rattle.mdc_sound.specs.StandingTable.{IsBlockOrMapPage, IsBlockPageOf, IsPageOfBlock, IsPageOfOwnBlock, IsSpaceOfBlock, IsTableOrMapPage, IsTableSpace, IsTreeSpaceOfTable, KeepsBlocksBut, StandsTable, TableForests, forests_in_order}
use Rattle.mdc_sound.proofs.StandingTableLemmas.{stands_same}

-- what is so of each value
pub if_ok_all : {X E : Type 0} {P : X → Type 0} (result : Result X E) → ((x : X) → P x) → IfOk result P
if_ok_all (Ok x) each = each x
if_ok_all (Err e) each = tt

-- what is so of a value, if there is one
pub if_some_at : {X : Type 0} (P : X → Type 0) (o : Option X) (x : X) → o ≡ Some x → IfSome o P → P x
if_some_at {X} P o x is so = subst (λ (o : Option X). IfSome o P) is so

-- a page of an own block is one of the table's blocks
own_block_page : (shape : Shape) (owners : List Kind) (t block p : ℕ) → IsPageOfOwnBlock shape owners t block p → IsBlockPageOf shape owners t p
own_block_page shape owners t block p is = record { page = is.page.0; block = ap (owner_of owners) is.page.1 ∙ is.own }

module _ {S : Type 0} {g : Ghosts S} where
  -- ---- a page of a block of the table

  module _ (shape : Shape) (s : S) (def : TableDef) (owners : List Kind) (forests : TableForests) (st : StandsTable g shape s def owners forests) where
    -- it is no page of the table's trees, none of the extent map or page 0, and not idle
    block_page_apart : (p : ℕ) → IsBlockPageOf shape owners def.number p → 0 < sum_by (times p) (forests_in_order forests) ⊎ (IsSpacePage shape p ⊎ IsIdlePage shape owners p) → ⊥
    block_page_apart p of (inl tree) =
        let used = st.trees.used p tree in
        let wrong : Some def.number ≡ None = sym (ap table_of_block of.block) ∙ used_no_block (place_in_extent shape p) (owner_of owners (extent_of shape p)) used.used in
        absurd cc
    block_page_apart p of (inr (inl space)) = extent_not_space shape p of.page space
    block_page_apart p of (inr (inr idle)) = let wrong : Some def.number ≡ None = sym (ap table_of_block of.block) ∙ idle_no_block shape owners p idle in absurd cc

    -- it lies within the pages
    block_page_within : (p : ℕ) → IsBlockPageOf shape owners def.number p → p < length (g.state s).work
    block_page_within p of =
        let e = extent_of shape p in
        let owned : owner_of owners e ≢ Free = λ free. let wrong = sym of.block ∙ free in absurd (cc) in
        let there = (map_page_at e (extent_below shape p of.page) st.trees.map).there e refl owned in
        let end : first_page_of shape.extents shape.extent_pages e + shape.extent_pages ≡ first_page_of shape.extents shape.extent_pages (e + 1) = omega arith in
        omega (arith, there, place_below shape p, page_of-parts shape p of.page, end)

  -- ---- a call behind one that left the work as it was

  module _ (shape : Shape) (old mid new : S) (def : TableDef) (owners : List Kind) (forests : TableForests) (told : (g.state mid).is_told ≡ (g.state old).is_told)
      (same : (g.state mid).work ≡ (g.state old).work) where
    pub keeps_along : (May : ℕ → Type 0) → KeepsBlocksBut g shape mid new def owners May → KeepsBlocksBut g shape old new def owners May
    keeps_along May keeps = record { stay = λ p of not. keeps.stay p of not ∙ ap (λ (pages : PageList). page_at pages p) same }

    module _ (st : StandsTable g shape old def owners forests) where
      st_mid : StandsTable g shape mid def owners forests
      st_mid = stands_same shape old mid def owners forests told same st

      keeps_off : (Mine May : ℕ → Type 0) → Touches g Mine mid new → ((p : ℕ) → IsBlockPageOf shape owners def.number p → (May (extent_of shape p) → ⊥) → Mine p → ⊥) → KeepsBlocksBut g shape old new def owners May
      keeps_off Mine May touched off = keeps_along May (record {
        stay = λ p of not.
            let was : HoldsPage g mid p (page_at (g.state mid).work p) = record { is_told = st_mid.told; within = block_page_within shape mid def owners forests st_mid p of; bytes_are = refl } in
            (touched.others p (page_at (g.state mid).work p) (off p of not) was).bytes_are;
      })

      -- it may claim, and changes one block
      pub keeps_in_space : (block : ℕ) → Touches g (IsSpaceOfBlock g shape mid def block) mid new → KeepsBlocksBut g shape old new def owners (λ other. other ≡ block)
      keeps_in_space block touched = keeps_off (IsSpaceOfBlock g shape mid def block) (λ other. other ≡ block) touched (λ p of not mine. elim (mine owners forests st_mid) [
        | inl tree ↦ block_page_apart shape mid def owners forests st_mid p of (inl tree)
        | inr rest ↦ elim rest [ inl own ↦ not own.page.1 | inr space ↦ block_page_apart shape mid def owners forests st_mid p of (inr space) ]
      ])

      -- it may claim, and changes no block
      pub keeps_in_trees : (May : ℕ → Type 0) → Touches g (IsTreeSpaceOfTable g shape mid def) mid new → KeepsBlocksBut g shape old new def owners May
      keeps_in_trees May touched = keeps_off (IsTreeSpaceOfTable g shape mid def) May touched (λ p of not mine. block_page_apart shape mid def owners forests st_mid p of (mine owners forests st_mid))

      -- it claims nothing, and changes one block
      pub keeps_in_block : (block : ℕ) → Touches g (IsBlockOrMapPage g shape mid def block) mid new → KeepsBlocksBut g shape old new def owners (λ other. other ≡ block)
      keeps_in_block block touched = keeps_off (IsBlockOrMapPage g shape mid def block) (λ other. other ≡ block) touched (λ p of not mine. elim (mine owners forests st_mid) [
        | inl tree ↦ block_page_apart shape mid def owners forests st_mid p of (inl tree)
        | inr rest ↦ elim rest [ inl own ↦ not own.page.1 | inr map ↦ block_page_apart shape mid def owners forests st_mid p of (inr (inl (inr map))) ]
      ])

      -- it touches the pages of one block alone
      pub keeps_but_one : (block : ℕ) → Touches g (IsPageOfBlock shape block) mid new → KeepsBlocksBut g shape old new def owners (λ other. other ≡ block)
      keeps_but_one block touched = keeps_off (IsPageOfBlock shape block) (λ other. other ≡ block) touched (λ p of not mine. not mine.1)

  -- ---- what calls on one block touch are pages of the table

  module _ (shape : Shape) (def : TableDef) where
    -- where it may claim
    pub runs_of_space : {old new : S} {fault : Option StoreFault} {Breaks : Damage → Type 0} (block : ℕ) → RunsOverPages g (IsSpaceOfBlock g shape old def block) (IsSpaceOfBlock g shape old def block) Breaks old new fault
        → RunsOverPages g (IsTableSpace g shape old def) (IsTableSpace g shape old def) Breaks old new fault
    runs_of_space {old} {new} block run = runs_wider run (λ p there is. wider p is) wider (λ damage b. b)
      where
        wider : (p : ℕ) → IsSpaceOfBlock g shape old def block p → IsTableSpace g shape old def p
        wider p is owners forests st = elim (is owners forests st) [
          | inl tree ↦ inl tree
          | inr rest ↦ elim rest [ inl own ↦ inr (inl (own_block_page shape owners def.number block p own)) | inr space ↦ inr (inr space) ]
        ]

    -- where it claims a block
    pub runs_of_trees : {old new : S} {fault : Option StoreFault} {Breaks : Damage → Type 0} → RunsOverPages g (IsTreeSpaceOfTable g shape old def) (IsTreeSpaceOfTable g shape old def) Breaks old new fault
        → RunsOverPages g (IsTableSpace g shape old def) (IsTableSpace g shape old def) Breaks old new fault
    runs_of_trees {old} {new} run = runs_wider run (λ p there is. wider p is) wider (λ damage b. b)
      where
        wider : (p : ℕ) → IsTreeSpaceOfTable g shape old def p → IsTableSpace g shape old def p
        wider p is owners forests st = elim (is owners forests st) [ inl tree ↦ inl tree | inr space ↦ inr (inr space) ]

    -- where it claims nothing
    pub runs_of_block : {old new : S} {fault : Option StoreFault} {Breaks : Damage → Type 0} (block : ℕ) → RunsOverPages g (IsBlockOrMapPage g shape old def block) (IsBlockOrMapPage g shape old def block) Breaks old new fault
        → RunsOverPages g (IsTableOrMapPage g shape old def) (IsTableOrMapPage g shape old def) Breaks old new fault
    runs_of_block {old} {new} block run = runs_wider run (λ p there is. wider p is) wider (λ damage b. b)
      where
        wider : (p : ℕ) → IsBlockOrMapPage g shape old def block p → IsTableOrMapPage g shape old def p
        wider p is owners forests st = elim (is owners forests st) [
          | inl tree ↦ inl tree
          | inr rest ↦ elim rest [ inl own ↦ inr (inl (own_block_page shape owners def.number block p own)) | inr map ↦ inr (inr map) ]
        ]
