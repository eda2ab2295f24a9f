-- Which pages a statement brings to hand for LIST BLOCKS: of any other nothing is said, and counting a table's blocks brings those of
-- its block map.
use Rattle.std.proofs.Common.{◌≡◌, ℕ, Some, false, sym, subst, ◌∙◌}
use Rattle.std.proofs.lemmas.Option.{same_Some}
use Rattle.mdc_ast.specs.declared.definition.TableDef.{TableDef}
use Rattle.mdc_ast.specs.declared.name.Name.{Name}
use Rattle.mdc_ast.specs.Definitions.{Definitions, def_named}
use Rattle.store_api.specs.Fetching.{BringsOnly}
use Rattle.store_api.specs.declared.pages.Pages.{Ghosts}
use Rattle.store_api.proofs.FetchingLemmas.{only_none, only_same, only_then, only_wider}
use Rattle.store_api.proofs.FrameLemmas.{touches_same}
use Rattle.table_trees.specs.TableTrees.{TreePlace, map_place}
use Rattle.table_trees.specs.TreesBeside.{IsTreePageAt}
use Rattle.table_trees.proofs.SideBySideLemmas.{tree_still}
use Rattle.mdc_sound.specs.StandingTable.{pages_of}
use Rattle.script_engine.specs.Fetching.{FetchesForListing}
use Rattle.script_engine.specs.Roles.{Lists, Role, is_listing, only_reads}

module _ {S : Type 0} (g : Ghosts S) (defs : Definitions) where
  -- of any other statement nothing is said
  pub lists_other : (old new : S) (role : Role) → is_listing role ≡ false → FetchesForListing g old new defs role
  lists_other old new (Lists name) other = absurd (cc)
  lists_other old new role other = tt

  -- so of one that may change pages
  pub lists_changing : (old new : S) (role : Role) → only_reads role ≡ false → FetchesForListing g old new defs role
  lists_changing old new (Lists name) changing = absurd (cc)
  lists_changing old new role changing = tt

  -- no call
  pub lists_none : (s : S) (role : Role) → FetchesForListing g s s defs role
  lists_none s (Lists name) = λ def named. only_none
  lists_none s role = tt

  -- the blocks of the table of that name were counted
  pub lists_counted : (old new : S) (name : Name) (def : TableDef) → def_named defs name ≡ Some def → BringsOnly g (IsTreePageAt g old (map_place def)) old new → FetchesForListing g old new defs (Lists name)
  lists_counted old new name def named brings other found =
      let same : def ≡ other = same_Some def other (sym named ∙ found) in
      subst (λ (d : TableDef). BringsOnly g (IsTreePageAt g old (map_place d)) old new) same brings

  -- a run between a mark and its end
  module _ (old marked : S) (told : (g.state marked).is_told ≡ (g.state old).is_told) (same : pages_of g marked ≡ pages_of g old) where
    page_of_tree : (place : TreePlace) (p : ℕ) → IsTreePageAt g marked place p → IsTreePageAt g old place p
    page_of_tree place p of t holds = of t (tree_still (λ q. ⊥) old marked place t holds (touches_same told same) told (λ q l mine. mine))

    pub lists_marked : (mid new : S) (role : Role) → (g.state marked).fetched ≡ (g.state old).fetched → (g.state new).fetched ≡ (g.state mid).fetched
        → FetchesForListing g marked mid defs role → FetchesForListing g old new defs role
    lists_marked mid new (Lists name) before after fetches = λ def named.
        only_then (only_same before) (only_then (only_wider (fetches def named) (page_of_tree (map_place def))) (only_same after))
    lists_marked mid new role before after fetches = tt
