-- The table pages stay while rows of a table change.
use Rattle.std.proofs.Common.{◌<◌, ◌+◌, ℕ, List, refl, arith, ◌∙◌, inl, inr}
use Rattle.mdc_ast.specs.declared.definition.TableDef.{TableDef}
use Rattle.store_api.specs.Frame.{HoldsPage, Touches}
use Rattle.store_api.specs.StoreState.{page_at}
use Rattle.store_api.specs.Works.{Works}
use Rattle.store_api.specs.declared.pages.Pages.{Ghosts}
use Rattle.store_api.specs.declared.shape.Shape.{Shape}
use Rattle.extent_map.specs.declared.kind.Kind.{Kind}
use Rattle.extent_map.proofs.DamagesLemmas.{holds_first_count}
use Rattle.table_trees.specs.ToldPages.{PageList}
use Rattle.mdc_sound.specs.StandingTable.{IsTableSpace, StandsTable, TableForests, pages_of}
use Rattle.statement_rows.specs.RowsOfStatement.{KeepsTablePages}

-- for no call
pub same_table_pages : (pages : PageList) → KeepsTablePages pages pages
same_table_pages pages = record { each = λ t low. refl }

-- one call after another
pub table_pages_then : (old mid new : PageList) → KeepsTablePages old mid → KeepsTablePages mid new → KeepsTablePages old new
table_pages_then old mid new first second = record { each = λ t low. second.each t low ∙ first.each t low }

-- a call that touches only what is the table's, the extent map's or idle
pub table_pages_kept : {S : Type 0} (g : Ghosts S) (shape : Shape) (old new : S) (def : TableDef) (owners : List Kind) (forests : TableForests) → StandsTable g shape old def owners forests
    → Works g old new → Touches g (IsTableSpace g shape old def) old new → KeepsTablePages (pages_of g old) (pages_of g new)
table_pages_kept g shape old new def owners forests stands works touches = record { each = λ t low. (touches.others (1 + t) (page_at (pages_of g old) (1 + t)) (apart t low) (was t low)).bytes_are }
  where
    was : (t : ℕ) → t < 16 → HoldsPage g old (1 + t) (page_at (pages_of g old) (1 + t))
    was t low = record { is_told = stands.told; within = omega (arith, holds_first_count shape stands.trees.map, low); bytes_are = refl }

    -- a page of the table's space is page 0 or lies behind the table pages
    apart : (t : ℕ) → t < 16 → IsTableSpace g shape old def (1 + t) → ⊥
    apart t low mine = elim (mine owners forests stands) [
      | inl some ↦ omega (arith, (stands.trees.used (1 + t) some).page.behind, low)
      | inr more ↦ elim more [
        | inl of ↦ omega (arith, of.page.behind, low)
        | inr rest ↦ elim rest [
          | inl space ↦ elim space [ inl root ↦ omega (arith, root) | inr map ↦ omega (arith, map.0, low) ]
          | inr idle ↦ omega (arith, idle.page.behind, low)
        ]
      ]
    ]
