-- Which pages the calls that change one row touch.
use Rattle.std.proofs.Common.{ℕ, inl, inr}
use Rattle.mdc_ast.specs.declared.definition.TableDef.{TableDef}
use Rattle.store_api.specs.declared.pages.Pages.{Ghosts}
use Rattle.store_api.specs.declared.shape.Shape.{Shape}
use Rattle.mdc_sound.specs.StandingTable.{IsTableOrMapPage, IsTableSpace}

-- a page of the table or of the extent map is one that may be touched where pages are claimed
pub in_space : {S : Type 0} (g : Ghosts S) (shape : Shape) (s : S) (def : TableDef) (p : ℕ) → IsTableOrMapPage g shape s def p → IsTableSpace g shape s def p
in_space g shape s def p mine owners forests st = elim (mine owners forests st) [
  | inl some ↦ inl some
  | inr more ↦ elim more [ inl of ↦ inr (inl of) | inr map ↦ inr (inr (inl (inr map))) ]
]
