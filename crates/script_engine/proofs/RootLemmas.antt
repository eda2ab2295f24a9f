-- The page count that a sound root page states.
use Rattle.std.proofs.Common.{◌≡◌, ◌<◌, ◌^◌, length, ap, ◌∙◌, arith}
use Rattle.std.proofs.lemmas.Nat.{from_be_bytes-to_be_bytes_4}
use Rattle.store_api.specs.StoreState.{stated_count, stated_in}
use Rattle.store_api.specs.declared.shape.Shape.{Shape}
use Rattle.table_trees.specs.ToldPages.{PageList}
use Rattle.mdc_sound.specs.SpaceRules.{IsRootSound}

pub states_count : (shape : Shape) (pages : PageList) → IsRootSound shape pages → length pages < 2 ^ 32 → stated_count pages ≡ length pages
states_count shape pages root few = ap stated_in root.root ∙ from_be_bytes-to_be_bytes_4 (length pages) few

-- a sound database has pages
pub some_page : (shape : Shape) (pages : PageList) → IsRootSound shape pages → length pages ≡ 0 → ⊥
some_page shape pages root none = omega (arith, root.count.count, none)
