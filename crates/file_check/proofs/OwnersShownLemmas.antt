-- The extent map of pages that keep the first rules, and what each of its pages shows.
use Rattle.std.proofs.Common.{◌≡◌, ◌/◌, ℕ, List, IsTrue, refl, ap, sym, ◌∙◌}
use Rattle.mdc_ast.specs.Definitions.{Definitions}
use Rattle.store_api.specs.declared.fault.Damage.{Damage}
use Rattle.store_api.specs.declared.pages.Pages.{Ghosts}
use Rattle.store_api.specs.declared.shape.Shape.{Shape}
use Rattle.store_api.proofs.FrameLemmas.{holds_one}
use Rattle.extent_map.specs.Damages.{BreaksSpace}
use Rattle.extent_map.specs.Kinds.{kind_bytes}
use Rattle.extent_map.specs.Map.{HoldsMap, HoldsMapPage, entry_of}
use Rattle.extent_map.specs.Owners.{owner_of}
use Rattle.extent_map.specs.declared.kind.Kind.{Kind}
use Rattle.extent_map.proofs.DamagesLemmas.{breaks_space_never}
use Rattle.extent_map.proofs.ExtentsLemmas.{extent_limits}
use Rattle.extent_map.proofs.KindsLemmas.{same_kind}
use Rattle.extent_map.proofs.MapLemmas.{entry_of-map_page}
use Rattle.table_trees.specs.ToldPages.{PageList, told_pages}
use Rattle.table_trees.proofs.ToldPagesLemmas.{told_of_map}
use Rattle.mdc_sound.specs.SpaceRules.{DatabaseView, IsMapSound}
use Rattle.file_check.specs.Known.{ViewHasTrees}
use Rattle.file_check.specs.Looking.{Unless}

-- one page of the map shows one owner of an extent
pub one_owner : {S : Type 0} {g : Ghosts S} {shape : Shape} {s : S} (one other : List Kind) (e : ℕ) → HoldsMapPage g shape s one (e / 512) → HoldsMapPage g shape s other (e / 512) → owner_of one e ≡ owner_of other e
one_owner {shape = shape} one other e first second =
    let bytes : kind_bytes (owner_of one e) ≡ kind_bytes (owner_of other e) =
    sym (entry_of-map_page one (e / 512) e refl) ∙ (ap (λ all. entry_of all e) (holds_one first.page second.page) ∙ entry_of-map_page other (e / 512) e refl) in
    same_kind shape.extent_pages (owner_of one e) (owner_of other e) (extent_limits shape).1 (first.kinds e refl) (second.kinds e refl) bytes

-- a sound map is told
pub sound_map_told : (shape : Shape) (pages : PageList) (owners : List Kind) → IsMapSound shape pages owners → HoldsMap told_pages shape pages owners
sound_map_told shape pages owners sound = record { count = sound.count; pages = λ i low. (sound.each i low).held }

module _ {S : Type 0} (g : Ghosts S) (s : S) (shape : Shape) where
  -- so a store that tells these pages holds it
  pub known_map : (defs : Definitions) (view : DatabaseView) → IsTrue (g.state s).is_told → ViewHasTrees shape (g.state s).work defs view → HoldsMap g shape s view.owners
  known_map defs view told has = told_of_map g s told shape view.owners (sound_map_told shape (g.state s).work view.owners has.rule2)

  -- and no call on extents names damage
  pub space_unless : (defs : Definitions) (damage : Damage) → BreaksSpace g shape s damage → Unless g s (λ pages. (view : DatabaseView) × ViewHasTrees shape pages defs view) damage
  space_unless defs damage breaks told has = breaks_space_never damage (known_map defs has.0 told has.1) breaks
