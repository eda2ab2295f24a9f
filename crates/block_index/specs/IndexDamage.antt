-- What a change of one index may name as damage.
use Rattle.std.specs.Prelude.{◌≡◌, ◌⊎◌, ℕ, List}
use Rattle.mdc_words.specs.ByteOrder.{Entry}
use Rattle.store_api.specs.declared.fault.Damage.{Damage}
use Rattle.store_api.specs.declared.pages.Pages.{Ghosts}
use Rattle.store_api.specs.declared.shape.Shape.{Shape}
use Rattle.extent_map.specs.declared.kind.Kind.{Kind}
use Rattle.entry_tree.specs.EntryBounds.{IsEntryOf}
use Rattle.entry_tree.specs.Forest.{Forest, leaf_entries}
use Rattle.entry_tree.specs.Pruning.{BreaksTreeOrReturn}
use Rattle.entry_tree.specs.Standing.{BreaksTreeOrMap, StandsTree}
use Rattle.entry_tree.specs.declared.tree.Tree.{Tree}

-- The damage of an index names its root and the rule of its kind: where map and tree stand, it has an entry that it shouldn't
-- have, or hasn't one that it should.
pub record BreaksIndex {S : Type 0} (g : Ghosts S) (number : ℕ) (shape : Shape) (s : S) (tree : Tree) (Wrong : List Entry → Type 0) (damage : Damage) : Type 0 where
  pub page : damage.page ≡ tree.root
  pub rule : damage.rule ≡ number
  pub wrong : (owners : List Kind) (t : Forest) → StandsTree g shape s tree owners t → Wrong (leaf_entries t)

-- what entering an entry in an index may name: what an addition may, or that the entry is there already
abbrev pub BreaksEntering : {S : Type 0} → Ghosts S → ℕ → Shape → S → Tree → Entry → Damage → Type 0
BreaksEntering g rule shape s tree x damage = BreaksTreeOrMap g shape s tree damage ⊎ BreaksIndex g rule shape s tree (IsEntryOf x) damage

-- what taking an entry out of one may name: what a removal may, or that the entry isn't there
abbrev pub BreaksLeaving : {S : Type 0} → Ghosts S → ℕ → Shape → S → Tree → Entry → Damage → Type 0
BreaksLeaving g rule shape s tree x damage = BreaksTreeOrReturn g shape s tree damage ⊎ BreaksIndex g rule shape s tree (λ entries. IsEntryOf x entries → ⊥) damage
