-- Why entries of a tree weren't taken one after the other.
use Rattle.std.specs.Prelude.{◌≡◌, List, ◌++◌, None}
use Rattle.mdc_words.specs.ByteOrder.{Entry}
use Rattle.store_api.specs.declared.fault.StoreFault.{StoreFault}
use Rattle.store_api.specs.declared.fault.StoreFault.TheVariants.{Device, Damaged, Memory}
use Rattle.entry_tree.specs.EntryBounds.{Rises}
use Rattle.entry_tree.specs.declared.tree.Tree.{Tree}

-- no tree has these entries in front, since they don't rise
abbrev pub IsInNoTree : List Entry → Type 0
IsInNoTree entries = (more : List Entry) → Rises None None (entries ++ more) → ⊥

-- memory ran out, or these entries don't rise, of which the root of the tree is named
abbrev pub IsTakingFault : Tree → List Entry → StoreFault → Type 0
IsTakingFault tree entries Device = ⊥
IsTakingFault tree entries Memory = Unit {0}
IsTakingFault tree entries (Damaged damage) = (damage ≡ record { page = tree.root; rule = 4 }) × IsInNoTree entries
