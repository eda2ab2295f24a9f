use Rattle.std.proofs.Common.{◌≡◌, ◌∷◌, ◌++◌, map, take}
use Rattle.file_check.proofs.roots.roots_of.Given as goal

-- the roots of the first record indexes stand behind those of the table's own trees
abbrev pub invariant-loop-index : goal.invariant-loop-index
invariant-loop-index l =
    l.roots.items ≡ l.def.roots.map ∷ l.def.roots.composite ∷ l.def.roots.dims ++ map (λ index. index.root) (take l.index-index l.index-items)
