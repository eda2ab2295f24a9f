-- The places of a catalog.
use Rattle.std.specs.Prelude.{◌≡◌, ℕ, ◌+◌, [], ◌∷◌, Some, None}
use Rattle.mdc_ast.specs.Definitions.{Definitions}

-- each definition from a place on has the number of its place
abbrev pub AreNumberedFrom : ℕ → Definitions → Type 0
AreNumberedFrom place [] = Unit {0}
AreNumberedFrom place (None ∷ defs) = AreNumberedFrom (place + 1) defs
AreNumberedFrom place (Some def ∷ defs) = (def.number ≡ place) × AreNumberedFrom (place + 1) defs
