-- Which names a set of lent names has.
use Rattle.std.specs.Prelude.{◌≡◌, List}
use Rattle.std.specs.HashSet.{contains_by}
use Rattle.std.specs.Str.{bytes_eq}
use Rattle.mdc_ast.specs.declared.name.Name.{Name}
use Rattle.mdc_ast.specs.Definitions.{is_among}
use Rattle.binder.specs.declared.known_names.KnownNames.{KnownNames}

-- the set has these names
abbrev pub Knows : KnownNames → List Name → Type 0
Knows set names = (name : Name) → contains_by (λ key. bytes_eq name.0 key.now) set.names ≡ is_among name names
