use Rattle.std.proofs.Common.{◌≡◌, Bool, true, false, cond, ◌||◌, ap, refl, ◌∙◌}
use Rattle.std.specs.Str.{bytes_eq}
use Rattle.mdc_ast.specs.Definitions.{is_same}
use Rattle.binder.proofs.ColumnLemmas.{is_same-sym}
use Rattle.binder.proofs.known_names.KnownNames.add.Goals as goal

cond-or : (a b x y : Bool) → a ≡ b → x ≡ y → cond a true x ≡ (b || y)
cond-or true b x y same rest = rw (← same) refl
cond-or false b x y same rest = rw (← same) rest

pub returns-clause-known : goal.returns-clause-known
returns-clause-known c = λ known knows other.
    let key : bytes_eq c.bytes.result.now other.0 ≡ is_same other c.args.name.now = ap (λ bytes. bytes_eq bytes other.0) c.bytes.ensures ∙ is_same-sym c.args.name.now other in
    c.in_ok-insert.ensures.updates.0 (record c.bytes.result { now = other.0 }) ∙ cond-or _ _ _ _ key (knows other)
