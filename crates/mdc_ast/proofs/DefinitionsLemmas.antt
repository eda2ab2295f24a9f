-- What holds of every database's definitions, once one of them is another.
use Rattle.std.proofs.Common.{◌≡◌, ℕ, zero, suc, ◌+◌, List, [], ◌∷◌, length, Bool, true, false, cond, refl, ap, subst, ◌∙◌, arith}
use Rattle.std.specs.Prelude.{flat_map, ◌||◌, ◌&&◌, ◌==◌, Option, Some, None, slice_set}
use Rattle.std.specs.List.{list_any, position_from}
use Rattle.std.specs.Str.{bytes_eq}
use Rattle.std.proofs.lemmas.Bool.Decides.{nat_tests}
use Rattle.mdc_ast.specs.declared.definition.TableDef.{TableDef}
use Rattle.mdc_ast.specs.declared.name.Name.{Name}
use Rattle.mdc_ast.specs.ValidDatabase.{AllDefsDiffer, AreValidDefs, AreValidFrom, IsValidPlace, index_names}
use Rattle.mdc_ast.specs.Definitions.{AllNamesDiffer, Definitions, def_at, is_defined, is_same}
use Rattle.mdc_ast.proofs.TestsLemmas.{some_is}

pub neither : (a b : Bool) → (a || b) ≡ false → (a ≡ false) × (b ≡ false)
neither true b e = cc
neither false b e = (refl, e)

eqb-sym : (x y : ℕ) → (x == y) ≡ (y == x)
eqb-sym x y = grind (arith, nat_tests)

bytes_eq-sym : (xs ys : List ℕ) → bytes_eq xs ys ≡ bytes_eq ys xs
bytes_eq-sym [] [] = refl
bytes_eq-sym [] (y ∷ ys) = refl
bytes_eq-sym (x ∷ xs) [] = refl
bytes_eq-sym (x ∷ xs) (y ∷ ys) = rw (eqb-sym x y) (ap (λ b. (y == x) && b) (bytes_eq-sym xs ys))

pub is_same-sym : (a b : Name) → is_same a b ≡ is_same b a
is_same-sym a b = bytes_eq-sym a.0 b.0

length-slice_set : {X : Type 0} (xs : List X) (i : ℕ) (x : X) → length (slice_set xs i x) ≡ length xs
length-slice_set [] i x = refl
length-slice_set (y ∷ xs) zero x = refl
length-slice_set (y ∷ xs) (suc i) x = ap suc (length-slice_set xs i x)

-- ---- names

-- the name isn't that of a table in another place
abbrev pub IsFreeBut : Definitions → ℕ → Option TableDef → Type 0
IsFreeBut defs place None = Unit {0}
IsFreeBut defs place (Some def) = list_any (is_defined def.name) (slice_set defs place None) ≡ false

pub emptied_too : (name : Name) (defs : Definitions) (place : ℕ) → list_any (is_defined name) defs ≡ false → list_any (is_defined name) (slice_set defs place None) ≡ false
emptied_too name [] place e = e
emptied_too name (def ∷ defs) zero e = (neither (is_defined name def) (list_any (is_defined name) defs) e).1
emptied_too name (def ∷ defs) (suc place) e =
    let both : (is_defined name def ≡ false) × (list_any (is_defined name) defs ≡ false) = neither (is_defined name def) (list_any (is_defined name) defs) e in
    rw both.0 (emptied_too name defs place both.1)

found_none : (b : Bool) (i : ℕ) (rest : Option ℕ) → cond b (Some i) rest ≡ None → (b ≡ false) × (rest ≡ None)
found_none true i rest e = cc
found_none false i rest e = (refl, e)

-- a name that no table has
pub none_named : (name : Name) (defs : Definitions) (i : ℕ) → position_from (is_defined name) i defs ≡ None → list_any (is_defined name) defs ≡ false
none_named name [] i e = refl
none_named name (def ∷ defs) i e =
    let both : (is_defined name def ≡ false) × (position_from (is_defined name) (i + 1) defs ≡ None) = found_none (is_defined name def) i _ e in
    rw both.0 (none_named name defs (i + 1) both.1)

-- where none has a name, the one at a place hasn't
none_at : (name : Name) (defs : Definitions) (place : ℕ) (def : TableDef) → list_any (is_defined name) defs ≡ false → def_at defs place ≡ Some def → is_same def.name name ≡ false
none_at name [] place def e at = cc
none_at name (None ∷ defs) zero def e at = cc
none_at name (Some d ∷ defs) zero def e at = subst (λ x. is_same x.name name ≡ false) (some_is d def at) (neither (is_same d.name name) (list_any (is_defined name) defs) e).0
none_at name (d ∷ defs) (suc place) def e at = none_at name defs place def (neither (is_defined name d) (list_any (is_defined name) defs) e).1 at

-- a table's own name
pub own_name : (defs : Definitions) (place : ℕ) (def : TableDef) → AllDefsDiffer defs → def_at defs place ≡ Some def → list_any (is_defined def.name) (slice_set defs place None) ≡ false
own_name [] place def differ at = cc
own_name (None ∷ defs) zero def differ at = cc
own_name (Some d ∷ defs) zero def differ at = subst (λ x. list_any (is_defined x.name) defs ≡ false) (some_is d def at) differ.0
own_name (None ∷ defs) (suc place) def differ at = own_name defs place def differ at
own_name (Some d ∷ defs) (suc place) def differ at = rw (is_same-sym d.name def.name ∙ none_at d.name defs place def differ.0 at) (own_name defs place def differ.1 at)

put_differs : (name : Name) (defs : Definitions) (place : ℕ) (def : Option TableDef) → list_any (is_defined name) defs ≡ false → is_defined name def ≡ false → list_any (is_defined name) (slice_set defs place def) ≡ false
put_differs name [] place def e is = refl
put_differs name (d ∷ defs) zero def e is = rw is (neither (is_defined name d) (list_any (is_defined name) defs) e).1
put_differs name (d ∷ defs) (suc place) def e is =
    let both : (is_defined name d ≡ false) × (list_any (is_defined name) defs ≡ false) = neither (is_defined name d) (list_any (is_defined name) defs) e in
    rw both.0 (put_differs name defs place def both.1 is)

pub differ_put : (defs : Definitions) (place : ℕ) (def : Option TableDef) → AllDefsDiffer defs → IsFreeBut defs place def → AllDefsDiffer (slice_set defs place def)
differ_put [] place def differ free = differ
differ_put (None ∷ defs) zero None differ free = differ
differ_put (Some d ∷ defs) zero None differ free = differ.1
differ_put (None ∷ defs) zero (Some def) differ free = (free, differ)
differ_put (Some d ∷ defs) zero (Some def) differ free = (free, differ.1)
differ_put (None ∷ defs) (suc place) None differ free = differ_put defs place None differ free
differ_put (None ∷ defs) (suc place) (Some def) differ free = differ_put defs place (Some def) differ free
differ_put (Some d ∷ defs) (suc place) None differ free = (put_differs d.name defs place None differ.0 refl, differ_put defs place None differ.1 tt)
differ_put (Some d ∷ defs) (suc place) (Some def) differ free =
    let both : (is_same d.name def.name ≡ false) × (list_any (is_defined def.name) (slice_set defs place None) ≡ false) = neither (is_same d.name def.name) _ free in
    (put_differs d.name defs place (Some def) differ.0 (is_same-sym def.name d.name ∙ both.0), differ_put defs place (Some def) differ.1 both.1)

-- ---- places

pub valid_put : (from : ℕ) (defs : Definitions) (place : ℕ) (def : Option TableDef) → AreValidFrom from defs → IsValidPlace (from + place) def → AreValidFrom from (slice_set defs place def)
valid_put from [] place def valid is = valid
valid_put from (d ∷ defs) zero def valid is = (subst (λ n. IsValidPlace n def) (omega arith) is, valid.1)
valid_put from (d ∷ defs) (suc place) def valid is = (valid.0, valid_put (from + 1) defs place def valid.1 (subst (λ n. IsValidPlace n def) (omega arith) is))

-- another definition in a place, or none
pub put_keeps_defs : (defs : Definitions) (place : ℕ) (def : Option TableDef) → AreValidDefs defs → IsValidPlace place def → IsFreeBut defs place def
    → AllNamesDiffer (flat_map index_names (slice_set defs place def)) → AreValidDefs (slice_set defs place def)
put_keeps_defs defs place def valid is free names = record {
  places = length-slice_set defs place def ∙ valid.places;
  differ = differ_put defs place def valid.differ free;
  index_names_differ = names;
  each = valid_put 0 defs place def valid.each (subst (λ n. IsValidPlace n def) (omega arith) is);
}
