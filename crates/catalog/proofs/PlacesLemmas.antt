-- Definitions whose numbers are their places: one is found, and a place is changed.
use Rattle.std.proofs.Common.{◌≡◌, ℕ, zero, suc, ◌+◌, ◌<◌, ◌≤◌, inl, inr, Bool, List, [], ◌∷◌, Option, Some, None, MatchOption, arith, get_or, length, length-set, set, sym, subst, ap, ◌∙◌}
use Rattle.std.specs.Prelude.{option_and_then}
use Rattle.std.specs.List.{position_from}
use Rattle.std.proofs.lemmas.Bool.{cases_Bool}
use Rattle.std.proofs.lemmas.Option.{none-some, same_Some, slice_get-get_or}
use Rattle.mdc_ast.specs.declared.definition.TableDef.{TableDef}
use Rattle.mdc_ast.specs.Definitions.{Definitions, def_at, is_defined, place_of}
use Rattle.mdc_ast.specs.declared.name.Name.{Name}
use Rattle.catalog.specs.Places.{AreNumberedFrom}

-- a place that is empty, or whose definition has this number
abbrev pub IsNumbered : ℕ → Option TableDef → Type 0
IsNumbered place None = Unit {0}
IsNumbered place (Some def) = def.number ≡ place

renumbered : (place other : ℕ) (new : Option TableDef) → place ≡ other → IsNumbered place new → IsNumbered other new
renumbered place other new e h = subst (λ n. IsNumbered n new) e h

front : (place : ℕ) (new : Option TableDef) (defs : Definitions) → IsNumbered place new → AreNumberedFrom (place + 1) defs → AreNumberedFrom place (new ∷ defs)
front place None defs h rest = rest
front place (Some def) defs h rest = (h, rest)

rest_of : (place : ℕ) (old : Option TableDef) (defs : Definitions) → AreNumberedFrom place (old ∷ defs) → AreNumberedFrom (place + 1) defs
rest_of place None defs h = h
rest_of place (Some def) defs h = h.1

head_of : (place : ℕ) (old : Option TableDef) (defs : Definitions) → AreNumberedFrom place (old ∷ defs) → IsNumbered place old
head_of place None defs h = tt
head_of place (Some def) defs h = h.0

-- a place is changed
pub are_numbered-set : (from : ℕ) (defs : Definitions) (i : ℕ) (new : Option TableDef) → IsNumbered (from + i) new → AreNumberedFrom from defs → AreNumberedFrom from (set defs i new)
are_numbered-set from [] i new h all = tt
are_numbered-set from (old ∷ defs) zero new h all = front from new defs (renumbered (from + 0) from new (omega arith) h) (rest_of from old defs all)
are_numbered-set from (old ∷ defs) (suc i) new h all =
    front from old (set defs i new) (head_of from old defs all)
    (are_numbered-set (from + 1) defs i new (renumbered (from + suc i) (from + 1 + i) new (omega arith) h) (rest_of from old defs all))

-- a definition has the number of its place
pub is_numbered-at : (from : ℕ) (defs : Definitions) (i : ℕ) (d : Option TableDef) → i < length defs → AreNumberedFrom from defs → IsNumbered (from + i) (get_or defs i d)
is_numbered-at from [] i d lt all = absurd (omega (arith, lt))
is_numbered-at from (old ∷ defs) zero d lt all = renumbered from (from + 0) old (omega arith) (head_of from old defs all)
is_numbered-at from (old ∷ defs) (suc i) d lt all =
    renumbered (from + 1 + i) (from + suc i) (get_or defs i d) (omega arith) (is_numbered-at (from + 1) defs i d (omega (arith, lt)) (rest_of from old defs all))

-- the catalog's invariant after a place is changed
pub changed : (defs : Definitions) (i : ℕ) (new : Option TableDef) → IsNumbered i new → (length defs ≡ 16) × AreNumberedFrom 0 defs → (length (set defs i new) ≡ 16) × AreNumberedFrom 0 (set defs i new)
changed defs i new h (len, all) = (length-set defs i new ∙ len, are_numbered-set 0 defs i new (renumbered i (0 + i) new (omega arith) h) all)

pub def_at-get_or : (defs : Definitions) (i : ℕ) (d : Option TableDef) → i < length defs → def_at defs i ≡ get_or defs i d
def_at-get_or defs i d lt = ap (option_and_then (λ def. def)) (slice_get-get_or defs i d lt)

pub def_at-number : (defs : Definitions) (i : ℕ) (def : TableDef) → i < length defs → AreNumberedFrom 0 defs → def_at defs i ≡ Some def → def.number ≡ i
def_at-number defs i def lt all e =
    subst (IsNumbered i) (sym (def_at-get_or defs i None lt) ∙ e) (renumbered (0 + i) i (get_or defs i None) (omega arith) (is_numbered-at 0 defs i None lt all))

-- ---- by name

-- what is found stands no earlier than where the search began
pub position_from-least : {K : Type 0} (test : K → Bool) (from : ℕ) (xs : List K) (n : ℕ) → position_from test from xs ≡ Some n → from ≤ n
position_from-least test from [] n e = absurd (none-some n e)
position_from-least test from (x ∷ xs) n e =
    elim (cases_Bool (test x)) [
      | inl t ↦ omega (arith, same_Some from n (rw t at e))
      | inr f ↦ omega (arith, position_from-least test (from + 1) xs n (rw f at e))
    ]

-- where a name is found there is a definition
pub not_empty-at : (name : Name) (from : ℕ) (defs : Definitions) (i n : ℕ) → n ≡ from + i → def_at defs i ≡ None → position_from (is_defined name) from defs ≡ Some n → ⊥
not_empty-at name from [] i n at none e = none-some n e
not_empty-at name from (None ∷ defs) zero n at none e = absurd (omega (arith, position_from-least (is_defined name) (from + 1) defs n e))
not_empty-at name from (Some def ∷ defs) zero n at none e = none-some def (sym none)
not_empty-at name from (old ∷ defs) (suc i) n at none e =
    elim (cases_Bool (is_defined name old)) [
      | inl t ↦ absurd (omega (arith, same_Some from n (rw t at e)))
      | inr f ↦ not_empty-at name (from + 1) defs i n (omega arith) none (rw f at e)
    ]

-- the definition found by name has the number of its place
pub found-there : {B : Type 0} (now : B → TableDef) (result : Option B) (defs : Definitions) (name : Name) (n : ℕ) → place_of defs name ≡ Some n → n < 16
    → (length defs ≡ 16) × AreNumberedFrom 0 defs → MatchOption result (def_at defs n ≡ None) (λ def. def_at defs n ≡ Some (now def))
    → MatchOption result (place_of defs name ≡ None) (λ def. (place_of defs name ≡ Some (now def).number) × ((now def).number < 16))
found-there now None defs name n e lt met at = absurd (not_empty-at name 0 defs n n (omega arith) at e)
found-there now (Some def) defs name n e lt (len, all) at =
    let number : (now def).number ≡ n = def_at-number defs n (now def) (omega arith) all at in
    (e ∙ ap Some (sym number), omega arith)
