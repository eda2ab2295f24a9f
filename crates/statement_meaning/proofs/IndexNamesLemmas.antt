-- The names of record indexes, none of which stands twice, once a table has others.
use Rattle.std.proofs.Common.{◌≡◌, ℕ, zero, suc, ◌+◌, ◌<◌, List, [], ◌∷◌, ◌++◌, length, map, Bool, true, false, cond, refl, sym, ap, subst, ◌∙◌, arith}
use Rattle.std.specs.Prelude.{flat_map, Option, Some, None, option_map, slice_get, slice_set, remove}
use Rattle.std.specs.List.{position_from}
use Rattle.std.specs.Option.{option_or}
use Rattle.std.proofs.lemmas.List.{map-append}
use Rattle.mdc_ast.specs.declared.definition.IndexDef.{IndexDef}
use Rattle.mdc_ast.specs.declared.definition.TableDef.{TableDef}
use Rattle.mdc_ast.specs.declared.name.Name.{Name}
use Rattle.mdc_ast.specs.Definitions.{AllNamesDiffer, Definitions, def_at, index_in, index_place_from, index_place_of, is_among, is_same, with_index}
use Rattle.mdc_ast.specs.ValidDatabase.{index_names}
use Rattle.mdc_ast.proofs.DefinitionsLemmas.{is_same-sym, neither}
use Rattle.mdc_ast.proofs.TestsLemmas.{some_is}

-- ---- fewer names

-- some of these names, in their order
pub data IsThinner : List Name → List Name → Type 0 where
  ended : IsThinner [] []
  kept : {name : Name} {xs ys : List Name} → IsThinner xs ys → IsThinner (name ∷ xs) (name ∷ ys)
  left_out : {name : Name} {xs ys : List Name} → IsThinner xs ys → IsThinner xs (name ∷ ys)

pub all_kept : (names : List Name) → IsThinner names names
all_kept [] = ended
all_kept (name ∷ names) = kept (all_kept names)

none_kept : (names : List Name) → IsThinner [] names
none_kept [] = ended
none_kept (name ∷ names) = left_out (none_kept names)

both_thinner : {xs ys fewer more : List Name} → IsThinner xs ys → IsThinner fewer more → IsThinner (xs ++ fewer) (ys ++ more)
both_thinner ended rest = rest
both_thinner (kept thin) rest = kept (both_thinner thin rest)
both_thinner (left_out thin) rest = left_out (both_thinner thin rest)

among_thinner : {xs ys : List Name} (other : Name) → IsThinner xs ys → is_among other ys ≡ false → is_among other xs ≡ false
among_thinner other ended e = refl
among_thinner other (kept {name} {xs} {ys} thin) e =
    let parts = neither (is_same other name) (is_among other ys) e in
    rw parts.0 (among_thinner other thin parts.1)
among_thinner other (left_out {name} {xs} {ys} thin) e = among_thinner other thin (neither (is_same other name) (is_among other ys) e).1

differ_thinner : {xs ys : List Name} → IsThinner xs ys → AllNamesDiffer ys → AllNamesDiffer xs
differ_thinner ended differ = tt
differ_thinner (kept {name} thin) differ = (among_thinner name thin differ.0, differ_thinner thin differ.1)
differ_thinner (left_out thin) differ = differ_thinner thin differ.1

put_thinner : (defs : Definitions) (place : ℕ) (def : Option TableDef) → ((old : Option TableDef) → slice_get defs place ≡ Some old → IsThinner (index_names def) (index_names old))
    → IsThinner (flat_map index_names (slice_set defs place def)) (flat_map index_names defs)
put_thinner [] place def thin = ended
put_thinner (old ∷ defs) zero def thin = both_thinner (thin old refl) (all_kept (flat_map index_names defs))
put_thinner (old ∷ defs) (suc place) def thin = both_thinner (all_kept (index_names old)) (put_thinner defs place def thin)

-- the definition in a place
pub is_def_at : (defs : Definitions) (place : ℕ) (old : Option TableDef) (def : TableDef) → slice_get defs place ≡ Some old → def_at defs place ≡ Some def → old ≡ Some def
is_def_at [] place old def is at = absurd (cc at)
is_def_at (first ∷ defs) zero old def is at = sym (some_is first old is) ∙ at
is_def_at (first ∷ defs) (suc place) old def is at = is_def_at defs place old def is at

-- a place that has no index any more
pub names_left : (defs : Definitions) (place : ℕ) (new : Option TableDef) → index_names new ≡ [] → AllNamesDiffer (flat_map index_names defs) → AllNamesDiffer (flat_map index_names (slice_set defs place new))
names_left defs place new empty differ =
    differ_thinner (put_thinner defs place new (λ old is. subst (λ names. IsThinner names (index_names old)) (sym empty) (none_kept (index_names old)))) differ

-- a table that has no more indexes than the one in its place
pub names_put : (defs : Definitions) (place : ℕ) (old new : TableDef) → def_at defs place ≡ Some old → IsThinner (index_names (Some new)) (index_names (Some old)) → AllNamesDiffer (flat_map index_names defs)
    → AllNamesDiffer (flat_map index_names (slice_set defs place (Some new)))
names_put defs place old new at thin differ =
    differ_thinner (put_thinner defs place (Some new) (λ found is. subst (λ f. IsThinner (index_names (Some new)) (index_names f)) (sym (is_def_at defs place found old is at)) thin)) differ

-- the names without the one in a place
pub removed_thinner : (indexes : List IndexDef) (place : ℕ) → IsThinner (map (λ index. index.name) (remove indexes place)) (map (λ index. index.name) indexes)
removed_thinner [] zero = ended
removed_thinner [] (suc place) = ended
removed_thinner (index ∷ indexes) zero = left_out (all_kept (map (λ one. one.name) indexes))
removed_thinner (index ∷ indexes) (suc place) = kept (removed_thinner indexes place)

-- ---- one name more

-- one more name among names
data IsPutIn : Name → List Name → List Name → Type 0 where
  here : {name : Name} {xs : List Name} → IsPutIn name xs (name ∷ xs)
  behind : {name other : Name} {xs ys : List Name} → IsPutIn name xs ys → IsPutIn name (other ∷ xs) (other ∷ ys)

among_put_in : {name : Name} {xs ys : List Name} (one : Name) → IsPutIn name xs ys → is_among one xs ≡ false → is_same one name ≡ false → is_among one ys ≡ false
among_put_in one here e apart = rw apart e
among_put_in one (behind {name} {other} {xs} {ys} put) e apart =
    let parts = neither (is_same one other) (is_among one xs) e in
    rw parts.0 (among_put_in one put parts.1 apart)

differ_put_in : {name : Name} {xs ys : List Name} → IsPutIn name xs ys → AllNamesDiffer xs → is_among name xs ≡ false → AllNamesDiffer ys
differ_put_in here differ free = (free, differ)
differ_put_in (behind {name} {other} {xs} {ys} put) differ free =
    let parts = neither (is_same name other) (is_among name xs) free in
    (among_put_in other put differ.0 (is_same-sym other name ∙ parts.0), differ_put_in put differ.1 parts.1)

put_in_behind : {name : Name} {xs ys : List Name} (front : List Name) → IsPutIn name xs ys → IsPutIn name (front ++ xs) (front ++ ys)
put_in_behind [] put = put
put_in_behind (first ∷ front) put = behind (put_in_behind front put)

put_in_last : (name : Name) (xs back : List Name) → IsPutIn name (xs ++ back) ((xs ++ name ∷ []) ++ back)
put_in_last name [] back = here
put_in_last name (first ∷ xs) back = behind (put_in_last name xs back)

index_put_in : (defs : Definitions) (place : ℕ) (def : TableDef) (index : IndexDef) → def_at defs place ≡ Some def
    → IsPutIn index.name (flat_map index_names defs) (flat_map index_names (slice_set defs place (Some (with_index def index))))
index_put_in [] place def index at = absurd (cc at)
index_put_in (None ∷ defs) zero def index at = absurd (cc at)
index_put_in (Some first ∷ defs) zero def index at =
    let is : first ≡ def = some_is first def at in
    let names : List Name = map (λ (one : IndexDef). one.name) def.indexes in
    subst (λ d. IsPutIn index.name (index_names (Some d) ++ flat_map index_names defs) (index_names (Some (with_index def index)) ++ flat_map index_names defs)) (sym is)
    (subst (λ more. IsPutIn index.name (names ++ flat_map index_names defs) (more ++ flat_map index_names defs)) (sym (map-append (λ (one : IndexDef). one.name) def.indexes (index ∷ [])))
    (put_in_last index.name names (flat_map index_names defs)))
index_put_in (first ∷ defs) (suc place) def index at = put_in_behind (index_names first) (index_put_in defs place def index at)

-- a table with one index more, whose name no other has
pub names_with_index : (defs : Definitions) (place : ℕ) (def : TableDef) (index : IndexDef) → def_at defs place ≡ Some def → AllNamesDiffer (flat_map index_names defs) → is_among index.name (flat_map index_names defs) ≡ false
    → AllNamesDiffer (flat_map index_names (slice_set defs place (Some (with_index def index))))
names_with_index defs place def index at differ free = differ_put_in (index_put_in defs place def index at) differ free

-- ---- names that are looked up

not_found : (b : Bool) (i : ℕ) (rest : Option ℕ) → cond b (Some i) rest ≡ None → (b ≡ false) × (rest ≡ None)
not_found true i rest e = cc
not_found false i rest e = (refl, e)

free_in : (name : Name) (indexes : List IndexDef) (i : ℕ) → position_from (λ index. is_same index.name name) i indexes ≡ None → is_among name (map (λ index. index.name) indexes) ≡ false
free_in name [] i e = refl
free_in name (index ∷ indexes) i e =
    let parts : (is_same index.name name ≡ false) × (position_from (λ one. is_same one.name name) (i + 1) indexes ≡ None) = not_found (is_same index.name name) i _ e in
    rw (is_same-sym name index.name ∙ parts.0) (free_in name indexes (i + 1) parts.1)

free_at : (name : Name) (def : Option TableDef) → index_in name def ≡ None → is_among name (index_names def) ≡ false
free_at name None e = refl
free_at name (Some def) e = free_in name def.indexes 0 e

neither_found : (table : ℕ) (found : Option ℕ) (rest : Option (ℕ × ℕ)) → option_or (option_map (λ index. (table, index)) found) rest ≡ None → (found ≡ None) × (rest ≡ None)
neither_found table None rest e = (refl, e)
neither_found table (Some index) rest e = cc

free_of_both : (name : Name) (xs ys : List Name) → is_among name xs ≡ false → is_among name ys ≡ false → is_among name (xs ++ ys) ≡ false
free_of_both name [] ys e f = f
free_of_both name (first ∷ xs) ys e f =
    let parts = neither (is_same name first) (is_among name xs) e in
    rw parts.0 (free_of_both name xs ys parts.1 f)

free_from : (table : ℕ) (defs : Definitions) (name : Name) → index_place_from table defs name ≡ None → is_among name (flat_map index_names defs) ≡ false
free_from table [] name e = refl
free_from table (def ∷ defs) name e =
    let parts : (index_in name def ≡ None) × (index_place_from (table + 1) defs name ≡ None) = neither_found table (index_in name def) (index_place_from (table + 1) defs name) e in
    free_of_both name (index_names def) (flat_map index_names defs) (free_at name def parts.0) (free_from (table + 1) defs name parts.1)

-- a name that isn't found is no index's
pub free_name : (defs : Definitions) (name : Name) → index_place_of defs name ≡ None → is_among name (flat_map index_names defs) ≡ false
free_name defs name e = free_from 0 defs name e

-- a table is there, and an index in that place
pub record IsIndexAt (defs : Definitions) (table index : ℕ) : Type 0 where
  pub def : TableDef
  pub at : def_at defs table ≡ Some def
  pub within : index < length def.indexes

-- where a search ends among these, from place i on
abbrev IsWithin : {X : Type 0} → List X → ℕ → ℕ → Type 0
IsWithin xs i n = (k : ℕ) × (n ≡ i + k) × (k < length xs)

found_within : {X : Type 0} (p : X → Bool) (xs : List X) (i n : ℕ) → position_from p i xs ≡ Some n → IsWithin xs i n
found_within p [] i n e = absurd (cc e)
found_within p (x ∷ xs) i n e = by_test (p x) e (λ rest. found_within p xs (i + 1) n rest)
  where
    by_test : (b : Bool) → cond b (Some i) (position_from p (i + 1) xs) ≡ Some n → (position_from p (i + 1) xs ≡ Some n → IsWithin xs (i + 1) n) → IsWithin (x ∷ xs) i n
    by_test true e found =
        let is : i ≡ n = some_is i n e in
        (0, omega (arith, is), omega arith)
    by_test false e found =
        let rest : IsWithin xs (i + 1) n = found e in
        (suc rest.0, omega (arith, rest.1), omega (arith, rest.2))

-- where an index is in the tables from a place on
abbrev IsIndexFrom : ℕ → Definitions → ℕ → ℕ → Type 0
IsIndexFrom from defs table index = (k : ℕ) × (table ≡ from + k) × IsIndexAt defs k index

further : (from : ℕ) (def : Option TableDef) (defs : Definitions) (table index : ℕ) → IsIndexFrom (from + 1) defs table index → IsIndexFrom from (def ∷ defs) table index
further from def defs table index rest = (suc rest.0, omega (arith, rest.1), record { def = rest.2.def; at = rest.2.at; within = rest.2.within })

same_places : (p q : ℕ × ℕ) → Some p ≡ Some q → (p.0 ≡ q.0) × (p.1 ≡ q.1)
same_places p q e =
    let same : p ≡ q = some_is p q e in
    (ap (λ (r : ℕ × ℕ). r.0) same, ap (λ (r : ℕ × ℕ). r.1) same)

found_from : (from : ℕ) (defs : Definitions) (name : Name) (table index : ℕ) → index_place_from from defs name ≡ Some (table, index) → IsIndexFrom from defs table index
found_from from [] name table index e = absurd (cc e)
found_from from (None ∷ defs) name table index e = further from None defs table index (found_from (from + 1) defs name table index e)
found_from from (Some def ∷ defs) name table index e = by_found (index_in name (Some def)) refl e (λ rest. found_from (from + 1) defs name table index rest)
  where
    by_found : (found : Option ℕ) → index_in name (Some def) ≡ found → option_or (option_map (λ one. (from, one)) found) (index_place_from (from + 1) defs name) ≡ Some (table, index)
        → (index_place_from (from + 1) defs name ≡ Some (table, index) → IsIndexFrom (from + 1) defs table index) → IsIndexFrom from (Some def ∷ defs) table index
    by_found None is e rest = further from (Some def) defs table index (rest e)
    by_found (Some one) is e rest =
        let same : (from ≡ table) × (one ≡ index) = same_places (from, one) (table, index) e in
        let there : IsWithin def.indexes 0 one = found_within (λ (which : IndexDef). is_same which.name name) def.indexes 0 one is in
        let place : table ≡ from + 0 = omega (arith, same.0) in
        let low : index < length def.indexes = omega (arith, same.1, there.1, there.2) in
        (0, place, record { def = def; at = refl; within = low })

-- an index that is found is there
pub found_index : (defs : Definitions) (name : Name) (table index : ℕ) → index_place_of defs name ≡ Some (table, index) → IsIndexAt defs table index
found_index defs name table index e =
    let found : IsIndexFrom 0 defs table index = found_from 0 defs name table index e in
    subst (λ k. IsIndexAt defs k index) (omega (arith, found.1)) found.2
