-- A record index that gains the entry of one row more: what it has then, and that it hadn't that entry before.
use Rattle.std.proofs.Common.{◌≡◌, ◌≢◌, ℕ, zero, suc, List, [], ◌∷◌, ◌++◌, Some, length, map, set, get_or, refl, ap, arith, sym, subst, ◌⊎◌, inl, inr}
use Rattle.std.specs.Prelude.{Contains, slice_get}
use Rattle.std.specs.List.{AllByRecursion}
use Rattle.std.proofs.lemmas.Bool.{cases_Bool}
use Rattle.std.proofs.lemmas.List.{length-append, map-append}
use Rattle.std.proofs.lemmas.Option.{same_Some}
use Rattle.mdc_words.specs.ByteOrder.{Entry, below}
use Rattle.mdc_ast.specs.declared.definition.IndexDef.{IndexDef}
use Rattle.mdc_ast.specs.declared.definition.TableDef.{TableDef}
use Rattle.block_map.proofs.MapLinesLemmas.{contains_more}
use Rattle.entry_tree.specs.EntryBounds.{with_entry}
use Rattle.entry_tree.specs.Forest.{Forest, leaf_entries}
use Rattle.mdc_sound.specs.BlockRules.{IsSoundIndex, block_in_entry, entry_of_row}
use Rattle.mdc_sound.specs.TableRows.{PlacedRow}
use Rattle.mdc_sound.proofs.BlockRulesLemmas.{each_as}
use Rattle.record_index.specs.FoundRids.{IsRid}
use Rattle.record_index.specs.SoundRows.{LieApart}

-- ---- lists

pub set_itself : {X : Type 0} (xs : List X) (i : ℕ) (x : X) → slice_get xs i ≡ Some x → set xs i x ≡ xs
set_itself [] i x at = refl
set_itself (y ∷ xs) zero x at = ap (λ z. z ∷ xs) (sym (same_Some y x at))
set_itself (y ∷ xs) (suc i) x at = ap (λ zs. y ∷ zs) (set_itself xs i x at)

pub all_push : {X : Type 0} (P : X → Type 0) (xs : List X) (x : X) → AllByRecursion P xs → P x → AllByRecursion P (xs ++ x ∷ [])
all_push P [] x all is = (is, tt)
all_push P (y ∷ xs) x all is = (all.0, all_push P xs x all.1 is)

contains_front : {X : Type 0} (xs ys : List X) (x : X) → Contains xs x → Contains (xs ++ ys) x
contains_front [] ys x (k, l, e) = absurd (omega (arith, l))
contains_front (y ∷ xs) ys x (zero, l, e) = (0, omega arith, e)
contains_front (y ∷ xs) ys x (suc k, l, e) = contains_more x y (xs ++ ys) (contains_front xs ys x (k, omega (arith, l), e))

contains_last : {X : Type 0} (xs : List X) (x : X) → Contains (xs ++ x ∷ []) x
contains_last [] x = (0, omega arith, refl)
contains_last (y ∷ xs) x = contains_more x y (xs ++ x ∷ []) (contains_last xs x)

-- ---- entries

contains_put : (x e : Entry) (xs : List Entry) → Contains xs e → Contains (with_entry x xs) e
contains_put x e [] (k, l, is) = absurd (omega (arith, l))
contains_put x e (y ∷ ys) (zero, l, is) = elim (cases_Bool (below y x)) [ inl less ↦ rw less (0, omega arith, is) | inr more ↦ rw more (1, omega arith, is) ]
contains_put x e (y ∷ ys) (suc k, l, is) =
    let there : Contains ys e = (k, omega (arith, l), is) in
    elim (cases_Bool (below y x)) [ inl less ↦ rw less (contains_more e y (with_entry x ys) (contains_put x e ys there)) | inr more ↦ rw more (contains_more e x (y ∷ ys) (contains_more e y ys there)) ]

contains_new : (x : Entry) (xs : List Entry) → Contains (with_entry x xs) x
contains_new x [] = (0, omega arith, refl)
contains_new x (y ∷ ys) = elim (cases_Bool (below y x)) [ inl less ↦ rw less (contains_more x y (with_entry x ys) (contains_new x ys)) | inr more ↦ rw more (0, omega arith, refl) ]

all_put : (P : Entry → Type 0) (x : Entry) (xs : List Entry) → AllByRecursion P xs → P x → AllByRecursion P (with_entry x xs)
all_put P x [] all is = (is, tt)
all_put P x (y ∷ ys) all is = elim (cases_Bool (below y x)) [ inl less ↦ rw less (all.0, all_put P x ys all.1 is) | inr more ↦ rw more (is, all) ]

-- ---- the index

-- it has the entries of one row more
pub gains_row : (def : TableDef) (rows : List PlacedRow) (which : IndexDef) (was is : Forest) (placed : PlacedRow) → IsSoundIndex def rows [] which was
    → leaf_entries is ≡ with_entry (entry_of_row def which placed) (leaf_entries was) → IsSoundIndex def (rows ++ placed ∷ []) [] which is
gains_row def rows which was is placed sound gained =
    let f = entry_of_row def which in
    let x = f placed in
    let old = leaf_entries was in
    record {
      has = subst (λ entries. AllByRecursion (λ p. Contains entries (f p)) (rows ++ placed ∷ [])) (sym gained)
          (all_push (λ p. Contains (with_entry x old) (f p)) rows placed (each_as (λ p. Contains old (f p)) (λ p. Contains (with_entry x old) (f p)) rows (λ p at there. contains_put x (f p) old there) sound.has) (contains_new x old));
      only = subst (AllByRecursion (λ e. Contains (map f (rows ++ placed ∷ [])) e ⊎ Contains [] (block_in_entry def which.parts e))) (sym gained)
          (subst (λ all. AllByRecursion (λ e. Contains all e ⊎ Contains [] (block_in_entry def which.parts e)) (with_entry x old)) (sym (map-append f rows (placed ∷ [])))
          (all_put (λ e. Contains (map f rows ++ x ∷ []) e ⊎ Contains [] (block_in_entry def which.parts e)) x old
          (each_as (λ e. Contains (map f rows) e ⊎ Contains [] (block_in_entry def which.parts e)) (λ e. Contains (map f rows ++ x ∷ []) e ⊎ Contains [] (block_in_entry def which.parts e)) old
          (λ e at is. elim is [ inl row ↦ inl (contains_front (map f rows) (x ∷ []) e row) | inr none ↦ inr none ]) sound.only)
          (inl (contains_last (map f rows) x))));
    }

-- an empty one has those of none
pub none_entered : (def : TableDef) (which : IndexDef) (t : Forest) → leaf_entries t ≡ [] → IsSoundIndex def [] [] which t
none_entered def which t empty = record {
  has = tt;
  only = subst (AllByRecursion (λ e. Contains (map (entry_of_row def which) []) e ⊎ Contains [] (block_in_entry def which.parts e))) (sym empty) tt;
}

-- ---- rows that lie apart

at_seam : (done rest : List PlacedRow) (placed d : PlacedRow) → get_or (done ++ placed ∷ rest) (length done) d ≡ placed
at_seam [] rest placed d = refl
at_seam (first ∷ done) rest placed d = at_seam done rest placed d

pub apart_before : (done rest : List PlacedRow) (placed : PlacedRow) → LieApart (done ++ placed ∷ rest) → AllByRecursion (λ other. IsRid other.rid × (other.rid ≢ placed.rid)) done × IsRid placed.rid
apart_before [] rest placed lie = (tt, lie.places.0)
apart_before (first ∷ done) rest placed lie =
    let later = apart_before done rest placed (record { places = lie.places.1; apart = λ i j d low high. lie.apart (suc i) (suc j) d (omega (arith, low)) (omega (arith, high)) }) in
    let other : first.rid ≢ placed.rid =
    subst (λ (p : PlacedRow). first.rid ≢ p.rid) (at_seam done rest placed first) (lie.apart 0 (suc (length done)) first (omega arith) (omega (arith, length-append done (placed ∷ rest)))) in
    (((lie.places.0, other), later.0), later.1)
