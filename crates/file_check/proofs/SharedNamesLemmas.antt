-- Tables that share a name: what the test says, and the lowest of them.
use Rattle.std.proofs.Common.{◌≡◌, ◌≢◌, ◌<◌, ◌+◌, ◌∙◌, ℕ, zero, suc, List, [], ◌∷◌, ◌++◌, Bool, true, false, Option, Some, None, refl, ap, arith, sym, subst, inl, inr, length, map, get_or, ◌⊎◌, cond}
use Rattle.std.specs.Prelude.{AllPairs, Contains, flat_map, slice_get}
use Rattle.std.specs.List.{All, list_any}
use Rattle.std.proofs.lemmas.Bool.{cases_Bool, or_cases, or_left, or_right}
use Rattle.std.proofs.lemmas.List.Concat.{flat_map-cons}
use Rattle.std.proofs.lemmas.List.Elements.{Contains-append_cases, Contains-get_or}
use Rattle.std.proofs.lemmas.List.Folds.{Any-from_list_any, list_any-from_Any}
use Rattle.std.proofs.lemmas.List.Kept.{AllPairs-cons}
use Rattle.std.proofs.lemmas.Option.{same_Some, slice_get_read}
use Rattle.std.proofs.lemmas.Slice.Eq.{bytes_eq-Decides}
use Rattle.mdc_ast.specs.declared.definition.IndexDef.{IndexDef}
use Rattle.mdc_ast.specs.declared.definition.TableDef.{TableDef}
use Rattle.mdc_ast.specs.declared.name.Name.{Name}
use Rattle.mdc_ast.specs.Definitions.{AllNamesDiffer, Definitions, is_same}
use Rattle.table_page.proofs.NamesLemmas.{is_among-indexes}
use Rattle.mdc_sound.proofs.ElementsLemmas.{flat_contains}
use Rattle.block_map.proofs.MapLinesLemmas.{contains_cases, contains_more}
use Rattle.file_check.specs.Judging.{Judges}
use Rattle.file_check.specs.Known.{defs_there, list_of}
use Rattle.file_check.specs.TablePagesJudged.{first_shared, has_index_named, share_names, shares_later, shares_with}
use Rattle.file_check.proofs.JudgingLemmas.{judges_as}

-- ---- names

-- names of the same bytes are one
one_name : (a b : Name) → is_same a b ≡ true → a ≡ b
one_name a b same = ap name_with ((bytes_eq-Decides a.0 b.0).0 same)
  where
    name_with : List ℕ → Name
    name_with bytes = record { 0 = bytes }

same_name : (a b : Name) → a ≡ b → is_same a b ≡ true
same_name a b is = (bytes_eq-Decides a.0 b.0).1 (ap (λ (name : Name). name.0) is)

-- two tables have one name, or an index of each has one
abbrev pub ShareNames : TableDef → TableDef → Type 0
ShareNames a b = (a.name ≡ b.name) ⊎ ((i j : IndexDef) × Contains a.indexes i × Contains b.indexes j × (i.name ≡ j.name))

-- what the test says
pub share_names-says : (a b : TableDef) → share_names a b ≡ true → ShareNames a b
share_names-says a b shared = elim (or_cases (is_same a.name b.name) (list_any (λ index. has_index_named b.indexes index.name) a.indexes) shared) [
  | inl same ↦ inl (one_name a.name b.name same)
  | inr some ↦
      let ours = Any-from_list_any (λ (index : IndexDef). has_index_named b.indexes index.name) a.indexes some in
      let theirs = Any-from_list_any (λ (index : IndexDef). is_same ours.1.name index.name) b.indexes ours.4 in
      inr (ours.1, theirs.1, (ours.0, ours.2, ours.3), (theirs.0, theirs.2, theirs.3), one_name ours.1.name theirs.1.name theirs.4)
]

pub says-share_names : (a b : TableDef) → ShareNames a b → share_names a b ≡ true
says-share_names a b (inl same) = or_left (is_same a.name b.name) (list_any (λ index. has_index_named b.indexes index.name) a.indexes) (same_name a.name b.name same)
says-share_names a b (inr (i, j, ours, theirs, same)) =
    or_right (is_same a.name b.name) (list_any (λ index. has_index_named b.indexes index.name) a.indexes)
    (list_any-from_Any (λ (index : IndexDef). has_index_named b.indexes index.name) a.indexes
    (ours.0, i, ours.1, ours.2, list_any-from_Any (λ (index : IndexDef). is_same i.name index.name) b.indexes (theirs.0, j, theirs.1, theirs.2, same_name i.name j.name same)))

-- ---- the lowest that shares one

-- no two of these share a name
abbrev pub NoneShare : Definitions → Type 0
NoneShare defs = (t u : ℕ) (a b : TableDef) → t < u → slice_get defs t ≡ Some (Some a) → slice_get defs u ≡ Some (Some b) → share_names a b ≡ false

-- page p is that of a table which shares a name with a later one, where the first of these is on a page of this number
pub record SharesOnPage (first : ℕ) (defs : Definitions) (p : ℕ) : Type 0 where
  pub t : ℕ
  pub u : ℕ
  pub a : TableDef
  pub b : TableDef
  pub page : p ≡ first + t
  pub later : t < u
  pub lower : slice_get defs t ≡ Some (Some a)
  pub higher : slice_get defs u ≡ Some (Some b)
  pub shared : share_names a b ≡ true

-- one of the later ones shares a name with this
shares_with-found : (a : TableDef) (later : Definitions) → list_any (shares_with a) later ≡ true → (u : ℕ) × (b : TableDef) × (slice_get later u ≡ Some (Some b)) × (share_names a b ≡ true)
shares_with-found a [] shared = absurd (cc)
shares_with-found a (None ∷ later) shared = let r = shares_with-found a later shared in (suc r.0, r.1, r.2, r.3)
shares_with-found a (Some b ∷ later) shared = elim (or_cases (share_names a b) (list_any (shares_with a) later) shared) [
  | inl here ↦ (zero, b, refl, here)
  | inr more ↦ let r = shares_with-found a later more in (suc r.0, r.1, r.2, r.3)
]

found-shares_with : (a : TableDef) (later : Definitions) (u : ℕ) (b : TableDef) → slice_get later u ≡ Some (Some b) → share_names a b ≡ true → list_any (shares_with a) later ≡ true
found-shares_with a [] u b at shared = absurd (cc)
found-shares_with a (other ∷ later) zero b at shared = or_left (shares_with a other) (list_any (shares_with a) later) (ap (shares_with a) (same_Some other (Some b) at) ∙ shared)
found-shares_with a (other ∷ later) (suc u) b at shared = or_right (shares_with a other) (list_any (shares_with a) later) (found-shares_with a later u b at shared)

later_found : (def : Option TableDef) (later : Definitions) → shares_later def later ≡ true → (a : TableDef) × (def ≡ Some a) × (list_any (shares_with a) later ≡ true)
later_found None later shared = absurd (cc)
later_found (Some a) later shared = (a, refl, shared)

-- none shares a name with the first of these
none_at_first : (def : Option TableDef) (later : Definitions) (u : ℕ) (a b : TableDef) → shares_later def later ≡ false → def ≡ Some a → slice_get later u ≡ Some (Some b) → share_names a b ≡ true → ⊥
none_at_first def later u a b none is at shared =
    let some : shares_later def later ≡ true = subst (λ (d : Option TableDef). shares_later d later ≡ true) (sym is) (found-shares_with a later u b at shared) in cc

not_shared : (b : Bool) → (b ≡ true → ⊥) → b ≡ false
not_shared true not = absurd (not refl)
not_shared false not = refl

pub first_shared-judges : (first : ℕ) (defs : Definitions) → Judges (NoneShare defs) (SharesOnPage first defs) (first_shared first defs)
first_shared-judges first [] = record {
  holds = λ t u a b low at other. absurd (cc);
  unbroken = λ p shares. let wrong = shares.lower in absurd (cc);
}
first_shared-judges first (def ∷ later) = elim (cases_Bool (shares_later def later)) [
  | inl hit ↦ subst (λ b. Judges (NoneShare (def ∷ later)) (SharesOnPage first (def ∷ later)) (cond b (Some first) (first_shared (first + 1) later))) (sym hit) (here hit)
  | inr miss ↦ subst (λ b. Judges (NoneShare (def ∷ later)) (SharesOnPage first (def ∷ later)) (cond b (Some first) (first_shared (first + 1) later))) (sym miss)
      (judges_as {P = NoneShare later} {Q = NoneShare (def ∷ later)} {A = SharesOnPage (first + 1) later} {B = SharesOnPage first (def ∷ later)} (first_shared (first + 1) later)
      (none miss) there (back miss) (first_shared-judges (first + 1) later))
]
  where
    here : shares_later def later ≡ true → Judges (NoneShare (def ∷ later)) (SharesOnPage first (def ∷ later)) (Some first)
    here hit =
        let is = later_found def later hit in
        let other = shares_with-found is.0 later is.2 in record {
          breaks = record { t = zero; u = suc other.0; a = is.0; b = other.1; page = omega arith; later = omega arith; lower = ap Some is.1; higher = other.2; shared = other.3 };
          lowest = λ p shares. omega (arith, shares.page);
        }

    none : shares_later def later ≡ false → NoneShare later → NoneShare (def ∷ later)
    none miss rest zero zero a b low at other = absurd (omega (arith, low))
    none miss rest zero (suc u) a b low at other = not_shared (share_names a b) (λ shared. none_at_first def later u a b miss (same_Some def (Some a) at) other shared)
    none miss rest (suc t) zero a b low at other = absurd (omega (arith, low))
    none miss rest (suc t) (suc u) a b low at other = rest t u a b (omega (arith, low)) at other

    there : (p : ℕ) → SharesOnPage (first + 1) later p → SharesOnPage first (def ∷ later) p
    there p s = record { t = suc s.t; u = suc s.u; a = s.a; b = s.b; page = omega (arith, s.page); later = omega (arith, s.later); lower = s.lower; higher = s.higher; shared = s.shared }

    back_at : shares_later def later ≡ false → (p t u : ℕ) (a b : TableDef) → p ≡ first + t → t < u → slice_get (def ∷ later) t ≡ Some (Some a) → slice_get (def ∷ later) u ≡ Some (Some b)
        → share_names a b ≡ true → SharesOnPage (first + 1) later p
    back_at miss p t zero a b page low at other shared = absurd (omega (arith, low))
    back_at miss p zero (suc u) a b page low at other shared = absurd (none_at_first def later u a b miss (same_Some def (Some a) at) other shared)
    back_at miss p (suc t) (suc u) a b page low at other shared = record { t = t; u = u; a = a; b = b; page = omega (arith, page); later = omega (arith, low); lower = at; higher = other; shared = shared }

    back : shares_later def later ≡ false → (p : ℕ) → SharesOnPage first (def ∷ later) p → SharesOnPage (first + 1) later p
    back miss p s = back_at miss p s.t s.u s.a s.b s.page s.later s.lower s.higher s.shared

-- ---- all pairs

-- a fact on each member
all_in : {X : Type 0} (P : X → Type 0) (xs : List X) → ((x : X) → Contains xs x → P x) → All P xs
all_in P xs each k d low = each (get_or xs k d) (Contains-get_or xs k d low)

pub pairs_first : {X : Type 0} (R : X → X → Type 0) (x : X) (xs : List X) → AllPairs R (x ∷ xs) → (y : X) → Contains xs y → R x y
pairs_first R x xs pairs y (k, low, is) = subst (R x) is (pairs 0 (suc k) y (omega arith) (omega (arith, low)))

pub pairs_rest : {X : Type 0} (R : X → X → Type 0) (x : X) (xs : List X) → AllPairs R (x ∷ xs) → AllPairs R xs
pairs_rest R x xs pairs i j d low high = pairs (suc i) (suc j) d (omega (arith, low)) (omega (arith, high))

no_pairs : {X : Type 0} (R : X → X → Type 0) → AllPairs R []
no_pairs R i j d low high = absurd (omega (arith, high))

pairs_of_two : {X : Type 0} (R : X → X → Type 0) (xs ys : List X) → AllPairs R xs → AllPairs R ys → ((x y : X) → Contains xs x → Contains ys y → R x y) → AllPairs R (xs ++ ys)
pairs_of_two R [] ys first second across = second
pairs_of_two R (x ∷ xs) ys first second across =
    AllPairs-cons R x (xs ++ ys)
    (all_in (R x) (xs ++ ys) (λ y there. elim (Contains-append_cases xs ys y there) [
      | inl mine ↦ pairs_first R x xs first y mine
      | inr other ↦ across x y (0, omega arith, refl) other
    ]))
    (pairs_of_two R xs ys (pairs_rest R x xs first) second (λ a b mine other. across a b (contains_more a x xs mine) other))

-- members of two lists are in relation
abbrev pub Across : {X Y : Type 0} → (Y → Y → Type 0) → (X → List Y) → X → X → Type 0
Across {X} {Y} R f a b = (i j : Y) → Contains (f a) i → Contains (f b) j → R i j

pub pairs_of_lists : {X Y : Type 0} (R : Y → Y → Type 0) (f : X → List Y) (xs : List X) → ((x : X) → Contains xs x → AllPairs R (f x)) → AllPairs (Across R f) xs → AllPairs R (flat_map f xs)
pairs_of_lists R f [] each across = no_pairs R
pairs_of_lists R f (x ∷ xs) each across =
    subst (AllPairs R) (sym (flat_map-cons f x xs))
    (pairs_of_two R (f x) (flat_map f xs) (each x (0, omega arith, refl))
    (pairs_of_lists R f xs (λ y there. each y (contains_more y x xs there)) (pairs_rest (Across R f) x xs across))
    (λ i j mine other. let r = flat_contains f xs j other in pairs_first (Across R f) x xs across r.0 r.1 i j mine r.2))

-- a definition that is there stands in some place
pub there_at : (defs : Definitions) (b : TableDef) → Contains (defs_there defs) b → (u : ℕ) × (slice_get defs u ≡ Some (Some b))
there_at defs b there = go (flat_contains list_of defs b there)
  where
    is_it : (def : Option TableDef) → Contains (list_of def) b → def ≡ Some b
    is_it None (k, low, is) = absurd (omega (arith, low))
    is_it (Some a) at = elim (contains_cases b a [] at) [ inl same ↦ ap Some same | inr none ↦ absurd (omega (arith, none.1)) ]

    go : (def : Option TableDef) × Contains defs def × Contains (list_of def) b → (u : ℕ) × (slice_get defs u ≡ Some (Some b))
    go (def, (k, low, is), mine) = (k, slice_get_read defs (length defs) k def refl low (sym is) ∙ ap Some (is_it def mine))

-- what holds of any two places holds of any two definitions
pub pairs_there : (R : TableDef → TableDef → Type 0) (defs : Definitions)
    → ((t u : ℕ) (a b : TableDef) → t < u → slice_get defs t ≡ Some (Some a) → slice_get defs u ≡ Some (Some b) → R a b) → AllPairs R (defs_there defs)
pairs_there R [] each = no_pairs R
pairs_there R (None ∷ defs) each =
    subst (AllPairs R) (sym (flat_map-cons list_of None defs)) (pairs_there R defs (λ t u a b low at other. each (suc t) (suc u) a b (omega (arith, low)) at other))
pairs_there R (Some def ∷ defs) each =
    subst (AllPairs R) (sym (flat_map-cons list_of (Some def) defs))
    (AllPairs-cons R def (defs_there defs) (all_in (R def) (defs_there defs) (λ b there. let at = there_at defs b there in each 0 (suc at.0) def b (omega arith) refl at.1))
    (pairs_there R defs (λ t u a b low at other. each (suc t) (suc u) a b (omega (arith, low)) at other)))

-- names of indexes that differ by the test are different
pub index_names_differ : (indexes : List IndexDef) → AllNamesDiffer (map (λ index. index.name) indexes) → AllPairs (λ a b. a.name ≢ b.name) indexes
index_names_differ [] differ = no_pairs (λ a b. a.name ≢ b.name)
index_names_differ (index ∷ indexes) differ =
    AllPairs-cons (λ (a b : IndexDef). a.name ≢ b.name) index indexes
    (all_in (λ (other : IndexDef). index.name ≢ other.name) indexes (λ other there same.
    let none : list_any (λ other. is_same index.name other.name) indexes ≡ false = is_among-indexes index.name indexes ∙ differ.0 in
    let some : list_any (λ other. is_same index.name other.name) indexes ≡ true =
    list_any-from_Any (λ (other : IndexDef). is_same index.name other.name) indexes (there.0, other, there.1, there.2, same_name index.name other.name same) in
    absurd (cc)))
    (index_names_differ indexes differ.1)
