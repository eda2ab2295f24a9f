-- An index is judged by the entries that were noted, and those that it has.
use Rattle.std.proofs.Common.{◌≡◌, ◌+◌, ◌<◌, ◌⊎◌, ◌==◌, ◌||◌, Bool, ℕ, zero, suc, List, [], ◌∷◌, ◌++◌, refl, sym, ap, subst, ◌∙◌, arith, length, get_or, take, inl, inr, true, false, ne_eqb, eq-eqb}
use Rattle.std.specs.Prelude.{IsTrue, Contains, MatchBool, None, Option, flat_map, map}
use Rattle.std.specs.List.{list_any}
use Rattle.std.proofs.lemmas.Bool.{cases_eq}
use Rattle.std.proofs.lemmas.List.{flat_map_more, map-append, take_more}
use Rattle.std.proofs.lemmas.List.Elements.{Contains-append_cases, Contains-append_left, Contains-append_right, Contains-push_cases}
use Rattle.mdc_words.specs.ByteOrder.{Entry}
use Rattle.mdc_ast.specs.declared.definition.KeyPart.{KeyPart}
use Rattle.mdc_ast.specs.declared.definition.TableDef.{TableDef}
use Rattle.store_api.specs.Frame.{NoPage}
use Rattle.store_api.specs.RunsOverPages.{RunsOverPages}
use Rattle.store_api.specs.declared.fault.Damage.{Damage}
use Rattle.store_api.specs.declared.fault.StoreFault.{StoreFault}
use Rattle.store_api.specs.declared.pages.Pages.{Ghosts}
use Rattle.store_api.specs.declared.shape.Shape.{Shape}
use Rattle.store_api.proofs.RunsOverPagesLemmas.{runs_then, runs_wider}
use Rattle.node_page.specs.Node.{number_within}
use Rattle.entry_tree.specs.Entries.{AreOfWidth}
use Rattle.entry_tree.specs.Forest.{Forest}
use Rattle.entry_tree.specs.HeldTrees.{BreaksTree, HoldsTree}
use Rattle.entry_tree.specs.declared.tree.Tree.{Tree}
use Rattle.block_map.specs.BlockMaps.{AnyMap, BreaksMapTree}
use Rattle.block_map.specs.MapLines.{used_blocks}
use Rattle.block_map.proofs.MapLinesLemmas.{contains_cases, contains_more}
use Rattle.table_trees.specs.TableTrees.{TreePlace, map_place, place_of_tree}
use Rattle.table_trees.specs.ToldPages.{HasTree, PageList}
use Rattle.table_trees.proofs.TableTreesLemmas.{same_tree_place}
use Rattle.mdc_sound.specs.TableRows.{rows_in_block}
use Rattle.mdc_sound.proofs.ElementsLemmas.{contains_flat, from_map, in_map}
use Rattle.file_check.specs.Known.{BlockHasRowPages}
use Rattle.file_check.specs.Looking.{AnyPage, Unless}
use Rattle.file_check.specs.declared.entry_set.EntrySet.{EntrySet}
use Rattle.file_check.specs.declared.table_index.IndexKind.{IndexKind}
use Rattle.file_check.specs.TableIndexes.{AreSoundEntries, HasIndexes, LacksOne, NotesEntries, UnlessMap, UnlessReadable, UnlessTree, entries_of_blocks, entry_of_kind, noted_entries, spare_blocks}
use Rattle.file_check.proofs.RowEntriesLemmas.{holds_told, unless_tree}

-- ---- numbers and lists

pub any-contains : (xs : List ℕ) (x : ℕ) → IsTrue (list_any (λ b. b == x) xs) → Contains xs x
any-contains [] x none = absurd (cc)
any-contains (y ∷ xs) x some = elim (cases_eq y x) [
  | inl e ↦ (0, omega arith, e)
  | inr n ↦ contains_more x y xs (any-contains xs x (subst (λ b. IsTrue (b || list_any (λ b. b == x) xs)) (ne_eqb y x n) some))
]

pub contains-any : (xs : List ℕ) (x : ℕ) → Contains xs x → IsTrue (list_any (λ b. b == x) xs)
contains-any [] x (k, low, at) = absurd (omega (arith, low))
contains-any (y ∷ xs) x there = go (y == x) refl (contains_cases x y xs there) (contains-any xs x)
  where
    go : (b : Bool) → (y == x) ≡ b → (y ≡ x) ⊎ Contains xs x → (Contains xs x → IsTrue (list_any (λ b. b == x) xs)) → IsTrue ((y == x) || list_any (λ b. b == x) xs)
    go true e c more = ap (λ b. b || list_any (λ b. b == x) xs) e
    go false e (inl same) more = absurd (cc (e, eq-eqb y x same))
    go false e (inr later) more = ap (λ b. b || list_any (λ b. b == x) xs) e ∙ more later

-- a choice that was made
pub when_true : (b : Bool) (P Q : Type 0) → b ≡ true → MatchBool b P Q → P
when_true true P Q is p = p
when_true false P Q is q = absurd (cc)

pub when_false : (b : Bool) (P Q : Type 0) → b ≡ false → MatchBool b P Q → Q
when_false true P Q is p = absurd (cc)
when_false false P Q is q = q

-- what holds of the first members and of one more
pub each_more : {X : Type 0} (P : X → Type 0) (xs : List X) (i : ℕ) (x : X) → i < length xs → get_or xs i x ≡ x → ((y : X) → Contains (take i xs) y → P y) → P x → (y : X) → Contains (take (i + 1) xs) y → P y
each_more {X} P xs i x low at all here y there =
    go (Contains-push_cases (take i xs) x y (subst (λ ys. Contains ys y) (take_more xs i x low ∙ ap (λ z. take i xs ++ z ∷ []) at) there))
  where
    go : Contains (take i xs) y ⊎ (x ≡ y) → P y
    go (inl c) = all y c
    go (inr e) = subst P e here

-- an entry is as wide as all of them
pub width_at : (entries : List Entry) (i width : ℕ) (entry : Entry) → i < length entries → AreOfWidth width entries → entry ≡ get_or entries i [] → length entry ≡ width
width_at [] i width entry low all is = absurd (omega (arith, low))
width_at (first ∷ entries) zero width entry low all is = ap length is ∙ all.0
width_at (first ∷ entries) (suc i) width entry low all is = width_at entries i width entry (omega (arith, low)) all.1 is

-- ---- rows of several blocks

pub notes_then : (first second entries : List Entry) (old mid new : EntrySet) → NotesEntries first entries old mid → NotesEntries second entries mid new → NotesEntries (first ++ second) entries old new
notes_then first second entries old mid new a b = record {
  has = b.has;
  noted = λ entry was. b.noted entry (now entry was);
  only = λ entry there. before entry (b.only entry there);
}
  where
    either : (entry : Entry) → Contains first entry ⊎ Contains second entry → Contains (noted_entries mid) entry ⊎ Contains second entry
    either entry (inl c) = inl (a.noted entry (inr c))
    either entry (inr c) = inr c

    now : (entry : Entry) → Contains (noted_entries old) entry ⊎ Contains (first ++ second) entry → Contains (noted_entries mid) entry ⊎ Contains second entry
    now entry (inl c) = inl (a.noted entry (inl c))
    now entry (inr c) = either entry (Contains-append_cases first second entry c)

    wider : (entry : Entry) → Contains (noted_entries old) entry ⊎ Contains first entry → Contains (noted_entries old) entry ⊎ Contains (first ++ second) entry
    wider entry (inl c) = inl c
    wider entry (inr c) = inr (Contains-append_left first second entry c)

    before : (entry : Entry) → Contains (noted_entries mid) entry ⊎ Contains second entry → Contains (noted_entries old) entry ⊎ Contains (first ++ second) entry
    before entry (inl c) = wider entry (a.only entry c)
    before entry (inr c) = inr (Contains-append_right first second entry c)

module _ (kind : IndexKind) (shape : Shape) (pages : PageList) (def : TableDef) (parts : List KeyPart) where
  -- those of one block more
  pub blocks_more : (blocks : List ℕ) (i block : ℕ) → i < length blocks → get_or blocks i 0 ≡ block
      → entries_of_blocks kind shape pages def parts (take (i + 1) blocks) ≡ entries_of_blocks kind shape pages def parts (take i blocks) ++ map (entry_of_kind kind def parts) (rows_in_block shape pages def block)
  blocks_more blocks i block low at =
      ap (entries_of_blocks kind shape pages def parts) (take_more blocks i 0 low ∙ ap (λ b. take i blocks ++ b ∷ []) at)
      ∙ (ap (map (entry_of_kind kind def parts)) (sym (flat_map_more (rows_in_block shape pages def) [] (take i blocks) block))
      ∙ map-append (entry_of_kind kind def parts) (flat_map (rows_in_block shape pages def) (take i blocks)) (rows_in_block shape pages def block))

  -- an entry of a row in one of the blocks isn't there
  pub lacks_of_blocks : (blocks : List ℕ) (block : ℕ) (entries : List Entry) → Contains blocks block → LacksOne (map (entry_of_kind kind def parts) (rows_in_block shape pages def block)) entries
      → LacksOne (entries_of_blocks kind shape pages def parts blocks) entries
  lacks_of_blocks blocks block entries there (entry, wanted, lacks) =
      let row = from_map (entry_of_kind kind def parts) (rows_in_block shape pages def block) entry wanted in (
        entry,
        subst (Contains (entries_of_blocks kind shape pages def parts blocks)) row.2
            (in_map (entry_of_kind kind def parts) (flat_map (rows_in_block shape pages def) blocks) row.0 (contains_flat (rows_in_block shape pages def) blocks block row.0 there row.1)),
        lacks,
      )

-- ---- one index

-- all wanted entries were noted, and any other one names a spare block
pub sound_as_noted : (wanted entries read : List Entry) (spare : List ℕ) (old new : EntrySet) (key at : ℕ) → NotesEntries wanted entries old new → noted_entries old ≡ [] → read ≡ entries → at ≡ key
    → ((entry : Entry) → Contains read entry → Contains (noted_entries new) entry ⊎ Contains spare (number_within at 4 entry)) → AreSoundEntries wanted spare key entries
sound_as_noted wanted entries read spare old new key at notes none same key_is others = record {
  has = λ entry there. notes.has entry (notes.noted entry (inr there));
  only = λ entry there. either entry (subst (λ k. Contains (noted_entries new) entry ⊎ Contains spare (number_within k 4 entry)) key_is (others entry (subst (λ es. Contains es entry) (sym same) there)));
}
  where
    noted : (entry : Entry) → Contains (noted_entries old) entry ⊎ Contains wanted entry → Contains wanted entry
    noted entry (inl c) = no_entry entry (subst (λ es. Contains es entry) none c)
      where
        no_entry : (entry : Entry) → Contains [] entry → Contains wanted entry
        no_entry entry (k, low, at) = absurd (omega (arith, low))
    noted entry (inr c) = c

    either : (entry : Entry) → Contains (noted_entries new) entry ⊎ Contains spare (number_within key 4 entry) → Contains wanted entry ⊎ Contains spare (number_within key 4 entry)
    either entry (inl c) = inl (noted entry (notes.only entry c))
    either entry (inr c) = inr c

-- and the other way round
pub noted_as_sound : (wanted entries read : List Entry) (spare : List ℕ) (old new : EntrySet) (key at : ℕ) → NotesEntries wanted entries old new → read ≡ entries → at ≡ key
    → AreSoundEntries wanted spare key entries → (entry : Entry) → Contains read entry → Contains (noted_entries new) entry ⊎ Contains spare (number_within at 4 entry)
noted_as_sound wanted entries read spare old new key at notes same key_is sound entry there =
    subst (λ k. Contains (noted_entries new) entry ⊎ Contains spare (number_within k 4 entry)) (sym key_is) (either (sound.only entry (subst (λ es. Contains es entry) same there)))
  where
    either : Contains wanted entry ⊎ Contains spare (number_within key 4 entry) → Contains (noted_entries new) entry ⊎ Contains spare (number_within key 4 entry)
    either (inl c) = inl (notes.noted entry (inr c))
    either (inr c) = inr c

-- ---- damage

-- A block of a list is to be read, behind calls that looked at rows and at an index.
pub record ReadsListed {S : Type 0} (g : Ghosts S) (shape : Shape) (def : TableDef) (blocks : List ℕ) (place : TreePlace) (old now : S) (block : ℕ) : Type 0 where
  pub there : Contains blocks block
  pub same : (g.state now).work ≡ (g.state old).work
  pub runs : RunsOverPages g NoPage AnyPage (UnlessReadable g shape old def blocks place) old now None

-- it is read
pub runs_listed : {S : Type 0} {g : Ghosts S} {shape : Shape} {def : TableDef} {blocks : List ℕ} {place : TreePlace} {old now new : S} {block : ℕ} {fault : Option StoreFault} → ReadsListed g shape def blocks place old now block
    → RunsOverPages g NoPage AnyPage (Unless g now (λ told. BlockHasRowPages shape told def block)) now new fault → RunsOverPages g NoPage AnyPage (UnlessReadable g shape old def blocks place) old new fault
runs_listed {shape = shape} {def = def} {block = block} is run =
    runs_then is.runs run (λ p there mine. mine) (λ p any. any)
    (λ damage unless told readable tree has. unless (is.runs.works.steady.is_told ∙ told) (subst (λ (pages : PageList). BlockHasRowPages shape pages def block) (sym is.same) (readable block is.there).1))

-- the index is looked at
pub runs_in_tree : {S : Type 0} {g : Ghosts S} {old now new : S} {fault : Option StoreFault} (shape : Shape) (def : TableDef) (blocks : List ℕ) (place : TreePlace)
    → RunsOverPages g NoPage AnyPage (UnlessReadable g shape old def blocks place) old now None → (g.state now).work ≡ (g.state old).work
    → RunsOverPages g NoPage AnyPage (UnlessTree g now place) now new fault → RunsOverPages g NoPage AnyPage (UnlessReadable g shape old def blocks place) old new fault
runs_in_tree shape def blocks place first same run =
    runs_then first run (λ p there mine. mine) (λ p any. any)
    (λ damage unless told readable tree has. unless (first.works.steady.is_told ∙ told) tree (subst (λ (pages : PageList). HasTree pages place tree) (sym same) has))

-- it is read whole
pub runs_entries : {S : Type 0} {g : Ghosts S} {old now new : S} {fault : Option StoreFault} (shape : Shape) (def : TableDef) (blocks : List ℕ) (tree : Tree)
    → RunsOverPages g NoPage AnyPage (UnlessReadable g shape old def blocks (place_of_tree tree)) old now None → (g.state now).work ≡ (g.state old).work
    → RunsOverPages g NoPage AnyPage (BreaksTree g now tree) now new fault → RunsOverPages g NoPage AnyPage (UnlessReadable g shape old def blocks (place_of_tree tree)) old new fault
runs_entries {now = now} shape def blocks tree first same run =
    runs_in_tree shape def blocks (place_of_tree tree) first same (runs_wider run (λ p there mine. mine) (λ p any. any) (λ damage b. unless_tree now now tree damage refl refl b))

-- damage of a block map
pub unless_map : {S : Type 0} (g : Ghosts S) (s : S) (tree : Tree) (damage : Damage) → BreaksMapTree g s tree AnyMap damage → UnlessMap g s (place_of_tree tree) damage
unless_map g s tree damage (inl b) told map_tree has form = b.broken map_tree (holds_told s (g.state s).work tree map_tree told refl has)
unless_map g s tree damage (inr b) told map_tree has form = b.broken map_tree (holds_told s (g.state s).work tree map_tree told refl has) form tt

-- ---- the indexes of a table

-- pages tell a table's indexes of a kind
abbrev pub TellsIndexes : IndexKind → Shape → TableDef → PageList → Type 0
TellsIndexes kind shape def pages = (map_tree : Forest) × HasIndexes kind shape pages def map_tree

-- its block map, in hand
map_in_hand : (def : TableDef) (tree : Tree) → tree.root ≡ def.roots.map → tree.width ≡ 7 → (pages : PageList) (map_tree : Forest) → HasTree pages (map_place def) map_tree → HasTree pages (place_of_tree tree) map_tree
map_in_hand def tree root width pages map_tree = subst (λ (place : TreePlace). HasTree pages place map_tree) (sym (same_tree_place (place_of_tree tree) (map_place def) root width))

module _ {S : Type 0} {g : Ghosts S} (kind : IndexKind) (shape : Shape) (def : TableDef) {old : S} (tree : Tree) (root : tree.root ≡ def.roots.map) (width : tree.width ≡ 7) where
  -- the Used blocks are listed
  pub runs_used : {Kind : ℕ → Type 0} {new : S} {fault : Option StoreFault} → RunsOverPages g NoPage Kind (BreaksMapTree g old tree AnyMap) old new fault
      → RunsOverPages g NoPage AnyPage (Unless g old (TellsIndexes kind shape def)) old new fault
  runs_used run =
      runs_wider run (λ p there mine. mine) (λ p is. tt)
      (λ damage b told tells. unless_map g old tree damage b told tells.0 (map_in_hand def tree root width (g.state old).work tells.0 tells.1.map) tells.1.form)

  pub used_listed : (used : List ℕ) → ((map_tree : Forest) → HoldsTree g old tree map_tree → used ≡ used_blocks map_tree)
      → IsTrue (g.state old).is_told → (map_tree : Forest) → HasTree (g.state old).work (map_place def) map_tree → used ≡ used_blocks map_tree
  used_listed used listed told map_tree has = listed map_tree (holds_told old (g.state old).work tree map_tree told refl (map_in_hand def tree root width (g.state old).work map_tree has))

  module _ {now : S} (first : RunsOverPages g NoPage AnyPage (Unless g old (TellsIndexes kind shape def)) old now None) (same : (g.state now).work ≡ (g.state old).work) where
    still_in_place : (map_tree : Forest) → HasTree (g.state old).work (map_place def) map_tree → HasTree (g.state now).work (place_of_tree tree) map_tree
    still_in_place map_tree has = subst (λ (pages : PageList). HasTree pages (place_of_tree tree) map_tree) (sym same) (map_in_hand def tree root width (g.state old).work map_tree has)

    -- and then the spare ones
    pub runs_spare : {new : S} {fault : Option StoreFault} → RunsOverPages g NoPage AnyPage (UnlessMap g now (place_of_tree tree)) now new fault
        → RunsOverPages g NoPage AnyPage (Unless g old (TellsIndexes kind shape def)) old new fault
    runs_spare run =
        runs_then first run (λ p there mine. mine) (λ p is. is)
        (λ damage unless told tells. unless (first.works.steady.is_told ∙ told) tells.0 (still_in_place tells.0 tells.1.map) tells.1.form)

    pub spare_listed : (spare : List ℕ) → (IsTrue (g.state now).is_told → (map_tree : Forest) → HasTree (g.state now).work (place_of_tree tree) map_tree → spare ≡ spare_blocks kind map_tree)
        → IsTrue (g.state old).is_told → (map_tree : Forest) → HasTree (g.state old).work (map_place def) map_tree → spare ≡ spare_blocks kind map_tree
    spare_listed spare listed told map_tree has = listed (first.works.steady.is_told ∙ told) map_tree (still_in_place map_tree has)
