-- Record indexes that stay sound as rows come and go with their entries.
use Rattle.std.proofs.Common.{◌≡◌, ◌≢◌, ◌++◌, ℕ, List, [], ◌∷◌, map, refl, ap, arith, sym, ◌∙◌, subst, ◌⊎◌, inl, inr}
use Rattle.std.specs.Prelude.{Bool, true, false, not, Contains, IsPermutation}
use Rattle.std.specs.List.{AllZip}
use Rattle.std.specs.Bool.{Decides}
use Rattle.std.specs.Str.{bytes_eq}
use Rattle.std.proofs.lemmas.List.Sorted.{Contains-permutation, IsPermutation-sym}
use Rattle.std.proofs.lemmas.Slice.Eq.{bytes_eq-Decides}
use Rattle.byteorder.specs.Endian.{big_bytes}
use Rattle.mdc_words.specs.ByteOrder.{Entry}
use Rattle.mdc_values.specs.declared.rid.Rid.{Rid}
use Rattle.mdc_ast.specs.declared.definition.IndexDef.{IndexDef}
use Rattle.mdc_ast.specs.declared.definition.TableDef.{TableDef}
use Rattle.mdc_ast.specs.declared.row.Row.{Row}
use Rattle.key_codec.specs.Keys.{key_bytes}
use Rattle.entry_tree.specs.EntryBounds.{IsEntryOf, with_entry}
use Rattle.entry_tree.specs.Forest.{Forest, leaf_entries}
use Rattle.block_index.specs.Listing.{GainsEntry, LosesEntry}
use Rattle.block_map.proofs.MapLinesLemmas.{contains_cases, contains_more}
use Rattle.mdc_sound.specs.BlockRules.{IsSoundIndex, block_in_entry, entry_of_row}
use Rattle.mdc_sound.specs.TableRows.{PlacedRow}
use Rattle.mdc_sound.proofs.BlockRulesLemmas.{each_of}
use Rattle.mdc_sound.proofs.ElementsLemmas.{contains_entry, each_in, entry_in, from_map, in_map}
use Rattle.table_blocks.proofs.WithEntryLemmas.{more_with, there_with, with_cases}
use Rattle.record_index.specs.FoundRids.{IsRid, rid_in_entry}
use Rattle.record_index.specs.SoundRows.{LieApart}
use Rattle.record_index.proofs.SoundRowsLemmas.{row_in_entry}
use Rattle.row_entries.specs.ChosenIndexes.{MoveChosen, differ_in, entry_of}
use Rattle.row_entries.specs.SoundEntries.{StayPending, placed_at}
use Rattle.row_entries.proofs.PlacesApartLemmas.{LieElsewhere, elsewhere}

-- ---- one index

module _ (def : TableDef) (which : IndexDef) (rows rows_now : List PlacedRow) (pending pending_now : List ℕ) (stay : StayPending pending pending_now) where
  -- what an entry may be
  abbrev IsOf : List PlacedRow → List ℕ → Entry → Type 0
  IsOf some blocks x = Contains (map (entry_of_row def which) some) x ⊎ Contains blocks (block_in_entry def which.parts x)

  -- the entry of a row of these, if it is one, is one of those
  is_still : (x : Entry) → ((placed : PlacedRow) → Contains rows placed → entry_of_row def which placed ≡ x → Contains (map (entry_of_row def which) rows_now) x) → IsOf rows pending x → IsOf rows_now pending_now x
  is_still x rows_still (inl row) = let r = from_map (entry_of_row def which) rows x row in inl (rows_still r.0 r.1 r.2)
  is_still x rows_still (inr spare) = inr (stay (block_in_entry def which.parts x) spare)

  abbrev Sound : Forest → Type 0
  Sound t = IsSoundIndex def rows pending which t

  abbrev SoundNow : Forest → Type 0
  SoundNow t = IsSoundIndex def rows_now pending_now which t

  has_of : (t : Forest) → Sound t → (placed : PlacedRow) → Contains rows placed → IsEntryOf (entry_of_row def which placed) (leaf_entries t)
  has_of t sound placed there = entry_in (leaf_entries t) (entry_of_row def which placed) (each_of (λ p. Contains (leaf_entries t) (entry_of_row def which p)) rows placed sound.has there)

  only_of : (t : Forest) → Sound t → (x : Entry) → IsEntryOf x (leaf_entries t) → IsOf rows pending x
  only_of t sound x there = each_of (IsOf rows pending) (leaf_entries t) x sound.only (contains_entry (leaf_entries t) x there)

  sound_of : (t : Forest) → ((placed : PlacedRow) → Contains rows_now placed → IsEntryOf (entry_of_row def which placed) (leaf_entries t)) → ((x : Entry) → IsEntryOf x (leaf_entries t) → IsOf rows_now pending_now x) → SoundNow t
  sound_of t has only = record {
    has = each_in (λ p. Contains (leaf_entries t) (entry_of_row def which p)) rows_now (λ placed there. contains_entry (leaf_entries t) (entry_of_row def which placed) (has placed there));
    only = each_in (IsOf rows_now pending_now) (leaf_entries t) (λ x there. only x (entry_in (leaf_entries t) x there));
  }

  -- a row came with its entry
  pub sound_gained : (placed : PlacedRow) (t u : Forest) → IsPermutation (placed ∷ rows) rows_now → GainsEntry (entry_of_row def which placed) t u → Sound t → SoundNow u
  sound_gained placed t u more gains sound = sound_of u
      (λ p there. subst (IsEntryOf (entry_of_row def which p)) (sym gains.is) (elim (contains_cases p placed rows (Contains-permutation rows_now (placed ∷ rows) p (IsPermutation-sym (placed ∷ rows) rows_now more) there)) [
        | inl first ↦ subst (λ q. IsEntryOf (entry_of_row def which q) (with_entry (entry_of_row def which placed) (leaf_entries t))) first (there_with (entry_of_row def which placed) (leaf_entries t))
        | inr later ↦ more_with (entry_of_row def which p) (entry_of_row def which placed) (leaf_entries t) (has_of t sound p later)
      ]))
      (λ x there. elim (with_cases x (entry_of_row def which placed) (leaf_entries t) (subst (IsEntryOf x) gains.is there)) [
        | inl same ↦ inl (subst (Contains (map (entry_of_row def which) rows_now)) (sym same) (in_map (entry_of_row def which) rows_now placed (Contains-permutation (placed ∷ rows) rows_now placed more (0, omega arith, refl))))
        | inr was ↦
            is_still x (λ p there same. subst (Contains (map (entry_of_row def which) rows_now)) same (in_map (entry_of_row def which) rows_now p (Contains-permutation (placed ∷ rows) rows_now p more (contains_more p placed rows there)))) (only_of t sound x was)
      ])

  -- a row went with its entry
  pub sound_lost : (placed : PlacedRow) (t u : Forest) → IsPermutation (placed ∷ rows_now) rows → LieElsewhere placed.rid rows_now → LosesEntry (entry_of_row def which placed) t u → Sound t → SoundNow u
  sound_lost placed t u less away loses sound = sound_of u
      (λ p there.
      let was = has_of t sound p (Contains-permutation (placed ∷ rows_now) rows p less (contains_more p placed rows_now there)) in
      elim (with_cases (entry_of_row def which p) (entry_of_row def which placed) (leaf_entries u) (subst (IsEntryOf (entry_of_row def which p)) loses.was was)) [
        | inl same ↦
            let other = each_of (λ (q : PlacedRow). IsRid q.rid × (q.rid ≢ placed.rid)) rows_now p away.others there in
            absurd (other.1 (sym (row_in_entry (key_bytes def.columns which.parts p.row.values) p.rid other.0)
            ∙ (ap rid_in_entry same ∙ row_in_entry (key_bytes def.columns which.parts placed.row.values) placed.rid away.place)))
        | inr stays ↦ stays
      ])
      (λ x there.
      is_still x
      (λ p is same. elim (contains_cases p placed rows_now (Contains-permutation rows (placed ∷ rows_now) p (IsPermutation-sym (placed ∷ rows_now) rows less) is)) [
        | inl first ↦ absurd (loses.absent (subst (λ y. IsEntryOf y (leaf_entries u)) (sym same ∙ ap (entry_of_row def which) (sym first)) there))
        | inr later ↦ subst (Contains (map (entry_of_row def which) rows_now)) same (in_map (entry_of_row def which) rows_now p later)
      ])
      (only_of t sound x (subst (IsEntryOf x) (sym loses.was) (more_with x (entry_of_row def which placed) (leaf_entries u) there))))

  -- a row gave way to another with the same entry
  pub sound_same : (placed other : PlacedRow) (others : List PlacedRow) (t : Forest) → entry_of_row def which placed ≡ entry_of_row def which other → IsPermutation (placed ∷ others) rows → IsPermutation (other ∷ others) rows_now → Sound t → SoundNow t
  sound_same placed other others t same were are sound = sound_of t
      (λ p there. elim (contains_cases p other others (Contains-permutation rows_now (other ∷ others) p (IsPermutation-sym (other ∷ others) rows_now are) there)) [
        | inl first ↦
            subst (λ y. IsEntryOf y (leaf_entries t)) (same ∙ ap (entry_of_row def which) first)
            (has_of t sound placed (Contains-permutation (placed ∷ others) rows placed were (0, omega arith, refl)))
        | inr later ↦ has_of t sound p (Contains-permutation (placed ∷ others) rows p were (contains_more p placed others later))
      ])
      (λ x there.
      is_still x
      (λ p is e. elim (contains_cases p placed others (Contains-permutation rows (placed ∷ others) p (IsPermutation-sym (placed ∷ others) rows were) is)) [
        | inl first ↦
            subst (Contains (map (entry_of_row def which) rows_now)) (sym same ∙ (ap (entry_of_row def which) first ∙ e))
            (in_map (entry_of_row def which) rows_now other (Contains-permutation (other ∷ others) rows_now other are (0, omega arith, refl)))
        | inr later ↦
            subst (Contains (map (entry_of_row def which) rows_now)) e
            (in_map (entry_of_row def which) rows_now p (Contains-permutation (other ∷ others) rows_now p are (contains_more p other others later)))
      ])
      (only_of t sound x there))

-- ---- all indexes

-- what holds of each index goes on as its tree moved, or stayed
zip_moved : (Moves : Entry → Forest → Forest → Type 0) (P Q : IndexDef → Forest → Type 0) (entry_in : IndexDef → Entry) (f : IndexDef → Bool)
    → ((which : IndexDef) (t u : Forest) → f which ≡ true → Moves (entry_in which) t u → P which t → Q which u) → ((which : IndexDef) (t : Forest) → f which ≡ false → P which t → Q which t)
    → (indexes : List IndexDef) (trees after : List Forest) → MoveChosen Moves entry_in (map f indexes) indexes trees after → AllZip P indexes trees → AllZip Q indexes after
zip_moved Moves P Q entry_in f turn same [] [] [] moves all = tt
zip_moved Moves P Q entry_in f turn same [] [] (u ∷ after) moves all = absurd moves
zip_moved Moves P Q entry_in f turn same [] (t ∷ trees) after moves all = absurd all
zip_moved Moves P Q entry_in f turn same (x ∷ indexes) [] after moves all = absurd all
zip_moved Moves P Q entry_in f turn same (x ∷ indexes) (t ∷ trees) after moves all = go (f x) after refl moves (λ more rest. zip_moved Moves P Q entry_in f turn same indexes trees more rest all.1)
  where
    go : (is : Bool) (after : List Forest) → f x ≡ is → MoveChosen Moves entry_in (is ∷ map f indexes) (x ∷ indexes) (t ∷ trees) after
        → ((more : List Forest) → MoveChosen Moves entry_in (map f indexes) indexes trees more → AllZip Q indexes more) → AllZip Q (x ∷ indexes) after
    go true [] is moves rest = absurd moves
    go true (u ∷ after) is moves rest = (turn x t u is moves.0 all.0, rest after moves.1)
    go false [] is moves rest = absurd moves
    go false (u ∷ after) is moves rest = (subst (Q x) (sym moves.0) (same x t is all.0), rest after moves.1)

pub sound_coming : (def : TableDef) (row : Row) (rid : Rid) (rows rows_now : List PlacedRow) (pending pending_now : List ℕ) (trees after : List Forest) → AllZip (IsSoundIndex def rows pending) def.indexes trees
    → MoveChosen GainsEntry (entry_of def row rid) (map (λ which. true) def.indexes) def.indexes trees after → IsPermutation (placed_at rid row ∷ rows) rows_now → StayPending pending pending_now
    → AllZip (IsSoundIndex def rows_now pending_now) def.indexes after
sound_coming def row rid rows rows_now pending pending_now trees after sound moves more stay =
    zip_moved GainsEntry (IsSoundIndex def rows pending) (IsSoundIndex def rows_now pending_now) (entry_of def row rid) (λ which. true)
    (λ which t u is gains was. sound_gained def which rows rows_now pending pending_now stay (placed_at rid row) t u more gains was) (λ which t is was. absurd cc) def.indexes trees after moves sound

pub sound_going : (def : TableDef) (row : Row) (rid : Rid) (rows rows_now : List PlacedRow) (pending pending_now : List ℕ) (trees after : List Forest) → AllZip (IsSoundIndex def rows pending) def.indexes trees → LieApart rows
    → MoveChosen LosesEntry (entry_of def row rid) (map (λ which. true) def.indexes) def.indexes trees after → IsPermutation (placed_at rid row ∷ rows_now) rows → StayPending pending pending_now
    → AllZip (IsSoundIndex def rows_now pending_now) def.indexes after
sound_going def row rid rows rows_now pending pending_now trees after sound apart moves less stay =
    zip_moved LosesEntry (IsSoundIndex def rows pending) (IsSoundIndex def rows_now pending_now) (entry_of def row rid) (λ which. true)
    (λ which t u is loses was. sound_lost def which rows rows_now pending pending_now stay (placed_at rid row) t u less (elsewhere (placed_at rid row) rows_now rows apart less) loses was) (λ which t is was. absurd cc) def.indexes trees after moves sound

-- keys that don't differ are the same
same_keys : (a b : List ℕ) → not (bytes_eq a b) ≡ false → a ≡ b
same_keys a b test = go (bytes_eq a b) test (bytes_eq-Decides a b)
  where
    go : (is : Bool) → not is ≡ false → Decides is (a ≡ b) → a ≡ b
    go true test decides = decides.0 refl
    go false test decides = absurd cc

-- between the two: an index in which the keys differ is sound for the other rows, and any other is as it was
record IsBetween (def : TableDef) (was is : Row) (rows others : List PlacedRow) (pending : List ℕ) (which : IndexDef) (t : Forest) : Type 0 where
  without : differ_in def was is which ≡ true → IsSoundIndex def others pending which t
  still : differ_in def was is which ≡ false → IsSoundIndex def rows pending which t

pub sound_giving_way : (def : TableDef) (was is : Row) (rid : Rid) (rows rows_now others : List PlacedRow) (pending pending_now : List ℕ) (trees left after : List Forest) → AllZip (IsSoundIndex def rows pending) def.indexes trees
    → LieApart rows → MoveChosen LosesEntry (entry_of def was rid) (map (differ_in def was is) def.indexes) def.indexes trees left
    → MoveChosen GainsEntry (entry_of def is rid) (map (differ_in def was is) def.indexes) def.indexes left after
    → IsPermutation (placed_at rid was ∷ others) rows → IsPermutation (placed_at rid is ∷ others) rows_now → StayPending pending pending_now → AllZip (IsSoundIndex def rows_now pending_now) def.indexes after
sound_giving_way def was is rid rows rows_now others pending pending_now trees left after sound apart lose gain were are stay =
    zip_moved GainsEntry (IsBetween def was is rows others pending) (IsSoundIndex def rows_now pending_now) (entry_of def is rid) (differ_in def was is)
    (λ which t u differs gains between. sound_gained def which others rows_now pending pending_now stay (placed_at rid is) t u are gains (between.without differs))
    (λ which t same between.
    sound_same def which rows rows_now pending pending_now stay (placed_at rid was) (placed_at rid is) others t
    (ap (λ key. key ++ big_bytes 4 rid.block ++ big_bytes 2 rid.slot) (same_keys (key_bytes def.columns which.parts was.values) (key_bytes def.columns which.parts is.values) same)) were are (between.still same))
    def.indexes left after gain
    (zip_moved LosesEntry (IsSoundIndex def rows pending) (IsBetween def was is rows others pending) (entry_of def was rid) (differ_in def was is)
    (λ which t u differs loses sound. record {
      without = λ again. sound_lost def which rows others pending pending (λ block there. there) (placed_at rid was) t u were (elsewhere (placed_at rid was) others rows apart were) loses sound;
      still = λ same. absurd cc;
    })
    (λ which t same sound. record { without = λ differs. absurd cc; still = λ again. sound }) def.indexes trees left lose sound)
