-- Which entries are left in record indexes that lost those of some rows: in whichever order they went, the same.
use Rattle.std.proofs.Common.{◌≡◌, ◌≢◌, ◌+◌, ◌∙◌, ◌⊎◌, ℕ, List, [], ◌∷◌, ◌++◌, false, true, length, map, refl, sym, ap, subst, arith, inl, inr}
use Rattle.std.specs.Prelude.{◌↔◌, Contains}
use Rattle.std.specs.List.{AllZip}
use Rattle.std.proofs.lemmas.Bool.{false≢true}
use Rattle.std.proofs.lemmas.List.{length-append}
use Rattle.std.proofs.lemmas.List.Elements.{Contains-append_cases}
use Rattle.mdc_words.specs.ByteOrder.{Entry}
use Rattle.mdc_ast.specs.declared.definition.IndexDef.{IndexDef}
use Rattle.mdc_ast.specs.declared.definition.TableDef.{TableDef}
use Rattle.key_codec.specs.Keys.{key_bytes}
use Rattle.node_page.specs.Entries.{names_block}
use Rattle.entry_tree.specs.EntryBounds.{IsEntryOf}
use Rattle.entry_tree.specs.Forest.{Forest, leaf_entries}
use Rattle.entry_tree.proofs.LeavesLemmas.{length-with_entry}
use Rattle.block_index.specs.Listing.{LosesEntry}
use Rattle.block_map.proofs.MapLinesLemmas.{contains_more}
use Rattle.mdc_sound.specs.BlockRules.{IsSoundIndex, block_in_entry, entry_of_row}
use Rattle.mdc_sound.specs.TableRows.{PlacedRow}
use Rattle.mdc_sound.proofs.BlockRulesLemmas.{each_of}
use Rattle.mdc_sound.proofs.ElementsLemmas.{contains_entry, each_in, entry_in, from_map, in_map}
use Rattle.table_blocks.proofs.WithEntryLemmas.{more_with, there_with, with_cases}
use Rattle.record_index.specs.FoundRids.{IsRid, rid_in_entry}
use Rattle.record_index.specs.SoundRows.{LieApart}
use Rattle.record_index.proofs.SoundRowsLemmas.{row_in_entry}
use Rattle.row_entries.specs.ChosenIndexes.{HasEntry, MoveChosen, entry_of}
use Rattle.rollout.specs.LostEntries.{EachKept, EachLost, KeepsEntries, KeptFrom, LosesEntries, LosesRows, LostFrom}
use Rattle.rollout.specs.RowByRow.{SameEntries}
use Rattle.rollout.specs.SweptIndexes.{key_width_of}
use Rattle.rollout.proofs.ChosenBlocksLemmas.{alone, in_back, in_front}
use Rattle.rollout.proofs.LosingRowsLemmas.{apart_rows}

pub none_lost : (def : TableDef) (indexes : List IndexDef) (trees : List Forest) → length trees ≡ length indexes → EachLost def [] indexes trees trees
none_lost def [] [] long = tt
none_lost def [] (t ∷ trees) long = absurd (omega (arith, long))
none_lost def (which ∷ indexes) [] long = absurd (omega (arith, long))
none_lost def (which ∷ indexes) (t ∷ trees) long = (
  record { had = λ placed there. absurd (omega (arith, there.1)); left = λ y. (λ at. (at, λ placed there. absurd (omega (arith, there.1))), λ both. both.0) },
  none_lost def indexes trees (omega (arith, long)),
)

-- one row more
one_lost : (def : TableDef) (front : List PlacedRow) (placed : PlacedRow) (which : IndexDef) (t mid u : Forest) → LostFrom def front which t mid → LosesEntry (entry_of def placed.row placed.rid which) mid u → LostFrom def (front ++ placed ∷ []) which t u
one_lost def front placed which t mid u lost loses = record {
  had = λ other there. elim (Contains-append_cases front (placed ∷ []) other there) [
    | inl early ↦ lost.had other early
    | inr last ↦ subst (λ (p : PlacedRow). HasEntry def p.row p.rid which t) (alone other placed last) had_last
  ];
  left = λ y. (
    λ at.
        let before = (lost.left y).0 (subst (IsEntryOf y) (sym loses.was) (more_with y entry (leaf_entries u) at)) in (
          before.0,
          λ other there same. elim (Contains-append_cases front (placed ∷ []) other there) [
            | inl early ↦ before.1 other early same
            | inr last ↦ loses.absent (subst (λ (x : Entry). IsEntryOf x (leaf_entries u)) (same ∙ ap (λ (p : PlacedRow). entry_of def p.row p.rid which) (sym (alone other placed last))) at)
          ],
        ),
    λ both.
        let in_mid = (lost.left y).1 (both.0, λ other there. both.1 other (in_front front (placed ∷ []) other there)) in
        elim (with_cases y entry (leaf_entries u) (subst (IsEntryOf y) loses.was in_mid)) [
          | inl same ↦ absurd (both.1 placed (in_back front (placed ∷ []) placed (0, omega arith, refl)) same)
          | inr later ↦ later
        ],
  );
}
  where
    entry : Entry
    entry = entry_of def placed.row placed.rid which

    had_last : HasEntry def placed.row placed.rid which t
    had_last = ((lost.left entry).0 (subst (IsEntryOf entry) (sym loses.was) (there_with entry (leaf_entries u)))).0

each_more : (def : TableDef) (front : List PlacedRow) (placed : PlacedRow) (indexes : List IndexDef) (trees mid after : List Forest) → EachLost def front indexes trees mid
    → MoveChosen LosesEntry (entry_of def placed.row placed.rid) (map (λ which. true) indexes) indexes mid after → EachLost def (front ++ placed ∷ []) indexes trees after
each_more def front placed [] [] [] [] lost moves = tt
each_more def front placed [] [] [] (u ∷ after) lost moves = absurd moves
each_more def front placed [] [] (m ∷ mid) after lost moves = absurd lost
each_more def front placed [] (t ∷ trees) mid after lost moves = absurd lost
each_more def front placed (which ∷ indexes) [] mid after lost moves = absurd lost
each_more def front placed (which ∷ indexes) (t ∷ trees) [] after lost moves = absurd lost
each_more def front placed (which ∷ indexes) (t ∷ trees) (m ∷ mid) [] lost moves = absurd moves
each_more def front placed (which ∷ indexes) (t ∷ trees) (m ∷ mid) (u ∷ after) lost moves = (one_lost def front placed which t m u lost.0 moves.0, each_more def front placed indexes trees mid after lost.1 moves.1)

pub all_lost : (def : TableDef) (trees : List Forest) (rows : List PlacedRow) (after : List Forest) → length trees ≡ length def.indexes → LosesRows def trees rows after → EachLost def rows def.indexes trees after
all_lost def trees _ _ long LosesRows.none = none_lost def def.indexes trees long
all_lost def trees rows after long (LosesRows.one {front = front} {mid = mid} placed before moves is) =
    subst (λ l. EachLost def l def.indexes trees after) (sym is) (each_more def front placed def.indexes trees mid after (all_lost def trees front mid long before) moves)

-- ---- how many left

-- so many entries left each of some trees
abbrev EachFewer : ℕ → List Forest → List Forest → Type 0
EachFewer n [] [] = Unit {0}
EachFewer n (t ∷ trees) (u ∷ after) = (length (leaf_entries t) ≡ length (leaf_entries u) + n) × EachFewer n trees after
EachFewer n trees after = ⊥

none_fewer : (trees : List Forest) → EachFewer 0 trees trees
none_fewer [] = tt
none_fewer (t ∷ trees) = (omega arith, none_fewer trees)

fewer_more : (entry_in : IndexDef → Entry) (n : ℕ) (indexes : List IndexDef) (trees mid after : List Forest) → EachFewer n trees mid → MoveChosen LosesEntry entry_in (map (λ which. true) indexes) indexes mid after → EachFewer (n + 1) trees after
fewer_more entry_in n [] [] [] [] fewer moves = tt
fewer_more entry_in n [] [] [] (u ∷ after) fewer moves = absurd moves
fewer_more entry_in n [] [] (m ∷ mid) after fewer moves = absurd fewer
fewer_more entry_in n [] (t ∷ trees) [] after fewer moves = absurd fewer
fewer_more entry_in n [] (t ∷ trees) (m ∷ mid) after fewer moves = absurd moves
fewer_more entry_in n (which ∷ indexes) trees [] after fewer moves = absurd moves
fewer_more entry_in n (which ∷ indexes) trees (m ∷ mid) [] fewer moves = absurd moves
fewer_more entry_in n (which ∷ indexes) [] (m ∷ mid) (u ∷ after) fewer moves = absurd fewer
fewer_more entry_in n (which ∷ indexes) (t ∷ trees) (m ∷ mid) (u ∷ after) fewer moves =
    (omega (arith, fewer.0, ap length moves.0.was, length-with_entry (entry_in which) (leaf_entries u)), fewer_more entry_in n indexes trees mid after fewer.1 moves.1)

rows_fewer : (def : TableDef) (trees : List Forest) (rows : List PlacedRow) (after : List Forest) → LosesRows def trees rows after → EachFewer (length rows) trees after
rows_fewer def trees _ _ LosesRows.none = none_fewer trees
rows_fewer def trees rows after (LosesRows.one {front = front} {mid = mid} placed before moves is) =
    subst (λ n. EachFewer n trees after) (sym (ap length is ∙ length-append front (placed ∷ []))) (fewer_more (entry_of def placed.row placed.rid) (length front) def.indexes trees mid after (rows_fewer def trees front mid before) moves)

each_kept : (def : TableDef) (blocks : List ℕ) (rows : List PlacedRow) (indexes : List IndexDef) (trees after : List Forest)
    → ((which : IndexDef) → Contains indexes which → (placed : PlacedRow) → Contains rows placed → names_block blocks (key_width_of def which) (entry_of def placed.row placed.rid which) ≡ true)
    → EachLost def rows indexes trees after → EachFewer (length rows) trees after → EachKept def blocks rows indexes trees after
each_kept def blocks rows [] [] [] named lost fewer = tt
each_kept def blocks rows [] [] (u ∷ after) named lost fewer = absurd lost
each_kept def blocks rows [] (t ∷ trees) after named lost fewer = absurd lost
each_kept def blocks rows (which ∷ indexes) [] after named lost fewer = absurd lost
each_kept def blocks rows (which ∷ indexes) (t ∷ trees) [] named lost fewer = absurd lost
each_kept def blocks rows (which ∷ indexes) (t ∷ trees) (u ∷ after) named lost fewer = (
  record {
    had = λ y at. ((lost.0.left y).0 at).0;
    stay = λ y at unnamed. (lost.0.left y).1 (at, λ placed there same. false≢true (sym unnamed ∙ ap (names_block blocks (key_width_of def which)) same ∙ named which (0, omega arith, refl) placed there));
    went = λ placed there at. ((lost.0.left (entry_of def placed.row placed.rid which)).0 at).1 placed there refl;
    counted = fewer.0;
  },
  each_kept def blocks rows indexes trees after (λ w there. named w (contains_more w which indexes there)) lost.1 fewer.1,
)

-- rows whose entries name some blocks leave all entries that name none of them
pub rows_kept : (def : TableDef) (blocks : List ℕ) (trees : List Forest) (rows : List PlacedRow) (after : List Forest) → length trees ≡ length def.indexes
    → ((which : IndexDef) → Contains def.indexes which → (placed : PlacedRow) → Contains rows placed → names_block blocks (key_width_of def which) (entry_of def placed.row placed.rid which) ≡ true)
    → LosesRows def trees rows after → KeepsEntries def blocks trees rows after
rows_kept def blocks trees rows after long named lose = each_kept def blocks rows def.indexes trees after named (all_lost def trees rows after long lose) (rows_fewer def trees rows after lose)

-- what is left is the same, whichever of two lists of the same rows went
each_same : (def : TableDef) (rows others : List PlacedRow) → ((placed : PlacedRow) → Contains rows placed ↔ Contains others placed) → (indexes : List IndexDef) (trees one two : List Forest)
    → EachLost def rows indexes trees one → EachLost def others indexes trees two → AllZip SameEntries one two
each_same def rows others same [] [] [] [] first second = tt
each_same def rows others same [] [] [] (v ∷ two) first second = absurd second
each_same def rows others same [] [] (u ∷ one) two first second = absurd first
each_same def rows others same [] (t ∷ trees) one two first second = absurd first
each_same def rows others same (which ∷ indexes) [] one two first second = absurd first
each_same def rows others same (which ∷ indexes) (t ∷ trees) [] two first second = absurd first
each_same def rows others same (which ∷ indexes) (t ∷ trees) (u ∷ one) [] first second = absurd second
each_same def rows others same (which ∷ indexes) (t ∷ trees) (u ∷ one) (v ∷ two) first second = (
  λ y. (
    λ at. let was = (first.0.left y).0 at in (second.0.left y).1 (was.0, λ placed there. was.1 placed ((same placed).1 there)),
    λ at. let was = (second.0.left y).0 at in (first.0.left y).1 (was.0, λ placed there. was.1 placed ((same placed).0 there)),
  ),
  each_same def rows others same indexes trees one two first.1 second.1,
)

pub same_entries : (def : TableDef) (trees one two : List Forest) (rows others : List PlacedRow) → ((placed : PlacedRow) → Contains rows placed ↔ Contains others placed)
    → LosesEntries def trees rows one → LosesEntries def trees others two → AllZip SameEntries one two
same_entries def trees one two rows others same first second = each_same def rows others same def.indexes trees one two first second

-- ---- the same rows in another list

lost_alike : (def : TableDef) (rows others : List PlacedRow) → ((placed : PlacedRow) → Contains rows placed ↔ Contains others placed) → (which : IndexDef) (t u : Forest) → LostFrom def rows which t u → LostFrom def others which t u
lost_alike def rows others same which t u lost = record {
  had = λ placed there. lost.had placed ((same placed).1 there);
  left = λ y. (
    λ at. let was = (lost.left y).0 at in (was.0, λ placed there. was.1 placed ((same placed).1 there)),
    λ both. (lost.left y).1 (both.0, λ placed there. both.1 placed ((same placed).0 there)),
  );
}

pub each_alike : (def : TableDef) (rows others : List PlacedRow) → ((placed : PlacedRow) → Contains rows placed ↔ Contains others placed) → (indexes : List IndexDef) (trees after : List Forest) → EachLost def rows indexes trees after
    → EachLost def others indexes trees after
each_alike def rows others same [] [] [] lost = tt
each_alike def rows others same [] [] (u ∷ after) lost = absurd lost
each_alike def rows others same [] (t ∷ trees) after lost = absurd lost
each_alike def rows others same (which ∷ indexes) [] after lost = absurd lost
each_alike def rows others same (which ∷ indexes) (t ∷ trees) [] lost = absurd lost
each_alike def rows others same (which ∷ indexes) (t ∷ trees) (u ∷ after) lost = (lost_alike def rows others same which t u lost.0, each_alike def rows others same indexes trees after lost.1)

pub none_kept : (def : TableDef) (blocks : List ℕ) (indexes : List IndexDef) (trees : List Forest) → length trees ≡ length indexes → EachKept def blocks [] indexes trees trees
none_kept def blocks [] [] long = tt
none_kept def blocks [] (t ∷ trees) long = absurd (omega (arith, long))
none_kept def blocks (which ∷ indexes) [] long = absurd (omega (arith, long))
none_kept def blocks (which ∷ indexes) (t ∷ trees) long =
    (record { had = λ y at. at; stay = λ y at unnamed. at; went = λ placed there at. omega (arith, there.1); counted = omega arith }, none_kept def blocks indexes trees (omega (arith, long)))

kept_alike : (def : TableDef) (named others : List ℕ) → ((y : Entry) (n : ℕ) → names_block others n y ≡ false → names_block named n y ≡ false) → (rows again : List PlacedRow) → ((placed : PlacedRow) → Contains again placed → Contains rows placed)
    → length rows ≡ length again → (which : IndexDef) (t u : Forest) → KeptFrom def named rows which t u → KeptFrom def others again which t u
kept_alike def named others names rows again same long which t u kept = record {
  had = kept.had;
  stay = λ y at unnamed. kept.stay y at (names y (key_width_of def which) unnamed);
  went = λ placed there. kept.went placed (same placed there);
  counted = omega (arith, kept.counted, long);
}

pub each_kept_alike : (def : TableDef) (named others : List ℕ) → ((y : Entry) (n : ℕ) → names_block others n y ≡ false → names_block named n y ≡ false) → (rows again : List PlacedRow)
    → ((placed : PlacedRow) → Contains again placed → Contains rows placed) → length rows ≡ length again → (indexes : List IndexDef) (trees after : List Forest) → EachKept def named rows indexes trees after → EachKept def others again indexes trees after
each_kept_alike def named others names rows again same long [] [] [] kept = tt
each_kept_alike def named others names rows again same long [] [] (u ∷ after) kept = absurd kept
each_kept_alike def named others names rows again same long [] (t ∷ trees) after kept = absurd kept
each_kept_alike def named others names rows again same long (which ∷ indexes) [] after kept = absurd kept
each_kept_alike def named others names rows again same long (which ∷ indexes) (t ∷ trees) [] kept = absurd kept
each_kept_alike def named others names rows again same long (which ∷ indexes) (t ∷ trees) (u ∷ after) kept =
    (kept_alike def named others names rows again same long which t u kept.0, each_kept_alike def named others names rows again same long indexes trees after kept.1)

-- ---- what is sound afterwards

module _ (def : TableDef) (rows rest : List PlacedRow) (pending : List ℕ) (apart : LieApart (rows ++ rest)) where
  -- no row that is left has the entry of one that went
  other_entry : (which : IndexDef) (stays went : PlacedRow) → Contains rest stays → Contains rows went → entry_of_row def which stays ≢ entry_of_row def which went
  other_entry which stays went there gone same =
      let keys = λ (p : PlacedRow). key_bytes def.columns which.parts p.row.values in
      apart_rows rows rest apart went stays gone there
      (sym (row_in_entry (keys went) went.rid (is_rid went (in_front rows rest went gone))) ∙ (ap rid_in_entry (sym same) ∙ row_in_entry (keys stays) stays.rid (is_rid stays (in_back rows rest stays there))))
    where
      is_rid : (p : PlacedRow) → Contains (rows ++ rest) p → IsRid p.rid
      is_rid p is = each_of (λ (placed : PlacedRow). IsRid placed.rid) (rows ++ rest) p apart.places is

  sound_lost : (which : IndexDef) (t u : Forest) → LostFrom def rows which t u → IsSoundIndex def (rows ++ rest) pending which t → IsSoundIndex def rest pending which u
  sound_lost which t u lost sound = record {
    has = each_in (λ p. Contains (leaf_entries u) (entry_of_row def which p)) rest (λ placed there.
        contains_entry (leaf_entries u) (entry_of_row def which placed) ((lost.left (entry_of_row def which placed)).1 (
          entry_in (leaf_entries t) (entry_of_row def which placed) (each_of (λ p. Contains (leaf_entries t) (entry_of_row def which p)) (rows ++ rest) placed sound.has (in_back rows rest placed there)),
          λ went gone. other_entry which placed went there gone,
        )));
    only = each_in (λ x. Contains (map (entry_of_row def which) rest) x ⊎ Contains pending (block_in_entry def which.parts x)) (leaf_entries u) (λ x there.
        let was = (lost.left x).0 (entry_in (leaf_entries u) x there) in
        elim (each_of (λ x. Contains (map (entry_of_row def which) (rows ++ rest)) x ⊎ Contains pending (block_in_entry def which.parts x)) (leaf_entries t) x sound.only (contains_entry (leaf_entries t) x was.0)) [
          | inl row ↦ (let r = from_map (entry_of_row def which) (rows ++ rest) x row in
              elim (Contains-append_cases rows rest r.0 r.1) [
                | inl went ↦ absurd (was.1 r.0 went (sym r.2))
                | inr stays ↦ inl (subst (Contains (map (entry_of_row def which) rest)) r.2 (in_map (entry_of_row def which) rest r.0 stays))
              ])
          | inr spare ↦ inr spare
        ]);
  }

  -- each index is sound for the rows that are left
  pub sound_without : (indexes : List IndexDef) (trees after : List Forest) → EachLost def rows indexes trees after → AllZip (IsSoundIndex def (rows ++ rest) pending) indexes trees → AllZip (IsSoundIndex def rest pending) indexes after
  sound_without [] [] [] lost sound = tt
  sound_without [] [] (u ∷ after) lost sound = absurd lost
  sound_without [] (t ∷ trees) after lost sound = absurd lost
  sound_without (which ∷ indexes) [] after lost sound = absurd lost
  sound_without (which ∷ indexes) (t ∷ trees) [] lost sound = absurd lost
  sound_without (which ∷ indexes) (t ∷ trees) (u ∷ after) lost sound = (sound_lost which t u lost.0 sound.0, sound_without indexes trees after lost.1 sound.1)
