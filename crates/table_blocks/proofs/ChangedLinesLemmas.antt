-- What a block map says of other blocks, where the line of one block alone became another one, or came.
use Rattle.std.proofs.Common.{◌≡◌, ◌≢◌, ◌<◌, ◌≤◌, ◌+◌, ◌*◌, ◌^◌, ℕ, zero, suc, get_or, cond, List, [], ◌∷◌, ◌++◌, length, refl, ap, arith, sym, ◌∙◌, subst, ◌⊎◌, inl, inr}
use Rattle.std.specs.Prelude.{Bool, true, false, AllPairs, Contains, map, if◌then◌else◌}
use Rattle.std.specs.Int.{byte_at, bytes_high_first}
use Rattle.std.proofs.lemmas.Bool.{cases_eq, eq-eqb, ne_eqb}
use Rattle.std.proofs.lemmas.List.Kept.{AllPairs-cons}
use Rattle.mdc_words.specs.ByteOrder.{Entry, below}
use Rattle.entry_tree.specs.EntryBounds.{IsEntryOf, with_entry}
use Rattle.entry_tree.specs.Forest.{Forest, leaf_entries}
use Rattle.block_map.specs.BlockMaps.{IsMapForm}
use Rattle.block_map.specs.MapLines.{AreMapEntries, IsMapEntry, MapLine, blocks_of_state, map_entry, map_line, map_lines, mapped_blocks, mapped_state}
use Rattle.block_map.specs.MapRows.{row_entry, state_number}
use Rattle.block_map.specs.declared.row.BlockRow.{BlockRow}
use Rattle.block_map.specs.declared.state.BlockState.{BlockState}
use Rattle.block_map.specs.declared.state.BlockState.TheVariants.{Free, Used, Pending}
use Rattle.block_map.proofs.MapFormLemmas.{form_state}
use Rattle.block_map.proofs.MapLinesLemmas.{contains_more, in_state_named, named_entry, named_in_state, row_block, row_state}
use Rattle.mdc_sound.proofs.ElementsLemmas.{each_line}
use Rattle.mdc_sound.proofs.TableSpotsLemmas.{first_differs, rest_differs, state_of_named}
use Rattle.table_blocks.specs.BlockNow.{IsUnnamed}
use Rattle.table_blocks.proofs.WithEntryLemmas.{more_with, there_with, with_cases}

-- ---- blocks that differ

-- none of the entries names the block
abbrev IsNewTo : ℕ → List Entry → Type 0
IsNewTo block xs = (x : Entry) → IsEntryOf x xs → (map_line x).block ≢ block

-- the blocks that the entries name
abbrev named : List Entry → List ℕ
named xs = map (λ (line : MapLine). line.block) (map map_line xs)

-- no two entries name one block
abbrev AreApart : List Entry → Type 0
AreApart [] = Unit {0}
AreApart (x ∷ xs) = IsNewTo (map_line x).block xs × AreApart xs

entry_named : (xs : List Entry) (x : Entry) → IsEntryOf x xs → Contains (named xs) (map_line x).block
entry_named [] x there = absurd there
entry_named (y ∷ ys) x (inl e) = (0, omega arith, ap (λ (z : Entry). (map_line z).block) (sym e))
entry_named (y ∷ ys) x (inr later) = contains_more (map_line x).block (map_line y).block (named ys) (entry_named ys x later)

apart_of_pairs : (xs : List Entry) → AllPairs (λ a b. a ≢ b) (named xs) → AreApart xs
apart_of_pairs [] differ = tt
apart_of_pairs (x ∷ xs) differ = (
  λ y there same. first_differs (map_line x).block (named xs) differ (subst (Contains (named xs)) same (entry_named xs y there)),
  apart_of_pairs xs (rest_differs (map_line x).block (named xs) differ),
)

entry_at : (xs : List Entry) (k d : ℕ) → k < length (named xs) → (x : Entry) × IsEntryOf x xs × ((map_line x).block ≡ get_or (named xs) k d)
entry_at [] k d low = absurd (omega (arith, low))
entry_at (x ∷ xs) zero d low = (x, inl refl, refl)
entry_at (x ∷ xs) (suc k) d low = let r = entry_at xs k d (omega (arith, low)) in (r.0, inr r.1, r.2)

pairs_of_apart : (xs : List Entry) → AreApart xs → AllPairs (λ a b. a ≢ b) (named xs)
pairs_of_apart [] apart = λ i j d low high. absurd (omega (arith, high))
pairs_of_apart (x ∷ xs) apart =
    AllPairs-cons (λ a b. a ≢ b) (map_line x).block (named xs) (λ k d low same. let r = entry_at xs k d low in apart.0 r.0 r.1 (r.2 ∙ sym same)) (pairs_of_apart xs apart.1)

apart_without : (x : Entry) (xs : List Entry) → AreApart (with_entry x xs) → IsNewTo (map_line x).block xs × AreApart xs
apart_without x [] apart = (λ y there. absurd there, tt)
apart_without x (y ∷ ys) apart = go (below y x) apart (apart_without x ys)
  where
    go : (b : Bool) → AreApart (if b then y ∷ with_entry x ys else x ∷ y ∷ ys) → (AreApart (with_entry x ys) → IsNewTo (map_line x).block ys × AreApart ys) → IsNewTo (map_line x).block (y ∷ ys) × AreApart (y ∷ ys)
    go true h more = let r = more h.1 in (
      λ z there same. elim there [ inl e ↦ h.0 x (there_with x ys) (sym (ap (λ (v : Entry). (map_line v).block) (sym e) ∙ same)) | inr later ↦ r.0 z later same ],
      (λ z later. h.0 z (more_with z x ys later), r.1),
    )
    go false h more = h

apart_with : (x : Entry) (xs : List Entry) → IsNewTo (map_line x).block xs → AreApart xs → AreApart (with_entry x xs)
apart_with x [] new apart = (λ y there. absurd there, tt)
apart_with x (y ∷ ys) new apart = go (below y x) (apart_with x ys (λ z later. new z (inr later)) apart.1)
  where
    go : (b : Bool) → AreApart (with_entry x ys) → AreApart (if b then y ∷ with_entry x ys else x ∷ y ∷ ys)
    go true more = (
      λ z there same. elim (with_cases z x ys there) [ inl e ↦ new y (inl refl) (sym same ∙ ap (λ (v : Entry). (map_line v).block) e) | inr later ↦ apart.0 z later same ],
      more,
    )
    go false more = (new, apart)

-- ---- the entry of a line

-- two bytes of a number are those of the number that they state
two_bytes : (n : ℕ) → bytes_high_first 2 (byte_at 1 n * 256 ^ 1 + (byte_at 0 n * 256 ^ 0 + 0)) ≡ bytes_high_first 2 n
two_bytes n =
    let high : byte_at 1 (byte_at 1 n * 256 ^ 1 + (byte_at 0 n * 256 ^ 0 + 0)) ≡ byte_at 1 n = omega arith in
    let low : byte_at 0 (byte_at 1 n * 256 ^ 1 + (byte_at 0 n * 256 ^ 0 + 0)) ≡ byte_at 0 n = omega arith in
    cc

-- the entry of a row is written as what it says
row_written : (row : BlockRow) → row.block < 2 ^ 32 → IsMapEntry (row_entry row)
row_written row small = record {
  bytes_are =
      let line = map_line (row_entry row) in
      sym (ap (λ n. map_entry n line.state line.rows) (row_block row small) ∙ ap (λ n. map_entry row.block n line.rows) (row_state row)
      ∙ ap (λ bytes. bytes_high_first 4 row.block ++ state_number row.state ∷ bytes) (two_bytes row.rows));
}

few_states : (state : BlockState) → state_number state ≤ 2
few_states Free = omega arith
few_states Used = omega arith
few_states Pending = omega arith

-- ---- what changes

-- The lines of other blocks are as they were, and the map is one.
pub record ChangesLine (block : ℕ) (before after : Forest) : Type 0 where
  pub there : (x : Entry) → (map_line x).block ≢ block → IsEntryOf x (leaf_entries before) → IsEntryOf x (leaf_entries after)
  pub back : (x : Entry) → (map_line x).block ≢ block → IsEntryOf x (leaf_entries after) → IsEntryOf x (leaf_entries before)
  pub entries : AreMapEntries after
  pub form : IsMapForm after

module _ (before after : Forest) (line : BlockRow) (small : line.block < 2 ^ 32) (entries : AreMapEntries before) (form : IsMapForm before) where
  -- the line comes to those of other blocks
  puts_line : (rest : List Entry) → leaf_entries after ≡ with_entry (row_entry line) rest → ((x : Entry) → IsEntryOf x rest → IsEntryOf x (leaf_entries before))
      → ((x : Entry) → (map_line x).block ≢ line.block → IsEntryOf x (leaf_entries before) → IsEntryOf x rest) → IsNewTo line.block rest → AreApart rest → ChangesLine line.block before after
  puts_line rest is were are new apart = record {
    there = λ x other at. subst (IsEntryOf x) (sym is) (more_with x (row_entry line) rest (are x other at));
    back = λ x other at. elim (with_cases x (row_entry line) rest (subst (IsEntryOf x) is at)) [
      | inl e ↦ absurd (other (ap (λ (v : Entry). (map_line v).block) e ∙ row_block line small))
      | inr later ↦ were x later
    ];
    entries = λ x at. elim (with_cases x (row_entry line) rest (subst (IsEntryOf x) is at)) [
      | inl e ↦ subst IsMapEntry (sym e) (row_written line small)
      | inr later ↦ entries x (were x later)
    ];
    form = record {
      states = each_line (λ l. l.state ≤ 2) (leaf_entries after) (λ x at. elim (with_cases x (row_entry line) rest (subst (IsEntryOf x) is at)) [
        | inl e ↦ omega (arith, ap (λ (v : Entry). (map_line v).state) e, row_state line, few_states line.state)
        | inr later ↦ form_state before x form (were x later)
      ]);
      once_each = pairs_of_apart (leaf_entries after) (subst AreApart (sym is) (apart_with (row_entry line) rest (λ x at same. new x at (same ∙ row_block line small)) apart));
    };
  }

  -- in the place of another one of its block
  pub replaces_entry : (was : BlockRow) (rest : List Entry) → was.block ≡ line.block → leaf_entries before ≡ with_entry (row_entry was) rest → leaf_entries after ≡ with_entry (row_entry line) rest → ChangesLine line.block before after
  replaces_entry was rest same were is =
      let apart = apart_without (row_entry was) rest (subst AreApart were (apart_of_pairs (leaf_entries before) form.once_each)) in
      let was_small : was.block < 2 ^ 32 = omega (arith, same, small) in
      let names : (map_line (row_entry was)).block ≡ line.block = row_block was was_small ∙ same in
      puts_line rest is (λ x at. subst (IsEntryOf x) (sym were) (more_with x (row_entry was) rest at))
      (λ x other at. elim (with_cases x (row_entry was) rest (subst (IsEntryOf x) were at)) [ inl e ↦ absurd (other (ap (λ (v : Entry). (map_line v).block) e ∙ names)) | inr later ↦ later ])
      (λ x at e. apart.0 x at (e ∙ sym names)) apart.1

  -- where the map didn't name the block
  pub enters_entry : IsUnnamed before line.block → leaf_entries after ≡ with_entry (row_entry line) (leaf_entries before) → ChangesLine line.block before after
  enters_entry unnamed is = puts_line (leaf_entries before) is (λ x at. at) (λ x other at. at) unnamed (apart_of_pairs (leaf_entries before) form.once_each)

-- or the line of the block goes, and none names it any more
pub leaves_entry : (before after : Forest) (was : BlockRow) → was.block < 2 ^ 32 → AreMapEntries before → IsMapForm before → leaf_entries before ≡ with_entry (row_entry was) (leaf_entries after)
    → ChangesLine was.block before after × IsUnnamed after was.block
leaves_entry before after was small entries form were =
    let apart = apart_without (row_entry was) (leaf_entries after) (subst AreApart were (apart_of_pairs (leaf_entries before) form.once_each)) in
    let names : (map_line (row_entry was)).block ≡ was.block = row_block was small in
    let back : (x : Entry) → IsEntryOf x (leaf_entries after) → IsEntryOf x (leaf_entries before) = λ x at. subst (IsEntryOf x) (sym were) (more_with x (row_entry was) (leaf_entries after) at) in (
      record {
        there = λ x other at. elim (with_cases x (row_entry was) (leaf_entries after) (subst (IsEntryOf x) were at)) [
          | inl e ↦ absurd (other (ap (λ (v : Entry). (map_line v).block) e ∙ names))
          | inr later ↦ later
        ];
        back = λ x other at. back x at;
        entries = λ x at. entries x (back x at);
        form = record {
          states = each_line (λ l. l.state ≤ 2) (leaf_entries after) (λ x at. form_state before x form (back x at));
          once_each = pairs_of_apart (leaf_entries after) apart.1;
        };
      },
      λ x at same. apart.0 x at (same ∙ sym names),
    )

-- ---- what stays

-- a block is named by an entry, or it has no state
state_or_none : (xs : List Entry) (e : ℕ) → ((x : Entry) × IsEntryOf x xs × ((map_line x).block ≡ e)) ⊎ (IsNewTo e xs × (mapped_state e (map map_line xs) ≡ 3))
state_or_none [] e = inr (λ x there. absurd there, refl)
state_or_none (x ∷ xs) e = elim (cases_eq (map_line x).block e) [
  | inl here ↦ inl (x, inl refl, here)
  | inr other ↦ elim (state_or_none xs e) [
    | inl r ↦ inl (r.0, inr r.1, r.2)
    | inr none ↦ inr (
      λ y there same. elim there [ inl first ↦ other (ap (λ (v : Entry). (map_line v).block) (sym first) ∙ same) | inr later ↦ none.0 y later same ],
      ap (λ t. cond t (map_line x).state (mapped_state e (map map_line xs))) (ne_eqb (map_line x).block e other) ∙ none.1,
    )
  ]
]

module _ (block : ℕ) (before after : Forest) (form : IsMapForm before) (changes : ChangesLine block before after) where
  pub state_kept : (e : ℕ) → e ≢ block → mapped_state e (map_lines after) ≡ mapped_state e (map_lines before)
  state_kept e other = elim (state_or_none (leaf_entries before) e) [
    | inl named ↦
        let state = (map_line named.0).state in
        state_of_named state (leaf_entries after) e changes.form.once_each
        (record { entry = named.0; there = changes.there named.0 (λ same. other (sym named.2 ∙ same)) named.1; state = eq-eqb state state refl; block_is = named.2 })
        ∙ sym (state_of_named state (leaf_entries before) e form.once_each (record { entry = named.0; there = named.1; state = eq-eqb state state refl; block_is = named.2 }))
    | inr none ↦ elim (state_or_none (leaf_entries after) e) [
      | inl named ↦ absurd (none.0 named.0 (changes.back named.0 (λ same. other (sym named.2 ∙ same)) named.1) named.2)
      | inr still ↦ still.1 ∙ sym none.1
    ]
  ]

  pub state_there : (state e : ℕ) → e ≢ block → Contains (blocks_of_state state before) e → Contains (blocks_of_state state after) e
  state_there state e other there =
      let named = named_in_state state (leaf_entries before) e there in
      in_state_named state (leaf_entries after) e
      (record { entry = named.entry; there = changes.there named.entry (λ same. other (sym named.block_is ∙ same)) named.there; state = named.state; block_is = named.block_is })

  pub state_back : (state e : ℕ) → e ≢ block → Contains (blocks_of_state state after) e → Contains (blocks_of_state state before) e
  state_back state e other there =
      let named = named_in_state state (leaf_entries after) e there in
      in_state_named state (leaf_entries before) e
      (record { entry = named.entry; there = changes.back named.entry (λ same. other (sym named.block_is ∙ same)) named.there; state = named.state; block_is = named.block_is })

  pub mapped_there : (e : ℕ) → e ≢ block → Contains (mapped_blocks before) e → Contains (mapped_blocks after) e
  mapped_there e other there =
      let named = named_entry (leaf_entries before) e there in
      subst (Contains (mapped_blocks after)) named.2 (entry_named (leaf_entries after) named.0 (changes.there named.0 (λ same. other (sym named.2 ∙ same)) named.1))
