-- The lines of a block map, block by block, and whether they count rows right.
use Rattle.std.proofs.Common.{◌≡◌, ◌≢◌, ◌≤◌, ◌<◌, ◌==◌, ◌&&◌, ◌^◌, ℕ, zero, suc, Bool, true, false, List, [], ◌∷◌, refl, ap, sym, subst, ◌∙◌, arith, inl, inr, map, length, Option, None, Some}
use Rattle.std.specs.Prelude.{◌⊎◌, Contains, nat_lt}
use Rattle.std.specs.List.{AllByRecursion}
use Rattle.std.proofs.lemmas.Bool.Decides.{nat_tests}
use Rattle.byteorder.specs.Numbers.{big_from-bytes}
use Rattle.std.proofs.Math.Nat.{mod-eq_of_lt}
use Rattle.mdc_words.specs.ByteOrder.{Entry}
use Rattle.mdc_ast.specs.declared.definition.TableDef.{TableDef}
use Rattle.store_api.specs.Extents.{first_page_of}
use Rattle.store_api.specs.declared.shape.Shape.{Shape}
use Rattle.entry_tree.specs.EntryBounds.{IsEntryOf}
use Rattle.entry_tree.specs.Forest.{Forest, leaf_entries}
use Rattle.block_map.specs.BlockMaps.{FindsBlock, HasRow, IsMapForm}
use Rattle.block_map.specs.MapLines.{MapLine, blocks_of_state, map_line, map_lines, mapped_blocks, used_blocks}
use Rattle.block_map.specs.MapRows.{row_entry, state_number}
use Rattle.block_map.specs.declared.row.BlockRow.{BlockRow}
use Rattle.block_map.specs.declared.state.BlockState.{BlockState}
use Rattle.block_map.specs.declared.state.BlockState.TheVariants.{Free, Pending}
use Rattle.block_map.proofs.MapFormLemmas.{form_one}
use Rattle.block_map.proofs.MapLinesLemmas.{contains_more, in_state_named, named_in_state, row_block, row_state}
use Rattle.table_trees.specs.ToldPages.{PageList}
use Rattle.mdc_sound.specs.TableRows.{rows_in_block}
use Rattle.mdc_sound.proofs.BlockRulesLemmas.{each_of}
use Rattle.mdc_sound.proofs.ElementsLemmas.{each_in}
use Rattle.file_check.specs.BlocksJudged.{BreaksBlockCount, BreaksLineCount, IsBlockCounted, IsBlockMiscounted, IsLineCounted, IsLineMiscounted, JudgesCount}
use Rattle.file_check.specs.Judging.{BreaksAny, Judges, JudgesEach, lower}
use Rattle.file_check.proofs.BlockMapsLemmas.{line_of_entry}
use Rattle.file_check.proofs.JudgingLemmas.{breaks_any-member, judges_as, judges_both, member-breaks_any}

-- ---- lines and entries

-- a line is what an entry says
pub entry_of_line : (entries : List Entry) (line : MapLine) → Contains (map map_line entries) line → (entry : Entry) × IsEntryOf entry entries × (map_line entry ≡ line)
entry_of_line [] line (k, low, is) = absurd (omega (arith, low))
entry_of_line (x ∷ xs) line (zero, low, is) = (x, inl refl, is)
entry_of_line (x ∷ xs) line (suc k, low, is) =
    let later = entry_of_line xs line (k, omega (arith, low), is) in
    (later.0, inr later.1, later.2)

-- a line of a state names a block of that state
pub block_of_line : (map_tree : Forest) (line : MapLine) (state : ℕ) → Contains (map_lines map_tree) line → line.state ≡ state → Contains (blocks_of_state state map_tree) line.block
block_of_line map_tree line state there is =
    let entry = entry_of_line (leaf_entries map_tree) line there in
    let at : (map_line entry.0).state ≡ state = ap (λ (l : MapLine). l.state) entry.2 ∙ is in
    in_state_named state (leaf_entries map_tree) line.block (record {
      entry = entry.0;
      there = entry.1;
      state = grind (arith, nat_tests, at);
      block_is = ap (λ (l : MapLine). l.block) entry.2;
    })

-- a block of a state is one that the map names
pub state_is_mapped : (map_tree : Forest) (state block : ℕ) → Contains (blocks_of_state state map_tree) block → Contains (mapped_blocks map_tree) block
state_is_mapped map_tree state block there =
    let named = named_in_state state (leaf_entries map_tree) block there in
    in_lines (map_lines map_tree) (map_line named.entry) block (line_of_entry (leaf_entries map_tree) named.entry named.there) named.block_is
  where
    in_lines : (lines : List MapLine) (line : MapLine) (block : ℕ) → Contains lines line → line.block ≡ block → Contains (map (λ l. l.block) lines) block
    in_lines [] line block (k, low, is) names = absurd (omega (arith, low))
    in_lines (first ∷ lines) line block (zero, low, is) names = (0, omega arith, ap (λ (l : MapLine). l.block) is ∙ names)
    in_lines (first ∷ lines) line block (suc k, low, is) names = contains_more block first.block (map (λ l. l.block) lines) (in_lines lines line block (k, omega (arith, low), is) names)

-- a block of another state isn't Used
pub idle_unused : (map_tree : Forest) (state block : ℕ) → IsMapForm map_tree → state ≢ 1 → Contains (blocks_of_state state map_tree) block → Contains (used_blocks map_tree) block → ⊥
idle_unused map_tree state block form idle there used =
    let a = named_in_state state (leaf_entries map_tree) block there in
    let b = named_in_state 1 (leaf_entries map_tree) block used in
    let same : a.entry ≡ b.entry = form_one map_tree a.entry b.entry form a.there b.there (a.block_is ∙ sym b.block_is) in
    let is_state : (map_line a.entry).state ≡ state = grind (arith, nat_tests, a.state) in
    let is_used : (map_line b.entry).state ≡ 1 = grind (arith, nat_tests, b.state) in
    idle (sym is_state ∙ (ap (λ (entry : Entry). (map_line entry).state) same ∙ is_used))

-- ---- the line of a row that was found

module _ (map_tree : Forest) (row : BlockRow) (form : IsMapForm map_tree) (small : row.block < 2 ^ 32) (found : HasRow row map_tree) where
  -- the line of the row
  pub row_line : Contains (map_lines map_tree) (map_line (row_entry row))
  row_line = line_of_entry (leaf_entries map_tree) (row_entry row) found

  -- it is the one line of its block
  pub one_line : (line : MapLine) → Contains (map_lines map_tree) line → line.block ≡ row.block → line ≡ map_line (row_entry row)
  one_line line there names =
      let entry = entry_of_line (leaf_entries map_tree) line there in
      let same : (map_line entry.0).block ≡ (map_line (row_entry row)).block = ap (λ (l : MapLine). l.block) entry.2 ∙ (names ∙ sym (row_block row small)) in
      sym entry.2 ∙ ap map_line (form_one map_tree entry.0 (row_entry row) form entry.1 found same)

  -- a Used row's block is a Used block
  pub row_is_used : state_number row.state ≡ 1 → Contains (used_blocks map_tree) row.block
  row_is_used used = subst (Contains (used_blocks map_tree)) (row_block row small) (block_of_line map_tree (map_line (row_entry row)) 1 row_line (row_state row ∙ used))

-- how many rows a row has is read back
row_rows : (row : BlockRow) → row.rows < 2 ^ 16 → (map_line (row_entry row)).rows ≡ row.rows
row_rows row few = big_from-bytes 2 row.rows [] ∙ mod-eq_of_lt few

-- ---- one line, judged

module _ (shape : Shape) (pages : PageList) (def : TableDef) (map_tree : Forest) (row : BlockRow) (form : IsMapForm map_tree) (small : row.block < 2 ^ 32) (few : row.rows < 2 ^ 16) (found : HasRow row map_tree) where
  at_line : (P : MapLine → Type 0) → P (map_line (row_entry row)) → (line : MapLine) → Contains (map_lines map_tree) line → line.block ≡ row.block → P line
  at_line P holds line there names = subst P (sym (one_line map_tree row form small found line there names)) holds

  misses_line : IsLineMiscounted shape pages def (map_line (row_entry row)) → IsBlockMiscounted shape pages def map_tree row.block
  misses_line wrong = record { line = map_line (row_entry row); there = row_line map_tree row form small found; names = row_block row small; miscounted = wrong }

  -- a block that isn't Used
  pub judges_idle : (counted : Bool) → counted ≡ (row.rows == 0) → state_number row.state ≢ 1 → JudgesCount shape pages def map_tree row.block counted
  judges_idle true is idle =
      at_line (IsLineCounted shape pages def) (record {
        used = record {
          some_row = λ used. absurd (idle (sym (row_state row) ∙ used));
          counted = λ used. absurd (idle (sym (row_state row) ∙ used));
        };
        idle = λ other. row_rows row few ∙ (let none : row.rows ≡ 0 = grind (arith, nat_tests, is) in none);
      })
  judges_idle false is idle =
      misses_line (inr (λ sound.
      let none = sound (λ used. idle (sym (row_state row) ∙ used)) in
      let some : row.rows ≢ 0 = grind (arith, nat_tests, is) in
      some (sym (row_rows row few) ∙ none)))

  -- a Used block of so many rows
  pub judges_used : (counted : Bool) (count : ℕ) → counted ≡ (nat_lt 0 row.rows && row.rows == count) → count ≡ length (rows_in_block shape pages def row.block) → state_number row.state ≡ 1
      → JudgesCount shape pages def map_tree row.block counted
  judges_used true count is counts used =
      let some : 0 < row.rows = grind (arith, nat_tests, is) in
      let same : row.rows ≡ count = grind (arith, nat_tests, is) in
      at_line (IsLineCounted shape pages def) (record {
        used = record {
          some_row = λ is_used. omega (arith, some, row_rows row few);
          counted = λ is_used. row_rows row few ∙ (same ∙ (counts ∙ ap (λ b. length (rows_in_block shape pages def b)) (sym (row_block row small))));
        };
        idle = λ other. absurd (other (row_state row ∙ used));
      })
  judges_used false count is counts used =
      misses_line (inl (λ sound.
      let at = row_state row ∙ used in
      let some : 0 < row.rows = omega (arith, sound.some_row at, row_rows row few) in
      let same : row.rows ≡ count = sym (row_rows row few) ∙ (sound.counted at ∙ (ap (λ b. length (rows_in_block shape pages def b)) (row_block row small) ∙ sym counts)) in
      grind (arith, nat_tests, is, some, same)))

-- the state of a block that isn't Used
pub idle_state : (state : BlockState) → (state ≡ Free) ⊎ (state ≡ Pending) → state_number state ≢ 1
idle_state state (inl free) used = let number : state_number state ≡ 0 = ap state_number free in omega (arith, used, number)
idle_state state (inr pending) used = let number : state_number state ≡ 2 = ap state_number pending in omega (arith, used, number)

-- the same of what was found of a block
module _ (shape : Shape) (pages : PageList) (def : TableDef) (map_tree : Forest) (block : ℕ) (answer : Option BlockRow) (row : BlockRow) (is : answer ≡ Some row) (small : block < 2 ^ 32) (finds : FindsBlock map_tree block answer) where
  row_found : FindsBlock map_tree block (Some row)
  row_found = subst (FindsBlock map_tree block) is finds

  row_small : row.block < 2 ^ 32
  row_small = subst (λ (b : ℕ). b < 2 ^ 32) (sym row_found.0) small

  pub found_idle : IsMapForm map_tree → (counted : Bool) → row.rows < 2 ^ 16 → counted ≡ (row.rows == 0) → state_number row.state ≢ 1 → JudgesCount shape pages def map_tree block counted
  found_idle form counted few right idle =
      subst (λ (b : ℕ). JudgesCount shape pages def map_tree b counted) row_found.0 (judges_idle shape pages def map_tree row form row_small few row_found.1 counted right idle)

  pub found_used : IsMapForm map_tree → (counted : Bool) (count : ℕ) → row.rows < 2 ^ 16 → counted ≡ (nat_lt 0 row.rows && row.rows == count) → count ≡ length (rows_in_block shape pages def block) → state_number row.state ≡ 1
      → JudgesCount shape pages def map_tree block counted
  found_used form counted count few right counts used =
      subst (λ (b : ℕ). JudgesCount shape pages def map_tree b counted) row_found.0
      (judges_used shape pages def map_tree row form row_small few row_found.1 counted count right (counts ∙ ap (λ b. length (rows_in_block shape pages def b)) (sym row_found.0)) used)

  pub found_in_used : state_number row.state ≡ 1 → IsMapForm map_tree → Contains (used_blocks map_tree) block
  found_in_used used form = subst (Contains (used_blocks map_tree)) row_found.0 (row_is_used map_tree row form row_small row_found.1 used)

-- ---- one block, judged

pub judges_count : (shape : Shape) (pages : PageList) (def : TableDef) (map_tree : Forest) (block : ℕ) (counted : Bool) → counted ≡ true → JudgesCount shape pages def map_tree block counted
    → Judges (IsBlockCounted shape pages def map_tree block) (BreaksBlockCount shape pages def map_tree block) None
judges_count shape pages def map_tree block true is counted = record {
  holds = counted;
  unbroken = λ q b. elim b.miscounted.miscounted [
    | inl wrong ↦ wrong (counted b.miscounted.line b.miscounted.there b.miscounted.names).used
    | inr wrong ↦ wrong (counted b.miscounted.line b.miscounted.there b.miscounted.names).idle
  ];
}
judges_count shape pages def map_tree block false is counted = absurd cc

-- ---- the three states are all lines

module _ (shape : Shape) (pages : PageList) (def : TableDef) (map_tree : Forest) (form : IsMapForm map_tree) where
  abbrev AreCounted : ℕ → Type 0
  AreCounted n = AllByRecursion (IsBlockCounted shape pages def map_tree) (blocks_of_state n map_tree)

  abbrev AnyMiscounted : ℕ → ℕ → Type 0
  AnyMiscounted n = BreaksAny (BreaksBlockCount shape pages def map_tree) (blocks_of_state n map_tree)

  of_state : (n : ℕ) → AreCounted n → (line : MapLine) → Contains (map_lines map_tree) line → line.state ≡ n → IsLineCounted shape pages def line
  of_state n all line there is = each_of (IsBlockCounted shape pages def map_tree) (blocks_of_state n map_tree) line.block all (block_of_line map_tree line n there is) line there refl

  by_state : (n : ℕ) → n ≤ 2 → (n ≡ 0) ⊎ ((n ≡ 1) ⊎ (n ≡ 2))
  by_state zero low = inl refl
  by_state (suc zero) low = inr (inl refl)
  by_state (suc (suc zero)) low = inr (inr refl)
  by_state (suc (suc (suc n))) low = absurd (omega (arith, low))

  states : (line : MapLine) → Contains (map_lines map_tree) line → (line.state ≡ 0) ⊎ ((line.state ≡ 1) ⊎ (line.state ≡ 2))
  states line there = by_state line.state (each_of (λ (l : MapLine). l.state ≤ 2) (map_lines map_tree) line form.states there)

  all_lines : AreCounted 1 × (AreCounted 0 × AreCounted 2) → AllByRecursion (IsLineCounted shape pages def) (map_lines map_tree)
  all_lines all = each_in (IsLineCounted shape pages def) (map_lines map_tree) (λ line there. elim (states line there) [
    | inl free ↦ of_state 0 all.1.0 line there free
    | inr (inl used) ↦ of_state 1 all.0 line there used
    | inr (inr pending) ↦ of_state 2 all.1.1 line there pending
  ])

  miscounted_line : (n p : ℕ) → AnyMiscounted n p → BreaksAny (BreaksLineCount shape pages def) (map_lines map_tree) p
  miscounted_line n p any =
      let in_state = member-breaks_any (BreaksBlockCount shape pages def map_tree) (blocks_of_state n map_tree) p any in
      let b : BreaksBlockCount shape pages def map_tree in_state.0 p = in_state.2 in
      breaks_any-member (BreaksLineCount shape pages def) (map_lines map_tree) b.miscounted.line p b.miscounted.there
      (record { page = b.page ∙ ap (first_page_of shape.extents shape.extent_pages) (sym b.miscounted.names); miscounted = b.miscounted.miscounted })

  line_miscounted : (p : ℕ) → BreaksAny (BreaksLineCount shape pages def) (map_lines map_tree) p → AnyMiscounted 1 p ⊎ (AnyMiscounted 0 p ⊎ AnyMiscounted 2 p)
  line_miscounted p any =
      let in_lines = member-breaks_any (BreaksLineCount shape pages def) (map_lines map_tree) p any in
      let line = in_lines.0 in
      let b : BreaksLineCount shape pages def line p = in_lines.2 in
      let in_state : (n : ℕ) → line.state ≡ n → AnyMiscounted n p = λ n is.
      breaks_any-member (BreaksBlockCount shape pages def map_tree) (blocks_of_state n map_tree) line.block p (block_of_line map_tree line n in_lines.1 is)
      (record { page = b.page; miscounted = record { line = line; there = in_lines.1; names = refl; miscounted = b.miscounted } }) in
      elim (states line in_lines.1) [
        | inl free ↦ inr (inl (in_state 0 free))
        | inr (inl used) ↦ inl (in_state 1 used)
        | inr (inr pending) ↦ inr (inr (in_state 2 pending))
      ]

  pub judges_lines : (used idle : Option ℕ) → JudgesEach (IsBlockCounted shape pages def map_tree) (BreaksBlockCount shape pages def map_tree) (blocks_of_state 1 map_tree) used
      → Judges (AreCounted 0 × AreCounted 2) (λ p. AnyMiscounted 0 p ⊎ AnyMiscounted 2 p) idle
      → JudgesEach (IsLineCounted shape pages def) (BreaksLineCount shape pages def) (map_lines map_tree) (lower used idle)
  judges_lines used idle is_used is_idle =
      judges_as {P = AreCounted 1 × (AreCounted 0 × AreCounted 2)} {Q = AllByRecursion (IsLineCounted shape pages def) (map_lines map_tree)} {A = λ p. AnyMiscounted 1 p ⊎ (AnyMiscounted 0 p ⊎ AnyMiscounted 2 p)}
      {B = BreaksAny (BreaksLineCount shape pages def) (map_lines map_tree)}
      (lower used idle) all_lines (λ p any. elim any [
        | inl b ↦ miscounted_line 1 p b
        | inr (inl b) ↦ miscounted_line 0 p b
        | inr (inr b) ↦ miscounted_line 2 p b
      ]) line_miscounted
      (judges_both (AreCounted 1) (AreCounted 0 × AreCounted 2) (AnyMiscounted 1) (λ p. AnyMiscounted 0 p ⊎ AnyMiscounted 2 p) used idle is_used is_idle)
