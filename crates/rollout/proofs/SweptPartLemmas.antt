-- How many rows the lines of some blocks count: as many as the blocks have, in whichever order they come.
use Rattle.std.proofs.Common.{◌≡◌, ◌≢◌, ◌<◌, ◌+◌, ◌*◌, ◌∙◌, ◌==◌, ℕ, List, [], ◌∷◌, Bool, false, true, get_or, length, map, sum_by, take, refl, sym, ap, subst, arith, inl, inr}
use Rattle.std.specs.Prelude.{◌||◌, AllPairs, Contains, cond, filter, nat_le}
use Rattle.std.specs.List.{AllByRecursion, list_any}
use Rattle.std.proofs.lemmas.Bool.{cases_eq, eq-eqb, ne_eqb}
use Rattle.std.proofs.lemmas.List.{map-append, take_more}
use Rattle.std.proofs.lemmas.List.Concat.{length-flat_map}
use Rattle.std.proofs.lemmas.List.Sums.{sum_by-append, sum_by-cons}
use Rattle.mdc_ast.specs.declared.definition.TableDef.{TableDef}
use Rattle.store_api.specs.declared.pages.Pages.{Ghosts}
use Rattle.store_api.specs.declared.shape.Shape.{Shape}
use Rattle.extent_map.specs.declared.kind.Kind.{Kind}
use Rattle.block_map.specs.MapLines.{MapLine, lines_of_state, map_lines, used_blocks}
use Rattle.block_map.specs.MapRows.{line_of}
use Rattle.block_map.specs.declared.row.BlockRow.{BlockRow}
use Rattle.block_map.proofs.MapLinesLemmas.{contains_cases, contains_more}
use Rattle.mdc_sound.specs.BlockRules.{IsUsedCountSound}
use Rattle.mdc_sound.specs.StandingTable.{StandsTable, TableForests, pages_of}
use Rattle.mdc_sound.specs.TableRows.{rows_in_block}
use Rattle.mdc_sound.proofs.TableSpotRowsLemmas.{used_differ}
use Rattle.table_scan.proofs.ScanningLemmas.{filter_first, filter_past}
use Rattle.rollout.specs.LeavingRows.{AreUsedBlocks, rows_in_blocks}
use Rattle.rollout.specs.SweptPart.{all_rows, goes_by_sweep, rows_among, rows_if_among}
use Rattle.rollout.proofs.StandingOnceLemmas.{StandOnce, stand_once}
use Rattle.rollout.proofs.SweptEntriesLemmas.{named_there, there_named}

-- ---- sums over numbers

-- the weight of a number where it is one of some
abbrev pub weight_among : (ℕ → ℕ) → List ℕ → ℕ → ℕ
weight_among w blocks u = cond (list_any (λ block. block == u) blocks) (w u) 0

out_of : (blocks : List ℕ) (u : ℕ) → (Contains blocks u → ⊥) → list_any (λ block. block == u) blocks ≡ false
out_of blocks u out = go (list_any (λ block. block == u) blocks) refl
  where
    go : (t : Bool) → list_any (λ block. block == u) blocks ≡ t → list_any (λ block. block == u) blocks ≡ false
    go true is = absurd (out (named_there blocks u is))
    go false is = is

module _ (w : ℕ → ℕ) where
  -- one more number
  weight_more : (b : ℕ) (blocks : List ℕ) (u : ℕ) → (Contains blocks b → ⊥) → weight_among w (b ∷ blocks) u ≡ weight_among w (b ∷ []) u + weight_among w blocks u
  weight_more b blocks u out = elim (cases_eq b u) [
    | inl same ↦ (
        let here : (b == u) ≡ true = eq-eqb b u same in
        let none : list_any (λ block. block == u) blocks ≡ false = out_of blocks u (λ there. out (subst (Contains blocks) (sym same) there)) in
        omega (
          arith,
          ap (λ t. cond (t || list_any (λ block. block == u) blocks) (w u) 0) here,
          ap (λ t. cond (t || false) (w u) 0) here,
          ap (λ t. cond t (w u) 0) none,
        ))
    | inr other ↦ (
        let not : (b == u) ≡ false = ne_eqb b u other in
        omega (
          arith,
          ap (λ t. cond (t || list_any (λ block. block == u) blocks) (w u) 0) not,
          ap (λ t. cond (t || false) (w u) 0) not,
        ))
  ]

  weight_one : (b u : ℕ) → b ≡ u → weight_among w (b ∷ []) u ≡ w u
  weight_one b u same = ap (λ t. cond (t || false) (w u) 0) (eq-eqb b u same)

  weight_other : (b u : ℕ) → b ≢ u → weight_among w (b ∷ []) u ≡ 0
  weight_other b u other = ap (λ t. cond (t || false) (w u) 0) (ne_eqb b u other)

  sum_both : (f g h : ℕ → ℕ) → ((u : ℕ) → h u ≡ f u + g u) → (us : List ℕ) → sum_by h us ≡ sum_by f us + sum_by g us
  sum_both f g h both [] = refl
  sum_both f g h both (u ∷ us) = omega (arith, both u, sum_both f g h both us, sum_by-cons h u us, sum_by-cons f u us, sum_by-cons g u us)

  sum_zero : (f : ℕ → ℕ) → (us : List ℕ) → ((u : ℕ) → Contains us u → f u ≡ 0) → sum_by f us ≡ 0
  sum_zero f [] none = refl
  sum_zero f (u ∷ us) none = omega (arith, none u (0, omega arith, refl), sum_zero f us (λ v there. none v (contains_more v u us there)), sum_by-cons f u us)

  -- a number that stands once weighs what it weighs
  sum_one : (b : ℕ) (us : List ℕ) → StandOnce us → Contains us b → sum_by (weight_among w (b ∷ [])) us ≡ w b
  sum_one b [] once there = absurd (omega (arith, there.1))
  sum_one b (u ∷ us) once there = elim (cases_eq b u) [
    | inl same ↦ (
        let rest = sum_zero (weight_among w (b ∷ [])) us (λ v there. weight_other b v (λ is. once.0 (subst (Contains us) (sym is ∙ same) there))) in
        omega (arith, sum_by-cons (weight_among w (b ∷ [])) u us, weight_one b u same, rest, ap w same))
    | inr other ↦ elim (contains_cases b u us there) [
      | inl here ↦ absurd (other (sym here))
      | inr later ↦ omega (arith, sum_by-cons (weight_among w (b ∷ [])) u us, weight_other b u other, sum_one b us once.1 later)
    ]
  ]

  -- some numbers among others, of which none stands twice, weigh what they weigh by themselves
  pub weighs_among : (us : List ℕ) → StandOnce us → (blocks : List ℕ) → StandOnce blocks → ((b : ℕ) → Contains blocks b → Contains us b) → sum_by (weight_among w blocks) us ≡ sum_by w blocks
  weighs_among us one [] once within = sum_zero (weight_among w []) us (λ u there. refl)
  weighs_among us one (b ∷ blocks) once within = omega (
    arith,
    sum_both (weight_among w (b ∷ [])) (weight_among w blocks) (weight_among w (b ∷ blocks)) (λ u. weight_more b blocks u once.0) us,
    sum_one b us one (within b (0, omega arith, refl)),
    weighs_among us one blocks once.1 (λ c there. within c (contains_more c b blocks there)),
    sum_by-cons w b blocks,
  )

-- ---- lines

-- the lines of a state are among all
state_lines : (P : MapLine → Type 0) (n : ℕ) (lines : List MapLine) → AllByRecursion P lines → AllByRecursion (λ line. P line × (line.state ≡ n)) (filter (λ line. line.state == n) lines)
state_lines P n [] all = tt
state_lines P n (line ∷ lines) all = elim (cases_eq line.state n) [
  | inl is ↦ subst (AllByRecursion (λ line. P line × (line.state ≡ n))) (sym (filter_first (λ (l : MapLine). l.state == n) line lines (eq-eqb line.state n is))) ((all.0, is), state_lines P n lines all.1)
  | inr other ↦ subst (AllByRecursion (λ line. P line × (line.state ≡ n))) (sym (filter_past (λ (l : MapLine). l.state == n) line lines (ne_eqb line.state n other))) (state_lines P n lines all.1)
]

-- lines that count right count what their blocks weigh
lines_weigh : (w : ℕ → ℕ) (blocks : List ℕ) (lines : List MapLine) → AllByRecursion (λ line. line.rows ≡ w line.block) lines → rows_among lines blocks ≡ sum_by (weight_among w blocks) (map (λ line. line.block) lines)
lines_weigh w blocks [] each = refl
lines_weigh w blocks (line ∷ lines) each = omega (
  arith,
  sum_by-cons (rows_if_among blocks) line lines,
  sum_by-cons (weight_among w blocks) line.block (map (λ line. line.block) lines),
  ap (λ n. cond (list_any (λ block. block == line.block) blocks) n 0) each.0,
  lines_weigh w blocks lines each.1,
)

all_weaker : {X : Type 0} (P Q : X → Type 0) (xs : List X) → ((x : X) → P x → Q x) → AllByRecursion P xs → AllByRecursion Q xs
all_weaker P Q [] so all = tt
all_weaker P Q (x ∷ xs) so all = (so x all.0, all_weaker P Q xs so all.1)

module _ {S : Type 0} (g : Ghosts S) (shape : Shape) (s : S) (def : TableDef) (owners : List Kind) (forests : TableForests) (st : StandsTable g shape s def owners forests) (blocks : List ℕ) (differ : AllPairs (λ a b. a ≢ b) blocks)
    (used : AreUsedBlocks blocks owners forests) where
  -- the lines of Used blocks count their rows
  pub rows_counted : rows_among (lines_of_state 1 forests.map) blocks ≡ length (rows_in_blocks shape (pages_of g s) def blocks)
  rows_counted =
      let pages = pages_of g s in
      let w : ℕ → ℕ = λ b. length (rows_in_block shape pages def b) in
      let each = all_weaker (λ (line : MapLine). IsUsedCountSound shape pages def line × (line.state ≡ 1)) (λ (line : MapLine). line.rows ≡ w line.block) (lines_of_state 1 forests.map) (λ line sound. sound.0.counted sound.1)
      (state_lines (IsUsedCountSound shape pages def) 1 (map_lines forests.map) st.used_counts) in
      lines_weigh w blocks (lines_of_state 1 forests.map) each
      ∙ weighs_among w (used_blocks forests.map) (stand_once (used_blocks forests.map) (used_differ forests.map st.map.once_each)) blocks (stand_once blocks differ) used
      ∙ sym (length-flat_map (rows_in_block shape pages def) blocks)

-- the same numbers in another order weigh the same
pub weigh_alike : (w : ℕ → ℕ) (xs ys : List ℕ) → AllPairs (λ a b. a ≢ b) xs → AllPairs (λ a b. a ≢ b) ys → ((b : ℕ) → Contains ys b → Contains xs b) → ((b : ℕ) → Contains xs b → Contains ys b) → sum_by w xs ≡ sum_by w ys
weigh_alike w xs ys once again back on =
    sym (weighs_among w xs (stand_once xs once) xs (stand_once xs once) (λ b there. there)) ∙ sums xs ∙ weighs_among w xs (stand_once xs once) ys (stand_once ys again) back
  where
    same : (u : ℕ) → weight_among w xs u ≡ weight_among w ys u
    same u = go (list_any (λ block. block == u) ys) refl
      where
        go : (t : Bool) → list_any (λ block. block == u) ys ≡ t → weight_among w xs u ≡ weight_among w ys u
        go true is = ap (λ t. cond t (w u) 0) (there_named xs u (back u (named_there ys u is)) ∙ sym is)
        go false is = ap (λ t. cond t (w u) 0) (out_of xs u (λ there. let wrong : false ≡ true = sym is ∙ there_named ys u (on u there) in absurd cc) ∙ sym is)

    sums : (us : List ℕ) → sum_by (weight_among w xs) us ≡ sum_by (weight_among w ys) us
    sums [] = refl
    sums (u ∷ us) = omega (arith, sum_by-cons (weight_among w xs) u us, sum_by-cons (weight_among w ys) u us, same u, sums us)

-- ---- lines one after the other

-- one line more
line_more : (f : MapLine → ℕ) (lines : List BlockRow) (i : ℕ) (line : BlockRow) → i < length lines
    → sum_by f (map line_of (take (i + 1) lines)) ≡ sum_by f (map line_of (take i lines)) + f (line_of (get_or lines i line))
line_more f lines i line low =
    ap (λ l. sum_by f (map line_of l)) (take_more lines i line low) ∙ ap (sum_by f) (map-append line_of (take i lines) (get_or lines i line ∷ []))
    ∙ sum_by-append f (map line_of (take i lines)) (line_of (get_or lines i line) ∷ []) ∙ ap (λ n. sum_by f (map line_of (take i lines)) + n) (one_line f (line_of (get_or lines i line)))
  where
    one_line : (f : MapLine → ℕ) (line : MapLine) → sum_by f (line ∷ []) ≡ f line
    one_line f line = omega (arith, sum_by-cons f line [])

pub line_counted : (line : BlockRow) (f : MapLine → ℕ) (lines : List BlockRow) (i : ℕ) (so_far n : ℕ) → i < length lines → so_far ≡ sum_by f (map line_of (take i lines)) → n ≡ f (line_of (get_or lines i line))
    → so_far + n ≡ sum_by f (map line_of (take (i + 1) lines))
line_counted line f lines i so_far n low first one = ap (λ k. so_far + k) one ∙ (ap (λ k. k + f (line_of (get_or lines i line))) first ∙ sym (line_more f lines i line low))

-- a part of the rows is too small for a sweep, or not
pub by_sweep : (lines : List MapLine) (blocks : List ℕ) (going : ℕ) (many : Bool) → going ≡ rows_among lines blocks → many ≡ nat_le (all_rows lines) (going * 12) → goes_by_sweep lines blocks ≡ many
by_sweep lines blocks going many counted is = sym (is ∙ ap (λ n. nat_le (all_rows lines) (n * 12)) counted)
