-- What the lines of a query give in the end.
use Rattle.std.proofs.Common.{◌≡◌, ◌∙◌, ◌<◌, ◌≤◌, ◌+◌, ℕ, zero, suc, List, [], ◌∷◌, ◌++◌, map, filter, length, Bool, true, false, cond, ◌&&◌, ◌==◌, Option, Some, None, refl, sym, ap, subst, arith}
use Rattle.std.specs.Prelude.{IsTrue, flat_map, is_none, nat_lt, codes, slice_get, slice_index_or}
use Rattle.std.specs.Fmt.{decimal}
use Rattle.std.specs.List.{AllByRecursion, IsDistinct, list_all, list_any}
use Rattle.std.proofs.lemmas.Bool.Decides.{nat_tests}
use Rattle.std.proofs.lemmas.List.{length-map}
use Rattle.std.proofs.lemmas.Option.{none-some}
use Rattle.mdc_values.specs.declared.value.Value.{Value}
use Rattle.mdc_ast.specs.declared.bound.BoundOut.{BoundOut}
use Rattle.mdc_ast.specs.declared.bound.BoundOut.TheVariants as out
use Rattle.mdc_ast.specs.declared.bound.BoundSelect.{BoundSelect}
use Rattle.mdc_ast.specs.declared.definition.ColumnDef.{ColumnDef}
use Rattle.mdc_ast.specs.declared.definition.KeyPart.{KeyPart}
use Rattle.mdc_ast.specs.declared.name.Name.{Name}
use Rattle.mdc_ast.specs.declared.row.Row.{Row}
use Rattle.mdc_ast.proofs.TestsLemmas.{both}
use Rattle.row_groups.specs.declared.grouping.Grouping.TheVariants.{AllRows, EachRow}
use Rattle.row_groups.specs.declared.line.Line.{Line}
use Rattle.row_groups.specs.declared.line.Shown.{Shown}
use Rattle.row_groups.specs.Answers.{AnswersLines, IsAnswer, IsOutgrown, cut, outgrown_in, outgrown_sums}
use Rattle.row_groups.specs.Lines.{grouping_of, is_aggregate, line_of, lines_by, made_lines, shown_of}
use Rattle.row_groups.specs.Numbers.{DifferInNumber, by_number, is_lower, values_of}
use Rattle.row_groups.specs.Ordering.{is_before, ordered, placed}
use Rattle.row_groups.specs.Shape.{Shape, shape_of}
use Rattle.statement_meaning.specs.Cause.{Cause, Overflow}
use Rattle.statement_meaning.specs.Queries.{answered, heading, line, lines_of, lines_text, name_of, shown_text, sum_cause, sum_causes}
use Rattle.answer_text.specs.Answering.{AreLinesOf, GivesLines, Rise, outs_at_once}
use Rattle.answer_text.specs.declared.query_lines.QueryLines.{QueryLines}
use Rattle.answer_text.specs.declared.query_lines.QueryLines.TheVariants.{Grouped, Plain}
use Rattle.answer_text.specs.Lines.{LinesSoFar, are_outs_within, closed_lines, entry, is_column_out, is_nothing, is_plain_select, lines_shown}

-- ---- rows that rise are by number as they are

rise_behind : (row : Row) (rows : List Row) → Rise (row ∷ rows) → Rise rows
rise_behind row rows rise = λ i j d low within. rise (suc i) (suc j) d (omega (arith, low)) (omega (arith, within))

placed_first : (row : Row) (rows : List Row) → Rise (row ∷ rows) → placed is_lower row rows ≡ row ∷ rows
placed_first row [] rise = refl
placed_first row (other ∷ rows) rise =
    let lt : row.number < other.number = rise 0 1 row (omega arith) (omega arith) in
    let at : nat_lt other.number row.number ≡ false = grind (arith, nat_tests) in
    rw at refl

pub by_number-rising : (rows : List Row) → Rise rows → by_number rows ≡ rows
by_number-rising [] rise = refl
by_number-rising (row ∷ rows) rise = ap (placed is_lower row) (by_number-rising rows (rise_behind row rows rise)) ∙ placed_first row rows rise

each_there : {X : Type 0} (P : X → Type 0) (xs : List X) → ((j : ℕ) (d : X) → j < length xs → P (slice_index_or xs j d)) → AllByRecursion P xs
each_there P [] at = tt
each_there P (x ∷ xs) at = (at 0 x (omega arith), each_there P xs (λ j d low. at (suc j) d (omega (arith, low))))

-- a row has another number than those behind it
apart_from : (n : ℕ) (rows : List Row) → AllByRecursion (λ row. n < row.number) rows → AllByRecursion (λ m. (n == m) ≡ false) (map (λ row. row.number) rows)
apart_from n [] above = tt
apart_from n (row ∷ rows) above =
    let at : (n == row.number) ≡ false = (let lt = above.0 in grind (arith, nat_tests)) in
    (at, apart_from n rows above.1)

behind_differ : (row : Row) (rows : List Row) → Rise (row ∷ rows) → AllByRecursion (λ m. (row.number == m) ≡ false) (map (λ row. row.number) rows)
behind_differ row rows rise =
    apart_from row.number rows (each_there (λ (other : Row). row.number < other.number) rows (λ j d low. rise 0 (suc j) d (omega arith) (omega (arith, low))))

pub rising_differ : (rows : List Row) → Rise rows → DifferInNumber rows
unfolding IsDistinct
rising_differ [] rise = tt
rising_differ (row ∷ rows) rise = (behind_differ row rows rise, rising_differ rows (rise_behind row rows rise))

-- ---- a query that shows each row as it comes

no_aggregate : (outs : List BoundOut) → IsTrue (list_all is_column_out outs) → list_any is_aggregate outs ≡ false
no_aggregate [] plain = refl
no_aggregate (out.Column column ∷ outs) plain = no_aggregate outs plain
no_aggregate (out.CountAll ∷ outs) plain = absurd (cc)
no_aggregate (out.Count column ∷ outs) plain = absurd (cc)
no_aggregate (out.Sum column ∷ outs) plain = absurd (cc)
no_aggregate (out.Min column ∷ outs) plain = absurd (cc)
no_aggregate (out.Max column ∷ outs) plain = absurd (cc)

-- nothing is put in order
ordered_by_nothing : (lines : List Line) → ordered (is_before []) lines ≡ lines
ordered_by_nothing [] = refl
ordered_by_nothing (first ∷ lines) = ap (placed (is_before []) first) (ordered_by_nothing lines) ∙ at lines
  where
    at : (others : List Line) → placed (is_before []) first others ≡ first ∷ others
    at [] = refl
    at (other ∷ others) = refl

-- the line of a row
shown_row : (outs : List BoundOut) (values : List Value) → IsTrue (list_all is_column_out outs) → map shown_text (map (λ out. shown_of out values (values ∷ [])) outs) ≡ map (entry values) outs
shown_row [] values plain = refl
shown_row (out.Column column ∷ outs) values plain = ap (λ texts. entry values (out.Column column) ∷ texts) (shown_row outs values plain)
shown_row (out.CountAll ∷ outs) values plain = absurd (cc)
shown_row (out.Count column ∷ outs) values plain = absurd (cc)
shown_row (out.Sum column ∷ outs) values plain = absurd (cc)
shown_row (out.Min column ∷ outs) values plain = absurd (cc)
shown_row (out.Max column ∷ outs) values plain = absurd (cc)

-- no sum is shown
no_sum : (outs : List BoundOut) (shows : List Shown) → IsTrue (list_all is_column_out outs) → outgrown_in outs shows ≡ []
no_sum [] shows plain = refl
no_sum (o ∷ outs) [] plain = refl
no_sum (out.Column column ∷ outs) (shown ∷ shows) plain = no_sum outs shows plain
no_sum (out.CountAll ∷ outs) (shown ∷ shows) plain = absurd (cc)
no_sum (out.Count column ∷ outs) (shown ∷ shows) plain = absurd (cc)
no_sum (out.Sum column ∷ outs) (shown ∷ shows) plain = absurd (cc)
no_sum (out.Min column ∷ outs) (shown ∷ shows) plain = absurd (cc)
no_sum (out.Max column ∷ outs) (shown ∷ shows) plain = absurd (cc)

module _ (columns : List ColumnDef) (outs : List BoundOut) (plain : IsTrue (list_all is_column_out outs)) where
  -- the outs alone
  abbrev shape : Shape
  shape = record { outs = outs; group = []; order = []; first = None }

  abbrev row_line : List Value → Line
  row_line values = line_of shape values (values ∷ [])

  each_made : (rows : List Row) → made_lines shape (values_of rows) ≡ map row_line (values_of rows)
  each_made rows = ap (λ b. lines_by (cond b AllRows EachRow) shape (values_of rows)) (no_aggregate outs plain)

  texts : (rows : List Row) → flat_map (λ (l : Line). line (map shown_text l.shows)) (map row_line (values_of rows)) ≡ flat_map (λ (row : Row). line (map (entry row.values) outs)) rows
  texts [] = refl
  texts (row ∷ rows) = ap (λ front. front ++ flat_map (λ (l : Line). line (map shown_text l.shows)) (map row_line (values_of rows))) (ap line (shown_row outs row.values plain))
      ∙ ap (λ rest. line (map (entry row.values) outs) ++ rest) (texts rows)

  count : (rows : List Row) → length (map row_line (values_of rows)) ≡ length rows
  count rows = length-map (values_of rows) row_line ∙ length-map rows (λ (row : Row). row.values)

  none_outgrown : (lines : List Line) → outgrown_sums outs lines ≡ []
  none_outgrown [] = refl
  none_outgrown (one ∷ lines) = ap (λ front. front ++ outgrown_sums outs lines) (no_sum outs one.shows plain) ∙ none_outgrown lines

  -- the line of the names, texts, and a number
  abbrev whole : List ℕ → ℕ → List ℕ
  whole text n = line (map (heading columns) outs) ++ text ++ decimal n ++ codes " ROWS\n"

  abbrev texts_of : List Line → List ℕ
  texts_of lines = flat_map (λ (l : Line). line (map shown_text l.shows)) lines

  plain_text : (rows : List Row) → lines_of columns shape rows ≡ closed_lines (lines_shown columns outs rows)
  plain_text rows =
      ap (λ lines. whole (texts_of lines) (length lines)) (ordered_by_nothing (made_lines shape (values_of rows)) ∙ each_made rows)
      ∙ ap (λ text. whole text (length (map row_line (values_of rows)))) (texts rows)
      ∙ ap (whole (flat_map (λ (row : Row). line (map (entry row.values) outs)) rows)) (count rows)

  pub plain_gives : (rows : List Row) → GivesLines columns shape rows (closed_lines (lines_shown columns outs rows))
  plain_gives rows = record { whole = ap (map (sum_cause columns)) (none_outgrown (made_lines shape (values_of rows))); text_is = sym (plain_text rows) }

nothing_in : {X : Type 0} (xs : List X) → IsTrue (is_nothing xs) → xs ≡ []
nothing_in [] none = refl
nothing_in (x ∷ xs) none = absurd (cc)

none_in : {X : Type 0} (o : Option X) → IsTrue (is_none o) → o ≡ None
none_in None none = refl
none_in (Some x) none = absurd (cc)

-- the same of a query
pub plain_select_gives : (columns : List ColumnDef) (select : BoundSelect) (rows : List Row) (text : List ℕ) → IsTrue (is_plain_select select) → text ≡ closed_lines (lines_shown columns select.outs rows)
    → GivesLines columns (shape_of select) rows text
plain_select_gives columns select rows text plain is =
    let three = both (list_all is_column_out select.outs && is_nothing select.group && is_nothing select.order) (is_none select.first) plain in
    let two = both (list_all is_column_out select.outs && is_nothing select.group) (is_nothing select.order) three.0 in
    let one = both (list_all is_column_out select.outs) (is_nothing select.group) two.0 in
    let same = cc_shape select.outs select.group select.order select.first (nothing_in select.group one.1) (nothing_in select.order two.1) (none_in select.first three.1) in
    subst (GivesLines columns (shape_of select) rows) (sym is) (subst (λ (s : Shape). GivesLines columns s rows (closed_lines (lines_shown columns select.outs rows))) same (plain_gives columns select.outs one.0 rows))
  where
    cc_shape : (outs : List BoundOut) (group : List ℕ) (order : List KeyPart) (first : Option ℕ) → group ≡ [] → order ≡ [] → first ≡ None
        → ◌≡◌ {A = Shape} (record { outs = outs; group = []; order = []; first = None }) (record { outs = outs; group = group; order = order; first = first })
    cc_shape outs group order first g o f = rw (g, o, f) refl

-- ---- groups

-- lines behind the line of the names, and no sum outside BIGINT
pub answer_gives : (columns : List ColumnDef) (shape : Shape) (rows : List Row) (lines : List Line) (head text : List ℕ) → Rise rows → IsAnswer shape rows lines → head ≡ line (map (heading columns) shape.outs)
    → text ≡ head ++ flat_map (λ (one : Line). line (map shown_text one.shows)) lines ++ decimal (length lines) ++ codes " ROWS\n" → GivesLines columns shape rows text
answer_gives columns shape rows lines head text rise is named whole =
    let same = by_number-rising rows rise in
    record {
      whole = ap (λ (rs : List Row). map (sum_cause columns) (outgrown_sums shape.outs (made_lines shape (values_of rs)))) (sym same) ∙ ap (map (sum_cause columns)) is.whole;
      text_is = whole ∙ ap (λ front. front ++ flat_map (λ (one : Line). line (map shown_text one.shows)) lines ++ decimal (length lines) ++ codes " ROWS\n") named
          ∙ ap (lines_text columns shape.outs) (is.same ∙ ap (answered shape) same);
    }

first_named : (columns : List ColumnDef) (named : List ℕ) (column : ℕ) → slice_get named 0 ≡ Some column → (more : List Cause) × (map (sum_cause columns) named ≡ sum_cause columns column ∷ more)
first_named columns [] column is = absurd (none-some column is)
first_named columns (first ∷ named) column is = (map (sum_cause columns) named, ap (λ c. sum_cause columns c ∷ map (sum_cause columns) named) (cc))

-- the first sum outside BIGINT is the first that is said
pub outgrown_says : (columns : List ColumnDef) (shape : Shape) (rows : List Row) (column : ℕ) → Rise rows
    → slice_get (outgrown_sums shape.outs (made_lines shape (values_of (by_number rows)))) 0 ≡ Some column
    → (more : List Cause) × (sum_causes columns shape rows ≡ sum_cause columns column ∷ more)
outgrown_says columns shape rows column rise is =
    subst (λ (rs : List Row). (more : List Cause) × (map (sum_cause columns) (outgrown_sums shape.outs (made_lines shape (values_of rs))) ≡ sum_cause columns column ∷ more))
    (by_number-rising rows rise) (first_named columns _ column is)

-- so it is with the name of its column
pub overflow_says : (columns : List ColumnDef) (shape : Shape) (rows : List Row) (column : ℕ) (name : Name) → Rise rows
    → slice_get (outgrown_sums shape.outs (made_lines shape (values_of (by_number rows)))) 0 ≡ Some column → name.0 ≡ name_of (slice_get columns column)
    → (more : List Cause) × (sum_causes columns shape rows ≡ Overflow name ∷ more)
overflow_says columns shape rows column name rise is named =
    let said = outgrown_says columns shape rows column rise is in
    (said.0, said.1 ∙ ap (λ text. Overflow (record { 0 = text }) ∷ said.0) (sym named))

-- ---- rows as they are added

-- what is shown of each row as it comes is what the query shows, or nothing
pub at_once_within : (columns : List ColumnDef) (select : BoundSelect) (rows : List Row) (lines : QueryLines) (width : ℕ) → AreLinesOf columns select rows lines
    → IsTrue (are_outs_within width select.outs) → IsTrue (are_outs_within width (outs_at_once lines))
at_once_within columns select rows (Plain lines) width are within = subst (λ (l : LinesSoFar). IsTrue (are_outs_within width l.outs)) (sym are.1) within
at_once_within columns select rows (Grouped of text groups) width are within = refl
