-- The lines of one more row, by which rows share a line, and of all.
use Rattle.std.proofs.Common.{◌≡◌, ℕ, ◌≤◌, List, [], ◌∷◌, ◌++◌, map, length, get_or, take, ◌+◌, ◌<◌, Result, Bool, true, false, cond, refl, sym, ap, ◌∙◌, subst, arith}
use Rattle.std.specs.Prelude.{IsTrue, MatchResult, slice_set}
use Rattle.std.specs.Cmp.{IsStrictWeakOrder}
use Rattle.std.specs.Map as entries
use Rattle.std.specs.Str.{bytes_eq}
use Rattle.std.proofs.lemmas.List.{length-map, map-append, take_more}
use Rattle.std.proofs.lemmas.List.Sorted.{IsStrictWeakOrder-by_number, length_permutation}
use Rattle.mdc_values.specs.declared.value.Value.{Value}
use Rattle.mdc_ast.specs.declared.row.Row.{Row}
use Rattle.row_groups.specs.declared.grouping.Grouping.{Grouping}
use Rattle.row_groups.specs.declared.grouping.Grouping.TheVariants.{EachRow, AllRows, ByValues}
use Rattle.row_groups.specs.declared.line.Line.{Line}
use Rattle.row_groups.specs.Adding.{Numbered, is_numbered_lower, line_of_row, lines_in, with_rows}
use Rattle.row_groups.specs.Answers.{AnswersLines, AreWide, cut, outgrown_sums}
use Rattle.row_groups.specs.Firsts.{firsts, group_of}
use Rattle.row_groups.specs.Gathering.{AreAllLines, AreFound, AreGathered, AreGroupsOf, GroupsSoFar}
use Rattle.row_groups.specs.Lines.{are_grouped, are_shared, grouping_of, line_of, lines_by, made_lines}
use Rattle.row_groups.specs.Naming.{AreAlike}
use Rattle.row_groups.specs.Numbers.{DifferInNumber, by_number, is_lower, values_of}
use Rattle.row_groups.specs.Ordering.{IsOrdered, ordered, placed}
use Rattle.row_groups.specs.Shape.{Shape}
use Rattle.row_groups.proofs.AlikeLemmas.{whole_more}
use Rattle.row_groups.proofs.FoundLemmas.{found_lines}
use Rattle.row_groups.proofs.OneOrderLemmas.{sorted_is_ordered}

pub numbers_rank : IsStrictWeakOrder is_numbered_lower
numbers_rank = IsStrictWeakOrder-by_number (λ (one : Numbered). one.number)

-- what is gathered where it is known which rows share a line
gathered_as : (shape : Shape) (rows : List Row) (found : List (List ℕ × Numbered)) (lines : List Numbered) (grouping : Grouping) → grouping_of shape.outs shape.group ≡ grouping
    → AreGathered (grouping_of shape.outs shape.group) shape rows found lines → AreGathered grouping shape rows found lines
gathered_as shape rows found lines grouping is are = subst (λ g. AreGathered g shape rows found lines) is are

gathered_from : (shape : Shape) (rows : List Row) (found : List (List ℕ × Numbered)) (lines : List Numbered) (grouping : Grouping) → grouping_of shape.outs shape.group ≡ grouping
    → AreGathered grouping shape rows found lines → AreGathered (grouping_of shape.outs shape.group) shape rows found lines
gathered_from shape rows found lines grouping is are = subst (λ g. AreGathered g shape rows found lines) (sym is) are

-- ---- one more row

grouping_is : (shape : Shape) (groups : GroupsSoFar) (grouping : Grouping) → groups.shape ≡ shape → grouping_of groups.shape.outs groups.shape.group ≡ grouping → grouping_of shape.outs shape.group ≡ grouping
grouping_is shape groups grouping same is = ap (λ (s : Shape). grouping_of s.outs s.group) (sym same) ∙ is

-- a row with a line of its own
pub each_grows : (shape : Shape) (rows : List Row) (row : Row) (groups new : GroupsSoFar) → AreGroupsOf shape rows groups → grouping_of groups.shape.outs groups.shape.group ≡ EachRow
    → new.shape ≡ groups.shape → new.found ≡ groups.found → new.lines ≡ groups.lines ++ line_of_row groups.shape row ∷ [] → AreGroupsOf shape (rows ++ row ∷ []) new
each_grows shape rows row groups new are is kept same added =
    let here = grouping_is shape groups EachRow are.shape_is is in
    let before = gathered_as shape rows groups.found groups.lines EachRow here are.gathered in
    record {
      shape_is = kept ∙ are.shape_is;
      gathered = gathered_from shape (rows ++ row ∷ []) new.found new.lines EachRow here
          (same ∙ before.0, added ∙ ap (λ (s : Shape). groups.lines ++ line_of_row s row ∷ []) are.shape_is ∙ ap (λ ls. ls ++ line_of_row shape row ∷ []) before.1 ∙ sym (map-append (line_of_row shape) rows (row ∷ [])));
    }

-- the one line
pub whole_line : (shape : Shape) (rows : List Row) (groups : GroupsSoFar) → AreGroupsOf shape rows groups → grouping_of groups.shape.outs groups.shape.group ≡ AllRows → lines_in groups.lines ≡ line_of shape [] (values_of (by_number rows)) ∷ []
whole_line shape rows groups are is = (gathered_as shape rows groups.found groups.lines AllRows (grouping_is shape groups AllRows are.shape_is is) are.gathered).1

-- rows of the one line
pub whole_grows : (shape : Shape) (rows : List Row) (row : Row) (more : List Row) (lowest count : ℕ) (values : List Value) (groups new : GroupsSoFar) → AreGroupsOf shape rows groups → AreAlike shape lowest count values row more
    → grouping_of groups.shape.outs groups.shape.group ≡ AllRows → new.shape ≡ groups.shape → new.found ≡ groups.found
    → lines_in new.lines ≡ with_rows count groups.shape.outs (line_of shape [] (values_of (by_number rows))) values ∷ [] → AreGroupsOf shape (rows ++ row ∷ more) new
whole_grows shape rows row more lowest count values groups new are alike is kept same added =
    let here = grouping_is shape groups AllRows are.shape_is is in
    let before = gathered_as shape rows groups.found groups.lines AllRows here are.gathered in
    record {
      shape_is = kept ∙ are.shape_is;
      gathered = gathered_from shape (rows ++ row ∷ more) new.found new.lines AllRows here
          (same ∙ before.0, added ∙ ap (λ (s : Shape). with_rows count s.outs (line_of shape [] (values_of (by_number rows))) values ∷ []) are.shape_is ∙ ap (λ line. line ∷ []) (sym (whole_more shape rows row more lowest count values alike)));
    }

-- a row of a group
pub group_grows : (shape : Shape) (rows rows' : List Row) (groups new : GroupsSoFar) → AreGroupsOf shape rows groups → grouping_of groups.shape.outs groups.shape.group ≡ ByValues
    → new.shape ≡ groups.shape → new.lines ≡ groups.lines → AreFound groups.shape rows' new.found → AreGroupsOf shape rows' new
group_grows shape rows rows' groups new are is kept same grown =
    let here = grouping_is shape groups ByValues are.shape_is is in
    let before = gathered_as shape rows groups.found groups.lines ByValues here are.gathered in
    record {
      shape_is = kept ∙ are.shape_is;
      gathered = gathered_from shape rows' new.found new.lines ByValues here (same ∙ before.0, subst (λ (s : Shape). AreFound s rows' new.found) are.shape_is grown);
    }

-- what is found, of groups by values
pub by_values : (shape : Shape) (rows : List Row) (groups : GroupsSoFar) → AreGroupsOf shape rows groups → grouping_of groups.shape.outs groups.shape.group ≡ ByValues → AreFound groups.shape rows groups.found
by_values shape rows groups are is =
    subst (λ (s : Shape). AreFound s rows groups.found) (sym are.shape_is) (gathered_as shape rows groups.found groups.lines ByValues (grouping_is shape groups ByValues are.shape_is is) are.gathered).1

-- ---- the groups of no rows

pub groups_of_none : (shape : Shape) (found : List (List ℕ × Numbered)) (lines : List Numbered) → found ≡ [] → lines_in lines ≡ made_lines shape [] → AreGroupsOf shape [] (record { shape = shape; found = found; lines = lines })
groups_of_none shape found lines none are = record { shape_is = refl; gathered = at (grouping_of shape.outs shape.group) are }
  where
    no_lines : (ls : List Numbered) → lines_in ls ≡ [] → ls ≡ []
    no_lines [] e = refl
    no_lines (l ∷ ls) e = cc

    at : (grouping : Grouping) → lines_in lines ≡ lines_by grouping shape [] → AreGathered grouping shape [] found lines
    at EachRow is = (none, no_lines lines is)
    at AllRows is = (none, is)
    at ByValues is = (no_lines lines is, record { small = tt; each = λ key. ap (λ (es : List (List ℕ × Numbered)). entries.lookup (bytes_eq key) es) none })

pub whole_is_there : (shape : Shape) (lines : List Numbered) → lines_in lines ≡ made_lines shape [] → grouping_of shape.outs shape.group ≡ AllRows → 1 ≤ length lines
whole_is_there shape lines are is =
    let one : length (lines_in lines) ≡ 1 = ap (λ (ls : List Line). length ls) (are ∙ ap (λ g. lines_by g shape []) is) in
    omega (arith, one, length-map lines (λ (l : Numbered). l.line))

pub nothing_of_none : (shape : Shape) → (grouping_of shape.outs shape.group ≡ AllRows → ⊥) → [] ≡ made_lines shape []
nothing_of_none shape not = at (grouping_of shape.outs shape.group) refl
  where
    at : (grouping : Grouping) → grouping_of shape.outs shape.group ≡ grouping → [] ≡ made_lines shape []
    at EachRow is = sym (ap (λ g. lines_by g shape []) is)
    at AllRows is = absurd (not is)
    at ByValues is = sym (ap (λ g. lines_by g shape []) is)

-- ---- all lines

ordered_rows : (shape : Shape) (rows : List Row) → lines_in (ordered is_numbered_lower (map (line_of_row shape) rows)) ≡ map (λ row. line_of shape row (row ∷ [])) (values_of (by_number rows))
ordered_rows shape rows = ap lines_in (whole rows) ∙ shown (by_number rows)
  where
    one : (row : Row) (rs : List Row) → placed is_numbered_lower (line_of_row shape row) (map (line_of_row shape) rs) ≡ map (line_of_row shape) (placed is_lower row rs)
    one row [] = refl
    one row (r ∷ rs) = at (is_lower r row) (one row rs)
      where
        at : (b : Bool) → placed is_numbered_lower (line_of_row shape row) (map (line_of_row shape) rs) ≡ map (line_of_row shape) (placed is_lower row rs)
            → cond b (line_of_row shape r ∷ placed is_numbered_lower (line_of_row shape row) (map (line_of_row shape) rs)) (line_of_row shape row ∷ line_of_row shape r ∷ map (line_of_row shape) rs)
            ≡ map (line_of_row shape) (cond b (r ∷ placed is_lower row rs) (row ∷ r ∷ rs))
        at true rest = ap (λ ls. line_of_row shape r ∷ ls) rest
        at false rest = refl

    whole : (rs : List Row) → ordered is_numbered_lower (map (line_of_row shape) rs) ≡ map (line_of_row shape) (by_number rs)
    whole [] = refl
    whole (r ∷ rs) = ap (placed is_numbered_lower (line_of_row shape r)) (whole rs) ∙ one r (by_number rs)

    shown : (rs : List Row) → lines_in (map (line_of_row shape) rs) ≡ map (λ row. line_of shape row (row ∷ [])) (values_of rs)
    shown [] = refl
    shown (r ∷ rs) = ap (λ ls. line_of shape r.values (r.values ∷ []) ∷ ls) (shown rs)

ordered_one : (line : Line) (lines : List Numbered) → lines_in lines ≡ line ∷ [] → lines_in (ordered is_numbered_lower lines) ≡ line ∷ []
ordered_one line [] e = e
ordered_one line (one ∷ []) e = e
ordered_one line (one ∷ other ∷ rest) e = cc

-- all lines by rising number are those that the query makes
pub all_made : (shape : Shape) (rows : List Row) (groups : GroupsSoFar) (all : List Numbered) → AreGroupsOf shape rows groups → DifferInNumber rows → AreAllLines groups.lines groups.found all → lines_in all ≡ made_lines shape (values_of (by_number rows))
all_made shape rows groups all are numbers lines = ap lines_in lines.same ∙ at (grouping_of shape.outs shape.group) are.gathered
  where
    nothing : (xs : List Numbered) → xs ++ [] ≡ xs
    nothing [] = refl
    nothing (x ∷ xs) = ap (λ r. x ∷ r) (nothing xs)

    no_others : (others : List Numbered) → length others ≡ 0 → others ≡ []
    no_others [] e = refl
    no_others (x ∷ xs) e = cc

    alone : groups.found ≡ [] → groups.lines ++ lines.others ≡ groups.lines
    alone none =
        ap (λ ls. groups.lines ++ ls) (no_others lines.others (length_permutation (entries.values_of groups.found) lines.others lines.permuted ∙ ap (λ (es : List (List ℕ × Numbered)). length (entries.values_of es)) none)) ∙ nothing groups.lines

    at : (grouping : Grouping) → AreGathered grouping shape rows groups.found groups.lines → lines_in (ordered is_numbered_lower (groups.lines ++ lines.others)) ≡ lines_by grouping shape (values_of (by_number rows))
    at EachRow both = ap (λ ls. lines_in (ordered is_numbered_lower ls)) (alone both.0 ∙ both.1) ∙ ordered_rows shape rows
    at AllRows both = ap (λ ls. lines_in (ordered is_numbered_lower ls)) (alone both.0) ∙ ordered_one (line_of shape [] (values_of (by_number rows))) groups.lines both.1
    at ByValues both = ap (λ ls. lines_in (ordered is_numbered_lower (ls ++ lines.others))) both.0 ∙ found_lines shape rows groups.found lines.others both.1 lines.differ numbers lines.permuted

-- ---- each line has a place for each entry of the list

all_wide : (shape : Shape) (X : Type 0) (first : X → List Value) (rows : X → List (List Value)) (xs : List X) → AreWide shape.outs (map (λ x. line_of shape (first x) (rows x)) xs)
all_wide shape X first rows [] = tt
all_wide shape X first rows (x ∷ xs) = (length-map shape.outs _, all_wide shape X first rows xs)

made_wide : (shape : Shape) (rows : List (List Value)) → AreWide shape.outs (made_lines shape rows)
made_wide shape rows = at (grouping_of shape.outs shape.group)
  where
    at : (grouping : Grouping) → AreWide shape.outs (lines_by grouping shape rows)
    at EachRow = all_wide shape (List Value) (λ row. row) (λ row. row ∷ []) rows
    at AllRows = (length-map shape.outs _, tt)
    at ByValues = all_wide shape (List Value) (λ row. row) (λ row. group_of (are_grouped shape.group) rows row) (firsts (are_grouped shape.group) rows)

-- ---- the end

pub answered : (shape : Shape) (lines closed sorted answer : List Line) → (closed ≡ lines) × (outgrown_sums shape.outs lines ≡ []) → IsOrdered shape.order closed sorted → answer ≡ cut shape.first sorted → AnswersLines shape lines answer
answered shape lines closed sorted answer both sorts cuts =
    record { whole = both.1; same = cuts ∙ ap (cut shape.first) (sorted_is_ordered shape.order lines sorted (subst (λ ls. IsOrdered shape.order ls sorted) both.0 sorts)) }

-- what is answered of the lines so far is the answer to the query
pub answers_rows : {E : Type 0} (shape : Shape) (rows : List Row) (groups : GroupsSoFar) (all : List Numbered) (result : Result (List Line) E) (Q : List ℕ → E → Type 0) → AreGroupsOf shape rows groups → DifferInNumber rows
    → AreAllLines groups.lines groups.found all
    → (AreWide groups.shape.outs (lines_in all) → MatchResult result (AnswersLines groups.shape (lines_in all)) (Q (outgrown_sums groups.shape.outs (lines_in all))))
    → MatchResult result (AnswersLines shape (made_lines shape (values_of (by_number rows)))) (Q (outgrown_sums shape.outs (made_lines shape (values_of (by_number rows)))))
answers_rows shape rows groups all result Q are numbers lines told =
    let made : lines_in all ≡ made_lines shape (values_of (by_number rows)) = all_made shape rows groups all are numbers lines in
    let wide : AreWide groups.shape.outs (lines_in all) = subst (λ (s : Shape). AreWide s.outs (lines_in all)) (sym are.shape_is) (subst (AreWide shape.outs) (sym made) (made_wide shape (values_of (by_number rows)))) in
    subst (λ (s : Shape). MatchResult result (AnswersLines s (made_lines shape (values_of (by_number rows)))) (Q (outgrown_sums s.outs (made_lines shape (values_of (by_number rows)))))) are.shape_is
    (subst (λ ls. MatchResult result (AnswersLines groups.shape ls) (Q (outgrown_sums groups.shape.outs ls))) made (told wide))

-- ---- the one line of all rows

pub whole_of_none : (shape : Shape) → grouping_of shape.outs shape.group ≡ AllRows → line_of shape [] [] ∷ [] ≡ made_lines shape []
whole_of_none shape is = sym (ap (λ g. lines_by g shape []) is)

pub one_changed : (change : Line → List Value → Line) (line : Line) (values : List Value) (lines : List Numbered) (old new : Numbered) → lines_in lines ≡ line ∷ [] → old ≡ get_or lines 0 old
    → new.line ≡ change old.line values → lines_in (slice_set lines 0 new) ≡ change line values ∷ []
one_changed change line values [] old new e at made = cc
one_changed change line values (one ∷ []) old new e at made =
    ap (λ l. l ∷ []) (made ∙ ap (λ (o : Numbered). change o.line values) at ∙ ap (λ l. change l values) (head e))
  where
    head : {a b : Line} {xs ys : List Line} → (a ∷ xs) ≡ (b ∷ ys) → a ≡ b
    head q = cc
one_changed change line values (one ∷ other ∷ rest) old new e at made = cc

-- one more of the rows
pub rows_more : (rows : List Row) (i : ℕ) (row : Row) (values : List Value) → i < length rows → row ≡ get_or rows i row → values ≡ row.values
    → take i rows ++ record { number = row.number; values = values } ∷ [] ≡ take (i + 1) rows
rows_more rows i row values within at is =
    ap (λ (vs : List Value). take i rows ++ record { number = row.number; values = vs } ∷ []) is ∙ ap (λ r. take i rows ++ r ∷ []) at ∙ sym (take_more rows i row within)

-- ---- which rows share a line

pub shared_else : (grouping : Grouping) → (grouping ≡ EachRow → ⊥) → IsTrue (are_shared grouping)
shared_else EachRow other = absurd (other refl)
shared_else AllRows other = refl
shared_else ByValues other = refl

pub by_values_else : (grouping : Grouping) → IsTrue (are_shared grouping) → (grouping ≡ AllRows → ⊥) → grouping ≡ ByValues
by_values_else EachRow shared other = cc
by_values_else AllRows shared other = absurd (other refl)
by_values_else ByValues shared other = refl
