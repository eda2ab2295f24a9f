-- What is found by keys, in the order of the rows, is the groups' lines.
use Rattle.std.proofs.Common.{◌≡◌, ℕ, ◌<◌, List, [], ◌∷◌, ◌++◌, map, filter, Bool, true, false, cond, ◌==◌, ◌⊎◌, inl, inr, Option, Some, None, refl, sym, ap, ◌∙◌, subst, arith}
use Rattle.std.specs.Prelude.{IsTrue}
use Rattle.std.specs.List.{AllByRecursion, IsDistinct}
use Rattle.std.specs.List.Sorted.{IsPermutation}
use Rattle.std.specs.Map.{keys_of, lookup}
use Rattle.std.specs.Map as entries
use Rattle.std.specs.Str.{bytes_eq}
use Rattle.std.specs.Cmp.Lexicographic.{bytes_decides}
use Rattle.std.proofs.lemmas.Bool.Decides.{nat_tests}
use Rattle.std.proofs.lemmas.Cmp.{nat_eq_equiv, nat_list_eq_equiv}
use Rattle.std.proofs.lemmas.List.Sorted.{IsPermutation-map, IsPermutation-sym}
use Rattle.std.proofs.lemmas.Map.Keys.{IsDistinct-IsPermutation}
use Rattle.mdc_ast.specs.declared.row.Row.{Row}
use Rattle.row_groups.specs.Adding.{Numbered, is_numbered_lower, joined, line_of_row, lines_in}
use Rattle.row_groups.specs.Firsts.{firsts, group_of}
use Rattle.row_groups.specs.Gathering.{AreFound, has_key, line_of_group}
use Rattle.row_groups.specs.Keys.{are_small, group_key}
use Rattle.row_groups.specs.Lines.{are_grouped, group_lines, line_of}
use Rattle.row_groups.specs.Numbers.{DifferInNumber, by_number, values_of}
use Rattle.row_groups.specs.Ordering.{ordered, placed}
use Rattle.row_groups.specs.Shape.{Shape}
use Rattle.row_groups.proofs.AddingLemmas.{group_joined, no_higher}
use Rattle.row_groups.proofs.GroupLemmas.{all_first, filter_same, first_in, firsts_rise, firsts_shown, from_firsts, group_shown, passes_first, to_firsts}
use Rattle.row_groups.proofs.KeyLemmas.{grouped-refl, keys_same}
use Rattle.row_groups.proofs.NumberLemmas.{IsIn, RisesStrictly, all_in, all_ordered, from_map, filter_placed, from_ordered, in_map, in_permuted, ordered_more, rises_ordered, strictly_ordered, strictly_same, to_ordered}

abbrev pub number_of : Row → ℕ
number_of row = row.number

abbrev pub AreSmall : Shape → List Row → Type 0
AreSmall shape rows = AllByRecursion (λ row. IsTrue (are_small shape.group row.values)) rows

-- ---- one more row

-- the line with one more row, or of it alone
abbrev pub joined_to : Shape → Option Numbered → Row → Numbered
joined_to shape None row = line_of_row shape row
joined_to shape (Some one) row = joined shape one row

group_more : (shape : Shape) (row : Row) (rows : List Row) → line_of_group shape (placed no_higher row rows) ≡ Some (joined_to shape (line_of_group shape rows) row)
group_more shape row [] = refl
group_more shape row (first ∷ rows) = group_joined shape row first rows

pub at_key : (shape : Shape) (rows : List Row) (row : Row) (key : List ℕ)
    → line_of_group shape (filter (has_key shape.group key) (by_number (rows ++ row ∷ [])))
    ≡ cond (bytes_eq key (group_key shape.group row.values)) (Some (joined_to shape (line_of_group shape (filter (has_key shape.group key) (by_number rows))) row)) (line_of_group shape (filter (has_key shape.group key) (by_number rows)))
at_key shape rows row key =
    ap (λ (rs : List Row). line_of_group shape (filter (has_key shape.group key) rs)) (ordered_more number_of rows row)
    ∙ ap (line_of_group shape) (filter_placed number_of (has_key shape.group key) row (by_number rows) (rises_ordered number_of rows))
    ∙ at (bytes_eq key (group_key shape.group row.values))
  where
    at : (b : Bool) → line_of_group shape (cond b (placed no_higher row (filter (has_key shape.group key) (by_number rows))) (filter (has_key shape.group key) (by_number rows)))
        ≡ cond b (Some (joined_to shape (line_of_group shape (filter (has_key shape.group key) (by_number rows))) row)) (line_of_group shape (filter (has_key shape.group key) (by_number rows)))
    at true = group_more shape row (filter (has_key shape.group key) (by_number rows))
    at false = refl

-- ---- entries with keys that differ

-- each entry is found by its key
found_each : (es : List (List ℕ × Numbered)) → IsDistinct bytes_eq (keys_of es) → AllByRecursion (λ (e : List ℕ × Numbered). lookup (bytes_eq e.0) es ≡ Some e.1) es
unfolding IsDistinct
found_each [] differ = tt
found_each (e ∷ es) differ = (let mine = nat_list_eq_equiv.refl e.0 in rw mine refl, later es es differ.0 (found_each es differ.1))
  where
    later : (xs ys : List (List ℕ × Numbered)) → AllByRecursion (λ k. bytes_eq e.0 k ≡ false) (keys_of xs) → AllByRecursion (λ (x : List ℕ × Numbered). lookup (bytes_eq x.0) ys ≡ Some x.1) xs
        → AllByRecursion (λ (x : List ℕ × Numbered). lookup (bytes_eq x.0) (e ∷ ys) ≡ Some x.1) xs
    later [] ys apart all = tt
    later (x ∷ xs) ys apart all = (let other = nat_list_eq_equiv.symm x.0 e.0 ∙ apart.0 in rw other all.0, later xs ys apart.1 all.1)

in_values : (key : List ℕ) (es : List (List ℕ × Numbered)) (one : Numbered) → lookup (bytes_eq key) es ≡ Some one → IsIn one (entries.values_of es)
in_values key [] one e = cc
in_values key (x ∷ es) one e = at (bytes_eq key x.0) refl (in_values key es one)
  where
    at : (b : Bool) → bytes_eq key x.0 ≡ b → (lookup (bytes_eq key) es ≡ Some one → IsIn one (entries.values_of es)) → (one ≡ x.1) ⊎ IsIn one (entries.values_of es)
    at true q later = let same : Some x.1 ≡ Some one = rw q at e in inl (sym (inside same))
      where
        inside : {a b : Numbered} → Some a ≡ Some b → a ≡ b
        inside r = cc
    at false q later = inr (later (rw q at e))

all_values : (P : Numbered → Type 0) (es : List (List ℕ × Numbered)) → AllByRecursion (λ (e : List ℕ × Numbered). P e.1) es → (one : Numbered) → IsIn one (entries.values_of es) → P one
all_values P [] all one i = absurd i
all_values P (e ∷ es) all one i = elim i [ inl same ↦ subst P (sym same) all.0 | inr j ↦ all_values P es all.1 one j ]

-- where the number of a line tells its key, lines with keys that differ differ in number
numbers_differ : (key_at : ℕ → List ℕ) (es : List (List ℕ × Numbered)) → IsDistinct bytes_eq (keys_of es) → AllByRecursion (λ (e : List ℕ × Numbered). e.0 ≡ key_at e.1.number) es
    → IsDistinct (λ a b. a == b) (map (λ (one : Numbered). one.number) (entries.values_of es))
unfolding IsDistinct
numbers_differ key_at [] differ all = tt
numbers_differ key_at (e ∷ es) differ all = (apart es differ.0 all.1, numbers_differ key_at es differ.1 all.1)
  where
    apart : (xs : List (List ℕ × Numbered)) → AllByRecursion (λ k. bytes_eq e.0 k ≡ false) (keys_of xs) → AllByRecursion (λ (x : List ℕ × Numbered). x.0 ≡ key_at x.1.number) xs
        → AllByRecursion (λ n. (e.1.number == n) ≡ false) (map (λ (one : Numbered). one.number) (entries.values_of xs))
    apart [] other told = tt
    apart (x ∷ xs) other told = (at (e.1.number == x.1.number) refl, apart xs other.1 told.1)
      where
        at : (b : Bool) → (e.1.number == x.1.number) ≡ b → (e.1.number == x.1.number) ≡ false
        at true q =
            let n : e.1.number ≡ x.1.number = grind (arith, nat_tests) in
            let same : e.0 ≡ x.0 = all.0 ∙ ap key_at n ∙ sym told.0 in
            let yes : bytes_eq e.0 x.0 ≡ true = (bytes_decides e.0 x.0).1 same in
            let no : bytes_eq e.0 x.0 ≡ false = other.0 in
            cc
        at false q = q

-- ---- all lines

module _ (shape : Shape) where
  -- two rows are of one group
  abbrev pub grouped : Row → Row → Bool
  grouped a b = are_grouped shape.group a.values b.values

  grouped_itself : (row : Row) → grouped row row ≡ true
  grouped_itself row = grouped-refl shape.group row.values

  -- the line of the group that a row begins
  abbrev pub line_from : List Row → Row → Numbered
  line_from rows first = record { number = first.number; line = line_of shape first.values (values_of (filter (grouped first) rows)) }

  -- the lines of all groups
  abbrev pub lines_from : List Row → List Numbered
  lines_from rows = map (line_from rows) (firsts grouped rows)

  pub lines_are : (rows : List Row) → lines_in (lines_from rows) ≡ group_lines shape (values_of rows)
  lines_are rows = all (firsts grouped rows) ∙ ap (map (λ row. line_of shape row (group_of (are_grouped shape.group) (values_of rows) row))) (sym (firsts_shown (λ (row : Row). row.values) (are_grouped shape.group) [] rows))
    where
      all : (xs : List Row) → lines_in (map (line_from rows) xs) ≡ map (λ row. line_of shape row (group_of (are_grouped shape.group) (values_of rows) row)) (values_of xs)
      all [] = refl
      all (x ∷ xs) =
          let here : line_of shape x.values (values_of (filter (grouped x) rows)) ≡ line_of shape x.values (group_of (are_grouped shape.group) (values_of rows) x.values)
          = ap (line_of shape x.values) (sym (group_shown (λ (row : Row). row.values) (are_grouped shape.group) x.values rows)) in
          let rest = all xs in cc

  -- the rows with the key of a row are its group
  same_rows : (first : Row) (rows : List Row) → IsTrue (are_small shape.group first.values) → AreSmall shape rows → filter (has_key shape.group (group_key shape.group first.values)) rows ≡ filter (grouped first) rows
  same_rows first rows one small = filter_same (has_key shape.group (group_key shape.group first.values)) (grouped first) rows (all rows small)
    where
      all : (xs : List Row) → AreSmall shape xs → AllByRecursion (λ x. has_key shape.group (group_key shape.group first.values) x ≡ grouped first x) xs
      all [] small = tt
      all (x ∷ xs) small = (keys_same shape.group first.values x.values one small.0, all xs small.1)

  rise_alike : (rows xs : List Row) → RisesStrictly number_of xs → RisesStrictly (λ (one : Numbered). one.number) (map (line_from rows) xs)
  rise_alike rows [] up = tt
  rise_alike rows (x ∷ xs) up = (all xs up.0, rise_alike rows xs up.1)
    where
      all : (ys : List Row) → AllByRecursion (λ y. number_of x < number_of y) ys → AllByRecursion (λ (one : Numbered). number_of x < one.number) (map (line_from rows) ys)
      all [] low = tt
      all (y ∷ ys) low = (low.0, all ys low.1)

  -- the key of the row with a number
  key_at : List Row → ℕ → List ℕ
  key_at [] n = []
  key_at (row ∷ rows) n = cond (row.number == n) (group_key shape.group row.values) (key_at rows n)

  key_of_row : (rows : List Row) (row : Row) → RisesStrictly number_of rows → IsIn row rows → key_at rows row.number ≡ group_key shape.group row.values
  unfolding key_at
  key_of_row [] row up i = absurd i
  key_of_row (r ∷ rows) row up i = elim i [
    | inl e ↦ (let n : (r.number == row.number) ≡ true = (let same : row.number ≡ r.number = ap number_of e in grind (arith, nat_tests)) in rw n (ap (λ (x : Row). group_key shape.group x.values) (sym e)))
    | inr j ↦ (let n : (r.number == row.number) ≡ false = (let lt = all_in (λ w. number_of r < number_of w) row rows up.0 j in grind (arith, nat_tests)) in rw n (key_of_row rows row up.1 j))
  ]

  -- what is found at a key, where the rows rise
  record IsLineAt (rows : List Row) (key : List ℕ) (one : Numbered) : Type 0 where
    first : Row
    begins : IsIn first (firsts grouped rows)
    there : IsIn first rows
    key_is : key ≡ group_key shape.group first.values
    line_is : one ≡ line_from rows first

  line_at : (rows : List Row) (key : List ℕ) (one : Numbered) → AreSmall shape rows → line_of_group shape (filter (has_key shape.group key) rows) ≡ Some one → IsLineAt rows key one
  line_at rows key one small is = at (filter (has_key shape.group key) rows) refl is
    where
      at : (xs : List Row) → filter (has_key shape.group key) rows ≡ xs → line_of_group shape xs ≡ Some one → IsLineAt rows key one
      at [] e s = cc
      at (first ∷ rest) e s =
          let passes : bytes_eq key (group_key shape.group first.values) ≡ true = passes_first (has_key shape.group key) first rest rows e in
          let mine : key ≡ group_key shape.group first.values = (bytes_decides key (group_key shape.group first.values)).0 passes in
          let one_small : IsTrue (are_small shape.group first.values) = all_first (λ row. IsTrue (are_small shape.group row.values)) (has_key shape.group key) first rest rows small e in
          let group : filter (grouped first) rows ≡ first ∷ rest = sym (same_rows first rows one_small small) ∙ ap (λ k. filter (has_key shape.group k) rows) (sym mine) ∙ e in
          record {
            first = first;
            begins = to_firsts grouped grouped_itself [] rows first rest group refl;
            there = first_in (has_key shape.group key) first rest rows e;
            key_is = mine;
            line_is = inside s ∙ ap (λ (rs : List Row). record { number = first.number; line = line_of shape first.values (values_of rs) }) (sym group);
          }
        where
          inside : {a b : Numbered} → Some a ≡ Some b → b ≡ a
          inside r = cc

  -- the lines that are found, in whatever order, by rising number
  pub found_lines : (rows : List Row) (entries' : List (List ℕ × Numbered)) (lines : List Numbered) → AreFound shape rows entries' → IsDistinct bytes_eq (keys_of entries') → DifferInNumber rows → IsPermutation (entries.values_of entries') lines
      → lines_in (ordered is_numbered_lower lines) ≡ group_lines shape (values_of (by_number rows))
  found_lines rows entries' lines are differ numbers permuted = ap lines_in same ∙ lines_are sorted
    where
      sorted : List Row
      sorted = by_number rows

      up : RisesStrictly number_of sorted
      up = strictly_ordered number_of rows numbers

      small : AreSmall shape sorted
      small = all_ordered number_of (λ row. IsTrue (are_small shape.group row.values)) rows are.small

      at : (es : List (List ℕ × Numbered)) → AllByRecursion (λ (e : List ℕ × Numbered). lookup (bytes_eq e.0) entries' ≡ Some e.1) es → AllByRecursion (λ (e : List ℕ × Numbered). IsLineAt sorted e.0 e.1) es
      at [] found = tt
      at (e ∷ es) found = (line_at sorted e.0 e.1 small (sym (are.each e.0) ∙ found.0), at es found.1)

      all : AllByRecursion (λ (e : List ℕ × Numbered). IsLineAt sorted e.0 e.1) entries'
      all = at entries' (found_each entries' differ)

      told : (es : List (List ℕ × Numbered)) → AllByRecursion (λ (e : List ℕ × Numbered). IsLineAt sorted e.0 e.1) es → AllByRecursion (λ (e : List ℕ × Numbered). e.0 ≡ key_at sorted e.1.number) es
      told [] lines = tt
      told (e ∷ es) lines =
          let line = lines.0 in
          (line.key_is ∙ sym (key_of_row sorted line.first up line.there) ∙ ap (key_at sorted) (ap (λ (one : Numbered). one.number) (sym line.line_is)), told es lines.1)

      into : (es : List (List ℕ × Numbered)) → AllByRecursion (λ (e : List ℕ × Numbered). IsLineAt sorted e.0 e.1) es → AllByRecursion (λ (e : List ℕ × Numbered). IsIn e.1 (lines_from sorted)) es
      into [] lines = tt
      into (e ∷ es) lines = (let line = lines.0 in subst (λ one. IsIn one (lines_from sorted)) (sym line.line_is) (in_map (line_from sorted) line.first (firsts grouped sorted) line.begins), into es lines.1)

      back : (first : Row) → IsIn first (firsts grouped sorted) → IsIn (line_from sorted first) (entries.values_of entries')
      back first i =
          let both = from_firsts grouped grouped_itself [] sorted first i in
          let group : filter (grouped first) sorted ≡ first ∷ both.1.0 = both.1.1 in
          let one_small : IsTrue (are_small shape.group first.values) = all_first (λ row. IsTrue (are_small shape.group row.values)) (grouped first) first both.1.0 sorted small group in
          in_values (group_key shape.group first.values) entries' (line_from sorted first)
          (are.each (group_key shape.group first.values) ∙ ap (line_of_group shape) (same_rows first sorted one_small small ∙ group)
          ∙ ap (λ (rs : List Row). Some (line_as first rs)) (sym group))
        where
          line_as : Row → List Row → Numbered
          line_as first rs = record { number = first.number; line = line_of shape first.values (values_of rs) }

      lines_differ : IsDistinct (λ a b. a == b) (map (λ (one : Numbered). one.number) lines)
      lines_differ =
          IsDistinct-IsPermutation (λ a b. a == b) nat_eq_equiv.symm (map (λ (one : Numbered). one.number) (entries.values_of entries')) (map (λ (one : Numbered). one.number) lines)
          (IsPermutation-map (λ (one : Numbered). one.number) (entries.values_of entries') lines permuted) (numbers_differ (key_at sorted) entries' differ (told entries' all))

      same : ordered is_numbered_lower lines ≡ lines_from sorted
      same =
          strictly_same (λ (one : Numbered). one.number) (ordered is_numbered_lower lines) (lines_from sorted) (strictly_ordered (λ (one : Numbered). one.number) lines lines_differ)
          (rise_alike sorted (firsts grouped sorted) (firsts_rise grouped grouped_itself number_of [] sorted up))
          (λ one i.
          all_values (λ one. IsIn one (lines_from sorted)) entries' (into entries' all) one
          (in_permuted lines (entries.values_of entries') (IsPermutation-sym (entries.values_of entries') lines permuted) one (from_ordered (λ (one : Numbered). one.number) one lines i)))
          (λ one i.
          to_ordered (λ (one : Numbered). one.number) one lines
          (in_permuted (entries.values_of entries') lines permuted one
          (let made = from_map (line_from sorted) one (firsts grouped sorted) i in subst (λ one. IsIn one (entries.values_of entries')) (sym made.2) (back made.0 made.1))))
