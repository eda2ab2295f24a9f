-- Many rows with the same values among the groups.
use Rattle.std.proofs.Common.{◌≡◌, ℕ, List, [], ◌∷◌, ◌++◌, length, filter, fold, Bool, true, false, ◌&&◌, cond, Option, Some, None, refl, sym, ap, ◌∙◌, subst, append_assoc}
use Rattle.std.specs.Prelude.{IsTrue}
use Rattle.std.specs.List.{AllByRecursion}
use Rattle.std.specs.Map.{lookup}
use Rattle.std.specs.Str.{bytes_eq}
use Rattle.std.specs.Cmp.Lexicographic.{bytes_decides}
use Rattle.std.proofs.lemmas.Cmp.{nat_list_eq_equiv}
use Rattle.mdc_values.specs.declared.value.Value.{Value}
use Rattle.mdc_ast.specs.declared.row.Row.{Row}
use Rattle.mdc_ast.specs.Truth.{value_at}
use Rattle.row_groups.specs.declared.line.Line.{Line}
use Rattle.row_groups.specs.Adding.{Numbered, joined, joined_many, line_of_many, line_of_row, with_row, with_rows}
use Rattle.row_groups.specs.Gathering.{AreFound, has_key, line_of_group}
use Rattle.row_groups.specs.Keys.{are_small, code, group_key}
use Rattle.row_groups.specs.Lines.{line_of}
use Rattle.row_groups.specs.Naming.{AgreeIn, AgreeInNamed, AreAlike, lowest_of}
use Rattle.row_groups.specs.Numbers.{by_number, values_of}
use Rattle.row_groups.specs.Shape.{Shape}
use Rattle.row_groups.specs.Values.{is_small}
use Rattle.row_groups.proofs.AddingLemmas.{line_placed, no_higher}
use Rattle.row_groups.proofs.FoundLemmas.{AreSmall, at_key, joined_to, number_of}
use Rattle.row_groups.proofs.ManyLemmas.{AllAgree, fold_begun, fold_joined, fold_whole}
use Rattle.row_groups.proofs.NamingLemmas.{itself_agrees}
use Rattle.row_groups.proofs.NumberLemmas.{ordered_more}

-- a row is like itself
pub alike_itself : (shape : Shape) (row : Row) → AreAlike shape row.number 1 row.values row []
alike_itself shape row = record { many = refl; first = refl; agree = (itself_agrees shape row, tt) }

key_agree : (columns : List ℕ) (a b : List Value) → AgreeIn columns a b → group_key columns a ≡ group_key columns b
key_agree [] a b agree = refl
key_agree (column ∷ columns) a b agree = let here = agree.0 in let rest = key_agree columns a b agree.1 in cc

small_agree : (columns : List ℕ) (a b : List Value) → AgreeIn columns a b → are_small columns a ≡ are_small columns b
small_agree [] a b agree = refl
small_agree (column ∷ columns) a b agree = let here = agree.0 in let rest = small_agree columns a b agree.1 in cc

nothing : {X : Type 0} (xs : List X) → xs ++ [] ≡ xs
nothing [] = refl
nothing (x ∷ xs) = ap (λ r. x ∷ r) (nothing xs)

module _ (shape : Shape) where
  -- rows one after another behind what stands at a key
  joined_rows : Option Numbered → List Row → Option Numbered
  joined_rows old [] = old
  joined_rows old (row ∷ rows) = joined_rows (Some (joined_to shape old row)) rows

  joined_fold : (one : Numbered) (rows : List Row) → joined_rows (Some one) rows ≡ Some (fold (joined shape) one rows)
  unfolding joined_rows
  joined_fold one [] = refl
  joined_fold one (row ∷ rows) = joined_fold (joined shape one row) rows

  -- many rows behind a line, or of a line of their own
  abbrev pub all_joined : ℕ → Option Numbered → Row → Numbered
  all_joined n None row = line_of_many shape n row
  all_joined n (Some one) row = joined_many shape n one row

  rows_joined : (old : Option Numbered) (row : Row) (rows : List Row) (values : List Value) → AllAgree shape values (row ∷ rows)
      → joined_rows old (row ∷ rows) ≡ Some (all_joined (length (row ∷ rows)) old (record { number = lowest_of row rows; values = values }))
  unfolding joined_rows
  rows_joined None row rows values agree = joined_fold (line_of_row shape row) rows ∙ ap Some (fold_begun shape row rows values agree)
  rows_joined (Some one) row rows values agree = joined_fold (joined shape one row) rows ∙ ap Some (fold_joined shape one row rows values agree)

  HaveKey : List ℕ → List Row → Type 0
  HaveKey key rows = AllByRecursion (λ (row : Row). group_key shape.group row.values ≡ key) rows

  at_key_many : (rows more : List Row) (key q : List ℕ) → HaveKey key more
      → line_of_group shape (filter (has_key shape.group q) (by_number (rows ++ more)))
      ≡ cond (bytes_eq q key) (joined_rows (line_of_group shape (filter (has_key shape.group q) (by_number rows))) more) (line_of_group shape (filter (has_key shape.group q) (by_number rows)))
  unfolding joined_rows HaveKey
  at_key_many rows [] key q have = ap (λ (rs : List Row). line_of_group shape (filter (has_key shape.group q) (by_number rs))) (nothing rows) ∙ at (bytes_eq q key) (line_of_group shape (filter (has_key shape.group q) (by_number rows)))
    where
      at : (b : Bool) (x : Option Numbered) → x ≡ cond b x x
      at true x = refl
      at false x = refl
  at_key_many rows (row ∷ more) key q have =
      ap (λ (rs : List Row). line_of_group shape (filter (has_key shape.group q) (by_number rs))) (sym (append_assoc rows (row ∷ []) more))
      ∙ at_key_many (rows ++ row ∷ []) more key q have.1
      ∙ ap (λ old. cond (bytes_eq q key) (joined_rows old more) old) (at_key shape rows row q ∙ ap (λ k. cond (bytes_eq q k) (Some (joined_to shape (line_of_group shape (filter (has_key shape.group q) (by_number rows))) row)) (line_of_group shape (filter (has_key shape.group q) (by_number rows)))) have.0)
      ∙ at (bytes_eq q key) (line_of_group shape (filter (has_key shape.group q) (by_number rows)))
    where
      at : (b : Bool) (old : Option Numbered) → cond b (joined_rows (cond b (Some (joined_to shape old row)) old) more) (cond b (Some (joined_to shape old row)) old) ≡ cond b (joined_rows (Some (joined_to shape old row)) more) old
      at true old = refl
      at false old = refl

  keys_agree : (values : List Value) (rows : List Row) → AllAgree shape values rows → HaveKey (group_key shape.group values) rows
  unfolding HaveKey
  keys_agree values [] agree = tt
  keys_agree values (row ∷ rows) agree = (key_agree shape.group row.values values agree.0.grouped, keys_agree values rows agree.1)

  small_more : (rows more : List Row) (values : List Value) → AreSmall shape rows → IsTrue (are_small shape.group values) → AllAgree shape values more → AreSmall shape (rows ++ more)
  small_more [] [] values small one agree = tt
  small_more [] (row ∷ more) values small one agree = (subst IsTrue (sym (small_agree shape.group row.values values agree.0.grouped)) one, small_more [] more values tt one agree.1)
  small_more (r ∷ rows) more values small one agree = (small.0, small_more rows more values small.1 one agree)

  agree_of : (lowest count : ℕ) (values : List Value) (row : Row) (rows : List Row) → AreAlike shape lowest count values row rows → AllAgree shape values (row ∷ rows)
  agree_of lowest count values row rows alike = alike.agree

  -- one entry changes
  pub found_more : (rows : List Row) (row : Row) (more : List Row) (lowest count : ℕ) (values : List Value) (key : List ℕ) (entries entries' : List (List ℕ × Numbered)) (new : Numbered) → AreFound shape rows entries
      → AreAlike shape lowest count values row more → IsTrue (are_small shape.group values)
      → key ≡ group_key shape.group values → new ≡ all_joined count (lookup (bytes_eq key) entries) (record { number = lowest; values = values })
      → ((q : List ℕ) → lookup (bytes_eq q) entries' ≡ cond (bytes_eq key q) (Some new) (lookup (bytes_eq q) entries)) → AreFound shape (rows ++ row ∷ more) entries'
  found_more rows row more lowest count values key entries entries' new are alike one is made changed = record {
    small = small_more rows (row ∷ more) values are.small one (agree_of lowest count values row more alike);
    each = λ q. changed q ∙ here q (bytes_eq key q) refl ∙ sym (at_key_many rows (row ∷ more) (group_key shape.group values) q (keys_agree values (row ∷ more) (agree_of lowest count values row more alike)));
  }
    where
      all : (old : Option Numbered) → Some (all_joined count old (record { number = lowest; values = values })) ≡ joined_rows old (row ∷ more)
      all old =
          ap (λ n. Some (all_joined n old (record { number = lowest; values = values }))) (sym alike.many) ∙ ap (λ n. Some (all_joined (length (row ∷ more)) old (record { number = n; values = values }))) (sym alike.first)
          ∙ sym (rows_joined old row more values (agree_of lowest count values row more alike))

      here : (q : List ℕ) (b : Bool) → bytes_eq key q ≡ b → cond (bytes_eq key q) (Some new) (lookup (bytes_eq q) entries)
          ≡ cond (bytes_eq q (group_key shape.group values)) (joined_rows (line_of_group shape (filter (has_key shape.group q) (by_number rows))) (row ∷ more)) (line_of_group shape (filter (has_key shape.group q) (by_number rows)))
      here q true e =
          let same : key ≡ q = (bytes_decides key q).0 e in
          let mine : bytes_eq q (group_key shape.group values) ≡ true = ap (bytes_eq q) (sym is) ∙ nat_list_eq_equiv.symm q key ∙ e in
          rw (e, mine) (ap Some (made ∙ ap (λ k. all_joined count (lookup (bytes_eq k) entries) (record { number = lowest; values = values })) same) ∙ all (lookup (bytes_eq q) entries) ∙ ap (λ old. joined_rows old (row ∷ more)) (are.each q))
      here q false e =
          let other : bytes_eq q (group_key shape.group values) ≡ false = ap (bytes_eq q) (sym is) ∙ nat_list_eq_equiv.symm q key ∙ e in
          rw (e, other) (are.each q)

  -- ---- the one line of all rows

  whole_fold : (rows more : List Row) → line_of shape [] (values_of (by_number (rows ++ more))) ≡ fold (λ (l : Line) (r : Row). with_row shape.outs l r.values) (line_of shape [] (values_of (by_number rows))) more
  whole_fold rows [] = ap (λ (rs : List Row). line_of shape [] (values_of (by_number rs))) (nothing rows)
  whole_fold rows (row ∷ more) =
      ap (λ (rs : List Row). line_of shape [] (values_of (by_number rs))) (sym (append_assoc rows (row ∷ []) more)) ∙ whole_fold (rows ++ row ∷ []) more
      ∙ ap (λ (l : Line). fold (λ (l : Line) (r : Row). with_row shape.outs l r.values) l more)
      (ap (λ (rs : List Row). line_of shape [] (values_of rs)) (ordered_more number_of rows row) ∙ line_placed no_higher shape [] row (by_number rows))

  pub whole_more : (rows : List Row) (row : Row) (more : List Row) (lowest count : ℕ) (values : List Value) → AreAlike shape lowest count values row more
      → line_of shape [] (values_of (by_number (rows ++ row ∷ more))) ≡ with_rows count shape.outs (line_of shape [] (values_of (by_number rows))) values
  whole_more rows row more lowest count values alike =
      whole_fold rows (row ∷ more) ∙ fold_whole shape (line_of shape [] (values_of (by_number rows))) row more values (agree_of lowest count values row more alike)
      ∙ ap (λ n. with_rows n shape.outs (line_of shape [] (values_of (by_number rows))) values) alike.many
