-- Many rows with the same values are added as one after another is.
use Rattle.std.proofs.Common.{◌≡◌, ℕ, zero, suc, ℤ, pos, ◌+ℤ◌, ◌*ℤ◌, ◌+◌, ◌<◌, ◌≤◌, List, [], ◌∷◌, ◌++◌, map, length, filter, fold, Bool, true, false, ◌&&◌, cond, if◌then◌else◌, Option, Some, None, refl, sym, ap, ◌∙◌, subst, arith, append_assoc}
use Rattle.std.proofs.Math.IntN.{*ℤ-one, *ℤ_comm, +ℤ_assoc, +ℤ_comm, suc_ℤ-*ℤ}
use Rattle.std.specs.Prelude.{IsTrue, nat_lt}
use Rattle.std.specs.List.{AllByRecursion}
use Rattle.std.specs.Map.{lookup}
use Rattle.std.specs.Str.{bytes_eq}
use Rattle.std.proofs.lemmas.Bool.Decides.{nat_tests}
use Rattle.mdc_values.specs.declared.value.Value.{Value}
use Rattle.mdc_ast.specs.declared.bound.BoundOut.{BoundOut}
use Rattle.mdc_ast.specs.declared.bound.BoundOut.TheVariants as out
use Rattle.mdc_ast.specs.declared.row.Row.{Row}
use Rattle.mdc_ast.specs.Truth.{value_at}
use Rattle.mdc_ast.specs.Database.{is_null}
use Rattle.row_groups.specs.declared.line.Line.{Line}
use Rattle.row_groups.specs.declared.line.Shown.{Shown}
use Rattle.row_groups.specs.declared.line.Shown.TheVariants as shown
use Rattle.row_groups.specs.Adding.{Numbered, added, begun, begun_with, in_places, joined, joined_many, line_of_many, line_of_row, many_added, plus_many, with_row, with_rows}
use Rattle.row_groups.specs.Lines.{line_of, plus, shown_of}
use Rattle.row_groups.specs.Naming.{AgreeIn, AgreeInNamed, columns_of, lowest_of}
use Rattle.row_groups.specs.Shape.{Shape}
use Rattle.row_groups.specs.Values.{greater, lesser, number_in}
use Rattle.row_groups.proofs.AddingLemmas.{greater-again, lesser-again}
use Rattle.row_groups.proofs.NamingLemmas.{AgreeShown, line_same, sorts_same}
use Rattle.row_groups.proofs.ShownLemmas.{line_more}

-- ---- a place

sum_one : (total : Option ℤ) (value : Value) → plus_many total 1 value ≡ plus total value
unfolding lib.IntN.one
sum_one None value = ap Some (*ℤ-one (number_in value))
sum_one (Some t) value = ap (λ n. Some (t +ℤ n)) (*ℤ-one (number_in value))

times_more : (n : ℕ) (m : ℤ) → m *ℤ pos (suc n) ≡ m +ℤ m *ℤ pos n
times_more n m = *ℤ_comm m (pos (suc n)) ∙ suc_ℤ-*ℤ (pos n) m ∙ ap (λ k. k +ℤ m) (*ℤ_comm (pos n) m) ∙ +ℤ_comm (m *ℤ pos n) m

sum_more : (n : ℕ) (total : Option ℤ) (value : Value) → plus_many total (suc n) value ≡ plus_many (plus total value) n value
sum_more n None value = ap Some (times_more n (number_in value))
sum_more n (Some t) value = ap (λ m. Some (t +ℤ m)) (times_more n (number_in value)) ∙ ap Some (sym (+ℤ_assoc t (number_in value) (number_in value *ℤ pos n)))

place_one : (out : BoundOut) (was : Shown) (row : List Value) → many_added 1 out was row ≡ added out was row
place_one (out.Column column) was row = refl
place_one out.CountAll (shown.Value v) row = refl
place_one out.CountAll (shown.Count m) row = refl
place_one out.CountAll (shown.Sum t) row = refl
place_one (out.Count column) (shown.Value v) row = refl
place_one (out.Count column) (shown.Count m) row = refl
place_one (out.Count column) (shown.Sum t) row = refl
place_one (out.Sum column) (shown.Value v) row = refl
place_one (out.Sum column) (shown.Count m) row = refl
place_one (out.Sum column) (shown.Sum t) row = ap (λ s. if is_null (value_at row column) then shown.Sum t else shown.Sum s) (sum_one t (value_at row column))
place_one (out.Min column) (shown.Value v) row = refl
place_one (out.Min column) (shown.Count m) row = refl
place_one (out.Min column) (shown.Sum t) row = refl
place_one (out.Max column) (shown.Value v) row = refl
place_one (out.Max column) (shown.Count m) row = refl
place_one (out.Max column) (shown.Sum t) row = refl

place_more : (n : ℕ) (out : BoundOut) (was : Shown) (row : List Value) → many_added (suc n) out was row ≡ many_added n out (added out was row) row
place_more n (out.Column column) was row = refl
place_more n out.CountAll (shown.Value v) row = refl
place_more n out.CountAll (shown.Count m) row = ap shown.Count (omega arith)
place_more n out.CountAll (shown.Sum t) row = refl
place_more n (out.Count column) (shown.Value v) row = refl
place_more n (out.Count column) (shown.Count m) row = at (is_null (value_at row column)) refl
  where
    at : (b : Bool) → is_null (value_at row column) ≡ b → many_added (suc n) (out.Count column) (shown.Count m) row ≡ many_added n (out.Count column) (added (out.Count column) (shown.Count m) row) row
    at true e = rw (e, e) refl
    at false e = rw (e, e) (ap shown.Count (omega arith))
place_more n (out.Count column) (shown.Sum t) row = refl
place_more n (out.Sum column) (shown.Value v) row = refl
place_more n (out.Sum column) (shown.Count m) row = refl
place_more n (out.Sum column) (shown.Sum t) row = at (is_null (value_at row column)) refl
  where
    at : (b : Bool) → is_null (value_at row column) ≡ b → many_added (suc n) (out.Sum column) (shown.Sum t) row ≡ many_added n (out.Sum column) (added (out.Sum column) (shown.Sum t) row) row
    at true e = rw (e, e) refl
    at false e = rw (e, e) (ap shown.Sum (sum_more n t (value_at row column)))
place_more n (out.Min column) (shown.Value v) row = at (is_null (value_at row column)) refl
  where
    at : (b : Bool) → is_null (value_at row column) ≡ b → many_added (suc n) (out.Min column) (shown.Value v) row ≡ many_added n (out.Min column) (added (out.Min column) (shown.Value v) row) row
    at true e = rw (e, e) refl
    at false e = rw (e, e) (ap shown.Value (sym (lesser-again v (value_at row column))))
place_more n (out.Min column) (shown.Count m) row = refl
place_more n (out.Min column) (shown.Sum t) row = refl
place_more n (out.Max column) (shown.Value v) row = at (is_null (value_at row column)) refl
  where
    at : (b : Bool) → is_null (value_at row column) ≡ b → many_added (suc n) (out.Max column) (shown.Value v) row ≡ many_added n (out.Max column) (added (out.Max column) (shown.Value v) row) row
    at true e = rw (e, e) refl
    at false e = rw (e, e) (ap shown.Value (sym (greater-again v (value_at row column) e)))
place_more n (out.Max column) (shown.Count m) row = refl
place_more n (out.Max column) (shown.Sum t) row = refl

-- ---- a line

places_one : (outs : List BoundOut) (shows : List Shown) (row : List Value) → in_places (many_added 1) outs shows row ≡ in_places added outs shows row
places_one [] shows row = refl
places_one (out ∷ outs) [] row = refl
places_one (out ∷ outs) (s ∷ shows) row = let here = place_one out s row in let rest = places_one outs shows row in cc

places_more : (n : ℕ) (outs : List BoundOut) (shows : List Shown) (row : List Value) → in_places (many_added (suc n)) outs shows row ≡ in_places (many_added n) outs (in_places added outs shows row) row
places_more n [] shows row = refl
places_more n (out ∷ outs) [] row = refl
places_more n (out ∷ outs) (s ∷ shows) row = let here = place_more n out s row in let rest = places_more n outs shows row in cc

-- a row again and again
again : ℕ → List BoundOut → Line → List Value → Line
again zero outs line row = line
again (suc n) outs line row = again n outs (with_row outs line row) row

rows_again : (n : ℕ) (outs : List BoundOut) (line : Line) (row : List Value) → with_rows (suc n) outs line row ≡ again (suc n) outs line row
unfolding again
rows_again zero outs line row = ap (λ shows. record line { shows = shows }) (places_one outs line.shows row)
rows_again (suc n) outs line row = ap (λ shows. record line { shows = shows }) (places_more (suc n) outs line.shows row) ∙ rows_again n outs (with_row outs line row) row

-- ---- rows that agree in the columns that are named

value_agree : (f : Value → Shown) (column : ℕ) (a b : List Value) → AgreeIn (column ∷ []) a b → f (value_at a column) ≡ f (value_at b column)
value_agree f column a b agree = ap f agree.0

place_agree : (out : BoundOut) (was : Shown) (a b : List Value) → AgreeIn (columns_of out) a b → added out was a ≡ added out was b
place_agree (out.Column column) was a b agree = refl
place_agree out.CountAll (shown.Value v) a b agree = refl
place_agree out.CountAll (shown.Count m) a b agree = refl
place_agree out.CountAll (shown.Sum t) a b agree = refl
place_agree (out.Count column) (shown.Value v) a b agree = refl
place_agree (out.Count column) (shown.Count m) a b agree = value_agree (λ v. if is_null v then shown.Count m else shown.Count (m + 1)) column a b agree
place_agree (out.Count column) (shown.Sum t) a b agree = refl
place_agree (out.Sum column) (shown.Value v) a b agree = refl
place_agree (out.Sum column) (shown.Count m) a b agree = refl
place_agree (out.Sum column) (shown.Sum t) a b agree = value_agree (λ v. if is_null v then shown.Sum t else shown.Sum (plus t v)) column a b agree
place_agree (out.Min column) (shown.Value best) a b agree = value_agree (λ v. if is_null v then shown.Value best else shown.Value (lesser best v)) column a b agree
place_agree (out.Min column) (shown.Count m) a b agree = refl
place_agree (out.Min column) (shown.Sum t) a b agree = refl
place_agree (out.Max column) (shown.Value best) a b agree = value_agree (λ v. if is_null v then shown.Value best else shown.Value (greater best v)) column a b agree
place_agree (out.Max column) (shown.Count m) a b agree = refl
place_agree (out.Max column) (shown.Sum t) a b agree = refl

begun_agree : (out : BoundOut) (was : Shown) (a b : List Value) → AgreeIn (columns_of out) a b → begun out was a ≡ begun out was b
begun_agree (out.Column column) was a b agree = ap shown.Value agree.0
begun_agree out.CountAll was a b agree = refl
begun_agree (out.Count column) was a b agree = refl
begun_agree (out.Sum column) was a b agree = refl
begun_agree (out.Min column) was a b agree = refl
begun_agree (out.Max column) was a b agree = refl

module _ (change : BoundOut → Shown → List Value → Shown) (place : (out : BoundOut) (was : Shown) (a b : List Value) → AgreeIn (columns_of out) a b → change out was a ≡ change out was b) where
  places_agree : (outs : List BoundOut) (shows : List Shown) (a b : List Value) → AgreeShown outs a b → in_places change outs shows a ≡ in_places change outs shows b
  places_agree [] shows a b agree = refl
  places_agree (out ∷ outs) [] a b agree = refl
  places_agree (out ∷ outs) (s ∷ shows) a b agree = let here = place out s a b agree.0 in let rest = places_agree outs shows a b agree.1 in cc

abbrev number_line : ℕ → Line → Numbered
number_line n line = record { number = n; line = line }

module _ (shape : Shape) where
  row_agree : (line : Line) (a b : List Value) → AgreeShown shape.outs a b → with_row shape.outs line a ≡ with_row shape.outs line b
  row_agree line a b agree = ap (λ shows. record line { shows = shows }) (places_agree added place_agree shape.outs line.shows a b agree)

  begins_agree : (line : Line) (a b : List Value) → AgreeShown shape.outs a b → AllByRecursion (λ part. value_at a part.column ≡ value_at b part.column) shape.order → begun_with shape line a ≡ begun_with shape line b
  begins_agree line a b agree sorts = line_is (sorts_same shape.order a b sorts) (places_agree begun begun_agree shape.outs line.shows a b agree)
    where
      line_is : {s s' : List Value} {t t' : List Shown} → s ≡ s' → t ≡ t' → (let line : Line = record { sorts = s; shows = t } in line) ≡ record { sorts = s'; shows = t' }
      line_is p q = cc

  joined_agree : (one : Numbered) (row : Row) (values : List Value) → AgreeInNamed shape row (record { number = row.number; values = values }) → joined shape one row ≡ joined shape one (record { number = row.number; values = values })
  joined_agree one row values agree =
      let more = row_agree one.line row.values values agree.shown in
      let first = ap (λ (l : Line). begun_with shape l row.values) more ∙ begins_agree (with_row shape.outs one.line values) row.values values agree.shown agree.sorted in
      at (nat_lt row.number one.number) first more
    where
      at : (b : Bool) → begun_with shape (with_row shape.outs one.line row.values) row.values ≡ begun_with shape (with_row shape.outs one.line values) values → with_row shape.outs one.line row.values ≡ with_row shape.outs one.line values
          → cond {A = Numbered} b (record { number = row.number; line = begun_with shape (with_row shape.outs one.line row.values) row.values }) (record { number = one.number; line = with_row shape.outs one.line row.values })
          ≡ cond {A = Numbered} b (record { number = row.number; line = begun_with shape (with_row shape.outs one.line values) values }) (record { number = one.number; line = with_row shape.outs one.line values })
      at true first more = ap (λ (l : Line). number_line row.number l) first
      at false first more = ap (λ (l : Line). number_line one.number l) more

  row_line_agree : (row : Row) (values : List Value) → AgreeInNamed shape row (record { number = row.number; values = values }) → line_of_row shape row ≡ line_of_row shape (record { number = row.number; values = values })
  row_line_agree row values agree =
      ap (λ (l : Line). number_line row.number l) (line_same shape row.values values (row ∷ []) (record { number = row.number; values = values } ∷ []) agree.shown (sorts_same shape.order row.values values agree.sorted) (agree, tt))

  -- ---- a line that begins with the row

  begun_place : (out : BoundOut) (was : Shown) (row : List Value) → added out (begun out was row) row ≡ begun out (added out was row) row
  begun_place (out.Column column) was row = refl
  begun_place out.CountAll was row = refl
  begun_place (out.Count column) was row = refl
  begun_place (out.Sum column) was row = refl
  begun_place (out.Min column) was row = refl
  begun_place (out.Max column) was row = refl

  begun_twice : (out : BoundOut) (was : Shown) (row : List Value) → begun out (begun out was row) row ≡ begun out was row
  begun_twice (out.Column column) was row = refl
  begun_twice out.CountAll was row = refl
  begun_twice (out.Count column) was row = refl
  begun_twice (out.Sum column) was row = refl
  begun_twice (out.Min column) was row = refl
  begun_twice (out.Max column) was row = refl

  begun_itself : (out : BoundOut) (row : List Value) → begun out (shown_of out row []) row ≡ shown_of out row []
  begun_itself (out.Column column) row = refl
  begun_itself out.CountAll row = refl
  begun_itself (out.Count column) row = refl
  begun_itself (out.Sum column) row = refl
  begun_itself (out.Min column) row = refl
  begun_itself (out.Max column) row = refl

  row_begun : (line : Line) (row : List Value) → with_row shape.outs (begun_with shape line row) row ≡ begun_with shape (with_row shape.outs line row) row
  row_begun line row = ap (λ shows. record { sorts = map (λ part. value_at row part.column) shape.order; shows = shows }) (all shape.outs line.shows)
    where
      all : (outs : List BoundOut) (shows : List Shown) → in_places added outs (in_places begun outs shows row) row ≡ in_places begun outs (in_places added outs shows row) row
      all [] shows = refl
      all (out ∷ outs) [] = refl
      all (out ∷ outs) (s ∷ shows) = let here = begun_place out s row in let rest = all outs shows in cc

  twice_begun : (line : Line) (row : List Value) → begun_with shape (begun_with shape line row) row ≡ begun_with shape line row
  twice_begun line row = ap (λ shows. record { sorts = map (λ part. value_at row part.column) shape.order; shows = shows }) (all shape.outs line.shows)
    where
      all : (outs : List BoundOut) (shows : List Shown) → in_places begun outs (in_places begun outs shows row) row ≡ in_places begun outs shows row
      all [] shows = refl
      all (out ∷ outs) [] = refl
      all (out ∷ outs) (s ∷ shows) = let here = begun_twice out s row in let rest = all outs shows in cc

  itself_begun : (row : List Value) → begun_with shape (line_of shape row []) row ≡ line_of shape row []
  itself_begun row = ap (λ shows. record { sorts = map (λ part. value_at row part.column) shape.order; shows = shows }) (all shape.outs)
    where
      all : (outs : List BoundOut) → in_places begun outs (map (λ out. shown_of out row []) outs) row ≡ map (λ out. shown_of out row []) outs
      all [] = refl
      all (out ∷ outs) = let here = begun_itself out row in let rest = all outs in cc

  again_begun : (n : ℕ) (line : Line) (row : List Value) → again n shape.outs (begun_with shape line row) row ≡ begun_with shape (again n shape.outs line row) row
  unfolding again
  again_begun zero line row = refl
  again_begun (suc n) line row = ap (λ (l : Line). again n shape.outs l row) (row_begun line row) ∙ again_begun n (with_row shape.outs line row) row

  -- ---- rows one after another

  -- n rows behind a line, one after another
  joined_again : ℕ → Numbered → Row → Numbered
  joined_again n one row =
      cond (nat_lt row.number one.number) (number_line row.number (begun_with shape (again n shape.outs one.line row.values) row.values)) (number_line one.number (again n shape.outs one.line row.values))

  joined_is : (n : ℕ) (one : Numbered) (row : Row) → joined_many shape (suc n) one row ≡ joined_again (suc n) one row
  unfolding joined_again
  joined_is n one row = ap (λ (l : Line). cond (nat_lt row.number one.number) (number_line row.number (begun_with shape l row.values)) (number_line one.number l)) (rows_again n shape.outs one.line row.values)

  -- one row, and then others, are all of them
  joined_step : (n m l : ℕ) (one : Numbered) (values : List Value)
      → joined_again n (joined shape one (record { number = m; values = values })) (record { number = l; values = values }) ≡ joined_again (suc n) one (record { number = cond (nat_lt l m) l m; values = values })
  unfolding joined_again again
  joined_step n m l one values = at (nat_lt m one.number) (nat_lt l m) (nat_lt l one.number) refl refl refl
    where
      twice : begun_with shape (again n shape.outs (begun_with shape (with_row shape.outs one.line values) values) values) values ≡ begun_with shape (again n shape.outs (with_row shape.outs one.line values) values) values
      twice = ap (λ (x : Line). begun_with shape x values) (again_begun n (with_row shape.outs one.line values) values) ∙ twice_begun (again n shape.outs (with_row shape.outs one.line values) values) values

      at : (b c d : Bool) → nat_lt m one.number ≡ b → nat_lt l m ≡ c → nat_lt l one.number ≡ d
          → joined_again n (joined shape one (record { number = m; values = values })) (record { number = l; values = values }) ≡ joined_again (suc n) one (record { number = cond (nat_lt l m) l m; values = values })
      at true true true e f g = rw (e, f, g) (ap (number_line l) twice)
      at true true false e f g = absurd (grind (arith, nat_tests))
      at true false d e f g = rw (e, f, e) (ap (number_line m) (again_begun n (with_row shape.outs one.line values) values))
      at false true true e f g = rw (e, f, g) refl
      at false true false e f g = rw (e, f, g) refl
      at false false true e f g = absurd (grind (arith, nat_tests))
      at false false false e f g = rw (e, f, g, e) refl

  abbrev pub AllAgree : List Value → List Row → Type 0
  AllAgree values rows = AllByRecursion (λ (one : Row). AgreeInNamed shape one (record { number = one.number; values = values })) rows

  -- a row and others behind a line
  pub fold_joined : (one : Numbered) (row : Row) (rows : List Row) (values : List Value) → AllAgree values (row ∷ rows)
      → fold (joined shape) one (row ∷ rows) ≡ joined_many shape (length (row ∷ rows)) one (record { number = lowest_of row rows; values = values })
  unfolding joined_again again
  fold_joined one row rows values agree = again_all one row rows agree ∙ sym (joined_is (length rows) one (record { number = lowest_of row rows; values = values }))
    where
      again_all : (one : Numbered) (row : Row) (rows : List Row) → AllByRecursion (λ (r : Row). AgreeInNamed shape r (record { number = r.number; values = values })) (row ∷ rows)
          → fold (joined shape) one (row ∷ rows) ≡ joined_again (length (row ∷ rows)) one (record { number = lowest_of row rows; values = values })
      again_all one row [] agree = joined_agree one row values agree.0 ∙ alone
        where
          alone : joined shape one (record { number = row.number; values = values }) ≡ joined_again 1 one (record { number = row.number; values = values })
          alone = refl
      again_all one row (next ∷ rows) agree =
          ap (λ o. fold (joined shape) o (next ∷ rows)) (joined_agree one row values agree.0)
          ∙ again_all (joined shape one (record { number = row.number; values = values })) next rows agree.1
          ∙ joined_step (length (next ∷ rows)) row.number (lowest_of next rows) one values

  pub one_of_many : (row : Row) → line_of_many shape 1 row ≡ line_of_row shape row
  unfolding again
  one_of_many row = ap (number_line row.number) (rows_again 0 shape.outs (line_of shape row.values []) row.values ∙ sym (line_more shape row.values [] row.values))

  -- a row and others with a line of their own
  pub fold_begun : (row : Row) (rows : List Row) (values : List Value) → AllAgree values (row ∷ rows)
      → fold (joined shape) (line_of_row shape row) rows ≡ line_of_many shape (length (row ∷ rows)) (record { number = lowest_of row rows; values = values })
  unfolding again joined_again
  fold_begun row [] values agree =
      row_line_agree row values agree.0 ∙ ap (number_line row.number) (line_more shape values [] values ∙ sym (rows_again 0 shape.outs (line_of shape values []) values))
  fold_begun row (next ∷ rows) values agree =
      ap (λ o. fold (joined shape) o (next ∷ rows)) (row_line_agree row values agree.0) ∙ fold_joined (line_of_row shape (record { number = row.number; values = values })) next rows values agree.1
      ∙ joined_is (length rows) (line_of_row shape (record { number = row.number; values = values })) (record { number = lowest_of next rows; values = values })
      ∙ at (nat_lt (lowest_of next rows) row.number)
    where
      first : line_of shape values (values ∷ []) ≡ with_row shape.outs (line_of shape values []) values
      first = line_more shape values [] values

      whole : again (length (next ∷ rows)) shape.outs (line_of shape values (values ∷ [])) values ≡ with_rows (length (row ∷ next ∷ rows)) shape.outs (line_of shape values []) values
      whole = ap (λ (l : Line). again (length (next ∷ rows)) shape.outs l values) first ∙ sym (rows_again (length (next ∷ rows)) shape.outs (line_of shape values []) values)

      begins : begun_with shape (with_rows (length (row ∷ next ∷ rows)) shape.outs (line_of shape values []) values) values ≡ with_rows (length (row ∷ next ∷ rows)) shape.outs (line_of shape values []) values
      begins =
          ap (λ (l : Line). begun_with shape l values) (rows_again (length (next ∷ rows)) shape.outs (line_of shape values []) values)
          ∙ sym (again_begun (length (row ∷ next ∷ rows)) (line_of shape values []) values)
          ∙ ap (λ (l : Line). again (length (row ∷ next ∷ rows)) shape.outs l values) (itself_begun values)
          ∙ sym (rows_again (length (next ∷ rows)) shape.outs (line_of shape values []) values)

      at : (b : Bool) → cond b (number_line (lowest_of next rows) (begun_with shape (again (length (next ∷ rows)) shape.outs (line_of shape values (values ∷ [])) values) values)) (number_line row.number (again (length (next ∷ rows)) shape.outs (line_of shape values (values ∷ [])) values))
          ≡ number_line (cond b (lowest_of next rows) row.number) (with_rows (length (row ∷ next ∷ rows)) shape.outs (line_of shape values []) values)
      at true = ap (number_line (lowest_of next rows)) (ap (λ (l : Line). begun_with shape l values) whole ∙ begins)
      at false = ap (number_line row.number) whole

  -- the rows of the one line
  pub fold_whole : (line : Line) (row : Row) (rows : List Row) (values : List Value) → AllAgree values (row ∷ rows) → fold (λ (l : Line) (r : Row). with_row shape.outs l r.values) line (row ∷ rows) ≡ with_rows (length (row ∷ rows)) shape.outs line values
  unfolding again
  fold_whole line row rows values agree = all line (row ∷ rows) agree ∙ sym (rows_again (length rows) shape.outs line values)
    where
      all : (line : Line) (rs : List Row) → AllByRecursion (λ (r : Row). AgreeInNamed shape r (record { number = r.number; values = values })) rs → fold (λ (l : Line) (r : Row). with_row shape.outs l r.values) line rs ≡ again (length rs) shape.outs line values
      all line [] agree = refl
      all line (r ∷ rs) agree = ap (λ (l : Line). fold (λ (l : Line) (r : Row). with_row shape.outs l r.values) l rs) (row_agree line r.values values agree.0.shown) ∙ all (with_row shape.outs line values) rs agree.1
