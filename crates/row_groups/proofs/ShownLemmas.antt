-- What a line shows of one more row.
use Rattle.std.proofs.Common.{◌≡◌, ℕ, suc, zero, ◌+◌, ◌<◌, ◌≤◌, min, List, [], ◌∷◌, ◌++◌, map, length, take, get_or, Bool, true, false, not, if◌then◌else◌, None, refl, sym, ap, ◌∙◌, arith, filter, fold, length-append, add-one}
use Rattle.std.specs.Prelude.{nat_lt, slice_set}
use Rattle.std.proofs.lemmas.Bool.Decides.{nat_tests}
use Rattle.std.proofs.lemmas.List.{get_or-map, length-map, map-append, map-set}
use Rattle.std.proofs.lemmas.List.Elements.{filter-append}
use Rattle.std.proofs.lemmas.List.Sums.{fold-append}
use Rattle.mdc_values.specs.declared.value.Value.{Value}
use Rattle.mdc_values.specs.declared.value.Value.TheVariants.{Null, Int, Text, Day}
use Rattle.mdc_ast.specs.declared.bound.BoundOut.{BoundOut}
use Rattle.mdc_ast.specs.declared.bound.BoundOut.TheVariants as out
use Rattle.mdc_ast.specs.declared.row.Row.{Row}
use Rattle.mdc_ast.specs.Truth.{value_at}
use Rattle.mdc_ast.specs.Database.{is_null}
use Rattle.row_groups.specs.declared.line.Shown.{Shown}
use Rattle.row_groups.specs.declared.line.Shown.TheVariants as shown
use Rattle.row_groups.specs.declared.tally.Tally.{Tally}
use Rattle.row_groups.specs.Adding.{Numbered, added, begun_with, in_places, joined_many, seen, with_row, with_rows}
use Rattle.row_groups.specs.Lines.{known, line_of, plus, shown_of, sum_of}
use Rattle.row_groups.specs.Shape.{Shape}
use Rattle.row_groups.specs.Values.{greater, lesser}

-- the known values of one more row
one_known : Value → List Value
one_known value = filter (λ value. not (is_null value)) (value ∷ [])

nothing : (xs : List Value) → xs ++ [] ≡ xs
nothing [] = refl
nothing (x ∷ xs) = ap (λ r. x ∷ r) (nothing xs)

known_more : (column : ℕ) (rows : List (List Value)) (row : List Value) → known column (rows ++ row ∷ []) ≡ known column rows ++ (if is_null (value_at row column) then [] else (value_at row column ∷ []))
known_more column rows row =
    ap (filter (λ value. not (is_null value))) (map-append (λ row. value_at row column) rows (row ∷ []))
    ∙ filter-append (λ value. not (is_null value)) (map (λ row. value_at row column) rows) (value_at row column ∷ [])
    ∙ ap (λ vs. known column rows ++ vs) (at (value_at row column))
  where
    at : (value : Value) → filter (λ value. not (is_null value)) (value ∷ []) ≡ (if is_null value then [] else (value ∷ []))
    at Null = refl
    at (Int n) = refl
    at (Text text) = refl
    at (Day day) = refl

-- a fold over the known values goes on where one more is known
fold_more : {Y : Type 0} (f : Y → Value → Y) (a : Y) (column : ℕ) (rows : List (List Value)) (row : List Value)
    → fold f a (known column (rows ++ row ∷ [])) ≡ (if is_null (value_at row column) then fold f a (known column rows) else f (fold f a (known column rows)) (value_at row column))
fold_more f a column rows row = ap (fold f a) (known_more column rows row) ∙ at (is_null (value_at row column))
  where
    at : (b : Bool) → fold f a (known column rows ++ (if b then [] else (value_at row column ∷ []))) ≡ (if b then fold f a (known column rows) else f (fold f a (known column rows)) (value_at row column))
    at true = fold-append f a (known column rows) []
    at false = fold-append f a (known column rows) (value_at row column ∷ [])

pub shown_of-more : (out : BoundOut) (first : List Value) (rows : List (List Value)) (row : List Value) → shown_of out first (rows ++ row ∷ []) ≡ added out (shown_of out first rows) row
shown_of-more (out.Column column) first rows row = refl
shown_of-more out.CountAll first rows row = ap shown.Count (length-append rows (row ∷ []))
shown_of-more (out.Count column) first rows row = ap (λ vs. shown.Count (length vs)) (known_more column rows row) ∙ at (is_null (value_at row column))
  where
    at : (b : Bool) → shown.Count (length (known column rows ++ (if b then [] else (value_at row column ∷ [])))) ≡ (if b then shown.Count (length (known column rows)) else shown.Count (length (known column rows) + 1))
    at true = ap (λ vs. shown.Count (length vs)) (nothing (known column rows))
    at false = ap shown.Count (length-append (known column rows) (value_at row column ∷ []))
shown_of-more (out.Sum column) first rows row = ap shown.Sum (fold_more plus None column rows row) ∙ at (is_null (value_at row column))
  where
    at : (b : Bool) → shown.Sum (if b then sum_of (known column rows) else plus (sum_of (known column rows)) (value_at row column)) ≡ (if b then shown.Sum (sum_of (known column rows)) else shown.Sum (plus (sum_of (known column rows)) (value_at row column)))
    at true = refl
    at false = refl
shown_of-more (out.Min column) first rows row = ap shown.Value (fold_more lesser Null column rows row) ∙ at (is_null (value_at row column))
  where
    at : (b : Bool) → shown.Value (if b then fold lesser Null (known column rows) else lesser (fold lesser Null (known column rows)) (value_at row column)) ≡ (if b then shown.Value (fold lesser Null (known column rows)) else shown.Value (lesser (fold lesser Null (known column rows)) (value_at row column)))
    at true = refl
    at false = refl
shown_of-more (out.Max column) first rows row = ap shown.Value (fold_more greater Null column rows row) ∙ at (is_null (value_at row column))
  where
    at : (b : Bool) → shown.Value (if b then fold greater Null (known column rows) else greater (fold greater Null (known column rows)) (value_at row column)) ≡ (if b then shown.Value (fold greater Null (known column rows)) else shown.Value (greater (fold greater Null (known column rows)) (value_at row column)))
    at true = refl
    at false = refl

all_more : (outs : List BoundOut) (first : List Value) (rows : List (List Value)) (row : List Value) → map (λ out. shown_of out first (rows ++ row ∷ [])) outs ≡ in_places added outs (map (λ out. shown_of out first rows) outs) row
all_more [] first rows row = refl
all_more (out ∷ outs) first rows row = let here = shown_of-more out first rows row in let rest = all_more outs first rows row in cc

-- a line of one more row
pub line_more : (shape : Shape) (first : List Value) (rows : List (List Value)) (row : List Value) → line_of shape first (rows ++ row ∷ []) ≡ with_row shape.outs (line_of shape first rows) row
line_more shape first rows row = ap (λ shows. record { sorts = map (λ part. value_at first part.column) shape.order; shows = shows }) (all_more shape.outs first rows row)

-- ---- the loop over the places of a line, whatever it changes

module _ (change : BoundOut → Shown → List Value → Shown) where
  next_place : (outs : List BoundOut) (shows : List Shown) (values : List Value) (i : ℕ) (d : BoundOut) (show : Shown) → i < length outs → i < length shows
      → show ≡ get_or (in_places change (take i outs) shows values) i show
      → slice_set (in_places change (take i outs) shows values) i (change (get_or outs i d) show values) ≡ in_places change (take (suc i) outs) shows values
  next_place [] shows values i d show il it place = absurd (omega (arith, il))
  next_place (o ∷ outs) [] values i d show il it place = absurd (omega (arith, it))
  next_place (o ∷ outs) (t ∷ shows) values zero d show il it place = rw place refl
  next_place (o ∷ outs) (t ∷ shows) values (suc i) d show il it place =
      ap (λ ts. change o t values ∷ ts) (next_place outs shows values i d show (omega (arith, il)) (omega (arith, it)) place)

  -- the loop's step: the shows now, with a new one in the next place
  in_places-next : (outs : List BoundOut) (shows now : List Shown) (values : List Value) (i : ℕ) (d : BoundOut) (show new : Shown) → i < length outs → i < length shows
      → now ≡ in_places change (take i outs) shows values → show ≡ get_or now i show → new ≡ change (get_or outs i d) show values
      → slice_set now i new ≡ in_places change (take (i + 1) outs) shows values
  in_places-next outs shows now values i d show new il it is place made =
      let there : show ≡ get_or (in_places change (take i outs) shows values) i show = place ∙ ap (λ ts. get_or ts i show) is in
      rw (add-one, made, is) (next_place outs shows values i d show il it there)

  -- past the last of both lists there is nothing to change
  in_places-done : (n : ℕ) (outs : List BoundOut) (shows : List Shown) (values : List Value) → min (length outs) (length shows) ≤ n → in_places change (take n outs) shows values ≡ in_places change outs shows values
  in_places-done zero [] shows values le = refl
  in_places-done zero (o ∷ outs) [] values le = refl
  in_places-done zero (o ∷ outs) (s ∷ shows) values le = absurd (omega (arith, le))
  in_places-done (suc n) [] shows values le = refl
  in_places-done (suc n) (o ∷ outs) [] values le = refl
  in_places-done (suc n) (o ∷ outs) (s ∷ shows) values le = ap (λ r. change o s values ∷ r) (in_places-done n outs shows values (omega (arith, le)))

  length-in_places : (outs : List BoundOut) (shows : List Shown) (values : List Value) → length (in_places change outs shows values) ≡ length shows
  length-in_places [] shows values = refl
  length-in_places (o ∷ outs) [] values = refl
  length-in_places (o ∷ outs) (s ∷ shows) values = ap suc (length-in_places outs shows values)

  -- the same step on tallies
  pub tallies-next : (outs : List BoundOut) (shows : List Shown) (now : List Tally) (values : List Value) (i : ℕ) (d : BoundOut) (tally new : Tally) → i < length outs → i < length now
      → map seen now ≡ in_places change (take i outs) shows values → tally ≡ get_or now i tally → seen new ≡ change (get_or outs i d) (seen tally) values
      → map seen (slice_set now i new) ≡ in_places change (take (i + 1) outs) shows values
  tallies-next outs shows now values i d tally new il it is place made =
      let long : length now ≡ length shows = sym (length-map now seen) ∙ ap (λ (ss : List Shown). length ss) is ∙ length-in_places (take i outs) shows values in
      map-set seen now i new ∙ in_places-next outs shows (map seen now) values i d (seen tally) (seen new) il (omega arith) is (ap seen place ∙ sym (get_or-map seen now i tally (seen tally) it)) made

  -- the shows once all places were gone through
  pub tallies-done : (outs : List BoundOut) (values : List Value) (old : List Shown) (tallies tallies' : List Tally) (n : ℕ) → map seen tallies ≡ old
      → map seen tallies' ≡ in_places change (take n outs) (map seen tallies) values → min (length outs) (length tallies) ≤ n → map seen tallies' ≡ in_places change outs old values
  tallies-done outs values old tallies tallies' n is so all =
      so ∙ in_places-done n outs (map seen tallies) values (omega (arith, length-map tallies seen)) ∙ ap (λ shows. in_places change outs shows values) is

-- ---- a line and its number

pub numbered_is : {n n' : ℕ} {sorts sorts' : List Value} {shows shows' : List Shown} → n ≡ n' → sorts ≡ sorts' → shows ≡ shows'
    → (let one : Numbered = record { number = n; line = record { sorts = sorts; shows = shows } } in one) ≡ record { number = n'; line = record { sorts = sorts'; shows = shows' } }
numbered_is p q r = cc

-- rows that aren't the first of their line
pub joined_behind : (shape : Shape) (count : ℕ) (one new : Numbered) (row : Row) (n : ℕ) → new ≡ record { number = one.number; line = with_rows count shape.outs one.line row.values } → n ≡ new.number → n ≤ row.number → new ≡ joined_many shape count one row
joined_behind shape count one new row n is same le =
    let number : new.number ≡ one.number = ap (λ (o : Numbered). o.number) is in
    let e : nat_lt row.number one.number ≡ false = grind (arith, nat_tests) in
    rw e is

-- rows with which their line begins
pub joined_before : (shape : Shape) (count : ℕ) (one with_them new : Numbered) (row : Row) (n : ℕ) → with_them ≡ record { number = one.number; line = with_rows count shape.outs one.line row.values } → n ≡ with_them.number → row.number < n
    → new ≡ record { number = row.number; line = begun_with shape with_them.line row.values } → new ≡ joined_many shape count one row
joined_before shape count one with_them new row n is same lt begins =
    let number : with_them.number ≡ one.number = ap (λ (o : Numbered). o.number) is in
    let e : nat_lt row.number one.number ≡ true = grind (arith, nat_tests) in
    rw e (begins ∙ ap (λ (o : Numbered). record { number = row.number; line = begun_with shape o.line row.values }) is)
