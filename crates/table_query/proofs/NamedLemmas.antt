-- A row that has its values in the columns that a query names agrees with it.
use Rattle.std.proofs.Common.{◌≡◌, ℕ, zero, suc, ◌<◌, ◌≤◌, ◌+◌, List, [], ◌∷◌, ◌++◌, length, map, Bool, true, false, cond, ◌||◌, ◌==◌, Option, inl, inr, refl, sym, ap, ◌∙◌, subst, arith, get_or, eq-eqb}
use Rattle.std.specs.Prelude.{filter, unwrap_or}
use Rattle.std.specs.List.{All, AllByRecursion, list_any, range_with_len}
use Rattle.std.proofs.lemmas.Bool.{cases_Bool, cases_lt}
use Rattle.std.proofs.lemmas.List.Elements.{All-filter, All-head, All-tail, filter-append}
use Rattle.std.proofs.lemmas.List.FromFn.{get_or-range_with_len, length-range_with_len, map-range_with_len_more}
use Rattle.std.proofs.lemmas.Option.{slice_get_past}
use Rattle.mdc_values.specs.declared.value.Value.{Value}
use Rattle.mdc_values.specs.declared.value.Value.TheVariants.{Null}
use Rattle.mdc_ast.specs.declared.bound.BoundOut.{BoundOut}
use Rattle.mdc_ast.specs.declared.bound.BoundOut.TheVariants as out
use Rattle.mdc_ast.specs.declared.definition.KeyPart.{KeyPart}
use Rattle.mdc_ast.specs.Truth.{value_at}
use Rattle.row_groups.specs.Naming.{AgreeIn, AgreeInNamed, columns_of}
use Rattle.row_groups.specs.Shape.{Shape}
use Rattle.table_query.specs.Named.{HasValuesIn, is_named, named_columns, shows_column}

-- ---- columns that are named

itself : (xs : List ℕ) → map (λ x. x) xs ≡ xs
itself [] = refl
itself (x ∷ xs) = ap (λ rest. x ∷ rest) (itself xs)

range_more : (n : ℕ) → range_with_len 0 (n + 1) ≡ range_with_len 0 n ++ n ∷ []
range_more n = sym (itself (range_with_len 0 (n + 1))) ∙ map-range_with_len_more (λ x. x) 0 n n (omega arith) ∙ ap (λ front. front ++ n ∷ []) (itself (range_with_len 0 n))

-- one column more
named_next : (shape : Shape) (n : ℕ) → named_columns shape (n + 1) ≡ named_columns shape n ++ cond (is_named shape n) (n ∷ []) []
named_next shape n = ap (filter (is_named shape)) (range_more n) ∙ filter-append (is_named shape) (range_with_len 0 n) (n ∷ [])

behind_nothing : (xs : List ℕ) → xs ++ [] ≡ xs
behind_nothing [] = refl
behind_nothing (x ∷ xs) = ap (λ rest. x ∷ rest) (behind_nothing xs)

-- one that is named
pub named_more : (shape : Shape) (n : ℕ) → is_named shape n ≡ true → named_columns shape n ++ n ∷ [] ≡ named_columns shape (n + 1)
named_more shape n is = sym (named_next shape n ∙ ap (λ (b : Bool). named_columns shape n ++ cond b (n ∷ []) []) is)

-- one that isn't
pub named_past : (shape : Shape) (n : ℕ) → is_named shape n ≡ false → named_columns shape n ≡ named_columns shape (n + 1)
named_past shape n isnt = sym (named_next shape n ∙ ap (λ (b : Bool). named_columns shape n ++ cond b (n ∷ []) []) isnt ∙ behind_nothing (named_columns shape n))

-- each is one of the first so many
pub named_within : (shape : Shape) (width : ℕ) → All (λ column. column < width) (named_columns shape width)
named_within shape width =
    All-filter (is_named shape) (λ column. column < width) (range_with_len 0 width)
    (λ k d low. let within : k < width = omega (arith, low, length-range_with_len 0 width) in omega (arith, within, get_or-range_with_len 0 width k d within))

-- what holds of each element that passed holds of each that passes
kept_each : {X : Type 0} (P : X → Type 0) (p : X → Bool) (xs : List X) (i : ℕ) (d : X) → i < length xs → All P (filter p xs) → p (get_or xs i d) ≡ true → P (get_or xs i d)
kept_each P p [] i d low all is = absurd (omega (arith, low))
kept_each P p (x ∷ xs) zero d low all is =
    let first : filter p (x ∷ xs) ≡ x ∷ filter p xs = rw is refl in All-head P x (filter p xs) (subst (All P) first all)
kept_each P p (x ∷ xs) (suc i) d low all is = kept_each P p xs i d (omega (arith, low)) (elim (cases_Bool (p x)) [
  | inl here ↦ let first : filter p (x ∷ xs) ≡ x ∷ filter p xs = rw here refl in All-tail P x (filter p xs) (subst (All P) first all)
  | inr out ↦ let past : filter p (x ∷ xs) ≡ filter p xs = rw out refl in subst (All P) past all
]) is

-- ---- what is read in them

or_later : (a b : Bool) → b ≡ true → (a || b) ≡ true
or_later true b is = refl
or_later false b is = is

or_first : (a b : Bool) → a ≡ true → (a || b) ≡ true
or_first a b is = rw is refl

out_agrees : (o : BoundOut) (a b : List Value) → ((column : ℕ) → shows_column column o ≡ true → value_at a column ≡ value_at b column) → AgreeIn (columns_of o) a b
out_agrees (out.Column column) a b same = (same column (eq-eqb column column refl), tt)
out_agrees out.CountAll a b same = tt
out_agrees (out.Count column) a b same = (same column (eq-eqb column column refl), tt)
out_agrees (out.Sum column) a b same = (same column (eq-eqb column column refl), tt)
out_agrees (out.Min column) a b same = (same column (eq-eqb column column refl), tt)
out_agrees (out.Max column) a b same = (same column (eq-eqb column column refl), tt)

outs_agree : (outs : List BoundOut) (a b : List Value) → ((column : ℕ) → list_any (shows_column column) outs ≡ true → value_at a column ≡ value_at b column) → AllByRecursion (λ o. AgreeIn (columns_of o) a b) outs
outs_agree [] a b same = tt
outs_agree (o ∷ outs) a b same = (
  out_agrees o a b (λ column is. same column (or_first (shows_column column o) (list_any (shows_column column) outs) is)),
  outs_agree outs a b (λ column is. same column (or_later (shows_column column o) (list_any (shows_column column) outs) is)),
)

columns_agree : (columns : List ℕ) (a b : List Value) → ((column : ℕ) → list_any (λ other. other == column) columns ≡ true → value_at a column ≡ value_at b column) → AgreeIn columns a b
columns_agree [] a b same = tt
columns_agree (first ∷ columns) a b same = (
  same first (or_first (first == first) (list_any (λ other. other == first) columns) (eq-eqb first first refl)),
  columns_agree columns a b (λ column is. same column (or_later (first == column) (list_any (λ other. other == column) columns) is)),
)

parts_agree : (parts : List KeyPart) (a b : List Value) → ((column : ℕ) → list_any (λ (part : KeyPart). part.column == column) parts ≡ true → value_at a column ≡ value_at b column)
    → AllByRecursion (λ part. value_at a part.column ≡ value_at b part.column) parts
parts_agree [] a b same = tt
parts_agree (part ∷ parts) a b same = (
  same part.column (or_first (part.column == part.column) (list_any (λ (other : KeyPart). other.column == part.column) parts) (eq-eqb part.column part.column refl)),
  parts_agree parts a b (λ column is. same column (or_later (part.column == column) (list_any (λ (other : KeyPart). other.column == column) parts) is)),
)

module _ (shape : Shape) (width : ℕ) (a b : List Value) (read : HasValuesIn (named_columns shape width) a b) (wide_a : length a ≡ width) (wide_b : length b ≡ width) where
  past : (values : List Value) (column : ℕ) → length values ≤ column → value_at values column ≡ Null
  past values column over = ap (λ (found : Option Value). unwrap_or found Null) (slice_get_past values column over)

  -- the same in each that is named; past the columns both are null
  same_at : (column : ℕ) → is_named shape column ≡ true → value_at b column ≡ value_at a column
  same_at column is = elim (cases_lt column width) [
    | inl low ↦
        let at : get_or (range_with_len 0 width) column 0 ≡ column = get_or-range_with_len 0 width column 0 low ∙ omega arith in
        let within : column < length (range_with_len 0 width) = omega (arith, low, length-range_with_len 0 width) in
        sym (subst (λ c. value_at a c ≡ value_at b c) at
        (kept_each (λ c. value_at a c ≡ value_at b c) (is_named shape) (range_with_len 0 width) column 0 within read (ap (is_named shape) at ∙ is)))
    | inr high ↦ past b column (omega (arith, high, wide_b)) ∙ sym (past a column (omega (arith, high, wide_a)))
  ]

  pub named_agree : (number : ℕ) → AgreeInNamed shape (record { number = number; values = b }) (record { number = number; values = a })
  named_agree number = record {
    number = refl;
    shown = outs_agree shape.outs b a (λ column is. same_at column (or_first _ _ (or_first _ _ is)));
    grouped = columns_agree shape.group b a (λ column is. same_at column (or_first _ _ (or_later _ _ is)));
    sorted = parts_agree shape.order b a (λ column is. same_at column (or_later _ _ is));
  }
