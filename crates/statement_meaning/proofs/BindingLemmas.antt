-- A bound predicate may be judged on the rows of its table.
use Rattle.std.proofs.Common.{◌≡◌, ℕ, zero, suc, ◌<◌, List, [], ◌∷◌, ◌++◌, length, map, refl, sym, subst, ◌∙◌, arith}
use Rattle.std.specs.Prelude.{IsTrue, flat_map, nat_lt, Option, Some, None, IfSome, slice_get, option_and_then}
use Rattle.std.specs.List.{list_all}
use Rattle.std.proofs.lemmas.Grind.{flat_map-append}
use Rattle.mdc_values.specs.declared.literal.Literal.{Literal}
use Rattle.mdc_values.specs.declared.value.Value.{Value}
use Rattle.mdc_values.specs.Order.{are_alike}
use Rattle.mdc_ast.specs.declared.definition.ColumnDef.{ColumnDef}
use Rattle.mdc_ast.specs.declared.name.Name.{Name}
use Rattle.mdc_ast.specs.declared.predicate.AtomText.{AtomText}
use Rattle.mdc_ast.specs.declared.predicate.Pred.{Pred}
use Rattle.mdc_ast.specs.declared.predicate.PredText.{PredText}
use Rattle.mdc_ast.specs.declared.predicate.PredText.TheFolds.{fold-PredText, fold-roll-PredText, ind-PredText, map-PredText}
use Rattle.mdc_ast.specs.declared.predicate.PredText.TheOpen.{PredText-F}
use Rattle.mdc_ast.specs.declared.predicate.PredText.TheViews.{roll-PredText}
use Rattle.mdc_ast.specs.declared.predicate.PredText.TheOpen as layer
use Rattle.mdc_ast.specs.declared.predicate.TestText.{TestText}
use Rattle.mdc_ast.specs.declared.predicate.TestText.TheVariants.{Compare, Between, Within, IsNull}
use Rattle.mdc_ast.specs.declared.statement.Operand.TheVariants as operand
use Rattle.mdc_ast.specs.Truth.{all_true, has_column, may_judge, may_test, may_test_atom, meets, value_at}
use Rattle.statement_meaning.specs.Binding.{bound_atom, bound_layer, bound_test, bound_where, the_place, the_type}
use Rattle.mdc_ast.specs.Database.{fits_all}
use Rattle.mdc_ast.specs.Definitions.{column_named, column_place}
use Rattle.statement_meaning.specs.Judging.{atom_columns, atom_types, atoms_of, fit_compared, judged_value, layer_atoms, kinds_meet, used_name, test_columns, of_some, other_column}
use Rattle.mdc_ast.specs.Kinds.{kind_of, same_kind}
use Rattle.statement_meaning.proofs.CausesLemmas.{is_there, none_if_not, none_of_both, none_of_each, none_of_some}
use Rattle.mdc_ast.proofs.PredLemmas.{may_judge-All, may_judge-Any, may_judge-Atom, may_judge-Not}
use Rattle.mdc_ast.proofs.KindsLemmas.{are_alike-same_kind, same_kind-refl, is_of_kind, is_of_kind-kind_of}
use Rattle.mdc_ast.proofs.FitsLemmas.{fits_all-at, length-fits_all}
use Rattle.statement_meaning.proofs.LiteralsLemmas.{is_of_kind-fit_compared}
use Rattle.mdc_ast.proofs.TestsLemmas.{and_true, lt_is_true}

-- nothing is said against the columns and the types of atoms
pub record AreBound (columns : List ColumnDef) (atoms : List AtomText) : Type 0 where
  pub there : flat_map (atom_columns columns) atoms ≡ []
  pub typed : flat_map (atom_types columns) atoms ≡ []

-- ---- one atom

-- a column that is there has a place, and its type
pub place_there : (columns : List ColumnDef) (name : Name) (column : ColumnDef) (found : Option ℕ) → column_place columns name ≡ found → option_and_then (slice_get columns) found ≡ Some column → slice_get columns (the_place columns name) ≡ Some column
place_there columns name column None e is = cc
place_there columns name column (Some i) e is = rw e is

-- a place of a column lies among the values
below : (columns : List ColumnDef) (i : ℕ) (column : ColumnDef) → slice_get columns i ≡ Some column → IsTrue (nat_lt i (length columns))
below columns i column e = lt_is_true i (length columns) (within columns i column e)
  where
    within : (columns : List ColumnDef) (i : ℕ) (column : ColumnDef) → slice_get columns i ≡ Some column → i < length columns
    within [] i column e = cc
    within (first ∷ columns) zero column e = omega arith
    within (first ∷ columns) (suc i) column e = omega (arith, within columns i column e)

-- the values fit the columns, and nothing is said against the name
pub record IsColumn (columns : List ColumnDef) (values : List Value) (name : Name) (column : ColumnDef) : Type 0 where
  pub named : column_named columns name ≡ Some column
  pub there : IsTrue (has_column values (the_place columns name))
  pub kind : IsTrue (is_of_kind (value_at values (the_place columns name)) (kind_of column.ty))

pub column_is : (columns : List ColumnDef) (values : List Value) (name : Name) → IsTrue (fits_all columns values) → used_name columns name ≡ [] → (column : ColumnDef) × IsColumn columns values name column
column_is columns values name fit used =
    let found : (column : ColumnDef) × (column_named columns name ≡ Some column) = is_there (column_named columns name) _ used in
    let at : slice_get columns (the_place columns name) ≡ Some found.0 = place_there columns name found.0 (column_place columns name) refl found.1 in (
      found.0,
      record {
        named = found.1;
        there = rw (length-fits_all columns values fit) (below columns (the_place columns name) found.0 at);
        kind = is_of_kind-kind_of found.0.ty _ (fits_all-at columns values (the_place columns name) found.0 at fit);
      },
    )

literal_is : (columns : List ColumnDef) (values : List Value) (name : Name) (column : ColumnDef) (lit : Literal) → IsColumn columns values name column → IsTrue (are_alike (value_at values (the_place columns name)) (judged_value (fit_compared (the_type columns name) lit)))
literal_is columns values name column lit is = rw is.named (are_alike-same_kind (kind_of column.ty) (kind_of column.ty) _ _ is.kind (is_of_kind-fit_compared column.ty lit) (same_kind-refl (kind_of column.ty)))

literals_are : (columns : List ColumnDef) (values : List Value) (name : Name) (column : ColumnDef) (lits : List Literal) → IsColumn columns values name column → IsTrue (list_all (are_alike (value_at values (the_place columns name))) (map (λ literal. judged_value (fit_compared (the_type columns name) literal)) lits))
literals_are columns values name column [] is = refl
literals_are columns values name column (lit ∷ lits) is = and_true (are_alike _ _) _ (literal_is columns values name column lit is) (literals_are columns values name column lits is)

test_is : (columns : List ColumnDef) (values : List Value) (name : Name) (column : ColumnDef) (test : TestText) → IsTrue (fits_all columns values) → IsColumn columns values name column → test_columns columns test ≡ [] → of_some (other_column columns test) (kinds_meet name column) ≡ [] → IsTrue (may_test values (value_at values (the_place columns name)) (bound_test columns (λ literal. judged_value (fit_compared (the_type columns name) literal)) test))
test_is columns values name column (Compare op (operand.Column other)) fit is used meets =
    let found : (o : ColumnDef) × IsColumn columns values other o = column_is columns values other fit used in
    let kinds : IsTrue (same_kind (kind_of column.ty) (kind_of found.0.ty)) = none_if_not _ _ (none_of_some (column_named columns other) found.0 (kinds_meet name column) found.1.named meets) in
    and_true _ _ found.1.there (are_alike-same_kind (kind_of column.ty) (kind_of found.0.ty) _ _ is.kind found.1.kind kinds)
test_is columns values name column (Compare op (operand.Literal lit)) fit is used meets = literal_is columns values name column lit is
test_is columns values name column (Between low high) fit is used meets = and_true _ _ (literal_is columns values name column low is) (literal_is columns values name column high is)
test_is columns values name column (Within lits) fit is used meets = literals_are columns values name column lits is
test_is columns values name column IsNull fit is used meets = refl

atom_is : (columns : List ColumnDef) (values : List Value) (atom : AtomText) → IsTrue (fits_all columns values) → atom_columns columns atom ≡ [] → atom_types columns atom ≡ [] → IsTrue (may_test_atom values (bound_atom columns atom))
atom_is columns values atom fit used typed =
    let parts : (used_name columns atom.column ≡ []) × (test_columns columns atom.test ≡ []) = none_of_both _ _ used in
    let found : (column : ColumnDef) × IsColumn columns values atom.column column = column_is columns values atom.column fit parts.0 in
    let meets : of_some (other_column columns atom.test) (kinds_meet atom.column found.0) ≡ [] = (none_of_both _ _ (none_of_some (column_named columns atom.column) found.0 _ found.1.named typed)).0 in
    and_true _ _ found.1.there (test_is columns values atom.column found.0 atom.test fit found.1 parts.1 meets)

-- ---- predicates

abbrev MayJudge : List ColumnDef → List Value → PredText → Type 0
MayJudge columns values text = AreBound columns (fold-PredText (List AtomText) layer_atoms text) → IsTrue (may_judge values (fold-PredText Pred (bound_layer columns) text))

-- atoms before other atoms
front_bound : (columns : List ColumnDef) (a b : List AtomText) → AreBound columns (a ++ b) → AreBound columns a × AreBound columns b
front_bound columns a b bound =
    let there : (flat_map (atom_columns columns) a ≡ []) × (flat_map (atom_columns columns) b ≡ []) = none_of_both _ _ (sym (flat_map-append (atom_columns columns) a b) ∙ bound.there) in
    let typed : (flat_map (atom_types columns) a ≡ []) × (flat_map (atom_types columns) b ≡ []) = none_of_both _ _ (sym (flat_map-append (atom_types columns) a b) ∙ bound.typed) in
    (record { there = there.0; typed = typed.0 }, record { there = there.1; typed = typed.1 })

each_is : (columns : List ColumnDef) (values : List Value) (parts : List ((text : PredText) × MayJudge columns values text)) → AreBound columns (flat_map (λ part. part) (map (fold-PredText (List AtomText) layer_atoms) (map (λ e. e.0) parts))) → IsTrue (all_true (map (may_judge values) (map (fold-PredText Pred (bound_layer columns)) (map (λ e. e.0) parts))))
each_is columns values [] bound = refl
each_is columns values (part ∷ parts) bound =
    let both = front_bound columns (fold-PredText (List AtomText) layer_atoms part.0) _ bound in
    and_true _ _ (part.1 both.0) (each_is columns values parts both.1)

by_layer : (columns : List ColumnDef) (values : List Value) → IsTrue (fits_all columns values) → (y : PredText-F ((text : PredText) × MayJudge columns values text)) → MayJudge columns values (roll-PredText (map-PredText _ PredText (λ e. e.0) y))
by_layer columns values fit (layer.Atom atom) bound =
    let said : AreBound columns (atom ∷ []) = subst (AreBound columns) (fold-roll-PredText (List AtomText) layer_atoms (layer.Atom atom)) bound in
    rw (fold-roll-PredText Pred (bound_layer columns) (layer.Atom atom), may_judge-Atom values (bound_atom columns atom)) (atom_is columns values atom fit (none_of_each (atom_columns columns) atom [] said.there).0 (none_of_each (atom_types columns) atom [] said.typed).0)
by_layer columns values fit (layer.All parts) bound =
    let said : AreBound columns (flat_map (λ part. part) (map (fold-PredText (List AtomText) layer_atoms) (map (λ e. e.0) parts))) = subst (AreBound columns) (fold-roll-PredText (List AtomText) layer_atoms (layer.All (map (λ e. e.0) parts))) bound in
    rw (fold-roll-PredText Pred (bound_layer columns) (layer.All (map (λ e. e.0) parts)), may_judge-All values (map (fold-PredText Pred (bound_layer columns)) (map (λ e. e.0) parts))) (each_is columns values parts said)
by_layer columns values fit (layer.Any parts) bound =
    let said : AreBound columns (flat_map (λ part. part) (map (fold-PredText (List AtomText) layer_atoms) (map (λ e. e.0) parts))) = subst (AreBound columns) (fold-roll-PredText (List AtomText) layer_atoms (layer.Any (map (λ e. e.0) parts))) bound in
    rw (fold-roll-PredText Pred (bound_layer columns) (layer.Any (map (λ e. e.0) parts)), may_judge-Any values (map (fold-PredText Pred (bound_layer columns)) (map (λ e. e.0) parts))) (each_is columns values parts said)
by_layer columns values fit (layer.Not part) bound =
    let said : AreBound columns (fold-PredText (List AtomText) layer_atoms part.0) = subst (AreBound columns) (fold-roll-PredText (List AtomText) layer_atoms (layer.Not part.0)) bound in
    rw (fold-roll-PredText Pred (bound_layer columns) (layer.Not part.0), may_judge-Not values (fold-PredText Pred (bound_layer columns) part.0)) (part.1 said)

pub may_judge-bound : (columns : List ColumnDef) (values : List Value) (text : PredText) → IsTrue (fits_all columns values) → MayJudge columns values text
may_judge-bound columns values text fit = ind-PredText (MayJudge columns values) (λ x y is. subst (λ x. MayJudge columns values (roll-PredText x)) is (by_layer columns values fit y)) text

-- the predicate of a statement, where nothing is said against its columns and types
pub may_judge-bound_where : (columns : List ColumnDef) (values : List Value) (text : Option PredText) → IsTrue (fits_all columns values) → AreBound columns (atoms_of text) → IfSome (bound_where columns text) (λ pred. IsTrue (may_judge values pred))
may_judge-bound_where columns values None fit bound = tt
may_judge-bound_where columns values (Some text) fit bound = may_judge-bound columns values text fit bound
