-- What is said of a predicate is said of its parts in order.
use Rattle.std.proofs.Common.{◌≡◌, List, [], ◌∷◌, ◌++◌, Some, ap, map, refl, sym, ◌∙◌}
use Rattle.std.specs.Prelude.{flat_map}
use Rattle.std.proofs.lemmas.Grind.{flat_map-append}
use Rattle.mdc_ast.specs.declared.definition.ColumnDef.{ColumnDef}
use Rattle.mdc_ast.specs.declared.predicate.AtomText.{AtomText}
use Rattle.mdc_ast.specs.declared.predicate.PredText.{PredText}
use Rattle.mdc_ast.specs.declared.predicate.PredText.TheFolds.{fold-roll-PredText}
use Rattle.mdc_ast.specs.declared.predicate.PredText.TheOpen as layer
use Rattle.mdc_ast.specs.declared.predicate.PredText.TheVariants.{All, Any, rolls-All, rolls-Any}
use Rattle.mdc_ast.specs.declared.predicate.TestText.TheVariants.{Within}
use Rattle.statement_meaning.specs.Cause.{Cause}
use Rattle.statement_meaning.specs.Judging.{atoms_of, fit_compared, layer_atoms}
use Rattle.mdc_values.specs.declared.literal.Literal.{Literal}
use Rattle.binder.specs.Classes.{column_causes, literal_causes}
use Rattle.binder.specs.declared.literals.Class.{Class}
use Rattle.binder.specs.declared.literals.Class.TheVariants.{Columns, Types, Values}

flat_map-map : {X Y Z : Type 0} (g : X → List Y) (f : Y → List Z) (xs : List X) → flat_map f (flat_map (λ part. part) (map g xs)) ≡ flat_map (λ x. flat_map f (g x)) xs
flat_map-map g f [] = refl
flat_map-map g f (x ∷ xs) = flat_map-append f (g x) (flat_map (λ part. part) (map g xs)) ∙ ap (λ rest. flat_map f (g x) ++ rest) (flat_map-map g f xs)

pub all_parts : (f : AtomText → List Cause) (parts : List PredText) → flat_map f (atoms_of (Some (All parts))) ≡ flat_map (λ part. flat_map f (atoms_of (Some part))) parts
all_parts f parts =
    ap (flat_map f) (ap (λ pred. atoms_of (Some pred)) (sym (rolls-All parts)) ∙ fold-roll-PredText (List AtomText) layer_atoms (layer.All parts))
    ∙ flat_map-map (λ part. atoms_of (Some part)) f parts

pub any_parts : (f : AtomText → List Cause) (parts : List PredText) → flat_map f (atoms_of (Some (Any parts))) ≡ flat_map (λ part. flat_map f (atoms_of (Some part))) parts
any_parts f parts =
    ap (flat_map f) (ap (λ pred. atoms_of (Some pred)) (sym (rolls-Any parts)) ∙ fold-roll-PredText (List AtomText) layer_atoms (layer.Any parts))
    ∙ flat_map-map (λ part. atoms_of (Some part)) f parts

flat_map-nothing : {X Y : Type 0} (xs : List X) → flat_map {A = Y} (λ x. []) xs ≡ []
flat_map-nothing [] = refl
flat_map-nothing (x ∷ xs) = flat_map-nothing xs

-- the literals of an IN are judged one by one
pub within_causes : (class : Class) (columns : List ColumnDef) (atom : AtomText) (column : ColumnDef) (literals : List Literal) → atom.test ≡ Within literals
    → column_causes class columns atom column ≡ flat_map (λ literal. literal_causes class atom.column (fit_compared column.ty literal)) literals
within_causes Columns columns atom column literals e = sym (flat_map-nothing literals)
within_causes Types columns atom column literals e = rw e refl
within_causes Values columns atom column literals e = rw e refl
