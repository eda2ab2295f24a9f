-- The columns that a predicate names.
use Rattle.std.specs.Prelude.{◌≡◌, ℕ, List, [], ◌∷◌, ◌++◌, slice_get}
use Rattle.std.specs.List.{All}
use Rattle.mdc_values.specs.declared.value.Value.{Value}
use Rattle.mdc_ast.specs.declared.predicate.Atom.{Atom}
use Rattle.mdc_ast.specs.declared.predicate.Right.TheVariants as right
use Rattle.mdc_ast.specs.declared.predicate.Test.{Test}
use Rattle.mdc_ast.specs.declared.predicate.Test.TheVariants.{Compare}
use Rattle.mdc_ast.specs.declared.predicate.Pred.{Pred}
use Rattle.mdc_ast.specs.declared.predicate.Pred.TheOpen.{Pred-F}
use Rattle.mdc_ast.specs.declared.predicate.Pred.TheOpen as layer
use Rattle.mdc_ast.specs.declared.predicate.Pred.TheFolds.{fold-Pred}

-- the place of the column that a test compares with, if it compares with one
abbrev pub named_in_test : Test → List ℕ
named_in_test (Compare op (right.Column column)) = column ∷ []
named_in_test test = []

-- and of the column that is tested
abbrev pub named_in_atom : Atom → List ℕ
named_in_atom atom = atom.column ∷ named_in_test atom.test

-- the places of each part, one after the other
abbrev pub named_in_parts : List (List ℕ) → List ℕ
named_in_parts [] = []
named_in_parts (places ∷ parts) = places ++ named_in_parts parts

-- one layer of a predicate, with the places of each part in its place
abbrev pub layer_named : Pred-F (List ℕ) → List ℕ
layer_named (layer.Atom atom) = named_in_atom atom
layer_named (layer.All parts) = named_in_parts parts
layer_named (layer.Any parts) = named_in_parts parts
layer_named (layer.Not places) = places

-- the places of the columns that a predicate names, in the order of its text
abbrev pub named_in : Pred → List ℕ
named_in = fold-Pred (List ℕ) layer_named

-- two rows have one value at a place, or both none
abbrev pub IsSameAt : List Value → List Value → ℕ → Type 0
IsSameAt values others place = slice_get values place ≡ slice_get others place

-- values that are read from a row at these places are the row's there, and still so where they were so before
pub record IsRead (row : List Value) (places : List ℕ) (before after : List Value) : Type 0 where
  pub there : All (IsSameAt after row) places
  pub kept : (place : ℕ) → IsSameAt before row place → IsSameAt after row place
