-- What is said of the columns that an UPDATE sets, from a place on.
use Rattle.std.proofs.Common.{◌≡◌, ℕ, suc, ◌+◌, ◌<◌, List, [], ◌∷◌, ◌++◌, ◌||◌, Some, None, add-one, ap, drop, drop-cons, get_or, length, map, refl, sym, take, ◌∙◌}
use Rattle.std.specs.List.{list_any}
use Rattle.std.proofs.lemmas.List.{map-append, take_more}
use Rattle.mdc_ast.specs.declared.definition.ColumnDef.{ColumnDef}
use Rattle.mdc_ast.specs.declared.name.Name.{Name}
use Rattle.mdc_ast.specs.declared.statement.SetText.{SetText}
use Rattle.statement_meaning.specs.Cause.{Cause, ColumnTwice, cause_if}
use Rattle.mdc_ast.specs.Definitions.{is_among, is_same}
use Rattle.statement_meaning.specs.Judged.{item_columns, set_columns}
use Rattle.statement_meaning.specs.Judging.{used_name}
use Rattle.binder.specs.Saying.{first_of}
use Rattle.binder.proofs.ColumnLemmas.{is_among-last}
use Rattle.binder.proofs.FirstLemmas.{first_of-behind, first_of-front}

-- the columns that are set
abbrev pub set_names : List SetText → List Name
set_names sets = map (λ set. set.column) sets

-- what is said of a column that is set, behind others
abbrev pub set_said : List ColumnDef → List SetText → SetText → List Cause
set_said columns earlier set =
    used_name columns set.column ++ cause_if (list_any (λ before. is_same set.column before.column) earlier) (ColumnTwice set.column) ++ item_columns columns set.item

is_among-set_names : (name : Name) (sets : List SetText) → is_among name (set_names sets) ≡ list_any (λ set. is_same name set.column) sets
is_among-set_names name [] = refl
is_among-set_names name (set ∷ sets) = ap (λ among. is_same name set.column || among) (is_among-set_names name sets)

set_columns-same : (columns : List ColumnDef) (a b : List Name) (sets : List SetText) → ((n : Name) → is_among n a ≡ is_among n b) → set_columns columns a sets ≡ set_columns columns b sets
set_columns-same columns a b [] same = refl
set_columns-same columns a b (set ∷ sets) same =
    rw (same set.column, set_columns-same columns (set.column ∷ a) (set.column ∷ b) sets (λ n. ap (λ among. is_same n set.column || among) (same n))) refl

set_columns-step : (columns : List ColumnDef) (sets : List SetText) (i : ℕ) (set : SetText) → i < length sets → set ≡ get_or sets i set
    → set_columns columns (set_names (take i sets)) (drop i sets) ≡ set_said columns (take i sets) set ++ set_columns columns (set_names (take (i + 1) sets)) (drop (i + 1) sets)
set_columns-step columns sets i set lt at =
    let more : take (i + 1) sets ≡ take i sets ++ set ∷ [] = take_more sets i set lt ∙ ap (λ s. take i sets ++ s ∷ []) (sym at) in
    let names : set_names (take (i + 1) sets) ≡ set_names (take i sets) ++ set.column ∷ [] = ap set_names more ∙ map-append (λ s. s.column) (take i sets) (set ∷ []) in
    let tail : drop i sets ≡ set ∷ drop (i + 1) sets = rw (drop-cons sets i set, add-one) (ap (λ s. s ∷ drop (suc i) sets) (sym at)) in
    rw (tail, is_among-set_names set.column (take i sets)) (ap (λ rest. set_said columns (take i sets) set ++ rest)
    (set_columns-same columns (set.column ∷ set_names (take i sets)) (set_names (take (i + 1) sets)) (drop (i + 1) sets) (λ n. is_among-last (set_names (take i sets)) set.column n ∙ ap (is_among n) (sym names))))

pub set_columns-here : (columns : List ColumnDef) (sets : List SetText) (i : ℕ) (set : SetText) (cause : Cause) → i < length sets → set ≡ get_or sets i set
    → first_of (set_said columns (take i sets) set) ≡ Some cause → first_of (set_columns columns (set_names (take i sets)) (drop i sets)) ≡ Some cause
set_columns-here columns sets i set cause lt at e =
    ap first_of (set_columns-step columns sets i set lt at) ∙ first_of-front (set_said columns (take i sets) set) (set_columns columns (set_names (take (i + 1) sets)) (drop (i + 1) sets)) cause e

pub set_columns-next : (columns : List ColumnDef) (sets : List SetText) (i : ℕ) (set : SetText) → i < length sets → set ≡ get_or sets i set
    → first_of (set_said columns (take i sets) set) ≡ None → first_of (set_columns columns (set_names (take i sets)) (drop i sets)) ≡ first_of (set_columns columns (set_names (take (i + 1) sets)) (drop (i + 1) sets))
set_columns-next columns sets i set lt at e =
    ap first_of (set_columns-step columns sets i set lt at) ∙ first_of-behind (set_said columns (take i sets) set) (set_columns columns (set_names (take (i + 1) sets)) (drop (i + 1) sets)) e
