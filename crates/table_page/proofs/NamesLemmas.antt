-- Names judged byte by byte, and names that stand again.
use Rattle.std.proofs.Common.{◌≡◌, ◌≤◌, ◌-◌, ◌∙◌, ℕ, Bool, true, false, List, [], ◌∷◌, length, take, drop, get_or, refl, sym, ap, arith}
use Rattle.std.specs.Prelude.{◌&&◌, ◌||◌, not, map}
use Rattle.std.specs.List.{list_all, list_any}
use Rattle.std.proofs.lemmas.List.{take_all}
use Rattle.mdc_ast.specs.Tokens.{is_letter, is_lower, is_word_byte}
use Rattle.mdc_ast.specs.declared.definition.ColumnDef.{ColumnDef}
use Rattle.mdc_ast.specs.declared.definition.IndexDef.{IndexDef}
use Rattle.mdc_ast.specs.declared.name.Name.{Name}
use Rattle.mdc_ast.specs.Definitions.{column_names, is_among, is_same}
use Rattle.mdc_ast.specs.TableLimits.{is_kept_word}

-- two tests at once
both_at : (a b c d : Bool) → ((a && b) && (c && d)) ≡ ((a && c) && (b && d))
both_at true true c d = refl
both_at true false true d = refl
both_at true false false d = refl
both_at false b c d = refl

abbrev is_kept : ℕ → Bool
is_kept byte = is_word_byte byte && not (is_lower byte)

list_all-both : (bytes : List ℕ) → list_all is_kept bytes ≡ (list_all is_word_byte bytes && list_all (λ c. not (is_lower c)) bytes)
list_all-both [] = refl
list_all-both (b ∷ bytes) =
    ap (λ rest. (is_word_byte b && not (is_lower b)) && rest) (list_all-both bytes)
    ∙ both_at (is_word_byte b) (not (is_lower b)) (list_all is_word_byte bytes) (list_all (λ c. not (is_lower c)) bytes)

joined : (l n w m : Bool) → (l && n) ≡ true → (w && m) ≡ ((l && w) && (n && m))
joined true true w m e = refl
joined true false w m e = absurd (cc e)
joined false n w m e = absurd (cc e)

-- a word by its first byte and the others
pub is_kept_word-parts : (word : List ℕ) (first rest : Bool) → 1 ≤ length word → first ≡ (is_letter (get_or word 0 0) && not (is_lower (get_or word 0 0))) → first ≡ true
    → rest ≡ list_all is_kept (take (length word - 1) (drop 1 word)) → rest ≡ is_kept_word word
is_kept_word-parts [] first rest some is true_first are = absurd (omega (arith, some))
is_kept_word-parts (b ∷ more) first rest some is true_first are =
    are ∙ (ap (list_all is_kept) (take_all (length (b ∷ more) - 1) more (omega arith))
    ∙ (list_all-both more ∙ joined (is_letter b) (not (is_lower b)) (list_all is_word_byte more) (list_all (λ c. not (is_lower c)) more) (sym is ∙ true_first)))

-- a name among those of columns, or of indexes
pub is_among-columns : (name : Name) (columns : List ColumnDef) → list_any (λ column. is_same name column.name) columns ≡ is_among name (column_names columns)
is_among-columns name [] = refl
is_among-columns name (column ∷ columns) = ap (λ rest. is_same name column.name || rest) (is_among-columns name columns)

pub is_among-indexes : (name : Name) (indexes : List IndexDef) → list_any (λ index. is_same name index.name) indexes ≡ is_among name (map (λ index. index.name) indexes)
is_among-indexes name [] = refl
is_among-indexes name (index ∷ indexes) = ap (λ rest. is_same name index.name || rest) (is_among-indexes name indexes)
