-- What the bytes of a part tell of the text that they were made of.
use Rattle.std.proofs.Common.{◌≡◌, ℕ, suc, false, ◌-◌, List, ◌++◌, length, take, drop, sym, ap, subst, ◌∙◌, arith}
use Rattle.std.specs.Prelude.{IsTrue, get_or}
use Rattle.std.proofs.lemmas.List.{take_at, take_rest}
use Rattle.mdc_values.specs.declared.value.ColType.{ColType}
use Rattle.mdc_values.specs.declared.value.ColType.TheVariants.{Char}
use Rattle.mdc_values.specs.declared.value.Value.{Value}
use Rattle.mdc_values.specs.declared.value.Value.TheVariants.{Null, Text}
use Rattle.mdc_values.specs.Order.{padded}
use Rattle.mdc_values.specs.Value.{trimmed}
use Rattle.mdc_ast.specs.Database.{is_of_type}
use Rattle.mdc_ast.proofs.FitsLemmas.{text_of_type}
use Rattle.key_codec.specs.Keys.{part_bytes}
use Rattle.key_codec.proofs.TextLemmas.{length-padded, trimmed-filled}

-- the text of a part that isn't a null's
pub text_told : (ty : ColType) (n : ℕ) (key field : List ℕ) (written : Value) (rest : List ℕ) → ty ≡ Char n → field ≡ trimmed (take n (take (length key - 1) (drop 1 key)))
    → get_or key 0 0 ≡ 0 → IsTrue (is_of_type ty written) → key ≡ part_bytes ty false written ++ rest → Text field ≡ written
text_told ty n key field written rest ty_is field_is present typed key_is =
    of_char written (subst (λ t. IsTrue (is_of_type t written)) ty_is typed) (key_is ∙ ap (λ t. part_bytes t false written ++ rest) ty_is)
  where
    of_char : (written : Value) → IsTrue (is_of_type (Char n) written) → key ≡ part_bytes (Char n) false written ++ rest → Text field ≡ written
    of_char Null h e = absurd (no_null (sym (ap (λ k. get_or k 0 0) e) ∙ present))
      where
        no_null : suc 0 ≡ 0 → ⊥
        no_null e = omega (arith, e)
    of_char (Text text) h e =
        let is = text_of_type n text h in
        let whole : take n (take (length key - 1) (drop 1 key)) ≡ padded n text =
        ap (take n) (take_rest key 1 ∙ ap (drop 1) e) ∙ take_at (padded n text) rest n (length-padded n text is.short) in
        ap Text (field_is ∙ ap trimmed whole ∙ trimmed-filled text (n - length text) ∙ is.ends)
    of_char value h e = cc
