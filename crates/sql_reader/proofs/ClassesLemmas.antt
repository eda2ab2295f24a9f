-- The table of classes is held against definitions at each of the 256 bytes, by computing.
use Rattle.std.proofs.Common.{◌≡◌, ℕ, ◌<◌, map, get_or, refl, ap, sym, ◌∙◌, arith}
use Rattle.std.specs.List.{range_with_len}
use Rattle.std.specs.Prelude.{◌==◌, nat_le}
use Rattle.std.proofs.lemmas.List.FromFn.{get_or-map-range_with_len}
use Rattle.mdc_ast.specs.Cutting.{is_blank}
use Rattle.mdc_ast.specs.Tokens.{is_word_byte}
use Rattle.sql_reader.specs.Front.{class_at, class_marked}
use Rattle.sql_reader.specs.declared.lexer.Class.TheVariants as class
use Rattle.sql_reader.specs.declared.lexer.TheConstants.{CLASSES}

-- two functions that agree at the bytes in turn agree at each byte
same_at_bytes : {A : Type 0} → (f g : ℕ → A) → (other : A) → map f (range_with_len 0 256) ≡ map g (range_with_len 0 256) → (b : ℕ) → b < 256 → f b ≡ g b
same_at_bytes f g other same b below =
    sym (get_or-map-range_with_len f 0 256 b b other below (omega arith)) ∙ ap (λ t. get_or t b other) same ∙ get_or-map-range_with_len g 0 256 b b other below (omega arith)

-- the table has each byte's class
pub class_marked-CLASSES : (b : ℕ) → b < 256 → class_marked (get_or CLASSES b 0) ≡ class_at b
class_marked-CLASSES = same_at_bytes (λ b. class_marked (get_or CLASSES b 0)) class_at class.Unknown refl

-- it has the mark of a blank at blanks alone
pub blank-CLASSES : (b : ℕ) → b < 256 → (get_or CLASSES b 0 == 53) ≡ is_blank b
blank-CLASSES = same_at_bytes (λ b. get_or CLASSES b 0 == 53) is_blank (0 == 1) refl

-- its lowest marks are those of the bytes of words
pub word-CLASSES : (b : ℕ) → b < 256 → nat_le (get_or CLASSES b 0) 50 ≡ is_word_byte b
word-CLASSES = same_at_bytes (λ b. nat_le (get_or CLASSES b 0) 50) is_word_byte (0 == 1) refl
