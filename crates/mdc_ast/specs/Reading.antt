-- What a script says: its items, one for each statement (docs/GRAMMAR.md, "What can't be read").
use Rattle.std.specs.Prelude.{◌≡◌, ◌<◌, ◌≤◌, ℕ, ◌+◌, ◌-◌, List, [], ◌∷◌, ◌++◌, length, false, Some, None}
use Rattle.mdc_ast.specs.declared.statement.Stmt.{Stmt}
use Rattle.mdc_ast.specs.declared.refusal.Refusal.{Refusal}
use Rattle.mdc_ast.specs.Cutting.{Cut, Trims}
use Rattle.mdc_ast.specs.Tokens.{Token, Tokens, FirstStrange}
use Rattle.mdc_ast.specs.Grammar.{Spells, SpellsIn}
use Rattle.mdc_ast.specs.Places.{FailsAt, TooMuchAt}

-- a statement that is understood, or a refusal
pub data Item : Type 0 where
  Statement : Stmt → Item
  Refused : Refusal → Item

-- the greatest number of bytes of a statement
abbrev pub statement_limit : ℕ
statement_limit = 65536

-- how many NOTs and parentheses of a predicate may stand within one another
abbrev pub nesting_limit : ℕ
nesting_limit = 64

-- the refusals of what can't be read

-- 10: no statement goes on so
abbrev pub syntax_at : ℕ → Refusal
syntax_at place = record { number = 10; place = place; name = record { 0 = [] }; kept = 0 }

-- 11: the statement has too many bytes
abbrev pub too_long : Refusal
too_long = record { number = 11; place = 0; name = record { 0 = [] }; kept = statement_limit }

-- 13: no statement has such a byte
abbrev pub strange_at : ℕ → ℕ → Refusal
strange_at byte place = record { number = 13; place = place; name = record { 0 = [] }; kept = byte }

-- 26: a predicate nests too deep
abbrev pub too_deep : Refusal
too_deep = record { number = 26; place = 0; name = record { 0 = [] }; kept = nesting_limit }

-- the place of what has so many bytes from it on, counted from 1 at the statement's first byte
abbrev pub place_of : List ℕ → ℕ → ℕ
place_of statement left = length statement + 1 - left

-- how many bytes are left where these tokens begin
abbrev pub bytes_left : List Token → ℕ
bytes_left [] = 0
bytes_left (t ∷ rest) = t.left

-- the bytes of a statement are few enough and all as they may be, and they are these tokens
pub record Reached (statement : List ℕ) (tokens : List Token) : Type 0 where
  pub few : length statement ≤ statement_limit
  pub plain : FirstStrange false statement None
  pub split : Tokens statement tokens

-- The item of a statement's bytes. Refused is what is too long, else what has a byte that no statement has, else what the
-- tokens don't spell, at the first one with which no statement goes on, or which nests too deep.
pub data IsItemOf : List ℕ → Item → Type 0 where
  understood : {statement : List ℕ} {stmt : Stmt} (tokens : List Token) → Reached statement tokens → SpellsIn nesting_limit tokens stmt [] → IsItemOf statement (Statement stmt)
  long : {statement : List ℕ} → statement_limit < length statement → IsItemOf statement (Refused too_long)
  strange : {statement : List ℕ} {place : ℕ} (b : ℕ) (rest : List ℕ) → length statement ≤ statement_limit → FirstStrange false statement (Some (b ∷ rest)) → place ≡ place_of statement (length (b ∷ rest)) → IsItemOf statement (Refused (strange_at b place))
  syntax_fault : {statement : List ℕ} {place : ℕ} (tokens rest : List Token) → Reached statement tokens → FailsAt (SpellsIn nesting_limit) Spells tokens rest → place ≡ place_of statement (bytes_left rest) → IsItemOf statement (Refused (syntax_at place))
  deep : {statement : List ℕ} (tokens rest : List Token) → Reached statement tokens → TooMuchAt (SpellsIn nesting_limit) (SpellsIn (nesting_limit + 1)) tokens rest → IsItemOf statement (Refused too_deep)

-- the items of pieces, in order: one for each piece that has a statement
pub data ItemsOf : List (List ℕ) → List Item → Type 0 where
  none : ItemsOf [] []
  empty : {piece : List ℕ} {pieces : List (List ℕ)} {items : List Item} → Trims piece [] → ItemsOf pieces items → ItemsOf (piece ∷ pieces) items
  item : {piece : List ℕ} {pieces : List (List ℕ)} {items : List Item} (b : ℕ) (rest : List ℕ) (first : Item) → Trims piece (b ∷ rest) → IsItemOf (b ∷ rest) first → ItemsOf pieces items → ItemsOf (piece ∷ pieces) (first ∷ items)

-- the script has these items
pub record Reads (script : List ℕ) (items : List Item) : Type 0 where
  pub closed : List (List ℕ)
  pub last : List ℕ
  pub cut : Cut script closed last
  pub items_of : ItemsOf (closed ++ last ∷ []) items

-- these are the items that semicolons close: those of the part of the script up to its last cutting semicolon
pub record Closes (script : List ℕ) (items : List Item) : Type 0 where
  pub closed : List (List ℕ)
  pub last : List ℕ
  pub cut : Cut script closed last
  pub items_of : ItemsOf closed items
