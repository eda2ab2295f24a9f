-- Why a statement isn't done. Each cause has its refusal and its text, so that no number is without a text.
use Rattle.std.specs.Prelude.{◌≡◌, ℕ, List, [], ◌∷◌, ◌++◌, Bool, true, false, ◌==◌, if◌then◌else◌, Option, Some, None, codes, refl}
use Rattle.std.specs.Fmt.{decimal}
use Rattle.mdc_ast.specs.declared.name.Name.{Name}
use Rattle.mdc_ast.specs.declared.refusal.Refusal.{Refusal}

-- what is said against a statement, with the name, the number or the place that its text tells
pub data Cause : Type 0 where
  Syntax : (place : ℕ) → Cause
  TooLong : Cause
  State : Cause
  BadByte : (byte place : ℕ) → Cause
  NotBuilt : Cause
  TableExists : Name → Cause
  NoTable : Name → Cause
  NoColumn : Name → Cause
  ColumnTwice : Name → Cause
  IndexExists : Name → Cause
  NoIndex : Name → Cause
  Limit : ℕ → Cause
  NotGrouped : Name → Cause
  WrongType : Name → Cause
  OutOfRange : Name → Cause
  NullIn : Name → Cause
  TextTooLong : Name → Cause
  NoDate : Name → Cause
  WrongCount : Cause
  GivenGenerated : Name → Cause
  Overflow : Name → Cause
  DuplicateKey : Name → Cause
  BadExpression : Name → Cause
  FileFull : (extents : ℕ) → Cause
  NumbersUsedUp : (next : ℕ) → Cause

-- no letters, where a refusal keeps no name
abbrev pub no_name : Name
no_name = record { 0 = [] }

-- a refusal that keeps nothing beside its number
abbrev pub bare : ℕ → Refusal
bare number = record { number = number; place = 0; name = no_name; kept = 0 }

-- a refusal that keeps the name of a table, a column or an index
abbrev pub naming : ℕ → Name → Refusal
naming number name = record { number = number; place = 0; name = name; kept = 0 }

-- a refusal that keeps a number, as a limit
abbrev pub keeping : ℕ → ℕ → Refusal
keeping number kept = record { number = number; place = 0; name = no_name; kept = kept }

-- the number of a cause, and what is kept of it
abbrev pub refusal_of : Cause → Refusal
refusal_of (Syntax place) = record { number = 10; place = place; name = no_name; kept = 0 }
refusal_of TooLong = keeping 11 65536
refusal_of State = bare 12
refusal_of (BadByte byte place) = record { number = 13; place = place; name = no_name; kept = byte }
refusal_of NotBuilt = bare 14
refusal_of (TableExists name) = naming 20 name
refusal_of (NoTable name) = naming 21 name
refusal_of (NoColumn name) = naming 22 name
refusal_of (ColumnTwice name) = naming 23 name
refusal_of (IndexExists name) = naming 24 name
refusal_of (NoIndex name) = naming 25 name
refusal_of (Limit n) = keeping 26 n
refusal_of (NotGrouped name) = naming 27 name
refusal_of (WrongType name) = naming 30 name
refusal_of (OutOfRange name) = naming 31 name
refusal_of (NullIn name) = naming 32 name
refusal_of (TextTooLong name) = naming 33 name
refusal_of (NoDate name) = naming 34 name
refusal_of WrongCount = bare 35
refusal_of (GivenGenerated name) = naming 36 name
refusal_of (Overflow name) = naming 37 name
refusal_of (DuplicateKey name) = naming 40 name
refusal_of (BadExpression name) = naming 41 name
refusal_of (FileFull n) = keeping 70 n
refusal_of (NumbersUsedUp n) = keeping 71 n

-- what is said of a cause behind the word ERROR
abbrev pub cause_text : Cause → List ℕ
cause_text (Syntax place) = codes "10 syntax at byte " ++ decimal place
cause_text TooLong = codes "11 statement longer than 65536 bytes"
cause_text State = codes "12 transaction state"
cause_text (BadByte byte place) = codes "13 character " ++ decimal byte ++ codes " at byte " ++ decimal place
cause_text NotBuilt = codes "14 not built"
cause_text (TableExists name) = codes "20 table " ++ name.0 ++ codes " exists"
cause_text (NoTable name) = codes "21 no table " ++ name.0
cause_text (NoColumn name) = codes "22 no column " ++ name.0
cause_text (ColumnTwice name) = codes "23 column " ++ name.0 ++ codes " twice"
cause_text (IndexExists name) = codes "24 index " ++ name.0 ++ codes " exists"
cause_text (NoIndex name) = codes "25 no index " ++ name.0
cause_text (Limit n) = codes "26 limit " ++ decimal n
cause_text (NotGrouped name) = codes "27 column " ++ name.0 ++ codes " not grouped"
cause_text (WrongType name) = codes "30 wrong type for " ++ name.0
cause_text (OutOfRange name) = codes "31 out of range for " ++ name.0
cause_text (NullIn name) = codes "32 null in " ++ name.0
cause_text (TextTooLong name) = codes "33 text too long for " ++ name.0
cause_text (NoDate name) = codes "34 no such date for " ++ name.0
cause_text WrongCount = codes "35 wrong number of values"
cause_text (GivenGenerated name) = codes "36 value for generated " ++ name.0
cause_text (Overflow name) = codes "37 overflow in " ++ name.0
cause_text (DuplicateKey name) = codes "40 duplicate key in " ++ name.0
cause_text (BadExpression name) = codes "41 expression of " ++ name.0 ++ codes " not accepted"
cause_text (FileFull n) = codes "70 file full at " ++ decimal n ++ codes " extents"
cause_text (NumbersUsedUp n) = codes "71 row numbers used up at " ++ decimal n

-- the line of a cause
abbrev pub cause_line : Cause → List ℕ
cause_line cause = codes "ERROR " ++ cause_text cause ++ codes "\n"

-- ---- from a refusal to its cause

-- what each number stands for
abbrev pub numbered_causes : List (ℕ × (Refusal → Cause))
numbered_causes =
    (10, λ r. Syntax r.place) ∷ (11, λ r. TooLong) ∷ (12, λ r. State) ∷ (13, λ r. BadByte r.kept r.place) ∷ (14, λ r. NotBuilt)
    ∷ (20, λ r. TableExists r.name) ∷ (21, λ r. NoTable r.name) ∷ (22, λ r. NoColumn r.name) ∷ (23, λ r. ColumnTwice r.name)
    ∷ (24, λ r. IndexExists r.name) ∷ (25, λ r. NoIndex r.name) ∷ (26, λ r. Limit r.kept) ∷ (27, λ r. NotGrouped r.name)
    ∷ (30, λ r. WrongType r.name) ∷ (31, λ r. OutOfRange r.name) ∷ (32, λ r. NullIn r.name)
    ∷ (33, λ r. TextTooLong r.name) ∷ (34, λ r. NoDate r.name) ∷ (35, λ r. WrongCount) ∷ (36, λ r. GivenGenerated r.name)
    ∷ (37, λ r. Overflow r.name) ∷ (40, λ r. DuplicateKey r.name) ∷ (41, λ r. BadExpression r.name) ∷ (70, λ r. FileFull r.kept) ∷ (71, λ r. NumbersUsedUp r.kept) ∷ []

-- the first of these causes whose number the refusal has
abbrev pub cause_among : List (ℕ × (Refusal → Cause)) → Refusal → Option Cause
cause_among [] r = None
cause_among ((number, cause) ∷ causes) r = if number == r.number then Some (cause r) else cause_among causes r

-- the cause of a refusal; none has another number
abbrev pub cause_of : Refusal → Option Cause
cause_of r = cause_among numbered_causes r

-- the line that is said, and nothing where there is no cause
abbrev pub line_of_cause : Option Cause → List ℕ
line_of_cause None = []
line_of_cause (Some cause) = cause_line cause

-- the line of a refusal
abbrev pub refusal_line : Refusal → List ℕ
refusal_line r = line_of_cause (cause_of r)

-- what a cause is refused with has that cause
pub cause_of-refusal_of : (cause : Cause) → cause_of (refusal_of cause) ≡ Some cause
cause_of-refusal_of (Syntax place) = refl
cause_of-refusal_of TooLong = refl
cause_of-refusal_of State = refl
cause_of-refusal_of (BadByte byte place) = refl
cause_of-refusal_of NotBuilt = refl
cause_of-refusal_of (TableExists name) = refl
cause_of-refusal_of (NoTable name) = refl
cause_of-refusal_of (NoColumn name) = refl
cause_of-refusal_of (ColumnTwice name) = refl
cause_of-refusal_of (IndexExists name) = refl
cause_of-refusal_of (NoIndex name) = refl
cause_of-refusal_of (Limit n) = refl
cause_of-refusal_of (NotGrouped name) = refl
cause_of-refusal_of (WrongType name) = refl
cause_of-refusal_of (OutOfRange name) = refl
cause_of-refusal_of (NullIn name) = refl
cause_of-refusal_of (TextTooLong name) = refl
cause_of-refusal_of (NoDate name) = refl
cause_of-refusal_of WrongCount = refl
cause_of-refusal_of (GivenGenerated name) = refl
cause_of-refusal_of (Overflow name) = refl
cause_of-refusal_of (DuplicateKey name) = refl
cause_of-refusal_of (BadExpression name) = refl
cause_of-refusal_of (FileFull n) = refl
cause_of-refusal_of (NumbersUsedUp n) = refl

-- a cause where a test says so
abbrev pub cause_if : Bool → Cause → List Cause
cause_if true cause = cause ∷ []
cause_if false cause = []
