-- What a reader gave of a script at each end.
use Rattle.std.specs.Prelude.{◌≡◌, ◌⊎◌, ◌<◌, ◌≤◌, ℕ, List, [], ◌++◌, length, take, Option, Some, Result, Ok, Err, IfSome}
use Rattle.mdc_ast.specs.Reading.{Item, Reads, Closes}
use Rattle.sql_reader.specs.declared.statements.ReadStop.{ReadStop}
use Rattle.sql_reader.specs.declared.statements.ReadStop.TheVariants.{Source, TooLong, Memory}

-- Which items were given of what was taken: all at the script's end; all that are closed where a read failed or the limit was
-- passed; and the first of them where memory was wanted.
abbrev pub ReadsTo : List ℕ → List ℕ → List Item → Result (Unit {0}) ReadStop → Type 0
ReadsTo taken rest items (Ok done) = Reads taken items × (rest ≡ []) × (length taken ≤ 67108864)
ReadsTo taken rest items (Err Source) = Closes taken items × (length taken ≤ 67108864)
ReadsTo taken rest items (Err TooLong) = Closes (take 67108864 taken) items × (67108864 < length taken)
ReadsTo taken rest items (Err Memory) =
    ((more : List Item) × (((past : ℕ) × Closes (take past taken) (items ++ more)) ⊎ (Reads taken (items ++ more) × (rest ≡ [])))) × (length taken ≤ 67108864)

-- where the source tells its bytes, what was taken and what was given of it
abbrev pub ReadsFrom : Option (List ℕ) → Option (List ℕ) → List Item → Result (Unit {0}) ReadStop → Type 0
ReadsFrom script left items result = IfSome script (λ script. (taken rest : List ℕ) × (script ≡ taken ++ rest) × (left ≡ Some rest) × ReadsTo taken rest items result)
