-- What a cursor took is what a reader reads.
use Rattle.std.specs.Prelude.{◌≡◌, List, Result, Ok, Err}
use Rattle.mdc_ast.specs.Tokens.{Token}
use Rattle.sql_reader.specs.declared.cursor.Stop.{Stop}
use Rattle.sql_reader.specs.declared.cursor.Stop.TheVariants.{NotSpelled, Memory}

-- a stop stands where reading stops, or is for want of memory
abbrev pub StopsAt : {Y : Type 0} → Stop → List Token → Result Y (List Token) → Type 0
StopsAt NotSpelled rest read = read ≡ Err rest
StopsAt Memory rest read = Unit {0}

-- what was taken is what is read, and the rest is what is left
abbrev pub Parses : {X : Type 0} → Result X Stop → List Token → Result (X × List Token) (List Token) → Type 0
Parses (Ok x) rest read = read ≡ Ok (x, rest)
Parses (Err stop) rest read = StopsAt stop rest read

-- the same, of what has no value
abbrev pub Skips : {X : Type 0} → Result X Stop → List Token → Result (List Token) (List Token) → Type 0
Skips (Ok x) rest read = read ≡ Ok rest
Skips (Err stop) rest read = StopsAt stop rest read
