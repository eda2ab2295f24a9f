-- A statement that a reader gives is written so in its script, and the reader goes on in the script.
use Rattle.std.proofs.Common.{◌≡◌, ℕ, List, [], ◌∷◌, ◌++◌, Bool, true, false, Option, Some, None, IfOk, IfSome, Result, Ok, Err, refl, subst}
use Rattle.mdc_ast.specs.Reading.{IsItemOf, Item, ItemsOf}
use Rattle.sql_reader.specs.Item.{item_of}
use Rattle.sql_reader.specs.Progress.{Given, IsGivenAt, Progress}
use Rattle.sql_reader.specs.Step.{GoesOn}
use Rattle.sql_reader.specs.declared.statements.Read.{Read}
use Rattle.sql_reader.specs.declared.statements.Read.TheVariants as read
use Rattle.sql_reader.specs.declared.statements.ReadStop.{ReadStop}
use Rattle.session.specs.script.Written.{IsReadWritten}

-- the last of the items of some pieces is that of some bytes
last_written : {pieces : List (List ℕ)} {items : List Item} (given : List Item) (item : Item) → items ≡ given ++ item ∷ [] → ItemsOf pieces items → (bytes : List ℕ) × IsItemOf bytes item
last_written [] item e ItemsOf.none = absurd (cc)
last_written (first ∷ given) item e ItemsOf.none = absurd (cc)
last_written given item e (ItemsOf.empty trims more) = last_written given item e more
last_written [] item e (ItemsOf.item b rest first trims is more) = (b ∷ rest, subst (IsItemOf (b ∷ rest)) (let same : first ≡ item = cc in same) is)
last_written (one ∷ given) item e (ItemsOf.item {items = items} b rest first trims is more) = last_written given item (let same : items ≡ given ++ item ∷ [] = cc in same) more

-- so is the last of the items given
given_written : (finished : Bool) (taken : List ℕ) (past : ℕ) (given : List Item) (item : Item) → IsGivenAt finished taken past (given ++ item ∷ []) → (bytes : List ℕ) × IsItemOf bytes item
given_written true taken past given item reads = last_written given item refl reads.items_of
given_written false taken past given item closes = last_written given item refl closes.items_of

-- an item that some bytes spell, where it is a statement
read_written : (read : Read) → (bytes : List ℕ) × IsItemOf bytes (item_of read) → IsReadWritten read
read_written (read.Stmt stmt) written = written
read_written (read.Refused refusal) written = tt

-- what a step gives is written
pub found_written : {Object : Type 0} (left : Object → Option (List ℕ)) (before after : Object) (old new : Progress) (result : Result (Option Read) ReadStop) (items : List Item) → GoesOn left before after old new result → Given old items
    → IfOk result (λ found. IfSome found IsReadWritten)
found_written left before after old new (Ok (Some read)) items goes given = read_written read (given_written new.finished new.taken new.past items (item_of read) (goes.item items given))
found_written left before after old new (Ok None) items goes given = tt
found_written left before after old new (Err stop) items goes given = tt
