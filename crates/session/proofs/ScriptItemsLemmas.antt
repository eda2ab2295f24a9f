-- The items that a reader has given, among those of its script.
use Rattle.std.proofs.Common.{◌≡◌, ◌⊎◌, ◌≤◌, ℕ, List, [], ◌∷◌, ◌++◌, length, Bool, true, false, refl, sym, ap, subst, inl, inr, arith}
use Rattle.std.proofs.lemmas.List.{append-nil}
use Rattle.std.specs.List.{flat_map}
use Rattle.mdc_ast.specs.Cutting.{nothing}
use Rattle.mdc_ast.specs.Reading.{Closes, Item, ItemsOf, Reads, none}
use Rattle.sql_reader.specs.Progress.{Given, IsGivenAt, IsLastRead, Progress, at_start}
use Rattle.session.specs.script.Ending.{AnswersInTime, AreTaken}
use Rattle.session.specs.script.ScriptLaws.{ScriptLaws}

-- nothing closes no item
pub closes_nothing : Closes [] []
closes_nothing = record { closed = []; last = []; cut = record { each = tt; behind = nothing; bytes = refl }; items_of = none }

-- nothing is given at the start
pub none_given : Given at_start []
none_given = closes_nothing

-- what a reader has given, and more, are the items of what it took
pub taken_more : (laws : ScriptLaws) (finished : Bool) (taken rest : List ℕ) (past : ℕ) (given : List Item) → IsGivenAt finished taken past given → (finished ≡ true → rest ≡ [])
    → (more : List Item) × AreTaken taken rest (given ++ more)
taken_more laws true taken rest past given reads empty =
    ([], inr (subst (λ (items : List Item). Reads taken items) (sym (append-nil given)) reads, empty refl))
taken_more laws false taken rest past given closes empty =
    let closed = laws.some_closing taken in
    let more = laws.front taken past given closed.0 closes closed.1 in
    (more.0, inl (subst (λ (items : List Item). Closes taken items) more.1 closed.1))

-- ---- in time

-- pieces that semicolons close have a byte
no_piece : (closed : List (List ℕ)) (last : List ℕ) → [] ≡ flat_map (λ piece. piece ++ 59 ∷ []) closed ++ last → closed ≡ []
no_piece [] last whole = refl
no_piece ([] ∷ closed) last whole = cc
no_piece ((b ∷ piece) ∷ closed) last whole = cc

-- no pieces have no items
no_item : (closed : List (List ℕ)) (items : List Item) → closed ≡ [] → ItemsOf closed items → items ≡ []
no_item [] items is none = refl
no_item (piece ∷ closed) items is of = cc

-- so nothing closes no other items
closes_none : (items : List Item) → Closes [] items → items ≡ []
closes_none items closes = no_item closes.closed items (no_piece closes.closed closes.last closes.cut.bytes) closes.items_of

-- before the first read nothing has closed
pub in_time_first : AnswersInTime [] 0
in_time_first = record {
  before = [];
  piece = [];
  is = refl;
  short = omega arith;
  closed = λ items closes. let e : items ≡ [] = closes_none items closes in omega (arith, ap length e);
}

-- a read comes only once each closed statement was given
pub in_time_on : (laws : ScriptLaws) (old : Progress) (taken : List ℕ) (items : List Item) → Given old items → AnswersInTime old.taken (length items)
    → (taken ≡ old.taken) ⊎ IsLastRead old taken → AnswersInTime taken (length items)
in_time_on laws old taken items given was (inl same) = subst (λ (bytes : List ℕ). AnswersInTime bytes (length items)) (sym same) was
in_time_on laws old taken items given was (inr last) = record {
  before = last.before;
  piece = last.piece;
  is = last.is;
  short = last.short;
  closed = λ others closes. let e : others ≡ items = laws.one_closing last.before items others (last.given items given) closes in omega (arith, ap length e);
}

-- one more answer is in time too
pub in_time_more : (taken : List ℕ) (few many : ℕ) → AnswersInTime taken few → few ≤ many → AnswersInTime taken many
in_time_more taken few many was more = record {
  before = was.before;
  piece = was.piece;
  is = was.is;
  short = was.short;
  closed = λ others closes. omega (arith, was.closed others closes);
}
