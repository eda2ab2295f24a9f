-- How a run of a script ends: what was taken of the script, what was said, and which items were answered (docs/PROGRAM.md).
use Rattle.std.specs.Prelude.{◌≡◌, ◌⊎◌, ◌≤◌, ◌+◌, ℕ, List, [], ◌∷◌, ◌++◌, length, take, true, false, Result, Ok, Err}
use Rattle.mdc_ast.specs.declared.reply.Outcome.{Outcome}
use Rattle.mdc_ast.specs.Reading.{Item, Reads, Closes}
use Rattle.statement_meaning.specs.Session.{has_refusal}
use Rattle.statement_meaning.specs.Texts.{outcome_text, texts}
use Rattle.session.specs.declared.script.served.Served.{Served}
use Rattle.session.specs.declared.script.served.Served.TheVariants.{AllDone, SomeRefused}
use Rattle.session.specs.declared.stop.Stop.{Stop}
use Rattle.session.specs.declared.stop.Stop.TheVariants.{TooLong, Unread}

-- the most bytes of a script
abbrev pub script_limit : ℕ
script_limit = 67108864

-- the most bytes of one read
abbrev pub read_limit : ℕ
read_limit = 4096

-- a first part of the text of the first outcome, and nothing where there is no outcome
abbrev pub IsPartOfNext : List Outcome → List ℕ → Type 0
IsPartOfNext [] part = part ≡ []
IsPartOfNext (outcome ∷ outcomes) part = (unsaid : List ℕ) × (outcome_text outcome ≡ part ++ unsaid)

-- that many outcomes are said, from the first on, and a part of the next one's text
pub record Says (outcomes : List Outcome) (said : List ℕ) (answered : ℕ) : Type 0 where
  pub done : List Outcome
  pub left : List Outcome
  pub part : List ℕ
  pub all : outcomes ≡ done ++ left
  pub next : IsPartOfNext left part
  pub bytes : said ≡ texts done ++ part
  pub count : answered ≡ length done

-- each statement was answered as it closed: what was taken before the last read closes no more items than were answered
pub record AnswersInTime (taken : List ℕ) (answered : ℕ) : Type 0 where
  pub before : List ℕ
  pub piece : List ℕ
  pub is : taken ≡ before ++ piece
  pub short : length piece ≤ read_limit
  pub closed : (items : List Item) → Closes before items → length items ≤ answered

-- the items are those that semicolons close in what was taken, or all of them where nothing is left
abbrev pub AreTaken : List ℕ → List ℕ → List Item → Type 0
AreTaken taken rest items = Closes taken items ⊎ (Reads taken items × (rest ≡ []))

-- the script was read to its end, and all outcomes are said
pub record IsDone (taken rest said : List ℕ) (items in_hand : List Item) (outcomes : List Outcome) : Type 0 where
  pub reads : Reads taken items
  pub none_left : rest ≡ []
  pub texts_said : said ≡ texts outcomes
  pub fits : length taken ≤ script_limit
  pub none_in_hand : in_hand ≡ []

-- The run stopped at what was taken, each item of which was answered before.
pub record StopsBehind (closed said : List ℕ) (items in_hand : List Item) (outcomes : List Outcome) : Type 0 where
  pub closes : Closes closed items
  pub texts_said : said ≡ texts outcomes
  pub none_in_hand : in_hand ≡ []

-- The run stopped within what was taken: behind the items that have outcomes, at one in hand or none, and before all others. At
-- most one outcome isn't said whole, the last, and then none is in hand.
pub record StopsWithin (taken rest said : List ℕ) (items in_hand : List Item) (outcomes : List Outcome) : Type 0 where
  pub all : List Item
  pub are : AreTaken taken rest all
  pub unmet : List Item
  pub all_are : all ≡ items ++ in_hand ++ unmet
  pub answered : ℕ
  pub says : Says outcomes said answered
  pub but_one : length outcomes ≤ answered + 1
  pub at_once : (in_hand ≡ []) ⊎ (answered ≡ length outcomes)
  pub in_time : AnswersInTime taken answered
  pub fits : length taken ≤ script_limit

-- How a run ends, of which these bytes were taken and those are left.
abbrev pub EndsSo : List ℕ → List ℕ → List ℕ → List Item → List Item → List Outcome → Result Served Stop → Type 0
EndsSo taken rest said items in_hand outcomes (Ok AllDone) = IsDone taken rest said items in_hand outcomes × (has_refusal outcomes ≡ false)
EndsSo taken rest said items in_hand outcomes (Ok SomeRefused) = IsDone taken rest said items in_hand outcomes × (has_refusal outcomes ≡ true)
-- a read failed
EndsSo taken rest said items in_hand outcomes (Err Unread) = StopsBehind taken said items in_hand outcomes × (length taken ≤ script_limit)
-- one byte more was taken than the limit
EndsSo taken rest said items in_hand outcomes (Err TooLong) = StopsBehind (take script_limit taken) said items in_hand outcomes × (length taken ≡ script_limit + 1)
EndsSo taken rest said items in_hand outcomes (Err stop) = StopsWithin taken rest said items in_hand outcomes
