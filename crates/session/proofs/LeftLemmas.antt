-- What a crash leaves of a run of items: of one run and then another, and as a part of a longer run.
use Rattle.std.proofs.Common.{◌≡◌, ◌+◌, ℕ, List, [], ◌∷◌, ◌++◌, length, length-append, Option, sym, subst, ◌∙◌, ap, append_assoc, arith}
use Rattle.std.proofs.lemmas.Grind.{flat_map-append}
use Rattle.mdc_ast.specs.declared.reply.Outcome.{Outcome}
use Rattle.mdc_ast.specs.declared.statement.Stmt.{Stmt}
use Rattle.mdc_ast.specs.Reading.{Item}
use Rattle.statement_meaning.specs.Texts.{outcome_text, texts}
use Rattle.table_trees.specs.ToldPages.{PageList}
use Rattle.script_engine.specs.Held.{HeldPages}
use Rattle.session.specs.script.Ending.{IsPartOfNext, Says}
use Rattle.session.specs.script.Going.{IsHeldIn, Stage, held_last, still}
use Rattle.session.specs.script.Leaving.{AreKept, HasBegun, LeftBy, done, stopped}
use Rattle.session.proofs.GoingLemmas.{held_behind_stages, held_last-append, stage_after-front}

-- ---- what is said

next_more : (left more : List Outcome) (part : List ℕ) → IsPartOfNext left part → IsPartOfNext (left ++ more) part
next_more [] [] part none = none
next_more [] (outcome ∷ more) part none = (outcome_text outcome, ap (λ p. p ++ outcome_text outcome) (sym none))
next_more (outcome ∷ left) more part next = next

-- the same of more outcomes
pub says_wider : {outcomes : List Outcome} {said : List ℕ} {answered : ℕ} (more : List Outcome) → Says outcomes said answered → Says (outcomes ++ more) said answered
says_wider more says = record {
  done = says.done;
  left = says.left ++ more;
  part = says.part;
  all = ap (λ (xs : List Outcome). xs ++ more) says.all ∙ append_assoc says.done says.left more;
  next = next_more says.left more says.part says.next;
  bytes = says.bytes;
  count = says.count;
}

-- all of these, and then some of others
pub says_then : {others : List Outcome} {said : List ℕ} {answered : ℕ} (outcomes : List Outcome) → Says others said answered → Says (outcomes ++ others) (texts outcomes ++ said) (length outcomes + answered)
says_then outcomes says = record {
  done = outcomes ++ says.done;
  left = says.left;
  part = says.part;
  all = ap (λ (xs : List Outcome). outcomes ++ xs) says.all ∙ sym (append_assoc outcomes says.done says.left);
  next = says.next;
  bytes = ap (λ (xs : List ℕ). texts outcomes ++ xs) says.bytes
      ∙ (sym (append_assoc (texts outcomes) (texts says.done) says.part) ∙ ap (λ (xs : List ℕ). xs ++ says.part) (sym (flat_map-append outcome_text outcomes says.done)));
  count = omega (arith, says.count, length-append outcomes says.done);
}

begun_wider : {outcomes : List Outcome} {said : List ℕ} {begun : ℕ} (more : List Outcome) → HasBegun outcomes said begun → HasBegun (outcomes ++ more) said begun
unfolding says_wider
begun_wider more begun = record { answered = begun.answered; says = says_wider more begun.says; count = begun.count }

begun_then : {others : List Outcome} {said : List ℕ} {begun : ℕ} (outcomes : List Outcome) → HasBegun others said begun → HasBegun (outcomes ++ others) (texts outcomes ++ said) (length outcomes + begun)
unfolding says_then
begun_then outcomes begun = record { answered = length outcomes + begun.answered; says = says_then outcomes begun.says; count = omega (arith, begun.count) }

-- ---- which pages are kept

module _ {Stopped : HeldPages → Stmt → PageList → Type 0} where
  -- after some of the first items
  pub kept_wider : {held : HeldPages} {stages : List Stage} {pages : PageList} {items : ℕ} (more : List Stage) (in_hand : List Item)
      → AreKept Stopped held stages [] pages items → AreKept Stopped held (stages ++ more) in_hand pages items
  kept_wider {held = held} {stages = stages} {items = items} more in_hand (done few within is same) =
      done (omega (arith, few, length-append stages more)) within (subst (λ (stage : Stage). IsHeldIn stage within) (sym (stage_after-front (still held) stages more items few)) is) same
  kept_wider more in_hand (stopped stmt none count commits) = absurd (cc)

  -- after items behind these
  pub kept_then : {held : HeldPages} {others : List Stage} {in_hand : List Item} {pages : PageList} {items : ℕ} (stages : List Stage)
      → AreKept Stopped (held_last held stages) others in_hand pages items → AreKept Stopped held (stages ++ others) in_hand pages (length stages + items)
  kept_then {held = held} {others = others} {items = items} stages (done few within is same) =
      done (omega (arith, few, length-append stages others)) within (held_behind_stages held stages others items within is) same
  kept_then {held} {others} {pages = pages} stages (stopped stmt in_hand count commits) =
      stopped stmt in_hand (omega (arith, count, length-append stages others)) (subst (λ (last : HeldPages). Stopped last stmt pages) (sym (held_last-append held stages others)) commits)

  -- ---- what is left

  module _ {Left : PageList → Type 0} where
    -- as a part of a longer run
    pub left_wider : {held : HeldPages} {stages : List Stage} {outcomes : List Outcome} {before told : List ℕ} {left : Option PageList}
        (more : List Stage) (others : List Outcome) (in_hand : List Item) → LeftBy Left Stopped held stages outcomes [] before left told → LeftBy Left Stopped held (stages ++ more) (outcomes ++ others) in_hand before left told
    unfolding begun_wider
    left_wider more others in_hand is = record {
      pages = is.pages;
      reopens = is.reopens;
      served = is.served;
      items = is.items;
      kept = kept_wider more in_hand is.kept;
      more = is.more;
      told_is = is.told_is;
      begun = is.begun;
      has_begun = begun_wider others is.has_begun;
      all_begun = is.all_begun;
      one_more = is.one_more;
    }

    -- of a run behind another
    pub left_then : {held : HeldPages} {more : List Stage} {others : List Outcome} {in_hand : List Item} {before told : List ℕ} {left : Option PageList}
        (stages : List Stage) (outcomes : List Outcome) → length stages ≡ length outcomes
        → LeftBy Left Stopped (held_last held stages) more others in_hand (before ++ texts outcomes) left told → LeftBy Left Stopped held (stages ++ more) (outcomes ++ others) in_hand before left told
    unfolding begun_then
    left_then {before = before} stages outcomes count is = record {
      pages = is.pages;
      reopens = is.reopens;
      served = is.served;
      items = length stages + is.items;
      kept = kept_then stages is.kept;
      more = texts outcomes ++ is.more;
      told_is = is.told_is ∙ append_assoc before (texts outcomes) is.more;
      begun = length outcomes + is.begun;
      has_begun = begun_then outcomes is.has_begun;
      all_begun = omega (arith, is.all_begun, count);
      one_more = omega (arith, is.one_more, count);
    }
