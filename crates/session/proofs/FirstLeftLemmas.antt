-- What a crash leaves that comes before the first statement of a run changes a page.
use Rattle.std.proofs.Common.{◌≡◌, ℕ, List, [], ◌∷◌, Option, Some, IfSome, refl, sym, ◌∙◌, arith, append-nil, subst}
use Rattle.mdc_ast.specs.declared.reply.Outcome.{Outcome}
use Rattle.mdc_ast.specs.declared.statement.Stmt.{Stmt}
use Rattle.mdc_ast.specs.Reading.{Item}
use Rattle.store_api.specs.Moments.{OnlyBase}
use Rattle.store_api.specs.StoreState.{StoreState}
use Rattle.table_trees.specs.ToldPages.{PageList}
use Rattle.script_engine.specs.Held.{HeldPages}
use Rattle.session.specs.script.Ending.{IsPartOfNext}
use Rattle.session.specs.script.Going.{IsHeldIn, Stage, stage_after, still}
use Rattle.session.specs.script.Leaving.{AreKept, LeftBy}

-- nothing is a first part of each text
part_nothing : (outcomes : List Outcome) → IsPartOfNext outcomes []
part_nothing [] = refl
part_nothing (outcome ∷ outcomes) = (_, refl)

-- before the first item what was held is held
held_first : (held : HeldPages) (stages : List Stage) → IsHeldIn (stage_after (still held) stages 0) held
held_first held [] = refl
held_first held (next ∷ stages) = refl

module _ {Left : PageList → Type 0} {Stopped : HeldPages → Stmt → PageList → Type 0} where
  -- the pages that were held at the start, with nothing said, are left by each run
  pub left_first : (held : HeldPages) (stages : List Stage) (outcomes : List Outcome) (in_hand : List Item) (before : List ℕ) (pages : PageList) (left : Option PageList) (heard : List ℕ)
      → Left pages → held.base ≡ pages → left ≡ Some pages → heard ≡ before → LeftBy Left Stopped held stages outcomes in_hand before left heard
  left_first held stages outcomes in_hand before pages left heard served base is said = record {
    pages = pages;
    reopens = is;
    served = served;
    items = 0;
    kept = AreKept.done (omega arith) held (held_first held stages) (sym base);
    more = [];
    told_is = said ∙ sym (append-nil before);
    begun = 0;
    has_begun = record { answered = 0; says = record { done = []; left = outcomes; part = []; all = refl; next = part_nothing outcomes; bytes = refl; count = refl }; count = refl };
    all_begun = omega arith;
    one_more = omega arith;
  }

  -- and so is what a store leaves whose base is these
  pub left_only_base : (held : HeldPages) (stages : List Stage) (outcomes : List Outcome) (in_hand : List Item) (before : List ℕ) (s : StoreState) (left : Option PageList) (heard : List ℕ)
      → Left s.base → held.base ≡ s.base → s.told ≡ Some before → OnlyBase s left heard → LeftBy Left Stopped held stages outcomes in_hand before left heard
  left_only_base held stages outcomes in_hand before s left heard served base told only =
      left_first held stages outcomes in_hand before s.base left heard served base only.0
      (subst (λ (o : Option (List ℕ)). IfSome o (λ bytes. heard ≡ bytes)) told only.1)
