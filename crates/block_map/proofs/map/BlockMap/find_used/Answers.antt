use Rattle.std.proofs.Common.{◌≡◌, subst, sym, ◌∙◌, refl}
use Rattle.std.specs.Prelude.{Option}
use Rattle.block_map.specs.BlockMaps.{FindsBlock}
use Rattle.block_map.specs.FoundRows.{IsRowFound, found_row}
use Rattle.block_map.specs.Counting.{used_row}
use Rattle.block_map.specs.declared.looking.FoundRow.{FoundRow}
use Rattle.block_map.proofs.CountingLemmas.{is_used, isnt_used, not_used, used_is}
use Rattle.block_map.proofs.FoundRowsLemmas.{at_none, at_some}
use Rattle.block_map.proofs.map.BlockMap.find_used.Goals as goal

pub returns-in_default-clause-finds : goal.returns-in_default-clause-finds
returns-in_default-clause-finds g c t h form rows small has = at_none c.in_ok-found.field-0 c.in_default.is c.in_ok-found.ensures.lacks t h (used_row c.args.block rows) refl has

pub returns-then-ne-clause-finds : goal.returns-then-ne-clause-finds
returns-then-ne-clause-finds g c t h form rows small has =
    let named = at_some (λ (f : FoundRow). f.row.block ≡ c.args.block) c.in_ok-found.field-0 c.in-Some.found c.in-Some.is c.in_ok-found.ensures.named in
    not_used t c.args.block rows c.in-Some.found.row form named (isnt_used c.in-Some.found.row.state (sym c.ne.ensures ∙ c.if-ne.true))
    (subst (λ (o : Option FoundRow). FindsBlock t c.args.block (found_row o)) c.in-Some.is (c.in_ok-found.ensures.found t h)).1 has

pub returns-clause-finds : goal.returns-clause-finds
returns-clause-finds g c =
    let named = at_some (λ (f : FoundRow). f.row.block ≡ c.args.block) c.in_ok-found.field-0 c.in-Some.found c.in-Some.is c.in_ok-found.ensures.named in
    record {
      used = used_is c.in-Some.found.row c.args.block named (is_used c.in-Some.found.row.state (sym c.ne.ensures ∙ c.if-ne.false));
      there = λ t h. (subst (λ (o : Option FoundRow). FindsBlock t c.args.block (found_row o)) c.in-Some.is (c.in_ok-found.ensures.found t h)).1;
      stands = at_some (IsRowFound g.P.Pages c.find_row.new.pages c.args.self.now.tree) c.in_ok-found.field-0 c.in-Some.found c.in-Some.is c.in_ok-found.ensures.stands;
    }
