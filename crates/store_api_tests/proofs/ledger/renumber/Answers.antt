use Rattle.std.proofs.Common.{arith, inl, inr, subst, sym, ◌∙◌, ◌∷◌, []}
use Rattle.std.proofs.lemmas.Bool.{cases_eq}
use Rattle.store_api.specs.Frame.{HoldsPage}
use Rattle.store_api.specs.StoreState.{patched}
use Rattle.store_api.proofs.RunsOverPagesLemmas.{runs_exit, runs_more, runs_wider, still_holds}
use Rattle.store_api_tests.proofs.ledger.renumber.Goals as goal

pub loop-i-preserved : goal.loop-i-preserved
loop-i-preserved g c =
    record {
      count = c.patch_page.ensures.count ∙ c.loop-i.invariant.count;
      done = λ part holds. record {
        each = λ p low high. elim (cases_eq p c.loop-i.i) [
          | inl e ↦ subst (λ q. HoldsPage g.P.Pages c.patch_page.new.pages q (patched 0 (c.args.number ∷ []) (part q))) (sym e)
              (c.in_ok-patch_page.ensures.patches.there (part c.loop-i.i) (still_holds c.loop-i.invariant.runs (omega arith) (holds.each c.loop-i.i (omega arith) (omega arith))))
          | inr n ↦ still_holds c.patch_page.ensures.runs n ((c.loop-i.invariant.done part holds).each p low (omega (arith, high, n)))
        ];
      };
      runs = runs_more (runs_wider c.loop-i.invariant.runs (omega arith) (omega arith) (λ damage none. none)) c.in_ok-patch_page.ensures.runs (omega arith) (omega arith);
    }

pub returns-in_err-patch_page-clause-runs : goal.returns-in_err-patch_page-clause-runs
returns-in_err-patch_page-clause-runs g c = runs_exit c.from_residual.result c.from_residual.ensures.1
    (runs_more (runs_wider c.loop-i.invariant.runs (omega arith) (omega arith) (λ damage none. none)) c.in_err-patch_page.ensures.runs (omega arith) (omega arith))
