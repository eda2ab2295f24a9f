use Rattle.std.proofs.Common.{◌<◌, ◌+◌, arith, ◌∙◌, ap, length}
use Rattle.std.proofs.lemmas.List.{length_push}
use Rattle.std.proofs.lemmas.List.Elements.{All-push}
use Rattle.store_api.proofs.RunsOverPagesLemmas.{runs_then, runs_memory, runs_exit_as}
use Rattle.extent_map.specs.Damages.{store_part_of}
use Rattle.extent_map.proofs.GrowthLemmas.{growth_keeps, keeps_root_after, zeros_then, zeros_wider}
use Rattle.extent_map.proofs.MapFormLemmas.{forms_then}
use Rattle.entry_tree.proofs.ClaimsLemmas.{if_err_by, claims_more, claims_full, claim_breaks, grows_more}
use Rattle.entry_tree.proofs.claims.claim_pages.Goals as goal

pub returns-in_err-p-clause-full : goal.returns-in_err-p-clause-full
returns-in_err-p-clause-full g c =
    if_err_by c.from_residual-in_err-p.result c.in_err-p.field-0.0 _ c.from_residual-in_err-p.ensures.1
    (claims_full c.args.shape c.args.notes.now c.loop-i.notes c.claim_index_page.new.self c.args.pages.now c.loop-i.pages c.claim_index_page.new.pages c.args.n c.loop-i.claimed.items c.in_err-p.field-0.0 (omega (arith, c.loop-i.invariant.many, c.loop-i-test.true)) c.loop-i.invariant.runs.works.no_shorter c.claim_index_page.ensures.runs.works.steady.is_told
    c.loop-i.invariant.claims c.loop-i.invariant.grows c.in_err-p.ensures.full c.in_err-p.ensures.only_full c.in_err-p.ensures.kept c.in_err-p.ensures.kept_notes)

pub returns-in_err-p-clause-root : goal.returns-in_err-p-clause-root
returns-in_err-p-clause-root g c = keeps_root_after c.loop-i.invariant.runs.works.no_shorter c.loop-i.invariant.grows.stated c.claim_index_page.ensures.root

pub returns-in_err-p-clause-zeros : goal.returns-in_err-p-clause-zeros
returns-in_err-p-clause-zeros g c =
    zeros_then c.loop-i.invariant.runs.works.steady.is_told c.loop-i.invariant.runs.works.no_shorter c.loop-i.invariant.zeros c.claim_index_page.ensures.runs.touches
    (λ p behind is. is) (zeros_wider c.claim_index_page.ensures.zeros (λ p behind none. absurd none))

pub returns-in_err-p-clause-forms : goal.returns-in_err-p-clause-forms
returns-in_err-p-clause-forms g c = forms_then c.loop-i.invariant.forms (c.claim_index_page.ensures.forms)

pub returns-in_err-p-clause-runs : goal.returns-in_err-p-clause-runs
returns-in_err-p-clause-runs g c =
    runs_exit_as store_part_of c.from_residual-in_err-p.result c.from_residual-in_err-p.ensures.1
    (runs_then c.loop-i.invariant.runs c.in_err-p.ensures.runs
    (λ p there is. is) (λ p is. is)
    (λ damage breaks. claim_breaks c.args.shape c.args.pages.now c.loop-i.pages damage c.loop-i.invariant.forms c.loop-i.invariant.runs.works.no_shorter breaks))

pub returns-in_err-push-clause-runs : goal.returns-in_err-push-clause-runs
returns-in_err-push-clause-runs g c =
    runs_exit_as store_part_of c.from_residual-in_err-push.result c.from_residual-in_err-push.ensures.1
    (runs_memory (runs_then c.loop-i.invariant.runs c.in_ok-p.ensures.runs
    (λ p there is. is) (λ p is. is)
    (λ damage breaks. claim_breaks c.args.shape c.args.pages.now c.loop-i.pages damage c.loop-i.invariant.forms c.loop-i.invariant.runs.works.no_shorter breaks)))

pub returns-in_err-push-clause-root : goal.returns-in_err-push-clause-root
returns-in_err-push-clause-root g c = keeps_root_after c.loop-i.invariant.runs.works.no_shorter c.loop-i.invariant.grows.stated c.claim_index_page.ensures.root

pub returns-in_err-push-clause-zeros : goal.returns-in_err-push-clause-zeros
returns-in_err-push-clause-zeros g c =
    zeros_then c.loop-i.invariant.runs.works.steady.is_told c.loop-i.invariant.runs.works.no_shorter c.loop-i.invariant.zeros c.claim_index_page.ensures.runs.touches
    (λ p behind is. is) (zeros_wider c.claim_index_page.ensures.zeros (λ p behind none. absurd none))

pub returns-in_err-push-clause-forms : goal.returns-in_err-push-clause-forms
returns-in_err-push-clause-forms g c = forms_then c.loop-i.invariant.forms (c.claim_index_page.ensures.forms)

pub loop-i-preserved : goal.loop-i-preserved
loop-i-preserved g c =
    record {
      many = rw c.in_ok-push.ensures.items (length_push c.loop-i.claimed.items c.in_ok-p.p ∙ ap (λ n. n + 1) c.loop-i.invariant.many);
      there = rw c.in_ok-push.ensures.items
          (All-push (λ p. p < length (g.P.Pages.state c.claim_index_page.new.pages).work) c.loop-i.claimed.items c.in_ok-p.p
          (λ k d l. omega (arith, c.loop-i.invariant.there k d l, c.in_ok-p.ensures.runs.works.no_shorter)) c.in_ok-p.ensures.there);
      claims = λ owners h. rw c.in_ok-push.ensures.items
          (claims_more c.args.shape c.args.notes.now c.loop-i.notes c.claim_index_page.new.self c.loop-i.pages c.claim_index_page.new.pages owners c.loop-i.claimed.items c.in_ok-p.p (c.loop-i.invariant.claims owners h)
          c.in_ok-p.ensures.unused c.in_ok-p.ensures.lowest c.in_ok-p.ensures.claims c.in_ok-p.ensures.notes);
      grows = rw c.in_ok-push.ensures.items
          (grows_more c.args.shape c.args.pages.now c.loop-i.pages c.claim_index_page.new.pages c.loop-i.claimed.items c.in_ok-p.p c.loop-i.invariant.runs.works.no_shorter c.in_ok-p.ensures.runs.works.no_shorter
          c.loop-i.invariant.grows c.in_ok-p.ensures.count c.in_ok-p.ensures.counted c.in_ok-p.ensures.stated);
      zeros = zeros_then c.loop-i.invariant.runs.works.steady.is_told c.loop-i.invariant.runs.works.no_shorter c.loop-i.invariant.zeros c.claim_index_page.ensures.runs.touches
          (λ p behind is. is) (zeros_wider c.claim_index_page.ensures.zeros (λ p behind none. absurd none));
      forms = forms_then c.loop-i.invariant.forms (c.claim_index_page.ensures.forms);
      runs = runs_then c.loop-i.invariant.runs c.in_ok-p.ensures.runs
          (λ p there is. is) (λ p is. is)
          (λ damage breaks. claim_breaks c.args.shape c.args.pages.now c.loop-i.pages damage c.loop-i.invariant.forms c.loop-i.invariant.runs.works.no_shorter breaks);
    }

pub returns-clause-root : goal.returns-clause-root
returns-clause-root g c = growth_keeps c.loop-i.invariant.runs.works.no_shorter c.loop-i.invariant.grows.stated
