use Rattle.std.proofs.Common.{◌<◌, List, ℕ, arith, ap, inl, inr, length, Ok}
use Rattle.std.specs.Result.{is_ok}
use Rattle.store_api.proofs.FrameLemmas.{length-written}
use Rattle.store_api.proofs.RunsOverPagesLemmas.{runs_more, runs_edit, runs_write}
use Rattle.entry_tree.proofs.EditsLemmas.{brought_either, write_raises}
use Rattle.entry_tree.proofs.SightOfLemmas.{hand_is}
use Rattle.entry_tree.proofs.edits.raise.Goals as goal

pub returns-clause-runs : goal.returns-clause-runs
returns-clause-runs g c =
    runs_more
    (runs_more (brought_either c.args.tree.now.root c.args.first c.in_ok-bring.ensures.runs)
    (runs_write (Ok c.in_ok-write.field-0) c.args.first c.page.result.now c.in_ok-write.ensures.ok c.in_ok-write.ensures.err c.in_ok-write.ensures.disk_faults c.in_ok-write.ensures.say_faults c.in_ok-write.ensures.time)
    (λ p there is. inr is) (λ p none. absurd none))
    (runs_edit c.args.tree.now.root _ (c.edit.follows.holds c.make_inner.new.page (ap is_ok c.in_ok-edit.was))) (λ p there is. inl is) (λ p is. inl is)

pub returns-clause-raised : goal.returns-clause-raised
returns-clause-raised g c told apart =
    let same = ap (λ (pages : List (List ℕ)). length pages) c.in_ok-bring.ensures.same in
    let first : c.args.first < length (g.P.Pages.state c.bring.new.pages).work = omega (arith, same, c.requires.first) in
    let root : c.args.tree.now.root < length (g.P.Pages.state c.write.new.self).work = omega (arith, same, c.requires.within, length-written (g.P.Pages.state c.bring.new.pages) (g.P.Pages.state c.write.new.self) c.args.first c.page.result.now c.in_ok-write.ensures.ok) in
    write_raises c.args.tree.now.width (g.P.Pages.state c.args.pages.now) (g.P.Pages.state c.bring.new.pages) (g.P.Pages.state c.write.new.self) _ c.args.tree.now.root c.args.first c.args.separator.now c.args.second c.page.result.now
    c.make_inner.new.page c.in_ok-bring.ensures.runs.works.steady.is_told c.in_ok-bring.ensures.same c.in_ok-write.ensures.ok (c.edit.follows.holds c.make_inner.new.page (ap is_ok c.in_ok-edit.was)).ok first root
    (hand_is c.args.pages.now c.bring.new.pages c.args.tree.now.root c.page.result.now c.requires.within c.in_ok-bring.ensures.hand c.page.ensures) c.make_inner.ensures told apart
