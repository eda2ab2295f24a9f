use Rattle.std.proofs.Common.{List, subst, sym, ap, ◌∙◌, reverse, length, inl, inr}
use Rattle.std.specs.Prelude.{None}
use Rattle.store_api.specs.RunsOverPages.{RunsOverPages}
use Rattle.store_api.proofs.RunsOverPagesLemmas.{runs_then, runs_exit_as}
use Rattle.extent_map.specs.Damages.{store_part_of}
use Rattle.extent_map.specs.Map.{HoldsMap}
use Rattle.extent_map.specs.declared.kind.Kind.{Kind}
use Rattle.entry_tree.specs.Standing.{ClaimsPages, GrowsWith, IsTreeSpace, BreaksTreeOrMap}
use Rattle.entry_tree.proofs.GoingDownLemmas.{found_in}
use Rattle.entry_tree.proofs.ClaimsLemmas.{if_err_by}
use Rattle.entry_tree.proofs.AddingLemmas.{way_runs, here_in_space, room_breaks, adds_here_found, full_found, claim_breaks, cuts_in_space, cuts_break, adds_with_cuts, root_along, root_here, root_same, root_with_cuts}
use Rattle.entry_tree.proofs.SeenFullLemmas.{full_seen, whether_seen}
use Rattle.entry_tree.proofs.tree.Tree.add.Goals as goal

pub returns-then-there-clause-adds : goal.returns-then-there-clause-adds
returns-then-there-clause-adds g c owners t s =
    (found_in _ c.args.self.now.root t c.args.entry.now _ _ _ _ s.held.is_tree (c.in_ok-path.ensures.found t s.held).0).0 c.if-there.true

pub returns-in_err-put_in_leaf-clause-runs : goal.returns-in_err-put_in_leaf-clause-runs
returns-in_err-put_in_leaf-clause-runs g c =
    let way = c.in_ok-path.field-0 in
    runs_exit_as store_part_of c.from_residual-in_err-put_in_leaf.result c.from_residual-in_err-put_in_leaf.ensures.1
    (runs_then (way_runs c.args.shape c.args.pages.now c.find_way.new.pages c.args.self.now None c.in_ok-path.ensures.runs) c.in_err-put_in_leaf.ensures.runs
    (λ p there is. here_in_space c.args.shape c.args.pages.now c.args.self.now c.args.entry.now (reverse way.path.items) way.page way.at way.asked way.there p c.in_ok-path.ensures.found is)
    (λ p is. here_in_space c.args.shape c.args.pages.now c.args.self.now c.args.entry.now (reverse way.path.items) way.page way.at way.asked way.there p c.in_ok-path.ensures.found is)
    (λ damage breaks. room_breaks c.args.shape c.args.pages.now c.find_way.new.pages c.args.self.now c.args.entry.now (reverse way.path.items) way.page way.at way.asked way.there damage c.in_ok-path.ensures.found
    c.if-there.false c.if-asked-eq0.true c.in_ok-path.ensures.runs.works.steady c.in_ok-path.ensures.same breaks))

pub returns-then-asked-eq0-clause-adds : goal.returns-then-asked-eq0-clause-adds
returns-then-asked-eq0-clause-adds g c owners t s =
    let way = c.in_ok-path.field-0 in
    adds_here_found c.args.shape c.args.notes.now c.args.pages.now c.find_way.new.pages c.put_in_leaf.new.pages c.args.self.now c.args.entry.now owners t (reverse way.path.items) way.page way.at way.asked way.there c.in_ok-path.ensures.found
    c.if-there.false c.if-asked-eq0.true s c.in_ok-path.ensures.runs.touches c.in_ok-path.ensures.runs.works.steady c.in_ok-path.ensures.same
    c.in_ok-put_in_leaf.ensures.runs.touches c.in_ok-put_in_leaf.ensures.runs.works.steady c.put_in_leaf.ensures.count c.in_ok-put_in_leaf.ensures.put

pub returns-then-asked-eq0-clause-runs : goal.returns-then-asked-eq0-clause-runs
returns-then-asked-eq0-clause-runs g c =
    let way = c.in_ok-path.field-0 in
    runs_then (way_runs c.args.shape c.args.pages.now c.find_way.new.pages c.args.self.now None c.in_ok-path.ensures.runs) c.in_ok-put_in_leaf.ensures.runs
    (λ p there is. here_in_space c.args.shape c.args.pages.now c.args.self.now c.args.entry.now (reverse way.path.items) way.page way.at way.asked way.there p c.in_ok-path.ensures.found is)
    (λ p is. here_in_space c.args.shape c.args.pages.now c.args.self.now c.args.entry.now (reverse way.path.items) way.page way.at way.asked way.there p c.in_ok-path.ensures.found is)
    (λ damage breaks. room_breaks c.args.shape c.args.pages.now c.find_way.new.pages c.args.self.now c.args.entry.now (reverse way.path.items) way.page way.at way.asked way.there damage c.in_ok-path.ensures.found
    c.if-there.false c.if-asked-eq0.true c.in_ok-path.ensures.runs.works.steady c.in_ok-path.ensures.same breaks)

pub returns-in_err-claimed-clause-full : goal.returns-in_err-claimed-clause-full
returns-in_err-claimed-clause-full g c =
    let way = c.in_ok-path.field-0 in
    if_err_by c.from_residual-in_err-claimed.result c.in_err-claimed.field-0.0 _ c.from_residual-in_err-claimed.ensures.1
    (full_found c.args.shape c.args.notes.now c.claim_pages.new.notes c.args.pages.now c.find_way.new.pages c.claim_pages.new.pages c.args.self.now c.args.entry.now (reverse way.path.items) way.page way.at way.asked way.there c.in_err-claimed.field-0.0 c.in_ok-path.ensures.found
    c.in_ok-path.ensures.runs c.if-there.false c.in_ok-path.ensures.same c.claim_pages.ensures.runs.touches c.claim_pages.ensures.runs.works.steady c.claim_pages.ensures.zeros c.in_err-claimed.ensures.full)

pub returns-in_err-claimed-clause-runs : goal.returns-in_err-claimed-clause-runs
returns-in_err-claimed-clause-runs g c =
    runs_exit_as store_part_of c.from_residual-in_err-claimed.result c.from_residual-in_err-claimed.ensures.1
    (runs_then (way_runs c.args.shape c.args.pages.now c.find_way.new.pages c.args.self.now None c.in_ok-path.ensures.runs) c.in_err-claimed.ensures.runs
    (λ p there is owners t s. inr (inl is)) (λ p is owners t s. inr (inl is))
    (λ damage breaks. claim_breaks c.args.shape c.args.pages.now c.find_way.new.pages c.args.self.now damage c.in_ok-path.ensures.runs c.in_ok-path.ensures.same breaks))

pub returns-in_err-put_with_cuts-clause-runs : goal.returns-in_err-put_with_cuts-clause-runs
returns-in_err-put_with_cuts-clause-runs g c =
    let way = c.in_ok-path.field-0 in
    let claims : (owners : List Kind) → HoldsMap g.P.Pages c.args.shape c.find_way.new.pages owners → ClaimsPages g.P.Pages c.args.shape c.args.notes.now c.claim_pages.new.notes c.claim_pages.new.pages owners c.deref.result.now =
    λ owners h. subst (λ l. ClaimsPages g.P.Pages c.args.shape c.args.notes.now c.claim_pages.new.notes c.claim_pages.new.pages owners l) (sym c.deref.ensures.value) (c.in_ok-claimed.ensures.claims owners h) in
    let start : RunsOverPages g.P.Pages (IsTreeSpace g.P.Pages c.args.shape c.args.pages.now c.args.self.now) (IsTreeSpace g.P.Pages c.args.shape c.args.pages.now c.args.self.now)
    (BreaksTreeOrMap g.P.Pages c.args.shape c.args.pages.now c.args.self.now) c.args.pages.now c.claim_pages.new.pages None =
    runs_then (way_runs c.args.shape c.args.pages.now c.find_way.new.pages c.args.self.now None c.in_ok-path.ensures.runs) c.in_ok-claimed.ensures.runs
    (λ p there is owners t s. inr (inl is)) (λ p is owners t s. inr (inl is))
    (λ damage breaks. claim_breaks c.args.shape c.args.pages.now c.find_way.new.pages c.args.self.now damage c.in_ok-path.ensures.runs c.in_ok-path.ensures.same breaks) in
    runs_exit_as store_part_of c.from_residual-in_err-put_with_cuts.result c.from_residual-in_err-put_with_cuts.ensures.1
    (runs_then start c.in_err-put_with_cuts.ensures.runs
    (λ p there is. cuts_in_space c.args.shape c.args.notes.now c.claim_pages.new.notes c.args.pages.now c.find_way.new.pages c.claim_pages.new.pages c.args.self.now c.args.entry.now way.path.items way.page way.at way.asked way.there
    c.deref.result.now p c.in_ok-path.ensures.found c.if-there.false c.in_ok-path.ensures.runs claims is)
    (λ p is. cuts_in_space c.args.shape c.args.notes.now c.claim_pages.new.notes c.args.pages.now c.find_way.new.pages c.claim_pages.new.pages c.args.self.now c.args.entry.now way.path.items way.page way.at way.asked way.there
    c.deref.result.now p c.in_ok-path.ensures.found c.if-there.false c.in_ok-path.ensures.runs claims is)
    (λ damage breaks. cuts_break c.args.shape c.args.notes.now c.claim_pages.new.notes c.args.pages.now c.find_way.new.pages c.claim_pages.new.pages c.args.self.now c.args.entry.now (reverse way.path.items) way.page way.at way.asked way.there
    c.deref.result.now damage c.in_ok-path.ensures.found c.if-there.false (ap length c.deref.ensures.value ∙ c.in_ok-claimed.ensures.many) c.in_ok-path.ensures.runs c.in_ok-claimed.ensures.runs.touches c.in_ok-claimed.ensures.runs.works.steady
    claims breaks))

pub returns-clause-adds : goal.returns-clause-adds
returns-clause-adds g c owners t s =
    let way = c.in_ok-path.field-0 in
    let claims : (owners : List Kind) → HoldsMap g.P.Pages c.args.shape c.find_way.new.pages owners → ClaimsPages g.P.Pages c.args.shape c.args.notes.now c.claim_pages.new.notes c.claim_pages.new.pages owners c.deref.result.now =
    λ owners h. subst (λ l. ClaimsPages g.P.Pages c.args.shape c.args.notes.now c.claim_pages.new.notes c.claim_pages.new.pages owners l) (sym c.deref.ensures.value) (c.in_ok-claimed.ensures.claims owners h) in
    adds_with_cuts c.args.shape c.args.notes.now c.claim_pages.new.notes c.args.pages.now c.find_way.new.pages c.claim_pages.new.pages c.put_with_cuts.new.pages c.args.self.now c.args.entry.now owners t way.path.items way.page way.at way.asked way.there
    c.deref.result.now c.in_ok-path.ensures.found c.if-there.false (ap length c.deref.ensures.value ∙ c.in_ok-claimed.ensures.many) c.in_ok-path.ensures.runs c.in_ok-claimed.ensures.runs.touches c.in_ok-claimed.ensures.runs.works.steady
    claims c.in_ok-path.ensures.same (subst (λ l. GrowsWith g.P.Pages c.args.shape c.find_way.new.pages c.claim_pages.new.pages l) (sym c.deref.ensures.value) c.in_ok-claimed.ensures.grows) c.claim_pages.ensures.zeros
    c.in_ok-put_with_cuts.ensures.runs.touches c.in_ok-put_with_cuts.ensures.runs.works.steady c.claim_pages.ensures.runs.works.no_shorter c.put_with_cuts.ensures.count c.in_ok-put_with_cuts.ensures.adds s

pub returns-clause-runs : goal.returns-clause-runs
returns-clause-runs g c =
    let way = c.in_ok-path.field-0 in
    let claims : (owners : List Kind) → HoldsMap g.P.Pages c.args.shape c.find_way.new.pages owners → ClaimsPages g.P.Pages c.args.shape c.args.notes.now c.claim_pages.new.notes c.claim_pages.new.pages owners c.deref.result.now =
    λ owners h. subst (λ l. ClaimsPages g.P.Pages c.args.shape c.args.notes.now c.claim_pages.new.notes c.claim_pages.new.pages owners l) (sym c.deref.ensures.value) (c.in_ok-claimed.ensures.claims owners h) in
    let start : RunsOverPages g.P.Pages (IsTreeSpace g.P.Pages c.args.shape c.args.pages.now c.args.self.now) (IsTreeSpace g.P.Pages c.args.shape c.args.pages.now c.args.self.now)
    (BreaksTreeOrMap g.P.Pages c.args.shape c.args.pages.now c.args.self.now) c.args.pages.now c.claim_pages.new.pages None =
    runs_then (way_runs c.args.shape c.args.pages.now c.find_way.new.pages c.args.self.now None c.in_ok-path.ensures.runs) c.in_ok-claimed.ensures.runs
    (λ p there is owners t s. inr (inl is)) (λ p is owners t s. inr (inl is))
    (λ damage breaks. claim_breaks c.args.shape c.args.pages.now c.find_way.new.pages c.args.self.now damage c.in_ok-path.ensures.runs c.in_ok-path.ensures.same breaks) in
    runs_then start c.in_ok-put_with_cuts.ensures.runs
    (λ p there is. cuts_in_space c.args.shape c.args.notes.now c.claim_pages.new.notes c.args.pages.now c.find_way.new.pages c.claim_pages.new.pages c.args.self.now c.args.entry.now way.path.items way.page way.at way.asked way.there
    c.deref.result.now p c.in_ok-path.ensures.found c.if-there.false c.in_ok-path.ensures.runs claims is)
    (λ p is. cuts_in_space c.args.shape c.args.notes.now c.claim_pages.new.notes c.args.pages.now c.find_way.new.pages c.claim_pages.new.pages c.args.self.now c.args.entry.now way.path.items way.page way.at way.asked way.there
    c.deref.result.now p c.in_ok-path.ensures.found c.if-there.false c.in_ok-path.ensures.runs claims is)
    (λ damage breaks. cuts_break c.args.shape c.args.notes.now c.claim_pages.new.notes c.args.pages.now c.find_way.new.pages c.claim_pages.new.pages c.args.self.now c.args.entry.now (reverse way.path.items) way.page way.at way.asked way.there
    c.deref.result.now damage c.in_ok-path.ensures.found c.if-there.false (ap length c.deref.ensures.value ∙ c.in_ok-claimed.ensures.many) c.in_ok-path.ensures.runs c.in_ok-claimed.ensures.runs.touches c.in_ok-claimed.ensures.runs.works.steady
    claims breaks)

pub returns-in_err-path-clause-root : goal.returns-in_err-path-clause-root
returns-in_err-path-clause-root g c owners t s = root_same c.find_way.ensures.runs.works.steady.is_told c.find_way.ensures.same

pub returns-then-there-clause-root : goal.returns-then-there-clause-root
returns-then-there-clause-root g c owners t s = root_same c.find_way.ensures.runs.works.steady.is_told c.find_way.ensures.same

pub returns-in_err-put_in_leaf-clause-root : goal.returns-in_err-put_in_leaf-clause-root
returns-in_err-put_in_leaf-clause-root g c owners t s =
    let way = c.in_ok-path.field-0 in
    root_here c.args.shape c.args.pages.now c.find_way.new.pages c.put_in_leaf.new.pages c.args.self.now c.args.entry.now owners t (reverse way.path.items) way.page way.at way.asked way.there c.in_ok-path.ensures.found s
    c.find_way.ensures.runs.works.steady.is_told c.find_way.ensures.same c.put_in_leaf.ensures.runs.touches

pub returns-then-asked-eq0-clause-root : goal.returns-then-asked-eq0-clause-root
returns-then-asked-eq0-clause-root g c owners t s =
    let way = c.in_ok-path.field-0 in
    root_here c.args.shape c.args.pages.now c.find_way.new.pages c.put_in_leaf.new.pages c.args.self.now c.args.entry.now owners t (reverse way.path.items) way.page way.at way.asked way.there c.in_ok-path.ensures.found s
    c.find_way.ensures.runs.works.steady.is_told c.find_way.ensures.same c.put_in_leaf.ensures.runs.touches

pub returns-in_err-claimed-clause-root : goal.returns-in_err-claimed-clause-root
returns-in_err-claimed-clause-root g c owners t s = root_along c.find_way.ensures.runs.works.steady.is_told c.find_way.ensures.same c.claim_pages.ensures.root

pub returns-in_err-put_with_cuts-clause-root : goal.returns-in_err-put_with_cuts-clause-root
returns-in_err-put_with_cuts-clause-root g c owners t s =
    let way = c.in_ok-path.field-0 in
    let claims : (owners : List Kind) → HoldsMap g.P.Pages c.args.shape c.find_way.new.pages owners → ClaimsPages g.P.Pages c.args.shape c.args.notes.now c.claim_pages.new.notes c.claim_pages.new.pages owners c.deref.result.now =
    λ owners h. subst (λ l. ClaimsPages g.P.Pages c.args.shape c.args.notes.now c.claim_pages.new.notes c.claim_pages.new.pages owners l) (sym c.deref.ensures.value) (c.in_ok-claimed.ensures.claims owners h) in
    root_with_cuts c.args.shape c.args.notes.now c.claim_pages.new.notes c.args.pages.now c.find_way.new.pages c.claim_pages.new.pages c.put_with_cuts.new.pages c.args.self.now c.args.entry.now owners t way.path.items way.page way.at way.asked way.there
    c.deref.result.now c.in_ok-path.ensures.found c.if-there.false c.in_ok-path.ensures.runs c.in_ok-path.ensures.same claims c.claim_pages.ensures.root c.put_with_cuts.ensures.runs.touches s

pub returns-clause-root : goal.returns-clause-root
returns-clause-root g c owners t s =
    let way = c.in_ok-path.field-0 in
    let claims : (owners : List Kind) → HoldsMap g.P.Pages c.args.shape c.find_way.new.pages owners → ClaimsPages g.P.Pages c.args.shape c.args.notes.now c.claim_pages.new.notes c.claim_pages.new.pages owners c.deref.result.now =
    λ owners h. subst (λ l. ClaimsPages g.P.Pages c.args.shape c.args.notes.now c.claim_pages.new.notes c.claim_pages.new.pages owners l) (sym c.deref.ensures.value) (c.in_ok-claimed.ensures.claims owners h) in
    root_with_cuts c.args.shape c.args.notes.now c.claim_pages.new.notes c.args.pages.now c.find_way.new.pages c.claim_pages.new.pages c.put_with_cuts.new.pages c.args.self.now c.args.entry.now owners t way.path.items way.page way.at way.asked way.there
    c.deref.result.now c.in_ok-path.ensures.found c.if-there.false c.in_ok-path.ensures.runs c.in_ok-path.ensures.same claims c.claim_pages.ensures.root c.put_with_cuts.ensures.runs.touches s

pub returns-then-there-clause-seen : goal.returns-then-there-clause-seen
returns-then-there-clause-seen g c told =
    let way = c.in_ok-path.field-0 in
    whether_seen (c.in_ok-path.ensures.seen told) (c.if-there.true)

pub returns-then-asked-eq0-clause-seen : goal.returns-then-asked-eq0-clause-seen
returns-then-asked-eq0-clause-seen g c told = whether_seen (c.in_ok-path.ensures.seen told) c.if-there.false

pub returns-clause-seen : goal.returns-clause-seen
returns-clause-seen g c told = whether_seen (c.in_ok-path.ensures.seen told) c.if-there.false

pub returns-in_err-claimed-clause-full_seen : goal.returns-in_err-claimed-clause-full_seen
returns-in_err-claimed-clause-full_seen g c =
    if_err_by c.from_residual-in_err-claimed.result c.in_err-claimed.field-0.0 _ c.from_residual-in_err-claimed.ensures.1
    (full_seen c.args.shape c.args.notes.now c.claim_pages.new.notes c.args.pages.now c.find_way.new.pages c.claim_pages.new.pages c.args.self.now c.args.entry.now c.in_err-claimed.field-0.0 c.in_ok-path.ensures.runs c.in_ok-path.ensures.same
    c.claim_pages.ensures.runs.works.steady c.if-there.false c.in_ok-path.ensures.seen c.in_err-claimed.ensures.full)
