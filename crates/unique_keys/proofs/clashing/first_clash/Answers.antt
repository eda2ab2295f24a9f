use Rattle.std.proofs.Common.{◌≡◌, ◌<◌, ◌∙◌, ◌++◌, List, None, Some, ap, arith, length, get_or, map, refl, subst, sym, true}
use Rattle.std.proofs.lemmas.Option.{slice_get_read}
use Rattle.mdc_values.specs.declared.value.Value.{Value}
use Rattle.mdc_ast.specs.declared.definition.IndexDef.{IndexDef}
use Rattle.statement_meaning.specs.Keys.{have_twins}
use Rattle.store_api.proofs.RunsOverPagesLemmas.{runs_exit}
use Rattle.unique_keys.specs.Clashes.{HaveOwnKeys, StayInTable}
use Rattle.unique_keys.proofs.ClashLemmas.{clash_here, named_here, no_clash, no_clash_at_all, own_here, passed_over}
use Rattle.unique_keys.proofs.ClashRunsLemmas.{LooksForClash, looks_elsewhere}
use Rattle.unique_keys.proofs.StandingStayLemmas.{own_keys, stay_still}
use Rattle.unique_keys.proofs.clashing.first_clash.Given.{Over}
use Rattle.unique_keys.proofs.clashing.first_clash.Goals.{In_ok-clashes_in}
use Rattle.unique_keys.proofs.clashing.first_clash.Goals as goal

-- ---- behind a judgement

within : (g : Over) (c : In_ok-clashes_in g) → c.loop-place.place < length c.args.def.now.indexes
within g c = omega (arith, c.loop-place-test.true, ap length c.as_slice-index-items.ensures)

listed : (g : Over) (c : In_ok-clashes_in g) → c.index-item.result ≡ get_or c.args.def.now.indexes c.loop-place.place c.index-item.result
listed g c = subst (λ (items : List IndexDef). c.index-item.result ≡ get_or items c.loop-place.place c.index-item.result) c.as_slice-index-items.ensures c.index-item.is

unique : (g : Over) (c : In_ok-clashes_in g) → c.index-item.result.unique ≡ true
unique g c = c.if-not-index.false

run : (g : Over) (c : In_ok-clashes_in g) → LooksForClash g.P.Pages c.args.def.now c.args.pages.now c.clashes_in.new.pages None
run g c =
    let inv = c.loop-place.invariant in
    looks_elsewhere c.args.def.now c.args.pages.now c.loop-place.pages inv.runs.works.steady inv.same c.loop-place.place c.index-item.result c.clashes_in.new.pages None
    (slice_get_read c.args.def.now.indexes (length c.args.def.now.indexes) c.loop-place.place c.index-item.result refl (within g c) (listed g c)) (unique g c) inv.runs c.in_ok-clashes_in.ensures.runs

-- it says whether two rows have equal keys in the index
judged : (g : Over) (c : In_ok-clashes_in g) (stay : List (List Value)) → StayInTable g.P.Pages c.args.pages.now c.args.def.now c.args.but.now stay → HaveOwnKeys c.args.def.now.indexes stay
    → have_twins c.index-item.result.parts (stay ++ map (λ values. values.now) c.args.come.now) ≡ c.in_ok-clashes_in.field-0
judged g c stay is own =
    let inv = c.loop-place.invariant in
    let here = stay_still c.args.pages.now c.loop-place.pages c.args.def.now c.args.but.now stay inv.runs.works.steady.is_told inv.same is in
    let apart = own_here c.args.def.now.indexes stay c.loop-place.place c.index-item.result (within g c) (listed g c) own (unique g c) in
    ap (λ parts. have_twins parts (stay ++ map (λ values. values.now) c.args.come.now)) (sym c.as_slice-parts.ensures)
    ∙ c.in_ok-clashes_in.ensures.clash stay here (ap (λ parts. have_twins parts stay) c.as_slice-parts.ensures ∙ apart)

-- ---- the goals

pub loop-place-preserved-then-not-index : goal.loop-place-preserved-then-not-index
loop-place-preserved-then-not-index g c =
    let inv = c.loop-place.invariant in
    record {
      same = inv.same;
      going = inv.going;
      runs = inv.runs;
      nothing = λ stay is own. passed_over (stay ++ map (λ values. values.now) c.args.come.now) c.args.def.now.indexes c.loop-place.place c.index-item.result
          (omega (arith, c.loop-place-test.true, ap length c.as_slice-index-items.ensures))
          (subst (λ (items : List IndexDef). c.index-item.result ≡ get_or items c.loop-place.place c.index-item.result) c.as_slice-index-items.ensures c.index-item.is)
          (inv.nothing stay is own) c.if-not-index.true;
    }

pub returns-in_err-clashes_in-clause-runs : goal.returns-in_err-clashes_in-clause-runs
returns-in_err-clashes_in-clause-runs g c =
    let inv = c.loop-place.invariant in
    runs_exit c.from_residual.result c.from_residual.ensures.1
    (looks_elsewhere c.args.def.now c.args.pages.now c.loop-place.pages inv.runs.works.steady inv.same c.loop-place.place c.index-item.result c.clashes_in.new.pages (Some c.in_err-clashes_in.field-0.0)
    (slice_get_read c.args.def.now.indexes (length c.args.def.now.indexes) c.loop-place.place c.index-item.result refl (omega (arith, c.loop-place-test.true, ap length c.as_slice-index-items.ensures))
    (subst (λ (items : List IndexDef). c.index-item.result ≡ get_or items c.loop-place.place c.index-item.result) c.as_slice-index-items.ensures c.index-item.is)) c.if-not-index.false inv.runs c.in_err-clashes_in.ensures.runs)

pub returns-then-branch-clause-clash : goal.returns-then-branch-clause-clash
returns-then-branch-clause-clash g c shape owners forests st sound keys stay staying =
    let at = (goal.at.returns-then-branch-clause-clash g c).In_ok-clashes_in in
    let is : StayInTable g.P.Pages c.args.pages.now c.args.def.now c.args.but.now stay = record { shape = shape; owners = owners; forests = forests; stands = st; sound = sound; staying = staying } in
    let own = own_keys c.args.pages.now c.args.def.now c.args.but.now stay is keys in
    clash_here (stay ++ map (λ values. values.now) c.args.come.now) c.args.def.now.indexes c.loop-place.place c.index-item.result (within g at) (listed g at)
    (c.loop-place.invariant.nothing stay is own) (unique g at) (judged g at stay is own ∙ c.if-branch.true)

pub returns-then-branch-clause-named : goal.returns-then-branch-clause-named
returns-then-branch-clause-named g c =
    let at = (goal.at.returns-then-branch-clause-named g c).In_ok-clashes_in in
    named_here c.args.def.now.indexes c.loop-place.place c.index-item.result (within g at) (listed g at) (unique g at)

pub returns-then-branch-clause-runs : goal.returns-then-branch-clause-runs
returns-then-branch-clause-runs g c = run g (goal.at.returns-then-branch-clause-runs g c).In_ok-clashes_in

pub loop-place-preserved : goal.loop-place-preserved
loop-place-preserved g c =
    let at = (goal.at.loop-place-preserved g c).In_ok-clashes_in in
    let inv = c.loop-place.invariant in
    record {
      same = c.clashes_in.ensures.same ∙ inv.same;
      going = (run g at).works.steady.ended ∙ c.requires.going;
      runs = run g at;
      nothing = λ stay is own. no_clash (stay ++ map (λ values. values.now) c.args.come.now) c.args.def.now.indexes c.loop-place.place c.index-item.result (within g at) (listed g at)
          (inv.nothing stay is own) (unique g at) (judged g at stay is own ∙ c.if-branch.false);
    }

pub returns-clause-clash : goal.returns-clause-clash
returns-clause-clash g c shape owners forests st sound keys stay staying =
    let is : StayInTable g.P.Pages c.args.pages.now c.args.def.now c.args.but.now stay = record { shape = shape; owners = owners; forests = forests; stands = st; sound = sound; staying = staying } in
    let own = own_keys c.args.pages.now c.args.def.now c.args.but.now stay is keys in
    no_clash_at_all (stay ++ map (λ values. values.now) c.args.come.now) c.args.def.now.indexes c.loop-place.place (omega (arith, c.loop-place-test.false, ap length c.as_slice-index-items.ensures))
    (c.loop-place.invariant.nothing stay is own)
