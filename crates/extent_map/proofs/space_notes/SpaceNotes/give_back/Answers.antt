use Rattle.std.proofs.Common.{None, inl, inr, refl, ap, arith}
use Rattle.store_api.specs.Frame.{OnlyPage}
use Rattle.store_api.specs.RunsOverPages.{RunsOverPages}
use Rattle.store_api.proofs.RunsOverPagesLemmas.{runs_damage, runs_exit, runs_more, runs_wider}
use Rattle.extent_map.specs.Damages.{BreaksBlock}
use Rattle.extent_map.specs.Kinds.{is_block_kind}
use Rattle.extent_map.specs.Map.{map_page_of}
use Rattle.extent_map.specs.declared.kind.Kind.TheVariants.{Free}
use Rattle.extent_map.proofs.MapFormLemmas.{forms_same, forms_set, forms_then}
use Rattle.extent_map.proofs.HoldsMapLemmas.{on_map, holds_map_same, holds_map_set}
use Rattle.extent_map.proofs.OwnersLemmas.{right_notes-free}
use Rattle.extent_map.proofs.space_notes.SpaceNotes.give_back.Goals as goal

pub returns-then-not-is_block_kind-clause-runs : goal.returns-then-not-is_block_kind-clause-runs
returns-then-not-is_block_kind-clause-runs g c =
    let start : RunsOverPages g.P.Pages (OnlyPage (map_page_of c.args.e)) (OnlyPage (map_page_of c.args.e)) (BreaksBlock g.P.Pages c.args.shape c.args.pages.now c.args.e) c.args.pages.now c.kind_of.new.pages None =
    runs_wider c.in_ok-kind.ensures.runs (λ p there none. absurd none) (λ p is. is) (λ damage breaks. inl breaks) in
    runs_damage start (inr (record {
      page = c.wrong_entry.ensures.0;
      on_map = on_map c.args.shape.extents c.args.e c.requires.below;
      rule = c.wrong_entry.ensures.1;
      none_told = λ owners told block.
          let same = ap is_block_kind (c.in_ok-kind.ensures.shown owners told) in
          let no = c.if-not-is_block_kind.true in
          let is = c.is_block_kind.ensures in
          cc;
    }))

pub returns-in_err-set_kind-clause-runs : goal.returns-in_err-set_kind-clause-runs
returns-in_err-set_kind-clause-runs g c =
    let start : RunsOverPages g.P.Pages (OnlyPage (map_page_of c.args.e)) (OnlyPage (map_page_of c.args.e)) (BreaksBlock g.P.Pages c.args.shape c.args.pages.now c.args.e) c.args.pages.now c.kind_of.new.pages None =
    runs_wider c.in_ok-kind.ensures.runs (λ p there none. absurd none) (λ p is. is) (λ damage breaks. inl breaks) in
    runs_exit c.from_residual-in_err-set_kind.result c.from_residual-in_err-set_kind.ensures.1 (runs_more start c.in_err-set_kind.ensures.runs (λ p there is. is) (λ p is. is))

pub returns-clause-runs : goal.returns-clause-runs
returns-clause-runs g c =
    let start : RunsOverPages g.P.Pages (OnlyPage (map_page_of c.args.e)) (OnlyPage (map_page_of c.args.e)) (BreaksBlock g.P.Pages c.args.shape c.args.pages.now c.args.e) c.args.pages.now c.kind_of.new.pages None =
    runs_wider c.in_ok-kind.ensures.runs (λ p there none. absurd none) (λ p is. is) (λ damage breaks. inl breaks) in
    runs_more start c.in_ok-set_kind.ensures.runs (λ p there is. is) (λ p is. is)

pub returns-clause-gives : goal.returns-clause-gives
returns-clause-gives g c = λ owners is.
    holds_map_set c.args.e Free c.requires.below tt (λ owned. absurd (owned refl)) (omega (arith, c.set_kind.ensures.count)) c.in_ok-set_kind.ensures.sets c.set_kind.ensures.runs.touches
    (holds_map_same c.kind_of.ensures.runs.works.steady.is_told c.kind_of.ensures.same is)

pub returns-clause-notes : goal.returns-clause-notes
returns-clause-notes g c = λ owners notes. right_notes-free c.args.shape c.args.self.now _ owners c.args.e (omega (arith, c.min-self.ensures)) (omega (arith, c.min-self.ensures)) (omega arith) notes

pub returns-clause-forms : goal.returns-clause-forms
returns-clause-forms g c =
    forms_then (forms_same c.kind_of.ensures.runs.works.steady.is_told c.kind_of.ensures.same)
    (forms_set c.args.e Free tt (λ owned. absurd (owned refl)) (omega (arith, c.set_kind.ensures.count)) c.in_ok-set_kind.ensures.sets c.set_kind.ensures.runs.touches)

pub returns-then-not-is_block_kind-clause-forms : goal.returns-then-not-is_block_kind-clause-forms
returns-then-not-is_block_kind-clause-forms g c = forms_same c.kind_of.ensures.runs.works.steady.is_told c.kind_of.ensures.same

pub returns-in_err-set_kind-clause-forms : goal.returns-in_err-set_kind-clause-forms
returns-in_err-set_kind-clause-forms g c =
    forms_then (forms_same c.kind_of.ensures.runs.works.steady.is_told c.kind_of.ensures.same)
    (forms_same c.set_kind.ensures.runs.works.steady.is_told c.in_err-set_kind.ensures.kept)
