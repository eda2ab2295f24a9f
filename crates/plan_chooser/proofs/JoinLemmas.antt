-- Covers of parts, joined one after another, and the plan of a predicate.
use Rattle.std.proofs.Common.{◌≡◌, ◌∙◌, ℕ, ◌≤◌, List, [], ◌∷◌, ◌++◌, Bool, true, false, not, Some, refl, sym, ap, arith, map, drop, length}
use Rattle.std.specs.Prelude.{◌||◌, Option, slice_get, if◌then◌else◌}
use Rattle.std.specs.List.{list_any}
use Rattle.std.proofs.lemmas.List.{append-nil, drop_all}
use Rattle.mdc_ast.specs.declared.definition.TableDef.{TableDef}
use Rattle.mdc_ast.specs.declared.predicate.Pred.{Pred}
use Rattle.mdc_ast.specs.declared.predicate.Pred.TheFolds.{fold-roll-Pred}
use Rattle.mdc_ast.specs.declared.predicate.Pred.TheOpen as layer
use Rattle.mdc_ast.specs.declared.predicate.Pred.TheVariants as pred
use Rattle.mdc_ast.specs.declared.predicate.Pred.TheVariants.{rolls-All, rolls-Any}
use Rattle.mdc_ast.specs.declared.statement.PlanMode.{PlanMode}
use Rattle.mdc_ast.specs.declared.statement.PlanMode.TheVariants as mode
use Rattle.plan_chooser.specs.declared.cover.Cover.{Cover}
use Rattle.plan_chooser.specs.declared.plan.Plan.{Plan}
use Rattle.plan_chooser.specs.declared.plan.Plan.TheVariants as plan
use Rattle.plan_chooser.specs.Covers.{any_covers, any_parts, joined, no_cover, plan_cover, plan_of_cover, tells_nothing}
use Rattle.plan_chooser.specs.Rule.{cover_under, layer_cover, plan_of}

map_end : {X Y : Type 0} (f : X → Y) (xs : List X) (i : ℕ) (done : List Y) → length xs ≤ i → done ++ map f (drop i xs) ≡ map f xs → done ≡ map f xs
map_end f xs i done le h = sym (append-nil done) ∙ sym (ap (λ l. done ++ map f l) (drop_all i xs le)) ∙ h

parts_mapped : (def : TableDef) (mode : PlanMode) (negated : Bool) (preds : List Pred) → map (λ part. part negated) (map (cover_under def mode) preds) ≡ map (λ part. cover_under def mode part negated) preds
parts_mapped def mode negated [] = refl
parts_mapped def mode negated (part ∷ preds) = ap (λ l. cover_under def mode part negated ∷ l) (parts_mapped def mode negated preds)

module _ (def : TableDef) (mode : PlanMode) (negated : Bool) (whole : Pred) (preds items : List Pred) (covers : List Cover) (i : ℕ) (cover : Cover) where
  pub All_cover : whole ≡ pred.All preds → items ≡ preds → length items ≤ i → covers ++ map (λ part. cover_under def mode part negated) (drop i items) ≡ map (λ part. cover_under def mode part negated) items
      → cover ≡ joined (not negated) covers → cover ≡ cover_under def mode whole negated
  All_cover e it le inv is =
      is ∙ ap (joined (not negated)) (map_end (λ part. cover_under def mode part negated) items i covers le inv ∙ ap (map (λ part. cover_under def mode part negated)) it)
      ∙ sym (ap (λ w. cover_under def mode w negated) e
      ∙ ap (λ c. c negated) (ap (cover_under def mode) (sym (rolls-All preds)) ∙ fold-roll-Pred (Bool → Cover) (layer_cover def mode) (layer.All preds))
      ∙ ap (joined (not negated)) (parts_mapped def mode negated preds))

  pub Any_cover : whole ≡ pred.Any preds → items ≡ preds → length items ≤ i → covers ++ map (λ part. cover_under def mode part negated) (drop i items) ≡ map (λ part. cover_under def mode part negated) items
      → cover ≡ joined negated covers → cover ≡ cover_under def mode whole negated
  Any_cover e it le inv is =
      is ∙ ap (joined negated) (map_end (λ part. cover_under def mode part negated) items i covers le inv ∙ ap (map (λ part. cover_under def mode part negated)) it)
      ∙ sym (ap (λ w. cover_under def mode w negated) e
      ∙ ap (λ c. c negated) (ap (cover_under def mode) (sym (rolls-Any preds)) ∙ fold-roll-Pred (Bool → Cover) (layer_cover def mode) (layer.Any preds))
      ∙ ap (joined negated) (parts_mapped def mode negated preds))

-- ---- OR

-- but of one part
many_covers : (covers : List Cover) → (length covers ≡ 1 → ⊥) → any_covers covers ≡ any_parts covers
many_covers [] many = refl
many_covers (cover ∷ []) many = absurd (many refl)
many_covers (cover ∷ other ∷ covers) many = refl

-- of one part it is what is known of that one
pub one_cover : (covers : List Cover) (cover : Cover) → length covers ≡ 1 → slice_get covers 0 ≡ Some cover → cover ≡ any_covers covers
one_cover [] cover one there = absurd (omega (arith, one))
one_cover (first ∷ []) cover one there = cc
one_cover (first ∷ other ∷ covers) cover one there = absurd (omega (arith, one))

-- one part of which nothing is known
pub untold_part : (covers rest : List Cover) (cover : Cover) → (length covers ≡ 1 → ⊥) → list_any tells_nothing (cover ∷ rest) ≡ list_any tells_nothing covers → tells_nothing cover ≡ true → no_cover ≡ any_covers covers
untold_part covers rest cover many known untold =
    sym (many_covers covers many ∙ ap (λ b. if b then no_cover else plan_cover (plan.Any (map plan_of_cover covers))) (sym known ∙ ap (λ b. b || list_any tells_nothing rest) untold))

-- something is known of each part
pub told_parts : (covers : List Cover) (parts : List Plan) (cover : Cover) → (length covers ≡ 1 → ⊥) → false ≡ list_any tells_nothing covers → parts ≡ map plan_of_cover covers → cover ≡ plan_cover (plan.Any parts)
    → cover ≡ any_covers covers
told_parts covers parts cover many known plans is =
    is ∙ ap (λ ps. plan_cover (plan.Any ps)) plans
    ∙ sym (many_covers covers many ∙ ap (λ b. if b then no_cover else plan_cover (plan.Any (map plan_of_cover covers))) (sym known))

-- ---- the plan

-- but in mode SCAN the plan is that of the cover
plan_by_cover : (def : TableDef) (m : PlanMode) (p : Pred) → (m ≡ mode.Scan → ⊥) → plan_of def m (Some p) ≡ plan_of_cover (cover_under def m p false)
plan_by_cover def mode.Scan p other = absurd (other refl)
plan_by_cover def mode.Auto p other = refl
plan_by_cover def mode.Block p other = refl
plan_by_cover def mode.Record p other = refl

pub chosen : (def : TableDef) (m : PlanMode) (p : Pred) (pred : Option Pred) (cover : Cover) (plan : Plan) → pred ≡ Some p → (m ≡ mode.Scan → ⊥) → cover ≡ cover_under def m p false → plan ≡ plan_of_cover cover → plan ≡ plan_of def m pred
chosen def m p pred cover plan e other is made = made ∙ ap plan_of_cover is ∙ sym (ap (plan_of def m) e ∙ plan_by_cover def m p other)
