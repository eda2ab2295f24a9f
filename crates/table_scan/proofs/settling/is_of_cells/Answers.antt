use Rattle.std.proofs.Common.{◌++◌, ◌∷◌, ◌∙◌, [], List, ap, ℕ, arith, inl, inr, refl, subst, sym, take}
use Rattle.std.specs.Prelude.{Contains, flat_map}
use Rattle.std.proofs.lemmas.Bool.{false≢true}
use Rattle.std.proofs.lemmas.List.{take_all, take_more}
use Rattle.std.proofs.lemmas.List.Elements.{Contains-append_cases, Contains-get_or}
use Rattle.block_map.proofs.MapLinesLemmas.{contains_cases}
use Rattle.mdc_sound.proofs.ElementsLemmas.{contains_flat, flat_contains}
use Rattle.table_scan.proofs.settling.is_of_cells.Goals as goal

pub returns-then-has_place : goal.returns-then-has_place
returns-then-has_place c =
    let dims : List (List ℕ) = c.as_slice-dim-items.result.now in
    let dim : List ℕ = c.dim-item.result in
    let here : Contains dim c.args.column = subst (λ places. Contains places c.args.column) c.as_slice.ensures (c.has_place.ensures.0 c.if-has_place.true) in
    let there : Contains dims dim = subst (Contains dims) (sym c.dim-item.is) (Contains-get_or dims c.loop-dim.dim-index dim c.loop-dim-test.true) in (
      λ truth. subst (λ dims. Contains (flat_map (λ dim. dim) dims) c.args.column) c.as_slice-dim-items.ensures (contains_flat (λ dim. dim) dims dim c.args.column there here),
      λ contains. refl,
    )

pub loop-dim-preserved : goal.loop-dim-preserved
loop-dim-preserved c dim there contains =
    let dims : List (List ℕ) = c.as_slice-dim-items.result.now in
    let last : List ℕ = c.dim-item.result in
    let before = take c.loop-dim.dim-index dims in
    elim (Contains-append_cases before (last ∷ []) dim (subst (λ l. Contains l dim) (take_more dims c.loop-dim.dim-index last c.loop-dim-test.true ∙ ap (λ (l : List ℕ). before ++ l ∷ []) (sym c.dim-item.is)) there)) [
      | inl earlier ↦ c.loop-dim.invariant dim earlier contains
      | inr here ↦ elim (contains_cases dim last [] here) [
        | inl is ↦
            let held : Contains c.as_slice.result.now c.args.column = subst (λ l. Contains l c.args.column) (sym (c.as_slice.ensures ∙ is)) contains in
            absurd (false≢true (sym c.if-has_place.false ∙ c.has_place.ensures.1 held))
        | inr none ↦ absurd (omega (arith, none.1))
      ]
    ]

pub returns : goal.returns
returns c = (
  λ truth. absurd (false≢true truth),
  λ contains.
      let dims : List (List ℕ) = c.as_slice-dim-items.result.now in
      let at = flat_contains (λ dim. dim) dims c.args.column (subst (λ dims. Contains (flat_map (λ dim. dim) dims) c.args.column) (sym c.as_slice-dim-items.ensures) contains) in
      absurd (c.loop-dim.invariant at.0 (subst (λ l. Contains l at.0) (sym (take_all c.loop-dim.dim-index dims c.loop-dim-test.false)) at.1) at.2),
)
