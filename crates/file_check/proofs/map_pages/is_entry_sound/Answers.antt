use Rattle.std.proofs.Common.{◌≡◌, ◌∙◌, ◌+◌, ◌-◌, ◌*◌, ◌%◌, ℕ, List, Some, ap, arith, drop, rules, subst, sym, take}
use Rattle.extent_map.specs.Kinds.{kind_stated}
use Rattle.extent_map.specs.declared.kind.Kind.TheVariants.{Block, Index}
use Rattle.file_check.specs.MapPagesJudged.{IsEntrySound, kind_on}
use Rattle.file_check.proofs.map_pages.is_entry_sound.Goals as goal

-- the bytes from the entry's first to its last are the entry
kind_of_part : (n e : ℕ) (page : List ℕ) → kind_stated n (take ((8 * (e % 512) + 8) - 8 * (e % 512)) (drop (8 * (e % 512)) page)) ≡ kind_stated n (take 8 (drop (8 * (e % 512)) page))
kind_of_part n e page =
    let width : (8 * (e % 512) + 8) - 8 * (e % 512) ≡ 8 = omega arith in
    ap (λ (m : ℕ). kind_stated n (take m (drop (8 * (e % 512)) page))) width

pub returns-then-is_there : goal.returns-then-is_there
returns-then-is_there c =
    let is : kind_on c.args.shape c.args.page.now c.args.e ≡ Some (Block c.in-Block.table) =
    sym (c.stated_kind.ensures ∙ kind_of_part c.args.shape.extent_pages c.args.e c.args.page.now) ∙ c.in-Some.is ∙ ap Some c.in-Block.is in
    let end_is = c.end_of.ensures in (
      λ low. subst (IsEntrySound c.args.shape c.args.count c.args.tables.now c.args.e) (sym is) (search rules, search rules),
      λ sound. let kind = subst (IsEntrySound c.args.shape c.args.count c.args.tables.now c.args.e) is sound in search rules,
    )

pub returns-in-Index : goal.returns-in-Index
returns-in-Index c =
    let is : kind_on c.args.shape c.args.page.now c.args.e ≡ Some (Index c.in-Index.field-0) =
    sym (c.stated_kind.ensures ∙ kind_of_part c.args.shape.extent_pages c.args.e c.args.page.now) ∙ c.in-Some.is ∙ ap Some c.in-Index.is in
    let end_is = c.end_of-in-Index.ensures in (
      λ low. subst (IsEntrySound c.args.shape c.args.count c.args.tables.now c.args.e) (sym is) (search rules),
      λ sound. let kind = subst (IsEntrySound c.args.shape c.args.count c.args.tables.now c.args.e) is sound in search rules,
    )
