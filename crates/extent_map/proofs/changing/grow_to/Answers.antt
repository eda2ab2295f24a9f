use Rattle.std.proofs.Common.{◌≡◌, ◌<◌, ◌^◌, length, ap, ◌∙◌, arith}
use Rattle.std.specs.Int.{to_be_bytes, w32}
use Rattle.extent_map.proofs.CountsLemmas.{changes_count, counted_result}
use Rattle.extent_map.proofs.GrowthLemmas.{growth_written}
use Rattle.extent_map.proofs.changing.grow_to.Goals as goal

pub returns-clause-root : goal.returns-clause-root
returns-clause-root g c =
    let pages = c.overwrite.new.pages in
    let count : c.args.end ≡ length (g.P.Pages.state pages).work = omega (arith, c.overwrite.ensures.count, c.in_ok-add_pages.ensures.grows.count) in
    changes_count c.overwrite.result c.to_be_bytes.result (c.to_be_bytes.ensures ∙ ap (to_be_bytes w32) count) c.add_pages.ensures.runs.touches
    c.overwrite.ensures.runs.works.steady.is_told c.overwrite.ensures.patches c.overwrite.ensures.kept

pub returns-clause-counted : goal.returns-clause-counted
returns-clause-counted g c =
    let pages = c.overwrite.new.pages in
    let count : c.args.end ≡ length (g.P.Pages.state pages).work = omega (arith, c.overwrite.ensures.count, c.in_ok-add_pages.ensures.grows.count) in
    let few : length (g.P.Pages.state pages).work < 2 ^ 32 = omega arith in
    let some : 0 < length (g.P.Pages.state c.add_pages.new.pages).work = omega (arith, c.in_ok-add_pages.ensures.grows.count) in
    counted_result g.P.Pages c.args.pages.now c.add_pages.new.pages pages c.overwrite.result c.to_be_bytes.result (c.to_be_bytes.ensures ∙ ap (to_be_bytes w32) count) few
    c.overwrite.ensures.runs.works.steady.is_told some c.overwrite.ensures.whole c.overwrite.ensures.patches

pub returns-clause-stated : goal.returns-clause-stated
returns-clause-stated g c =
    let pages = c.overwrite.new.pages in
    let count : c.args.end ≡ length (g.P.Pages.state pages).work = omega (arith, c.overwrite.ensures.count, c.in_ok-add_pages.ensures.grows.count) in
    growth_written c.args.pages.now c.add_pages.new.pages pages c.overwrite.result c.to_be_bytes.result (c.to_be_bytes.ensures ∙ ap (to_be_bytes w32) count)
    (omega (arith, count)) c.add_pages.ensures.runs.touches c.overwrite.ensures.whole c.overwrite.ensures.patches
