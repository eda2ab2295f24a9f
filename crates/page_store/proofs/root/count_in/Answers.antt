-- What the page states is a count of whole extents.
use Rattle.std.proofs.Common.{refl, ◌≡◌, ◌*◌, ◌∙◌, ◌+◌, arith, sym, [], ◌∷◌}
use Rattle.store_api.specs.StoreState.{stated_in}
use Rattle.store_api.specs.Extents.{first_count}
use Rattle.page_store.proofs.Roots.{limits_of, whole_extents, not_whole, count_limits, begins}
use Rattle.page_store.proofs.root.count_in.Goals.{then-not-starts_with-via-then-not-starts_with, then-not-starts_with-via-else-not-starts_with+then-count-first, then-added-shape-ne0-via-then-added-shape-ne0, then-added-shape-ne0-via-else-added-shape-ne0+then-added-shape}
use Rattle.page_store.proofs.root.count_in.Goals as goal

pub returns-then-not-starts_with : goal.returns-then-not-starts_with
returns-then-not-starts_with c = λ root. elim c.then-not-starts_with.branch [
  | then-not-starts_with-via-then-not-starts_with w ↦ (let yes = (begins c.args.page.now (82 ∷ 79 ∷ 79 ∷ 84 ∷ []) c.starts_with.result refl c.starts_with.ensures.value).1 root.begins in cc)
  | then-not-starts_with-via-else-not-starts_with+then-count-first w ↦ (
      let stated : stated_in c.args.page.now ≡ c.stated_count-count.result = sym c.stated_count-count.ensures in
      let limits = limits_of c.args.shape.extents c.args.shape.extent_pages c.args.shape.within in
      let whole = not_whole (first_count c.args.shape.extents) c.args.shape.extent_pages c.args.shape.extents c.stated_count-count.result root.counts.0 (omega (arith, limits.size)) root.counts.1 (sym stated ∙ root.counts.2) in
      omega (arith, whole.0, w.if-count-first.true))
]

pub returns-then-added-shape-ne0 : goal.returns-then-added-shape-ne0
returns-then-added-shape-ne0 c = λ root.
    let stated : stated_in c.args.page.now ≡ c.stated_count-count.result = sym c.stated_count-count.ensures in
    let limits = limits_of c.args.shape.extents c.args.shape.extent_pages c.args.shape.within in
    let whole = not_whole c.first_count-first.result c.args.shape.extent_pages c.args.shape.extents c.stated_count-count.result root.counts.0 (omega (arith, limits.size)) root.counts.1 (omega (arith, root.counts.2)) in
    elim c.then-added-shape-ne0.branch [
      | then-added-shape-ne0-via-then-added-shape-ne0 w ↦ (let u = w.if-added-shape-ne0.true in u whole.1)
      | then-added-shape-ne0-via-else-added-shape-ne0+then-added-shape w ↦ omega (arith, whole.2, w.if-added-shape.true)
    ]

pub returns : goal.returns
returns c =
    let stated : stated_in c.args.page.now ≡ c.stated_count-count.result = sym c.stated_count-count.ensures in
    let limits = limits_of c.args.shape.extents c.args.shape.extent_pages c.args.shape.within in
    let whole = whole_extents c.first_count-first.result c.args.shape.extent_pages c.args.shape.extents c.stated_count-count.result (omega (arith, limits.size)) c.if-count-first.false c.if-added-shape-ne0.false c.if-added-shape.false in
    let is : c.stated_count-count.result ≡ first_count c.args.shape.extents + whole.0 * c.args.shape.extent_pages = omega (arith, whole.2) in
    let fits = count_limits c.args.shape.extents c.args.shape.extent_pages whole.0 c.stated_count-count.result limits whole.1 is in (
      record {
        size = c.told-page;
        begins = (begins c.args.page.now (82 ∷ 79 ∷ 79 ∷ 84 ∷ []) c.starts_with.result refl c.starts_with.ensures.value).0 c.if-not-starts_with.false;
        counts = (whole.0, whole.1, stated ∙ is);
      },
      sym stated,
      fits.0,
      fits.1,
    )
