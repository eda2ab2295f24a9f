-- The place is that of the home page.
use Rattle.std.proofs.Common.{◌≡◌, ◌+◌, ◌*◌, length, take, drop, arith, ap, ◌∙◌}
use Rattle.page_store.proofs.page_cache.read_home.Goals as goal
use Rattle.page_file.specs.Layout.{home_start}

pub returns-clause-page : goal.returns-clause-page
returns-clause-page g c = λ file is.
    let place : (66 + c.from.result) * 4096 ≡ home_start c.args.p = omega arith in
    let long : length c.args.page.now ≡ 4096 = omega arith in
    c.in_ok-get.ensures.read file is ∙ (ap (λ n. take n (drop ((66 + c.from.result) * 4096) file.bytes)) long ∙ ap (λ at. take 4096 (drop at file.bytes)) place)
