use Rattle.std.proofs.Common.{◌≤◌, ◌/◌, ◌-◌, arith}
use Rattle.std.proofs.lemmas.Bool.Decides.{nat_tests}
use Rattle.file_check.proofs.RootPageLemmas.{extents_of_whole, whole_of}
use Rattle.file_check.proofs.root.is_whole.Goals as goal

pub returns : goal.returns
returns c =
    let shape = c.args.shape in
    let n = c.args.count in
    let first = c.first_page-first.result in (
      (λ yes.
          let few : (n - first) / shape.extent_pages ≤ shape.extents = grind (arith, nat_tests, yes) in
          whole_of shape n first c.first_page-first.ensures (omega (arith, c.if-count-first.false)) c.if-behind-shape-ne0.false few),
      (λ whole. let few = extents_of_whole shape n first c.first_page-first.ensures whole in grind (arith, nat_tests)),
    )
