-- The front fits a page of zeros.
use Rattle.std.proofs.Common.{ap, arith, length, length-take}
use Rattle.page_store.proofs.FreshBytes.{length-zero_page}
use Rattle.page_store.proofs.fresh.page_with.Goals as goal

pub slice_bounds-page-end : goal.slice_bounds-page-end
slice_bounds-page-end c = omega (arith, ap length c.blank_page.ensures, length-zero_page, c.requires)

pub slice_bounds-copy_from_slice-end : goal.slice_bounds-copy_from_slice-end
slice_bounds-copy_from_slice-end c =
    omega (arith, ap length c.blank_page.ensures, length-zero_page, c.requires, length-take (length c.args.front.now) c.blank_page.result.now)

pub copy_from_slice-requires : goal.copy_from_slice-requires
copy_from_slice-requires c =
    omega (arith, ap length c.blank_page.ensures, length-zero_page, c.requires, length-take (length c.args.front.now) c.blank_page.result.now)
