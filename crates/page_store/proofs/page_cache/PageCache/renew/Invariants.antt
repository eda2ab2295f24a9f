use Rattle.std.proofs.Common.{◌≡◌, drop, nat_eq}
use Rattle.std.specs.List.{IsDistinct}
use Rattle.std.specs.Map.{keys_of}
use Rattle.redo_journal.specs.Images.{AreRising, unboxed}
use Rattle.page_store.specs.Cached.{renewed}
use Rattle.page_store.proofs.page_cache.PageCache.renew.Given as goal

-- what the images that are left do to the pages now, all of them do to the pages as they were
abbrev pub invariant-loop-i : goal.invariant-loop-i
invariant-loop-i l = record {
  same : renewed (unboxed (drop l.i l.images)) l.self ≡ renewed (unboxed l.initial.images) l.initial.self;
  rising : AreRising (unboxed (drop l.i l.images));
  distinct : IsDistinct nat_eq (keys_of l.self);
}
