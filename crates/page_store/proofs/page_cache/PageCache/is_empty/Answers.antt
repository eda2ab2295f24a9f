-- The cache keeps each number once.
use Rattle.std.proofs.Common.{nat_eq, sym, ap, subst, ◌∙◌}
use Rattle.std.specs.List.{IsDistinct}
use Rattle.std.specs.Map.{keys_of}
use Rattle.page_store.proofs.Recent.{keys_of-unboxed}
use Rattle.page_store.proofs.page_cache.PageCache.is_empty.Goals as goal

pub returns-clause-distinct : goal.returns-clause-distinct
returns-clause-distinct c = subst (IsDistinct nat_eq) (sym (keys_of-unboxed c.self.inside.pages.entries) ∙ ap keys_of c.self.view_is) c.len.ensures.valid.0
