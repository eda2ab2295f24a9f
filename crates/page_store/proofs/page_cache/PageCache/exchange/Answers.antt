-- The box in the cache is the one of the image.
use Rattle.std.proofs.Common.{◌≡◌, nat_eq, None, sym, ap, ◌∙◌}
use Rattle.std.specs.Map.{lookup, set_value}
use Rattle.redo_journal.specs.Images.{unboxed}
use Rattle.page_store.proofs.Recent.{unboxed-set_value, set_value-absent}
use Rattle.page_store.proofs.page_cache.PageCache.exchange.Goals.{in-Some, in_default}
use Rattle.page_store.proofs.page_cache.PageCache.exchange.Goals as goal

pub returns : goal.returns
returns c = elim c.match-peek_mut.branch [
  | in-Some w ↦
      rw w.self-inside-is (ap (λ box. unboxed (set_value (nat_eq c.args.p) c.self.inside.pages.entries box)) w.swap.ensures.x_after
      ∙ (unboxed-set_value c.args.p c.self.inside.pages.entries c.args.image.now ∙ ap (λ entries. set_value (nat_eq c.args.p) entries c.args.image.now.value) c.self.view_is))
  | in_default w ↦
      let value = w.in_default.ensures.value in
      let absent : lookup (nat_eq c.args.p) c.self.inside.pages.entries ≡ None = sym value in
      rw w.self-inside-is (sym (set_value-absent c.args.p c.self.inside.pages.entries c.args.image.now.value absent) ∙ ap (λ entries. set_value (nat_eq c.args.p) entries c.args.image.now.value) c.self.view_is)
]
