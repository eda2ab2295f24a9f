use Rattle.std.proofs.Common.{◌≡◌, ◌++◌, List, ℕ, ap, ◌∙◌}
use Rattle.row_groups.specs.Keys.{group_key}
use Rattle.row_checks.proofs.TwinsLemmas.{seen_with_last, was_seen}
use Rattle.row_checks.proofs.keys.seen_keys.SeenKeys.add.Goals as goal

pub returns-clause-new : goal.returns-clause-new
returns-clause-new c = λ rows has.
    let is : c.append_key.new.out.items ≡ group_key c.args.columns.now c.args.row.now
    = c.in_ok-append_key.ensures.key ∙ ap (λ (front : List ℕ). front ++ group_key c.args.columns.now c.args.row.now) c.new-key.ensures.items in
    was_seen c.args.columns.now rows c.args.row.now c.args.self.now.keys c.append_key.new.out c.in_ok-insert.field-0 has c.in_ok-append_key.ensures.small is c.in_ok-insert.ensures.added

pub returns-clause-seen : goal.returns-clause-seen
returns-clause-seen c = λ rows has.
    let is : c.append_key.new.out.items ≡ group_key c.args.columns.now c.args.row.now
    = c.in_ok-append_key.ensures.key ∙ ap (λ (front : List ℕ). front ++ group_key c.args.columns.now c.args.row.now) c.new-key.ensures.items in
    seen_with_last c.args.columns.now rows c.args.row.now c.args.self.now.keys c.insert.new.self c.append_key.new.out has c.in_ok-append_key.ensures.small is c.in_ok-insert.ensures.updates.0
