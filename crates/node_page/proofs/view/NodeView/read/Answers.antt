use Rattle.std.proofs.Common.{◌≡◌, length, Some, ap, sym, subst, ◌∙◌, arith}
use Rattle.std.proofs.lemmas.Bool.{both_ways}
use Rattle.node_page.specs.Entries.{EntriesRise}
use Rattle.node_page.specs.Looked.{looked, seen_node, entries_in, is_leaf_node}
use Rattle.node_page.specs.Views.{IsWritten}
use Rattle.node_page.proofs.NodeLemmas.{number_short}
use Rattle.node_page.proofs.JudgeLemmas.{written_is, written_back, looked_node, looked_got, same_seen}
use Rattle.node_page.proofs.view.NodeView.read.Goals as goal

pub is_written-requires-clause-few : goal.is_written-requires-clause-few
is_written-requires-clause-few c = omega (arith, c.len.ensures, c.in_ok-view.ensures.count, number_short 4 2 c.args.page.now c.fits-page)

pub returns-then-not-is_written-clause-all : goal.returns-then-not-is_written-clause-all
returns-then-not-is_written-clause-all c = λ node isn.
    let w = c.args.width in
    let page = c.args.page.now in
    let v = c.in_ok-view.view in
    let seen : looked w page ≡ Some (seen_node w v.node) = sym c.look.ensures.seen ∙ c.in_ok-view.was ∙ ap (λ k. Some (seen_node k v.node)) c.in_ok-view.ensures.width in
    let same = same_seen w node v.node (sym (looked_node w page node c.ranges.width.fits c.told-page c.fits-page isn.form isn.written) ∙ seen) in
    let back = written_back w page v.node (isn.form ∙ same) (looked_got w page v.node seen).1 c.told-page c.fits-page in
    let written : IsWritten w c.is_leaf.result c.len.result page =
    subst (λ k. IsWritten w c.is_leaf.result k page) (sym c.len.ensures) (subst (λ b. IsWritten w b (length (entries_in v.node)) page) (sym c.is_leaf.ensures.leaf) back) in
    absurd (both_ways c.is_written.result c.if-not-is_written.true (c.is_written.ensures.1 written))

pub returns-then-not-rises-clause-all : goal.returns-then-not-rises-clause-all
returns-then-not-rises-clause-all c = λ node isn.
    let w = c.args.width in
    let page = c.args.page.now in
    let v = c.in_ok-view.view in
    let seen : looked w page ≡ Some (seen_node w v.node) = sym c.look.ensures.seen ∙ c.in_ok-view.was ∙ ap (λ k. Some (seen_node k v.node)) c.in_ok-view.ensures.width in
    let same = same_seen w node v.node (sym (looked_node w page node c.ranges.width.fits c.told-page c.fits-page isn.form isn.written) ∙ seen) in
    absurd (both_ways c.rises.result c.if-not-rises.true (c.rises.ensures.1 (subst (λ x. EntriesRise (entries_in x)) same isn.rising)))

pub returns-clause-only : goal.returns-clause-only
returns-clause-only c =
    let w = c.args.width in
    let page = c.args.page.now in
    let v = c.in_ok-view.view in
    let seen : looked w page ≡ Some (seen_node w v.node) = sym c.look.ensures.seen ∙ c.in_ok-view.was ∙ ap (λ k. Some (seen_node k v.node)) c.in_ok-view.ensures.width in
    let yes : IsWritten w c.is_leaf.result c.len.result page = c.is_written.ensures.0 c.if-not-is_written.false in
    let written : IsWritten w (is_leaf_node v.node) (length (entries_in v.node)) page =
    subst (λ k. IsWritten w (is_leaf_node v.node) k page) c.len.ensures (subst (λ b. IsWritten w b c.len.result page) c.is_leaf.ensures.leaf yes) in (
      c.in_ok-view.ensures.width,
      record {
        form = written_is w page v.node seen c.told-page c.fits-page written;
        written = (looked_got w page v.node seen).1;
        rising = c.rises.ensures.0 c.if-not-rises.false;
      },
    )

pub returns-clause-all : goal.returns-clause-all
returns-clause-all c = λ node isn.
    sym c.in_ok-view.was ∙ c.look.ensures.seen ∙ looked_node c.args.width c.args.page.now node c.ranges.width.fits c.told-page c.fits-page isn.form isn.written
