use Rattle.std.proofs.Common.{◌≡◌, ◌≢◌, arith}
use Rattle.std.proofs.lemmas.Bool.Decides.{nat_tests}
use Rattle.extent_map.specs.Owners.{owner_of}
use Rattle.extent_map.specs.declared.kind.Kind.TheVariants.{Block}
use Rattle.file_check.proofs.NamedBlocksLemmas.{names_all, names_not, names_other, names_past, walks_block, walks_past}
use Rattle.file_check.proofs.named_blocks.are_blocks_of.Goals as goal

pub returns-then-not-owned-clause-not : goal.returns-then-not-owned-clause-not
returns-then-not-owned-clause-not c same =
    let not_owned : owner_of c.args.kinds.now c.loop-e.e ≢ Block c.args.table = c.is_block_of-owned.ensures.not c.if-not-owned.true in
    names_other c.args.kinds.now c.args.table c.args.blocks.now c.loop-e.at c.loop-e.e c.loop-e.invariant (c.is_at.ensures.within c.if-is_at.true) (c.is_at.ensures.is c.if-is_at.true) (omega (arith, c.loop-e-test.true)) not_owned

pub loop-e-preserved-then-is_at : goal.loop-e-preserved-then-is_at
loop-e-preserved-then-is_at c =
    let owned : owner_of c.args.kinds.now c.loop-e.e ≡ Block c.args.table = c.is_block_of-owned.ensures.is c.if-not-owned.false in
    walks_block c.args.kinds.now c.args.table c.args.blocks.now c.loop-e.at c.loop-e.e c.loop-e.invariant (c.is_at.ensures.within c.if-is_at.true) (c.is_at.ensures.is c.if-is_at.true) owned

pub returns-then-owned-clause-not : goal.returns-then-owned-clause-not
returns-then-owned-clause-not c same =
    let owned : owner_of c.args.kinds.now c.loop-e.e ≡ Block c.args.table = c.is_block_of-owned.ensures.is c.if-owned.true in
    names_not c.args.kinds.now c.args.table c.args.blocks.now c.loop-e.at c.loop-e.e c.loop-e.invariant (c.is_at.ensures.not c.if-is_at.false) (omega (arith, c.loop-e-test.true), owned)

pub loop-e-preserved : goal.loop-e-preserved
loop-e-preserved c =
    let not_owned : owner_of c.args.kinds.now c.loop-e.e ≢ Block c.args.table = c.is_block_of-owned.ensures.not c.if-owned.false in
    walks_past c.args.kinds.now c.args.table c.args.blocks.now c.loop-e.at c.loop-e.e c.loop-e.invariant (c.is_at.ensures.not c.if-is_at.false) not_owned

pub returns-clause-are : goal.returns-clause-are
returns-clause-are c is = names_all c.args.kinds.now c.args.table c.args.blocks.now c.loop-e.at c.loop-e.e c.loop-e.invariant (omega (arith, c.loop-e-test.false)) (grind (arith, nat_tests, is))

pub returns-clause-not : goal.returns-clause-not
returns-clause-not c is = names_past c.args.kinds.now c.args.table c.args.blocks.now c.loop-e.at c.loop-e.e c.loop-e.invariant (omega (arith, c.loop-e-test.false)) (grind (arith, nat_tests, is))
