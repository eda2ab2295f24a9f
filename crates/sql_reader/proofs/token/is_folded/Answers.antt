use Rattle.std.proofs.Common.{get_or}
use Rattle.sql_reader.proofs.Folding.{folded_all, folded_differs, folded_lengths, folded_more, upper_is}
use Rattle.sql_reader.proofs.token.is_folded.Goals as goal

pub returns-then-word-wanted : goal.returns-then-word-wanted
returns-then-word-wanted c = folded_lengths c.args.word.now c.args.wanted.now c.if-word-wanted.true

pub returns-then-to_ascii_uppercase-wanted : goal.returns-then-to_ascii_uppercase-wanted
returns-then-to_ascii_uppercase-wanted c =
    folded_differs c.loop-place.place c.args.word.now c.args.wanted.now c.to_ascii_uppercase.result _ c.loop-place-test.true c.if-word-wanted.false (upper_is (get_or c.args.word.now c.loop-place.place 0) c.to_ascii_uppercase.result c.to_ascii_uppercase.ensures.value) c.if-to_ascii_uppercase-wanted.true c.loop-place.invariant

pub loop-place-preserved : goal.loop-place-preserved
loop-place-preserved c =
    folded_more c.loop-place.place c.args.word.now c.args.wanted.now c.to_ascii_uppercase.result _ c.loop-place-test.true c.if-word-wanted.false (upper_is (get_or c.args.word.now c.loop-place.place 0) c.to_ascii_uppercase.result c.to_ascii_uppercase.ensures.value) c.if-to_ascii_uppercase-wanted.false c.loop-place.invariant

pub returns : goal.returns
returns c = folded_all c.args.word.now c.args.wanted.now c.loop-place.place _ c.loop-place-test.false c.if-word-wanted.false c.loop-place.invariant
