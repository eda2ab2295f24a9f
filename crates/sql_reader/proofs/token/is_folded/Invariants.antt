use Rattle.std.proofs.Common.{◌≡◌, map, drop}
use Rattle.std.specs.Str.{bytes_eq}
use Rattle.mdc_ast.specs.Tokens.{upper}
use Rattle.sql_reader.proofs.token.is_folded.Given as goal

abbrev pub invariant-loop-place : goal.invariant-loop-place
invariant-loop-place l = bytes_eq (map upper (drop l.place l.word)) (drop l.place l.wanted) ≡ bytes_eq (map upper l.fn.word) l.fn.wanted
