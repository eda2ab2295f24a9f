-- The bytes of a kind, and what they say.
use Rattle.std.proofs.Common.{◌≡◌, ◌<◌, ◌≤◌, ◌^◌, ℕ, length, refl, ap, sym, ◌∙◌, arith, Some}
use Rattle.std.proofs.Math.Pow.{pow_mono}
use Rattle.std.proofs.lemmas.Bool.{lt-ltb}
use Rattle.std.proofs.lemmas.Nat.{from_be_bytes-to_be_bytes_4}
use Rattle.std.proofs.lemmas.Option.{same_Some}
use Rattle.extent_map.specs.Kinds.{kind_bytes, kind_stated, index_stated, IsKindOf}
use Rattle.extent_map.specs.declared.kind.Kind.{Kind}
use Rattle.extent_map.specs.declared.kind.Kind.TheVariants.{Free, Block, Index}

pub length-kind_bytes : (kind : Kind) → length (kind_bytes kind) ≡ 8
unfolding kind_bytes
length-kind_bytes Free = refl
length-kind_bytes (Block table) = refl
length-kind_bytes (Index used) = refl

index_stated-within : (n used : ℕ) → 0 < used → used < 2 ^ n → index_stated n 0 used ≡ Some (Index used)
index_stated-within n used some few = rw (lt-ltb 0 used some) (rw (lt-ltb used (2 ^ n) few) refl)

-- the bytes of a kind say that kind
pub kind_stated-kind_bytes : (n : ℕ) (kind : Kind) → n ≤ 32 → IsKindOf n kind → kind_stated n (kind_bytes kind) ≡ Some kind
unfolding kind_bytes
kind_stated-kind_bytes n Free few is = refl
kind_stated-kind_bytes n (Block table) few is = refl
kind_stated-kind_bytes n (Index used) few is =
    let most : 2 ^ n ≤ 2 ^ 32 = pow_mono few in
    let fits : used < 2 ^ 32 = omega (arith, is.1, most) in
    ap (index_stated n 0) (from_be_bytes-to_be_bytes_4 used fits) ∙ index_stated-within n used is.0 is.1

-- two kinds of the same bytes are the same
pub same_kind : (n : ℕ) (one other : Kind) → n ≤ 32 → IsKindOf n one → IsKindOf n other → kind_bytes one ≡ kind_bytes other → one ≡ other
same_kind n one other few is was same =
    same_Some one other (sym (kind_stated-kind_bytes n one few is) ∙ ap (kind_stated n) same ∙ kind_stated-kind_bytes n other few was)
