-- How a scan goes on over the bytes held, and what it leaves of them.
use Rattle.std.proofs.Common.{◌≡◌, ◌<◌, ◌≤◌, ◌+◌, ◌-◌, ℕ, suc, List, [], ◌∷◌, ◌++◌, Some, None, take, drop, length, get_or, slice_range, sym, ap, ◌∙◌, subst, arith, length-drop, length-take}
use Rattle.std.proofs.Math.Nat.{sub_self}
use Rattle.std.proofs.Math.ListN.{drop_of_length-le}
use Rattle.std.proofs.Math.Seq.{drop-cons, take-add, take-length}
use Rattle.std.proofs.lemmas.List.{drop-drop, drop-take, get_or-drop, take-append-drop, take-take}
use Rattle.sql_reader.specs.declared.place.Place.{Place}
use Rattle.sql_reader.specs.Holding.{Holding}
use Rattle.sql_reader.specs.Scan.{place_after, place_behind}
use Rattle.sql_reader.proofs.Trimming.{slice_from}
use Rattle.sql_reader.proofs.Pieces.{only_semicolon}

-- a scan went over the first bytes ahead
abbrev pub WentOver : Holding → Holding → Type 0
WentOver old new = (piece : List ℕ) × (old.ahead ≡ piece ++ new.ahead) × (new.scanned ≡ old.scanned ++ piece) × (place_behind old.place piece ≡ Some new.place)

-- the bytes ahead are those gone over and those still ahead
pub ahead_splits : (held : List ℕ) (scanned count : ℕ) → drop scanned held ≡ take count (drop scanned held) ++ drop (scanned + count) held
ahead_splits held scanned count = sym (take-append-drop count (drop scanned held)) ∙ ap (λ l. take count (drop scanned held) ++ l) (drop-drop count scanned held)

-- the bytes scanned are those from before and those gone over
pub scanned_grows : (held : List ℕ) (start scanned count : ℕ) → start ≤ scanned → slice_range held start (scanned + count) ≡ slice_range held start scanned ++ take count (drop scanned held)
scanned_grows held start scanned count order =
    let behind : start + (scanned - start) ≡ scanned = omega (arith, order) in
    let sum : scanned + count - start ≡ (scanned - start) + count = omega (arith, order) in
    let at : drop (scanned - start) (drop start held) ≡ drop scanned held = drop-drop (scanned - start) start held ∙ ap (λ n. drop n held) behind in
    ap (λ n. take n (drop start held)) sum ∙ (take-add (scanned - start) count (drop start held) ∙ ap (λ l. take (scanned - start) (drop start held) ++ take count l) at)

-- the place behind the bytes gone over
pub came_on : (held bytes : List ℕ) (scanned count : ℕ) (place to : Place) → bytes ≡ held → place_behind place (take count (take (length bytes - scanned) (drop scanned bytes))) ≡ Some to
    → place_behind place (take count (drop scanned held)) ≡ Some to
came_on held bytes scanned count place to e came = subst (λ l. place_behind place (take count l) ≡ Some to) (slice_from scanned bytes ∙ ap (drop scanned) e) came

-- where the scan stopped, a semicolon cuts
pub stops_at : (held bytes : List ℕ) (scanned count : ℕ) (to : Place) → bytes ≡ held → scanned + count < length held
    → (count < length (take (length bytes - scanned) (drop scanned bytes)) → place_after to (get_or (take (length bytes - scanned) (drop scanned bytes)) count 0) ≡ None)
    → (rest : List ℕ) × (drop (scanned + count) held ≡ 59 ∷ rest) × (place_after to 59 ≡ None)
stops_at held bytes scanned count to e more stopped =
    let at : take (length bytes - scanned) (drop scanned bytes) ≡ drop scanned held = slice_from scanned bytes ∙ ap (drop scanned) e in
    let size : length (drop scanned held) ≡ length held - scanned = length-drop scanned held in
    let short : count < length (drop scanned held) = omega arith in
    let stops : place_after to (get_or (drop scanned held) count 0) ≡ None = subst (λ l. count < length l → place_after to (get_or l count 0) ≡ None) at stopped short in
    let there : place_after to (get_or held (scanned + count) 0) ≡ None = subst (λ b. place_after to b ≡ None) (get_or-drop scanned held count 0) stops in
    let is : get_or held (scanned + count) 0 ≡ 59 = only_semicolon to (get_or held (scanned + count) 0) there in (
      drop (suc (scanned + count)) held,
      drop-cons held (scanned + count) 0 more ∙ ap (λ b. b ∷ drop (suc (scanned + count)) held) is,
      subst (λ b. place_after to b ≡ None) is there,
    )

-- where it went over all, nothing is ahead
pub none_ahead : (held : List ℕ) (scanned : ℕ) → length held ≤ scanned → drop scanned held ≡ []
none_ahead held scanned all = drop_of_length-le held all

-- the bytes from a place to the same one
pub no_bytes : (held : List ℕ) (place : ℕ) → slice_range held place place ≡ []
no_bytes held place = ap (λ n. take n (drop place held)) (sub_self place)

-- a part of a part of the bytes
pub slice_within : (held : List ℕ) (start scanned begin end : ℕ) → start ≤ scanned → scanned ≤ length held → begin ≤ end → end ≤ length (slice_range held start scanned)
    → slice_range held (start + begin) (start + end) ≡ slice_range (slice_range held start scanned) begin end
slice_within held start scanned begin end order within first fits =
    let size : length (slice_range held start scanned) ≤ scanned - start = omega (arith, length-take (scanned - start) (drop start held)) in
    let more : ℕ = scanned - start - begin in
    let sum : begin + more ≡ scanned - start = omega (arith, size, first, fits) in
    let count : start + end - (start + begin) ≡ end - begin = omega arith in
    let inner : drop begin (slice_range held start scanned) ≡ take more (drop (start + begin) held) =
    ap (λ n. drop begin (take n (drop start held))) (sym sum) ∙ (drop-take begin more (drop start held) ∙ ap (take more) (drop-drop begin start held)) in
    let part : slice_range (slice_range held start scanned) begin end ≡ take (end - begin) (drop (start + begin) held) =
    ap (take (end - begin)) inner ∙ take-take (end - begin) more (drop (start + begin) held) (omega (arith, size, fits)) in
    ap (λ n. take n (drop (start + begin) held)) count ∙ sym part

-- all bytes up to their number
pub slice_all : (held : List ℕ) (count : ℕ) → count ≡ length held → slice_range held 0 count ≡ held
slice_all held count e = ap (λ n. take n held) (omega (arith, e)) ∙ take-length held

-- the length of a part of the bytes
pub part_length : (bytes : List ℕ) (begin end : ℕ) → begin ≤ end → end ≤ length bytes → length (slice_range bytes begin end) ≡ end - begin
part_length bytes begin end order fits = omega (arith, length-take (end - begin) (drop begin bytes), length-drop begin bytes, order, fits)
