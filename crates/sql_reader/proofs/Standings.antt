-- How what a reader keeps stands for what it took.
use Rattle.std.proofs.Common.{◌≡◌, ◌<◌, ◌+◌, ◌⊎◌, inl, inr, ℕ, Bool, true, false, List, [], ◌∷◌, ◌++◌, Option, Some, None, IfOk, Result, Ok, Err, take, drop, length, refl, sym, ap, ◌∙◌, subst, arith, append_assoc, length-append, length-drop}
use Rattle.std.specs.List.{fold}
use Rattle.std.proofs.Math.Seq.{take-add, take-append-add, drop-append-add}
use Rattle.std.proofs.lemmas.Grind.{fold-append}
use Rattle.std.proofs.lemmas.List.{append-nil, drop-drop, drop-append-le, take-append-le}
use Rattle.mdc_ast.specs.Cutting.{Piece, Semicolon, ScriptEnd, Cut, Trims}
use Rattle.mdc_ast.specs.Reading.{Refused, too_long}
use Rattle.mdc_ast.specs.declared.refusal.Refusal.{Refusal}
use Rattle.sql_reader.specs.declared.place.Place.TheVariants.{Outside}
use Rattle.sql_reader.specs.declared.statements.Read.{Read}
use Rattle.sql_reader.specs.Holding.{Holding}
use Rattle.sql_reader.specs.Items.{HasItem, IsItemIn}
use Rattle.sql_reader.specs.Progress.{Progress, at_start}
use Rattle.sql_reader.specs.Scan.{next_place, place_after}
use Rattle.sql_reader.specs.Standing.{BeginsStatement, Covers, HoldsRest, IsAt, IsLong, StandsFor}
use Rattle.sql_reader.proofs.Items.{has_item}
use Rattle.sql_reader.proofs.Pieces.{cut_closed, piece_before, piece_behind}
use Rattle.sql_reader.proofs.Scanning.{WentOver}
use Rattle.sql_reader.proofs.Telling.{long_item}
use Rattle.sql_reader.proofs.Trimming.{stands_itself, stands_more, stands_then, stands_whole}

-- more bytes of the piece are covered by what is kept of it and them
covers_more : (long : Bool) (kept bytes more : List ℕ) → Covers long kept bytes → Covers long (kept ++ more) (bytes ++ more)
covers_more true kept bytes more long = λ rest.
    let whole = long (more ++ rest) in (whole.0, subst (λ l. Trims l whole.0) (sym (append_assoc bytes more rest)) whole.1, whole.2)
covers_more false kept bytes more stands = stands_more bytes kept more stands

-- so they are by less that stands for what is kept
pub covers_kept : (long : Bool) (kept less bytes : List ℕ) → StandsFor kept less → Covers long kept bytes → Covers long less bytes
covers_kept true kept less bytes stands long = long
covers_kept false kept less bytes stands covers = stands_then bytes kept less covers stands

-- and by nothing where the statement is too long
pub covers_long : (long : Bool) (kept less bytes : List ℕ) → (long ≡ true) ⊎ (65536 < length less) → StandsFor kept less → (2 < length less → BeginsStatement less) → Covers long kept bytes → IsLong bytes
covers_long true kept less bytes is stands begins long = long
covers_long false kept less bytes (inl is) stands begins covers = absurd (cc)
covers_long false kept less bytes (inr long) stands begins covers = λ rest.
    let two : 2 < length less = omega (arith, long) in
    (less ++ rest, covers rest (less ++ rest) (stands rest (less ++ rest) (begins two rest)), omega (arith, long, length-append less rest))

-- some bytes are not none
filled : (statement : List ℕ) → 65536 < length statement → statement ≡ [] → ⊥
filled statement long e = omega (arith, long, ap length e)

-- the item of a statement that is too long
pub long_told : (long : Bool) (kept piece : List ℕ) (refusal : Refusal) → long ≡ true → refusal ≡ too_long → Covers long kept piece → HasItem piece (Refused refusal)
long_told true kept piece refusal is e long =
    let whole = long [] in
    has_item piece whole.0 (Refused refusal) (subst (λ l. Trims l whole.0) (append-nil piece) whole.1) (filled whole.0 whole.2) (long_item whole.0 refusal whole.2 e)
long_told false kept piece refusal is e covers = absurd (cc)

-- the item of what stands for a piece is the piece's
item_stands : (kept piece : List ℕ) (found : Option Read) → StandsFor piece kept → IsItemIn kept found → IsItemIn piece found
item_stands kept piece None stands trims = stands_whole piece kept [] stands trims
item_stands kept piece (Some read) stands has = record { b = has.b; rest = has.rest; trims = stands_whole piece kept (has.b ∷ has.rest) stands has.trims; says = has.says }

-- the item of what is kept of a statement that isn't too long
pub kept_told : (long : Bool) (kept piece : List ℕ) (found : Option Read) → long ≡ false → IsItemIn kept found → Covers long kept piece → IsItemIn piece found
kept_told true kept piece found is item long = absurd (cc)
kept_told false kept piece found is item stands = item_stands kept piece found stands item

-- a reader that took nothing is at the start
pub starts : (reader : Holding) → reader.ahead ≡ [] → reader.scanned ≡ [] → reader.place ≡ Outside → reader.long ≡ false → reader.count ≡ 0 → reader.finished ≡ false → IsAt reader at_start
starts reader ahead scanned place long count finished = record {
  counts = count;
  ends = finished;
  rest = λ _. record {
    within = omega arith;
    closed = [];
    cut = record { each = tt; behind = Piece.nothing; bytes = refl };
    piece = [];
    bytes = sym ahead;
    came = ap Some (sym place);
    covers = subst (λ b. Covers b reader.scanned []) (sym long) (subst (StandsFor []) (sym scanned) (stands_itself []));
  };
}

-- a scan goes on over the bytes ahead
pub rest_scanned : (reader new : Holding) (progress : Progress) → HoldsRest reader progress → new ≡ record reader { scanned = new.scanned; ahead = new.ahead; place = new.place } → WentOver reader new → HoldsRest new progress
rest_scanned reader new progress held same over =
    let long : new.long ≡ reader.long = ap (λ r. r.long) same in
    record {
      within = held.within;
      closed = held.closed;
      cut = held.cut;
      piece = held.piece ++ over.0;
      bytes = held.bytes ∙ (ap (λ l. held.piece ++ l) over.1 ∙ sym (append_assoc held.piece over.0 new.ahead));
      came = fold-append next_place (Some Outside) held.piece over.0 ∙ (ap (λ o. fold next_place o over.0) held.came ∙ over.3);
      covers = subst (λ b. Covers b new.scanned (held.piece ++ over.0)) (sym long)
          (subst (λ l. Covers reader.long l (held.piece ++ over.0)) (sym over.2) (covers_more reader.long reader.scanned held.piece over.0 held.covers));
    }

-- less is kept
pub rest_shrunk : (reader new : Holding) (progress : Progress) (kept : ℕ) → HoldsRest reader progress → new ≡ record reader { scanned = new.scanned; long = new.long; kept = kept }
    → ((bytes : List ℕ) → Covers reader.long reader.scanned bytes → Covers new.long new.scanned bytes) → HoldsRest new progress
rest_shrunk reader new progress kept held same covers = record {
  within = held.within;
  closed = held.closed;
  cut = held.cut;
  piece = held.piece;
  bytes = held.bytes ∙ ap (λ l. held.piece ++ l) (sym (ap (λ r. r.ahead) same));
  came = held.came ∙ ap Some (sym (ap (λ r. r.place) same));
  covers = covers held.piece held.covers;
}

-- how far a reader is when it took more
abbrev pub and_taken : Progress → List ℕ → Progress
and_taken progress more = record progress { taken = progress.taken ++ more }

-- more is ahead
pub rest_filled : (reader new : Holding) (progress : Progress) (kept count : ℕ) → HoldsRest reader progress → reader.ahead ≡ [] → new ≡ record reader { ahead = new.ahead; kept = kept; count = count }
    → HoldsRest new (and_taken progress new.ahead)
rest_filled reader new progress kept count held none same =
    let long : new.long ≡ reader.long = ap (λ r. r.long) same in
    let scanned : new.scanned ≡ reader.scanned = ap (λ r. r.scanned) same in
    record {
      within = omega (arith, held.within, length-append progress.taken new.ahead);
      closed = held.closed;
      cut = subst (λ l. Cut l held.closed []) (sym (take-append-le progress.past progress.taken new.ahead held.within)) held.cut;
      piece = held.piece;
      bytes = drop-append-le progress.past progress.taken new.ahead held.within
          ∙ ap (λ l. l ++ new.ahead) (held.bytes ∙ (ap (λ l. held.piece ++ l) none ∙ append-nil held.piece));
      came = held.came ∙ ap Some (sym (ap (λ r. r.place) same));
      covers = subst (λ b. Covers b new.scanned held.piece) (sym long) (subst (λ l. Covers reader.long l held.piece) (sym scanned) held.covers);
    }

-- how far a reader is behind a piece and its semicolon
abbrev pub behind_piece : Progress → List ℕ → Progress
behind_piece progress piece = record progress { past = progress.past + (length piece + 1) }

-- the bytes up to a semicolon are those before the piece, the piece and the semicolon
pub take_piece : (progress : Progress) (piece rest : List ℕ) → drop progress.past progress.taken ≡ piece ++ 59 ∷ rest → take (behind_piece progress piece).past progress.taken ≡ take progress.past progress.taken ++ (piece ++ 59 ∷ [])
take_piece progress piece rest e =
    take-add progress.past (length piece + 1) progress.taken
    ∙ ap (λ l. take progress.past progress.taken ++ l) (ap (take (length piece + 1)) e ∙ take-append-add piece (59 ∷ rest) 1)

-- the piece that a semicolon closes
pub closed_piece : (reader : Holding) (progress : Progress) (held : HoldsRest reader progress) → place_after reader.place 59 ≡ None → Piece Semicolon held.piece
closed_piece reader progress held stops = piece_before held.piece reader.place held.came stops

-- the next piece begins behind it
pub rest_passed : (reader new : Holding) (progress : Progress) (rest : List ℕ) (held : HoldsRest reader progress) → reader.ahead ≡ 59 ∷ rest → place_after reader.place 59 ≡ None
    → new ≡ record reader { scanned = []; ahead = drop 1 reader.ahead; place = Outside; long = false } → HoldsRest new (behind_piece progress held.piece)
rest_passed reader new progress rest held semicolon stops same =
    let bytes : drop progress.past progress.taken ≡ held.piece ++ 59 ∷ rest = held.bytes ∙ ap (λ l. held.piece ++ l) semicolon in
    let size : length (drop progress.past progress.taken) ≡ length held.piece + length (59 ∷ rest) = ap length bytes ∙ length-append held.piece (59 ∷ rest) in
    let one : length (59 ∷ rest) ≡ length rest + 1 = omega arith in
    let long : new.long ≡ false = ap (λ r. r.long) same in
    let scanned : new.scanned ≡ [] = ap (λ r. r.scanned) same in
    record {
      within = omega (arith, held.within, size, one, length-drop progress.past progress.taken);
      closed = held.closed ++ held.piece ∷ [];
      cut = subst (λ l. Cut l (held.closed ++ held.piece ∷ []) []) (sym (take_piece progress held.piece rest bytes))
          (cut_closed (take progress.past progress.taken) held.piece held.closed held.cut (closed_piece reader progress held stops));
      piece = [];
      bytes = sym (drop-drop (length held.piece + 1) progress.past progress.taken)
          ∙ (ap (drop (length held.piece + 1)) bytes ∙ (drop-append-add held.piece (59 ∷ rest) 1 ∙ (ap (drop 1) (sym semicolon) ∙ sym (ap (λ r. r.ahead) same))));
      came = ap Some (sym (ap (λ r. r.place) same));
      covers = subst (λ b. Covers b new.scanned []) (sym long) (subst (StandsFor []) (sym scanned) (stands_itself []));
    }

-- where nothing is ahead, the piece is the last one
pub last_piece : (reader : Holding) (progress : Progress) (held : HoldsRest reader progress) → reader.ahead ≡ [] → drop progress.past progress.taken ≡ held.piece
last_piece reader progress held none = held.bytes ∙ (ap (λ l. held.piece ++ l) none ∙ append-nil held.piece)

-- and a piece that the script's end would close
pub open_piece : (reader : Holding) (progress : Progress) (held : HoldsRest reader progress) → Piece ScriptEnd held.piece
open_piece reader progress held = piece_behind held.piece reader.place held.came

-- what holds of a value where another does
pub if_ok_as : {A E : Type 0} (result : Result A E) (P Q : A → Type 0) → IfOk result P → ((value : A) → P value → Q value) → IfOk result Q
if_ok_as (Ok value) P Q p more = more value p
if_ok_as (Err error) P Q p more = tt
