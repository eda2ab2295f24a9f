-- How the items given go on over a call.
use Rattle.std.proofs.Common.{◌≡◌, ◌≤◌, ◌<◌, ◌+◌, ◌-◌, ◌⊎◌, inl, inr, ℕ, true, false, List, [], ◌∷◌, ◌++◌, Option, Some, None, IfSome, IfNone, Result, Ok, Err, take, drop, length, refl, sym, ap, ◌∙◌, subst, arith, append_assoc, length-append, length-drop}
use Rattle.std.proofs.lemmas.List.{append-nil, take-append-drop, take-append-le, take_at}
use Rattle.mdc_ast.specs.Reading.{Item, Reads, Closes}
use Rattle.sql_reader.specs.declared.statements.Read.{Read}
use Rattle.sql_reader.specs.declared.statements.ReadStop.{ReadStop}
use Rattle.sql_reader.specs.declared.statements.ReadStop.TheVariants as stop
use Rattle.sql_reader.specs.declared.place.Place.TheVariants.{Outside}
use Rattle.sql_reader.specs.Holding.{Holding, work_left}
use Rattle.sql_reader.specs.Item.{item_of}
use Rattle.sql_reader.specs.Items.{GivesOne, IsItemIn, KeepsGiven}
use Rattle.sql_reader.specs.Progress.{Progress, Given, IsGivenAt, IsJustClosed, IsLastRead, Took}
use Rattle.sql_reader.specs.Scan.{place_after}
use Rattle.sql_reader.specs.Standing.{Covers, HoldsRest, IsAt}
use Rattle.sql_reader.specs.Step.{GoesOn}
use Rattle.sql_reader.proofs.Items.{closes_last, closes_piece, closing_front, items_found, one_closing, piece_items, reads_last}
use Rattle.sql_reader.proofs.Scanning.{WentOver}
use Rattle.sql_reader.proofs.Standings.{and_taken, behind_piece, closed_piece, last_piece, open_piece, rest_filled, rest_passed, rest_scanned, rest_shrunk, take_piece}

-- what is given of a reader that isn't at its end
abbrev Gave : Progress → List Item → Type 0
Gave progress given = Closes (take progress.past progress.taken) given

-- it is what its contract says
gave : (progress : Progress) (given : List Item) → progress.finished ≡ false → Given progress given → Gave progress given
gave progress given unfinished g = subst (λ f. IsGivenAt f progress.taken progress.past given) unfinished g

-- and the other way round
gives : (progress : Progress) (given : List Item) → progress.finished ≡ false → Gave progress given → Given progress given
gives progress given unfinished g = subst (λ f. IsGivenAt f progress.taken progress.past given) (sym unfinished) g

-- what comes off nothing
pub took_none : (left : Option (List ℕ)) (taken : List ℕ) → Took left taken left taken
took_none None taken = tt
took_none (Some bytes) taken = ([], bytes, refl, refl, sym (append-nil taken))

-- what comes off twice comes off once
pub took_more : (first second third : Option (List ℕ)) (old now new : List ℕ) → Took first old second now → Took second now third new → Took first old third new
took_more None second third old now new a b = tt
took_more (Some bytes) second third old now new a b =
    let rest : List ℕ = a.1 in
    let more : Took (Some rest) now third new = subst (λ o. Took o now third new) a.3 b in
    (a.0 ++ more.0, more.1, a.2 ∙ (ap (λ l. a.0 ++ l) more.2 ∙ sym (append_assoc a.0 more.0 more.1)), more.3, more.4 ∙ (ap (λ l. l ++ more.0) a.4 ∙ append_assoc old a.0 more.0))

-- what comes off is put behind what was taken
took_behind : (left new_left : Option (List ℕ)) (taken piece : List ℕ) → Took left [] new_left piece → Took left taken new_left (taken ++ piece)
took_behind None new_left taken piece took = tt
took_behind (Some bytes) new_left taken piece took = (took.0, took.1, took.2, took.3, ap (λ l. taken ++ l) took.4)

-- A call under way: what it took, and whether a closed statement waited.
pub record IsUnderWay {Object : Type 0} (left : Object → Option (List ℕ)) (before after : Object) (reader : Holding) (old now : Progress) : Type 0 where
  pub unfinished : now.finished ≡ false
  pub open_yet : reader.finished ≡ false
  pub counts : reader.count ≡ length now.taken
  pub rest : HoldsRest reader now
  pub took : Took (left before) old.taken (left after) now.taken
  pub grown : (more : List ℕ) × (now.taken ≡ old.taken ++ more)
  pub keeps : KeepsGiven old now
  pub unread : ((after ≡ before) × (now.taken ≡ old.taken)) ⊎ ((given : List Item) → Given old given → Closes old.taken given)
  pub last : ((after ≡ before) × (now.taken ≡ old.taken)) ⊎ IsLastRead old now.taken

-- it begins where the reader is
pub begins : {Object : Type 0} (left : Object → Option (List ℕ)) (source : Object) (reader : Holding) (old : Progress) → IsAt reader old → reader.finished ≡ false → IsUnderWay left source source reader old old
begins left source reader old at unfinished =
    let ended : old.finished ≡ false = sym at.ends ∙ unfinished in
    record {
      unfinished = ended;
      open_yet = unfinished;
      counts = at.counts;
      rest = at.rest ended;
      took = took_none (left source) old.taken;
      grown = ([], sym (append-nil old.taken));
      keeps = λ given g. g;
      unread = inl (refl, refl);
      last = inl (refl, refl);
    }

-- a reader under way is that far
at_under : {Object : Type 0} (left : Object → Option (List ℕ)) (before after : Object) (reader : Holding) (old now : Progress) → IsUnderWay left before after reader old now → IsAt reader now
at_under left before after reader old now under = record { counts = under.counts; ends = under.open_yet ∙ sym under.unfinished; rest = λ _. under.rest }

-- a scan goes on
pub scanned_on : {Object : Type 0} (left : Object → Option (List ℕ)) (before after : Object) (reader new : Holding) (old now : Progress) → IsUnderWay left before after reader old now
    → new ≡ record reader { scanned = new.scanned; ahead = new.ahead; place = new.place } → WentOver reader new → IsUnderWay left before after new old now
scanned_on left before after reader new old now under same over = record {
  unfinished = under.unfinished;
  open_yet = ap (λ r. r.finished) same ∙ under.open_yet;
  counts = ap (λ r. r.count) same ∙ under.counts;
  rest = rest_scanned reader new now under.rest same over;
  took = under.took;
  grown = under.grown;
  keeps = under.keeps;
  unread = under.unread;
  last = under.last;
}

-- a scan that goes over all, and less is kept
pub all_over : {Object : Type 0} (left : Object → Option (List ℕ)) (before after : Object) (reader found new : Holding) (old now : Progress) → IsUnderWay left before after reader old now
    → found ≡ record reader { scanned = found.scanned; ahead = found.ahead; place = found.place } → WentOver reader found
    → new ≡ record found { scanned = new.scanned; long = new.long; kept = length new.scanned } → ((bytes : List ℕ) → Covers found.long found.scanned bytes → Covers new.long new.scanned bytes)
    → IsUnderWay left before after new old now
all_over left before after reader found new old now under scan over same covers =
    let on = scanned_on left before after reader found old now under scan over in
    record {
      unfinished = on.unfinished;
      open_yet = ap (λ r. r.finished) same ∙ on.open_yet;
      counts = ap (λ r. r.count) same ∙ on.counts;
      rest = rest_shrunk found new now (length new.scanned) on.rest same covers;
      took = on.took;
      grown = on.grown;
      keeps = on.keeps;
      unread = on.unread;
      last = on.last;
    }

-- a semicolon closes one more piece with its item
pub gives_piece : (reader : Holding) (progress : Progress) (rest : List ℕ) (held : HoldsRest reader progress) (found : Option Read) → progress.finished ≡ false → reader.ahead ≡ 59 ∷ rest → place_after reader.place 59 ≡ None → IsItemIn held.piece found
    → (given : List Item) → Given progress given → Given (behind_piece progress held.piece) (given ++ items_found found)
gives_piece reader progress rest held found unfinished semicolon stops item given g =
    gives (behind_piece progress held.piece) (given ++ items_found found) unfinished
    (subst (λ l. Closes l (given ++ items_found found)) (sym (take_piece progress held.piece rest (held.bytes ∙ ap (λ l. held.piece ++ l) semicolon)))
    (closes_piece (take progress.past progress.taken) held.piece held.closed given (items_found found) held.cut (closed_piece reader progress held stops) (piece_items held.piece found item) (gave progress given unfinished g)))

-- the items given are those that the bytes gone over close
gave_over : (reader : Holding) (progress : Progress) (held : HoldsRest reader progress) → progress.finished ≡ false → (given : List Item) → Given progress given → Closes (take progress.past progress.taken ++ held.piece) given
gave_over reader progress held unfinished given g =
    closes_last (take progress.past progress.taken) held.piece held.closed given held.cut (open_piece reader progress held) (gave progress given unfinished g)

-- all bytes are those gone over and those ahead
all_bytes : (reader : Holding) (progress : Progress) (held : HoldsRest reader progress) → progress.taken ≡ (take progress.past progress.taken ++ held.piece) ++ reader.ahead
all_bytes reader progress held =
    sym (take-append-drop progress.past progress.taken) ∙ (ap (λ l. take progress.past progress.taken ++ l) held.bytes ∙ sym (append_assoc (take progress.past progress.taken) held.piece reader.ahead))

-- where nothing is ahead, all that was taken closes no more
pub gave_all : (reader : Holding) (progress : Progress) → HoldsRest reader progress → reader.ahead ≡ [] → progress.finished ≡ false → (given : List Item) → Given progress given → Closes progress.taken given
gave_all reader progress held none unfinished given g =
    let all : progress.taken ≡ take progress.past progress.taken ++ held.piece =
    all_bytes reader progress held ∙ (ap (λ l. (take progress.past progress.taken ++ held.piece) ++ l) none ∙ append-nil (take progress.past progress.taken ++ held.piece)) in
    subst (λ l. Closes l given) (sym all) (gave_over reader progress held unfinished given g)

-- the first bytes close no more than all of them
no_more : (front behind : List ℕ) (closed given : List Item) → Closes front closed → Closes (front ++ behind) given → length closed ≤ length given
no_more front behind closed given first all =
    let more = closing_front front behind closed given first all in
    omega (arith, ap length more.1, length-append closed more.0)

-- but for one read, no more was closed than what was given
pub just_closed : (reader : Holding) (old now : Progress) → HoldsRest reader now → length reader.ahead ≤ 4096 → now.finished ≡ false → KeepsGiven old now → IsJustClosed old now.taken
just_closed reader old now held few unfinished keeps given closed g first =
    let over : List ℕ = take now.past now.taken ++ held.piece in
    let all : now.taken ≡ over ++ reader.ahead = all_bytes reader now held in
    let fits : length now.taken - 4096 ≤ length over = omega (arith, few, ap length all, length-append over reader.ahead) in
    let front : take (length now.taken - 4096) now.taken ≡ take (length now.taken - 4096) over = ap (take (length now.taken - 4096)) all ∙ take-append-le (length now.taken - 4096) over reader.ahead fits in
    let behind : List ℕ = drop (length now.taken - 4096) over in
    no_more (take (length now.taken - 4096) over) behind closed given (subst (λ l. Closes l closed) front first)
    (subst (λ l. Closes l given) (sym (take-append-drop (length now.taken - 4096) over)) (gave_over reader now held unfinished given (keeps given g)))

-- the end of the script closes the last piece with its item
pub gives_last : (reader : Holding) (progress : Progress) (held : HoldsRest reader progress) (found : Option Read) → reader.ahead ≡ [] → progress.finished ≡ false → IsItemIn held.piece found
    → (given : List Item) → Given progress given → Reads progress.taken (given ++ items_found found)
gives_last reader progress held found none unfinished item given g =
    subst (λ l. Reads l (given ++ items_found found)) (ap (λ l. take progress.past progress.taken ++ l) (sym (last_piece reader progress held none)) ∙ take-append-drop progress.past progress.taken)
    (reads_last (take progress.past progress.taken) held.piece held.closed given (items_found found) held.cut (open_piece reader progress held) (piece_items held.piece found item) (gave progress given unfinished g))

-- no more is closed than what was given
nothing_waits : (taken : List ℕ) (given closed : List Item) → Closes taken given → Closes taken closed → length given < length closed → ⊥
nothing_waits taken given closed all more less = omega (arith, less, ap length (one_closing taken given closed all more))

-- while a closed statement waits, nothing was read
waits : {Object : Type 0} (left : Object → Option (List ℕ)) (before after : Object) (reader : Holding) (old now : Progress) → IsUnderWay left before after reader old now
    → (given closed : List Item) → Given old given → Closes old.taken closed → length given < length closed → after ≡ before
waits left before after reader old now under given closed g more less = elim under.unread [
  | inl same ↦ same.0
  | inr all ↦ absurd (nothing_waits old.taken given closed (all given g) more less)
]

-- the goal of each exit
abbrev pub Goes : {Object : Type 0} → (Object → Option (List ℕ)) → Object → Object → Holding → Progress → Result (Option Read) ReadStop → Type 0
Goes left before after reader old result = (new : Progress) × IsAt reader new × GoesOn left before after old new result

-- a reader that was at its end
pub still_ended : {Object : Type 0} (left : Object → Option (List ℕ)) (source : Object) (reader : Holding) (old : Progress) → IsAt reader old → reader.finished ≡ true → reader.count ≤ 67108864 → Goes left source source reader old (Ok None)
still_ended left source reader old at ended few = (
  old,
  at,
  record {
    taken = took_none (left source) old.taken;
    waiting = λ given closed g more less. refl;
    last_read = inl (refl, refl);
    item = tt;
    just = tt;
    end = (sym at.ends ∙ ended, λ given g. g);
    at_end = λ e. inl e;
    source = λ e. absurd (cc);
    too_long = λ e. absurd (cc);
    within = inl (omega (arith, few, at.counts));
    kept = tt;
  },
)

-- memory was wanted before anything more was read
pub stops_short : {Object : Type 0} (left : Object → Option (List ℕ)) (before after : Object) (reader new : Holding) (old now : Progress) → IsUnderWay left before after reader old now → reader.count ≤ 67108864
    → new ≡ reader → Goes left before after new old (Err stop.Memory)
stops_short left before after reader new old now under few same = (
  now,
  subst (λ r. IsAt r now) (sym same) (at_under left before after reader old now under),
  record {
    taken = under.took;
    waiting = waits left before after reader old now under;
    last_read = under.last;
    item = tt;
    just = tt;
    end = tt;
    at_end = λ e. absurd (let no : true ≡ false = sym e ∙ under.unfinished in cc);
    source = λ e. absurd (cc);
    too_long = λ e. absurd (cc);
    within = inl (omega (arith, few, under.counts));
    kept = under.keeps;
  },
)

-- a reader behind a piece
at_behind : (reader new : Holding) (now : Progress) (rest : List ℕ) (held : HoldsRest reader now) → reader.count ≡ length now.taken → now.finished ≡ false → reader.finished ≡ false → reader.ahead ≡ 59 ∷ rest → place_after reader.place 59 ≡ None
    → new ≡ record reader { scanned = []; ahead = drop 1 reader.ahead; place = Outside; long = false } → IsAt new (behind_piece now held.piece)
at_behind reader new now rest held counts unfinished open_yet semicolon stops same = record {
  counts = ap (λ r. r.count) same ∙ counts;
  ends = ap (λ r. r.finished) same ∙ (open_yet ∙ sym unfinished);
  rest = λ _. rest_passed reader new now rest held semicolon stops same;
}

-- an item is given
pub gives_item : {Object : Type 0} (left : Object → Option (List ℕ)) (before after : Object) (reader new : Holding) (old now : Progress) (rest : List ℕ) (read : Read) (under : IsUnderWay left before after reader old now)
    → reader.count ≤ 67108864 → length reader.ahead ≤ 4096 → reader.ahead ≡ 59 ∷ rest → place_after reader.place 59 ≡ None → IsItemIn under.rest.piece (Some read)
    → new ≡ record reader { scanned = []; ahead = drop 1 reader.ahead; place = Outside; long = false } → Goes left before after new old (Ok (Some read))
gives_item left before after reader new old now rest read under few one_read semicolon stops item same = (
  behind_piece now under.rest.piece,
  at_behind reader new now rest under.rest under.counts under.unfinished under.open_yet semicolon stops same,
  record {
    taken = under.took;
    waiting = waits left before after reader old now under;
    last_read = under.last;
    item = λ given g. gives_piece reader now rest under.rest (Some read) under.unfinished semicolon stops item given (under.keeps given g);
    just = just_closed reader old now under.rest one_read under.unfinished under.keeps;
    end = tt;
    at_end = λ e. absurd (let no : true ≡ false = sym e ∙ under.unfinished in cc);
    source = λ e. absurd (cc);
    too_long = λ e. absurd (cc);
    within = inl (omega (arith, few, under.counts));
    kept = tt;
  },
)

-- a piece with no statement is passed
pub passes : {Object : Type 0} (left : Object → Option (List ℕ)) (before after : Object) (reader new : Holding) (old now : Progress) (rest : List ℕ) (under : IsUnderWay left before after reader old now)
    → reader.ahead ≡ 59 ∷ rest → place_after reader.place 59 ≡ None → IsItemIn under.rest.piece None → new ≡ record reader { scanned = []; ahead = drop 1 reader.ahead; place = Outside; long = false }
    → IsUnderWay left before after new old (behind_piece now under.rest.piece)
passes left before after reader new old now rest under semicolon stops item same = record {
  unfinished = under.unfinished;
  open_yet = ap (λ r. r.finished) same ∙ under.open_yet;
  counts = ap (λ r. r.count) same ∙ under.counts;
  rest = rest_passed reader new now rest under.rest semicolon stops same;
  took = under.took;
  grown = under.grown;
  keeps = λ given g. subst (Given (behind_piece now under.rest.piece)) (append-nil given) (gives_piece reader now rest under.rest None under.unfinished semicolon stops item given (under.keeps given g));
  unread = under.unread;
  last = under.last;
}

-- A read, once all that was taken is gone over.
pub record IsRead {Object : Type 0} (left : Object → Option (List ℕ)) (between after : Object) (reader new : Holding) : Type 0 where
  pub none_ahead : reader.ahead ≡ []
  pub same : new ≡ record reader { ahead = new.ahead; kept = reader.kept + length new.ahead; count = reader.count + length new.ahead }
  pub took : Took (left between) [] (left after) new.ahead
  pub one_read : length new.ahead ≤ 4096

-- a read behind a scan that went over all
pub is_read : {Object : Type 0} (left : Object → Option (List ℕ)) (between after : Object) (found reader new : Holding) → found.ahead ≡ [] → reader ≡ record found { scanned = reader.scanned; long = reader.long; kept = length reader.scanned }
    → new ≡ record reader { ahead = new.ahead; kept = reader.kept + length new.ahead; count = reader.count + length new.ahead } → Took (left between) [] (left after) new.ahead → length new.ahead ≤ 4096 → IsRead left between after reader new
is_read left between after found reader new none shrunk same took one_read =
    record { none_ahead = ap (λ r. r.ahead) shrunk ∙ none; same = same; took = took; one_read = one_read }

-- what was taken with it
took_read : {Object : Type 0} (left : Object → Option (List ℕ)) (before between after : Object) (reader new : Holding) (old now : Progress) → IsUnderWay left before between reader old now → IsRead left between after reader new
    → Took (left before) old.taken (left after) (now.taken ++ new.ahead)
took_read left before between after reader new old now under read =
    took_more (left before) (left between) (left after) old.taken now.taken (now.taken ++ new.ahead) under.took (took_behind (left between) (left after) now.taken new.ahead read.took)

-- all that was taken before it is given
given_before : {Object : Type 0} (left : Object → Option (List ℕ)) (before between after : Object) (reader new : Holding) (old now : Progress) → IsUnderWay left before between reader old now → IsRead left between after reader new
    → (given : List Item) → Given old given → Closes now.taken given
given_before left before between after reader new old now under read given g = gave_all reader now under.rest read.none_ahead under.unfinished given (under.keeps given g)

-- so it is the last read
last_read : {Object : Type 0} (left : Object → Option (List ℕ)) (before between after : Object) (reader new : Holding) (old now : Progress) → IsUnderWay left before between reader old now → IsRead left between after reader new
    → IsLastRead old (now.taken ++ new.ahead)
last_read left before between after reader new old now under read = record {
  before = now.taken;
  more = under.grown.0;
  piece = new.ahead;
  begins = under.grown.1;
  is = refl;
  short = read.one_read;
  given = given_before left before between after reader new old now under read;
}

-- what was taken when the call began is given
all_old : {Object : Type 0} (left : Object → Option (List ℕ)) (before between after : Object) (reader new : Holding) (old now : Progress) → IsUnderWay left before between reader old now → IsRead left between after reader new
    → (given : List Item) → Given old given → Closes old.taken given
all_old left before between after reader new old now under read = elim under.unread [
  | inl same ↦ λ given g. subst (λ l. Closes l given) same.1 (given_before left before between after reader new old now under read given g)
  | inr all ↦ all
]

-- nothing waited
none_waits : {Object : Type 0} (left : Object → Option (List ℕ)) (before between after : Object) (reader new : Holding) (old now : Progress) → IsUnderWay left before between reader old now → IsRead left between after reader new
    → (given closed : List Item) → Given old given → Closes old.taken closed → length given < length closed → after ≡ before
none_waits left before between after reader new old now under read given closed g more less =
    absurd (nothing_waits old.taken given closed (all_old left before between after reader new old now under read given g) more less)

-- more bytes leave what was given
keeps_taken : (old now : Progress) (more : List ℕ) → now.past ≤ length now.taken → now.finished ≡ false → KeepsGiven old now → KeepsGiven old (and_taken now more)
keeps_taken old now more within unfinished keeps given g =
    gives (and_taken now more) given unfinished (subst (λ l. Closes l given) (sym (take-append-le now.past now.taken more within)) (gave now given unfinished (keeps given g)))

-- the call goes on behind a read
pub reads_on : {Object : Type 0} (left : Object → Option (List ℕ)) (before between after : Object) (reader new : Holding) (old now : Progress) → IsUnderWay left before between reader old now → IsRead left between after reader new
    → IsUnderWay left before after new old (and_taken now new.ahead)
reads_on left before between after reader new old now under read = record {
  unfinished = under.unfinished;
  open_yet = ap (λ r. r.finished) read.same ∙ under.open_yet;
  counts = ap (λ r. r.count) read.same ∙ (ap (λ n. n + length new.ahead) under.counts ∙ sym (length-append now.taken new.ahead));
  rest = rest_filled reader new now (reader.kept + length new.ahead) (reader.count + length new.ahead) under.rest read.none_ahead read.same;
  took = took_read left before between after reader new old now under read;
  grown = (under.grown.0 ++ new.ahead, ap (λ l. l ++ new.ahead) under.grown.1 ∙ append_assoc old.taken under.grown.0 new.ahead);
  keeps = keeps_taken old now new.ahead under.rest.within under.unfinished under.keeps;
  unread = inr (all_old left before between after reader new old now under read);
  last = inr (last_read left before between after reader new old now under read);
}

-- a stop at a read, or behind one that came to the script's end
pub stops_reading : {Object : Type 0} (left : Object → Option (List ℕ)) (before between after : Object) (reader new final : Holding) (old now : Progress) (cause : ReadStop) → IsUnderWay left before between reader old now
    → IsRead left between after reader new → (cause ≡ stop.Source → new.ahead ≡ []) → (cause ≡ stop.TooLong → (reader.count ≡ 67108864) × (length new.ahead ≡ 1)) → ((new.count ≤ 67108864) ⊎ (cause ≡ stop.TooLong))
    → final ≡ new → Goes left before after final old (Err cause)
stops_reading left before between after reader new final old now cause under read none limit fits same =
    let on = reads_on left before between after reader new old now under read in
    let counts : new.count ≡ length (now.taken ++ new.ahead) = on.counts in
    let given = given_before left before between after reader new old now under read in (
      and_taken now new.ahead,
      subst (λ r. IsAt r (and_taken now new.ahead)) (sym same) (at_under left before after new old (and_taken now new.ahead) on),
      record {
        taken = took_read left before between after reader new old now under read;
        waiting = none_waits left before between after reader new old now under read;
        last_read = inr (last_read left before between after reader new old now under read);
        item = tt;
        just = tt;
        end = tt;
        at_end = λ e. absurd (let no : true ≡ false = sym e ∙ under.unfinished in cc);
        source = λ e items g. subst (λ l. Closes l items) (sym (ap (λ l. now.taken ++ l) (none (cc)) ∙ append-nil now.taken)) (given items g);
        too_long = λ e.
            let passed = limit (cc) in
            let full : length now.taken ≡ 67108864 = sym under.counts ∙ passed.0 in (
              omega (arith, full, passed.1, length-append now.taken new.ahead),
              λ items g. subst (λ l. Closes l items) (sym (take_at now.taken new.ahead 67108864 full)) (given items g),
            );
        within = elim fits [ inl few ↦ inl (omega (arith, few, counts)) | inr e ↦ inr (ap Err e) ];
        kept = keeps_taken old now new.ahead under.rest.within under.unfinished under.keeps;
      },
    )

-- how far a reader is once the script's end closed its last piece
abbrev and_ended : Progress → List ℕ → Progress
and_ended now more = record now { taken = now.taken ++ more; finished = true }

-- the item of the last piece, or none
ended_gives : (old new : Progress) (found : Option Read) → ((given : List Item) → Given old given → Given new (given ++ items_found found)) → IfSome found (λ read. GivesOne old new (item_of read))
ended_gives old new None more = tt
ended_gives old new (Some read) more = more

-- at the end none is left
ended_keeps : (old new : Progress) (found : Option Read) → new.finished ≡ true → ((given : List Item) → Given old given → Given new (given ++ items_found found)) → IfNone found ((new.finished ≡ true) × KeepsGiven old new)
ended_keeps old new None is more = (is, λ given g. subst (Given new) (append-nil given) (more given g))
ended_keeps old new (Some read) is more = tt

-- what holds of each value holds of one that is there
if_some : {A : Type 0} (found : Option A) (P : Type 0) → P → IfSome found (λ _. P)
if_some None P p = tt
if_some (Some value) P p = p

-- the script's end
pub ends : {Object : Type 0} (left : Object → Option (List ℕ)) (before between after : Object) (reader new final : Holding) (old now : Progress) (found : Option Read) (under : IsUnderWay left before between reader old now)
    → IsRead left between after reader new → new.ahead ≡ [] → IfSome (left after) (λ bytes. bytes ≡ []) → new.count ≤ 67108864 → ((piece : List ℕ) → Covers new.long new.scanned piece → IsItemIn piece found)
    → final ≡ record new { finished = true } → Goes left before after final old (Ok found)
ends left before between after reader new final old now found under read none ended few item same =
    let on = reads_on left before between after reader new old now under read in
    let to : Progress = and_ended now new.ahead in
    let gives_one : (given : List Item) → Given old given → Given to (given ++ items_found found) = λ given g.
    gives_last new (and_taken now new.ahead) on.rest found none under.unfinished (item on.rest.piece on.rest.covers) given (on.keeps given g) in (
      to,
      record { counts = ap (λ r. r.count) same ∙ on.counts; ends = ap (λ r. r.finished) same; rest = λ e. absurd (cc) },
      record {
        taken = on.took;
        waiting = none_waits left before between after reader new old now under read;
        last_read = inr (last_read left before between after reader new old now under read);
        item = ended_gives old to found gives_one;
        just = if_some found (IsJustClosed old to.taken) (just_closed new old (and_taken now new.ahead) on.rest (omega (arith, ap length none)) under.unfinished on.keeps);
        end = ended_keeps old to found refl gives_one;
        at_end = λ e. inr ended;
        source = λ e. absurd (cc);
        too_long = λ e. absurd (cc);
        within = inl (omega (arith, few, on.counts));
        kept = tt;
      },
    )

-- a read that failed leaves the number of bytes within the limit, but for one that passed it
pub read_fits : (cause : ReadStop) (old new : ℕ) (ahead : List ℕ) → new ≡ old + length ahead → old ≤ 67108864 → (cause ≡ stop.Source → ahead ≡ []) → (cause ≡ stop.Memory → ahead ≡ []) → (new ≤ 67108864) ⊎ (cause ≡ stop.TooLong)
read_fits stop.Source old new ahead e few source memory = inl (omega (arith, e, few, ap length (source refl)))
read_fits stop.TooLong old new ahead e few source memory = inr refl
read_fits stop.Memory old new ahead e few source memory = inl (omega (arith, e, few, ap length (memory refl)))

-- a scan leaves less to go over
pub work_scanned : (reader new : Holding) → new ≡ record reader { scanned = new.scanned; ahead = new.ahead; place = new.place } → WentOver reader new → work_left new ≤ work_left reader
work_scanned reader new same over =
    let to : Holding = record reader { scanned = new.scanned; ahead = new.ahead; place = new.place } in
    let less : work_left to ≤ work_left reader = omega (arith, ap length over.1, length-append over.0 new.ahead) in
    subst (λ r. work_left r ≤ work_left reader) (sym same) less

-- what is kept says nothing of it
pub work_shrunk : (reader new : Holding) → new ≡ record reader { scanned = new.scanned; long = new.long; kept = length new.scanned } → work_left new ≡ work_left reader
work_shrunk reader new same = ap work_left same

-- so does a piece that is passed
pub work_passed : (reader new : Holding) → new ≡ record reader { scanned = []; ahead = drop 1 reader.ahead; place = Outside; long = false } → work_left new ≤ work_left reader
work_passed reader new same =
    subst (λ r. work_left r ≤ work_left reader) (sym same) (omega (arith, length-drop 1 reader.ahead))

-- and a read
pub work_read : (reader new : Holding) → new ≡ record reader { ahead = new.ahead; kept = reader.kept + length new.ahead; count = reader.count + length new.ahead } → new.count ≤ 67108864 → work_left new ≤ work_left reader
work_read reader new same few =
    let sum : new.count ≡ reader.count + length new.ahead = ap (λ r. r.count) same in
    let to : Holding = record reader { ahead = new.ahead; kept = reader.kept + length new.ahead; count = reader.count + length new.ahead } in
    let less : work_left to ≤ work_left reader = omega (arith, sum, few) in
    subst (λ r. work_left r ≤ work_left reader) (sym same) less

-- a call that succeeded counted no fault
pub uncounted : {A E : Type 0} (result : Result A E) (stop : E) (value : A) (old before now : ℕ) → result ≡ Ok value → before ≡ old → (result ≡ Err stop) ⊎ (now ≡ before) → now ≡ old
uncounted result stop value old before now ok e (inl err) = absurd (cc)
uncounted result stop value old before now ok e (inr same) = same ∙ e
