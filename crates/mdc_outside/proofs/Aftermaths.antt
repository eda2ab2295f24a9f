-- What a crash in the midst of recorded calls leaves is one of their moments.
use Rattle.std.proofs.Common.{◌≡◌, ◌≤◌, ◌<◌, ◌+◌, ℕ, Bool, true, false, List, [], ◌∷◌, ◌++◌, ◌||◌, Option, Some, None, Result, Ok, Err, IfOk, IsTrue, IsFalse, is_some, subst, take, drop, length, get_or, fold, arith, refl, sym, ap, ◌∙◌}
use Rattle.std.specs.List.{list_any}
use Rattle.std.proofs.lemmas.List.{length-replicate, length-take, drop_all, take_more, drop_more, drop-append-le, append-nil}
use Rattle.mdc_outside.specs.Disk.{Since, IsImage, file_at_first, all_synced, torn}
use Rattle.mdc_outside.specs.Replay.{Past, State, host_state, fresh, replay, entry_step, at_first, may_leave, since_within, piece_within}
use Rattle.mdc_outside.specs.Aftermath.{filled, torn_bytes, torn_by, bytes_after, tape_after, since_all, EndsSynced, PutsNothing, MayBeLeft, IsLeftByCalls, IsLeftWithin, makes_file}
use Rattle.mdc_outside.specs.Contents.{contents_of}
use Rattle.mdc_outside.specs.Points.{IsLeftAt}
use Rattle.mdc_outside.specs.ReplayLaws.{image-overwritten, image-synced}
use Rattle.mdc_outside.specs.declared.call.Event.{Event}
use Rattle.mdc_outside.specs.declared.call.Event.TheVariants.{Attach, Len, Read, Write, Sync, Say}
use Rattle.mdc_outside.specs.declared.call.Entry.{Entry}
use Rattle.mdc_outside.proofs.PointLemmas.{moments-points}
use Rattle.mdc_outside.proofs.Replaying.{replay-grown, or-true, or-false}

-- a range holds as many bytes as were written
length-filled : (fill : Option ℕ) (piece : List ℕ) → length (filled fill piece) ≡ length piece
length-filled None piece = refl
length-filled (Some fill) piece = length-replicate (length piece) fill

-- what the range of a call holds may be left
pub image-torn_bytes : (fill : Option ℕ) (event : Event) (since : Since) (bytes : List ℕ) → IsImage since bytes → IsImage (since_within event since) (torn_bytes fill bytes event)
image-torn_bytes fill (Attach path make) since bytes is = is
image-torn_bytes fill Len since bytes is = is
image-torn_bytes fill (Read at) since bytes is = is
image-torn_bytes fill (Write at piece) since bytes is =
    let torn_so = ap (λ count. torn at count since) (length-filled fill piece) in
    rw (← torn_so) (image-overwritten since bytes (filled fill piece) at is)
image-torn_bytes fill Sync since bytes is = is
image-torn_bytes fill (Say piece) since bytes is = is

-- the same of many calls
pub image-torn_all : (fill : Option ℕ) (entries : List Entry) (since : Since) (bytes : List ℕ) → IsImage since bytes → IsImage (since_all since entries) (fold (torn_by fill) bytes entries)
image-torn_all fill [] since bytes is = is
image-torn_all fill (entry ∷ entries) since bytes is =
    image-torn_all fill entries (since_within entry.event since) (torn_by fill bytes entry) (image-torn_bytes fill entry.event since bytes is)

-- what the calls since a sync leave, with those before it
pub replay-append : (state : State) (before since : List Entry) → replay state (before ++ since) ≡ replay (replay state before) since
replay-append state [] since = refl
replay-append state (entry ∷ before) since = replay-append (entry_step entry state) before since

-- the bytes after one call
bytes-entry_step : (event : Event) (done : Bool) (state : State) → (entry_step (record { event = event; done = done }) state).file.bytes ≡ bytes_after state.file.bytes (record { event = event; done = done })
bytes-entry_step (Attach path make) true state = refl
bytes-entry_step (Attach path make) false state = refl
bytes-entry_step Len true state = refl
bytes-entry_step Len false state = refl
bytes-entry_step (Read at) true state = refl
bytes-entry_step (Read at) false state = refl
bytes-entry_step (Write at piece) true state = refl
bytes-entry_step (Write at piece) false state = refl
bytes-entry_step Sync true state = refl
bytes-entry_step Sync false state = refl
bytes-entry_step (Say piece) true state = refl
bytes-entry_step (Say piece) false state = refl

-- the bytes after the calls
pub bytes-replay : (state : State) (entries : List Entry) → (replay state entries).file.bytes ≡ fold bytes_after state.file.bytes entries
bytes-replay state [] = refl
bytes-replay state (entry ∷ entries) =
    bytes-replay (entry_step entry state) entries ∙ ap (λ bytes. fold bytes_after bytes entries) (bytes-entry_step entry.event entry.done state)

-- the tape after one call
tape-entry_step : (event : Event) (done : Bool) (state : State) → (entry_step (record { event = event; done = done }) state).tape ≡ tape_after state.tape (record { event = event; done = done })
tape-entry_step (Attach path make) true state = refl
tape-entry_step (Attach path make) false state = refl
tape-entry_step Len true state = refl
tape-entry_step Len false state = refl
tape-entry_step (Read at) true state = refl
tape-entry_step (Read at) false state = refl
tape-entry_step (Write at piece) true state = refl
tape-entry_step (Write at piece) false state = refl
tape-entry_step Sync true state = refl
tape-entry_step Sync false state = refl
tape-entry_step (Say piece) true state = refl
tape-entry_step (Say piece) false state = refl

-- the tape after the calls
pub tape-replay : (state : State) (entries : List Entry) → (replay state entries).tape ≡ fold tape_after state.tape entries
tape-replay state [] = refl
tape-replay state (entry ∷ entries) =
    tape-replay (entry_step entry state) entries ∙ ap (λ tape. fold tape_after tape entries) (tape-entry_step entry.event entry.done state)

-- whether the file is there after one call
there-entry_step : (event : Event) (done : Bool) (state : State) → (entry_step (record { event = event; done = done }) state).file.is_there ≡ state.file.is_there || makes_file (record { event = event; done = done })
there-entry_step (Attach path make) true state = sym (or-true state.file.is_there)
there-entry_step (Attach path make) false state = sym (or-false state.file.is_there)
there-entry_step Len true state = sym (or-false state.file.is_there)
there-entry_step Len false state = sym (or-false state.file.is_there)
there-entry_step (Read at) true state = sym (or-false state.file.is_there)
there-entry_step (Read at) false state = sym (or-false state.file.is_there)
there-entry_step (Write at piece) true state = sym (or-true state.file.is_there)
there-entry_step (Write at piece) false state = sym (or-true state.file.is_there)
there-entry_step Sync true state = sym (or-false state.file.is_there)
there-entry_step Sync false state = sym (or-false state.file.is_there)
there-entry_step (Say piece) true state = sym (or-false state.file.is_there)
there-entry_step (Say piece) false state = sym (or-false state.file.is_there)

-- whether it is there after one of two
or-assoc : (a b c : Bool) → (a || b) || c ≡ a || (b || c)
or-assoc true b c = refl
or-assoc false b c = refl

-- whether the file is there after the calls
pub there-replay : (state : State) (entries : List Entry) → (replay state entries).file.is_there ≡ state.file.is_there || list_any makes_file entries
there-replay state [] = sym (or-false state.file.is_there)
there-replay state (entry ∷ entries) =
    there-replay (entry_step entry state) entries
    ∙ (ap (λ there. there || list_any makes_file entries) (there-entry_step entry.event entry.done state) ∙ or-assoc state.file.is_there (makes_file entry) (list_any makes_file entries))

-- the file that a host begins with is there if it has one
pub first-there : (first : Option (List ℕ)) → (file_at_first first).is_there ≡ is_some first
first-there None = refl
first-there (Some bytes) = refl

-- what is torn since a sync may be left
pub left-after : (fill : Option ℕ) (first : List ℕ) (before since : List Entry) → EndsSynced before → PutsNothing since
    → MayBeLeft first (before ++ since) (fold (torn_by fill) (fold bytes_after first before) since)
left-after fill first before since synced nothing state bytes all =
    let bytes_now : (replay state before).file.bytes ≡ fold bytes_after first before = bytes-replay state before ∙ ap (λ bytes. fold bytes_after bytes before) bytes in
    let since_now : (replay state before).file.since ≡ all_synced (fold bytes_after first before) = synced state (all ∙ ap all_synced (sym bytes)) ∙ ap all_synced bytes_now in
    rw (replay-append state before since, nothing (replay state before), since_now)
    (image-torn_all fill since (all_synced (fold bytes_after first before)) (fold bytes_after first before) (image-synced (fold bytes_after first before)))

-- what the crash leaves, it may leave
pub allowed-left : (fill : Option ℕ) (first : List ℕ) (entries : List Entry) (bytes : List ℕ) → IsLeftByCalls fill first entries bytes → MayBeLeft first entries bytes
allowed-left fill first entries bytes left = rw (left.all, left.torn) (left-after fill first left.before left.since left.synced left.nothing)

-- one more call behind those since a sync
pub since_all-grown : (since : Since) (entries : List Entry) (entry : Entry) → since_all since (entries ++ entry ∷ []) ≡ since_within entry.event (since_all since entries)
since_all-grown since [] entry = refl
since_all-grown since (first ∷ entries) entry = since_all-grown (since_within first.event since) entries entry

-- a call that puts nothing on the disk behind others
pub nothing-grown : (entries : List Entry) (entry : Entry) → PutsNothing entries → PutsNothing (entry ∷ []) → PutsNothing (entries ++ entry ∷ [])
nothing-grown entries entry nothing none state =
    ap (λ state. state.file.since) (replay-grown state entries entry)
    ∙ (none (replay state entries) ∙ (ap (since_within entry.event) (nothing state) ∙ sym (since_all-grown state.file.since entries entry)))

-- a sync that was done, behind any calls
pub synced-grown : (entries : List Entry) → EndsSynced (entries ++ record { event = Sync; done = true } ∷ [])
synced-grown entries state all = rw (replay-grown state entries (record { event = Sync; done = true })) refl

-- no calls put nothing on the disk
pub nothing-none : (calls : List Entry) (n : ℕ) → length calls ≤ n → PutsNothing (drop n calls)
nothing-none calls n le = rw (drop_all n calls le) (λ state. refl)

-- behind the first calls up to a sync there are none
pub nothing-first : (calls : List Entry) (n : ℕ) → PutsNothing (drop n (take n calls))
nothing-first calls n = nothing-none (take n calls) n (omega (arith, length-take n calls))

-- the first calls with one more
pub nothing-more : (calls : List Entry) (synced i : ℕ) (entry : Entry) → synced ≤ i → i < length calls → entry ≡ get_or calls i entry
    → PutsNothing (drop synced (take i calls)) → PutsNothing (entry ∷ []) → PutsNothing (drop synced (take (i + 1) calls))
nothing-more calls synced i entry le inside is nothing none =
    let at_end : synced ≤ length (take i calls) = omega (arith, length-take i calls) in
    let grown : drop synced (take (i + 1) calls) ≡ drop synced (take i calls) ++ entry ∷ [] =
    ap (drop synced) (take_more calls i entry inside) ∙ (drop-append-le synced (take i calls) (get_or calls i entry ∷ []) at_end ∙ ap (λ last. drop synced (take i calls) ++ last ∷ []) (sym is)) in
    rw grown (nothing-grown (drop synced (take i calls)) entry nothing none)

-- the first calls up to a sync that was done
pub synced-more : (calls : List Entry) (i : ℕ) (entry : Entry) → i < length calls → entry ≡ get_or calls i entry → entry ≡ record { event = Sync; done = true }
    → EndsSynced (take (i + 1) calls)
synced-more calls i entry inside is sync =
    let grown : take (i + 1) calls ≡ take i calls ++ record { event = Sync; done = true } ∷ [] =
    take_more calls i entry inside ∙ ap (λ last. take i calls ++ last ∷ []) (sym is ∙ sync) in
    rw grown (synced-grown (take i calls))

-- what may be left within a call may be left at its point of the record
pub left-within : (past : Past) (n : ℕ) (entry : Entry) (image : List ℕ) → n < length past.entries → entry ≡ get_or past.entries n entry
    → IsImage (since_within entry.event (replay (at_first past.first past.heard) (take n past.entries)).file.since) image
    → IsLeftAt past n image (replay (at_first past.first past.heard) (take n past.entries)).tape
left-within past n entry image inside is left =
    let here : drop n past.entries ≡ entry ∷ drop (n + 1) past.entries = drop_more past.entries n entry inside ∙ ap (λ entry. entry ∷ drop (n + 1) past.entries) (sym is) in
    let before = replay (at_first past.first past.heard) (take n past.entries) in
    rw here (record { left = left; said = ([], piece_within entry.event, refl, sym (append-nil before.tape)) })

-- and since the calls before it
pub moment-at : (past : Past) (n : ℕ) (image tape : List ℕ) → n < length past.entries → IsLeftAt past n image tape → may_leave past n image tape
moment-at past n image tape inside left = (moments-points past n image tape (omega arith)).1 (n, omega arith, omega arith, left)

-- the file that a host begins with has its bytes, all of them on the disk
pub first-bytes : (first : Option (List ℕ)) → (file_at_first first).bytes ≡ contents_of first None
first-bytes None = refl
first-bytes (Some bytes) = refl

-- and nothing was written since
pub first-since : (first : Option (List ℕ)) → (file_at_first first).since ≡ all_synced (contents_of first None)
first-since None = refl
first-since (Some bytes) = refl

-- the tape of the host that is left
pub after-tape : {E : Type 0} (result : Result Past E) (tape before : List ℕ) → IfOk result (λ host. host ≡ fresh host.first tape) → tape ≡ before → IfOk result (λ host. host.heard ≡ before)
after-tape (Ok host) tape before is same = ap (λ past. past.heard) is ∙ same
after-tape (Err e) tape before is same = tt

-- what holds of these bytes and this tape holds of the file and the tape of the host that is left
pub after-both : {E : Type 0} (result : Result Past E) (fact : List ℕ → List ℕ → Type 0) (bytes tape : List ℕ) → IfOk result (λ host. host ≡ fresh host.first tape) → IfOk result (λ host. (file_at_first host.first).bytes ≡ bytes)
    → fact bytes tape → IfOk result (λ host. fact (host_state host).file.bytes (host_state host).tape)
after-both (Ok host) fact bytes tape is same may =
    let image : (host_state host).file.bytes ≡ bytes = ap (λ past. (host_state past).file.bytes) is ∙ same in
    let said : (host_state host).tape ≡ tape = ap (λ past. (host_state past).tape) is in
    rw (image, said) may
after-both (Err e) fact bytes tape is same may = tt

-- the file that was there is there in the host that is left
pub after-there : {E : Type 0} (result : Result Past E) (before there : Bool) (tape : List ℕ) → IfOk result (λ host. host ≡ fresh host.first tape) → IfOk result (λ host. IsTrue there → IsTrue (file_at_first host.first).is_there)
    → before ≡ there → IfOk result (λ host. IsTrue before → IsTrue (host_state host).file.is_there)
after-there (Ok host) before there tape is same e = λ was. rw (ap (λ past. (host_state past).file.is_there) is) (same (subst IsTrue e was))
after-there (Err e) before there tape is same _ = tt

-- one that wasn't there and has no bytes isn't there
pub after-absent : {E : Type 0} (result : Result Past E) (before there : Bool) (bytes tape : List ℕ) → IfOk result (λ host. host ≡ fresh host.first tape) → IfOk result (λ host. (file_at_first host.first).bytes ≡ bytes)
    → IfOk result (λ host. IsFalse there → bytes ≡ [] → IsFalse (file_at_first host.first).is_there)
    → before ≡ there → IfOk result (λ host. IsFalse before → (host_state host).file.bytes ≡ [] → IsFalse (host_state host).file.is_there)
after-absent (Ok host) before there bytes tape is has same e = λ was none.
    let image : (host_state host).file.bytes ≡ bytes = ap (λ past. (host_state past).file.bytes) is ∙ has in
    rw (ap (λ past. (host_state past).file.is_there) is) (same (subst IsFalse e was) (sym image ∙ none))
after-absent (Err e) before there bytes tape is has same _ = tt

-- the file of the host that is left has these bytes
pub after-bytes : {E : Type 0} (result : Result Past E) (fill : Option ℕ) (call : ℕ) (past : Past) (bytes tape : List ℕ) → IfOk result (λ host. host ≡ fresh host.first tape) → IfOk result (λ host. (file_at_first host.first).bytes ≡ bytes)
    → IsLeftWithin fill call past bytes → IfOk result (λ host. IsLeftWithin fill call past (host_state host).file.bytes)
after-bytes (Ok host) fill call past bytes tape is same left = rw (ap (λ past. (host_state past).file.bytes) is ∙ same) left
after-bytes (Err e) fill call past bytes tape is same left = tt
