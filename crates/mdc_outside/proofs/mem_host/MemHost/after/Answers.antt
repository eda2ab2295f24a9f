use Rattle.std.proofs.Common.{◌≡◌, ◌≤◌, ◌-◌, ◌∙◌, ◌||◌, is_some, ℕ, List, refl, subst, sym, ap, arith, fold, take, None, length, get_or}
use Rattle.std.proofs.lemmas.Option.{slice_get_read}
use Rattle.std.specs.List.{list_any}
use Rattle.mdc_outside.specs.Disk.{IsImage, all_synced, file_at_first}
use Rattle.mdc_outside.specs.declared.call.Entry.{Entry}
use Rattle.mdc_outside.specs.Contents.{contents_of}
use Rattle.mdc_outside.specs.Points.{IsLeftAt}
use Rattle.mdc_outside.specs.Replay.{replay, at_first, may_leave, since_within}
use Rattle.mdc_outside.specs.Aftermath.{tape_after, makes_file, torn_bytes, MayBeLeft, IsLeftByCalls, IsLeftWithin}
use Rattle.mdc_outside.proofs.Aftermaths.{tape-replay, after-tape, there-replay, first-there, after-there, after-absent, after-bytes, after-both, first-bytes, first-since, image-torn_bytes, left-within, moment-at}
use Rattle.mdc_outside.proofs.mem_host.MemHost.after.Goals as goal

-- the tape that was said before the call
said-before : (c : goal.After-resume) → c.in_ok-tape.tape.items ≡ (replay (at_first c.args.self.now.first c.args.self.now.heard) (take (c.args.call - 1) c.args.self.now.entries)).tape
said-before c =
    let past = c.args.self.now in
    let n = c.args.call - 1 in
    let said : c.in_ok-tape.tape.items ≡ fold tape_after c.bytes.result.now c.split_at.result.0.now = c.in_ok-tape.ensures in
    let heard : c.bytes.result.now ≡ past.heard = c.bytes.ensures ∙ ap (λ past. past.heard) c.self.view_is in
    let before : c.split_at.result.0.now ≡ take n past.entries = c.split_at.ensures.front ∙ (ap (take n) c.deref.ensures.value ∙ ap (λ past. take n past.entries) c.self.view_is) in
    said ∙ (ap (λ heard. fold tape_after heard c.split_at.result.0.now) heard ∙ (ap (fold tape_after past.heard) before ∙ sym (tape-replay (at_first past.first past.heard) (take n past.entries))))

pub returns-clause-tape : goal.returns-clause-tape
returns-clause-tape c = after-tape c.resume.result c.in_ok-tape.tape.items _ c.resume.ensures.fresh (said-before c)

-- whether the file was there before the call
there-before : (c : goal.After-resume) → (replay (at_first c.args.self.now.first c.args.self.now.heard) (take (c.args.call - 1) c.args.self.now.entries)).file.is_there ≡ c.is_there_after-was_there.result
there-before c =
    let past = c.args.self.now in
    let n = c.args.call - 1 in
    let before : c.split_at.result.0.now ≡ take n past.entries = c.split_at.ensures.front ∙ (ap (take n) c.deref.ensures.value ∙ ap (λ past. take n past.entries) c.self.view_is) in
    let some : c.is_some.result ≡ is_some past.first = c.is_some.ensures ∙ ap (λ past. is_some past.first) c.self.view_is in
    there-replay (at_first past.first past.heard) (take n past.entries)
    ∙ (ap (λ there. there || list_any makes_file (take n past.entries)) (first-there past.first ∙ sym some)
    ∙ (ap (λ calls. c.is_some.result || list_any makes_file calls) (sym before) ∙ sym c.is_there_after-was_there.ensures))

pub returns-clause-there : goal.returns-clause-there
returns-clause-there c = after-there c.resume.result _ c.is_there_after-was_there.result c.in_ok-tape.tape.items c.resume.ensures.fresh c.resume.ensures.there (there-before c)

pub returns-clause-absent : goal.returns-clause-absent
returns-clause-absent c = after-absent c.resume.result _ c.is_there_after-was_there.result c.tear.new.bytes.items c.in_ok-tape.tape.items c.resume.ensures.fresh c.resume.ensures.bytes c.resume.ensures.absent (there-before c)

pub returns-clause-bytes : goal.returns-clause-bytes
returns-clause-bytes c =
    let past = c.args.self.now in
    let n = c.args.call - 1 in
    let before : c.split_at.result.0.now ≡ take n past.entries = c.split_at.ensures.front ∙ (ap (take n) c.deref.ensures.value ∙ ap (λ past. take n past.entries) c.self.view_is) in
    let first : c.bytes_of-first.result.now ≡ (file_at_first past.first).bytes = c.bytes_of-first.ensures ∙ (ap (λ past. contents_of past.first None) c.self.view_is ∙ sym (first-bytes past.first)) in
    let entry : c.index.result.now ≡ get_or past.entries n c.index.result.now = c.index.ensures ∙ ap (λ past. get_or past.entries n c.index.result.now) c.self.view_is in
    let last : c.args.call ≤ length past.entries = c.requires.last in
    let P : List ℕ → Type 0 = λ first. IsLeftByCalls c.args.fill first c.split_at.result.0.now c.in_ok-bytes.bytes.items in
    let Q : List Entry → Type 0 = λ calls. IsLeftByCalls c.args.fill (file_at_first past.first).bytes calls c.in_ok-bytes.bytes.items in
    let within : IsLeftWithin c.args.fill c.args.call past c.tear.new.bytes.items = record {
      left = c.in_ok-bytes.bytes.items;
      entry = c.index.result.now;
      is = slice_get_read past.entries (length past.entries) n c.index.result.now refl (omega arith) entry;
      before = subst Q before (subst P first c.in_ok-bytes.ensures.left);
      torn = c.in_ok-tear.ensures;
    } in
    after-bytes c.resume.result c.args.fill c.args.call past c.tear.new.bytes.items c.in_ok-tape.tape.items c.resume.ensures.fresh c.resume.ensures.bytes within

-- what is left is left at the point of the call
left-at : (c : goal.After-resume) → IsLeftAt c.args.self.now (c.args.call - 1) c.tear.new.bytes.items c.in_ok-tape.tape.items
left-at c =
    let past = c.args.self.now in
    let n = c.args.call - 1 in
    let before : c.split_at.result.0.now ≡ take n past.entries = c.split_at.ensures.front ∙ (ap (take n) c.deref.ensures.value ∙ ap (λ past. take n past.entries) c.self.view_is) in
    let first : c.bytes_of-first.result.now ≡ contents_of past.first None = c.bytes_of-first.ensures ∙ ap (λ past. contents_of past.first None) c.self.view_is in
    let left : MayBeLeft c.bytes_of-first.result.now c.split_at.result.0.now c.in_ok-bytes.bytes.items = c.in_ok-bytes.ensures.allowed in
    let torn : c.tear.new.bytes.items ≡ torn_bytes c.args.fill c.in_ok-bytes.bytes.items c.index.result.now.event = c.in_ok-tear.ensures in
    let entry : c.index.result.now ≡ get_or past.entries n c.index.result.now = c.index.ensures ∙ ap (λ past. get_or past.entries n c.index.result.now) c.self.view_is in
    let last : c.args.call ≤ length past.entries = c.requires.last in
    let start = at_first past.first past.heard in
    let image : IsImage (replay start c.split_at.result.0.now).file.since c.in_ok-bytes.bytes.items =
    left start (first-bytes past.first ∙ sym first) (first-since past.first ∙ ap all_synced (sym first)) in
    let P : List Entry → Type 0 = λ calls. IsImage (replay start calls).file.since c.in_ok-bytes.bytes.items in
    let within : IsImage (since_within c.index.result.now.event (replay start (take n past.entries)).file.since) c.tear.new.bytes.items =
    rw torn (image-torn_bytes c.args.fill c.index.result.now.event (replay start (take n past.entries)).file.since c.in_ok-bytes.bytes.items (subst P before image)) in
    rw (said-before c) (left-within past n c.index.result.now c.tear.new.bytes.items (omega arith) entry within)

pub returns-clause-within : goal.returns-clause-within
returns-clause-within c =
    let at = IsLeftAt c.args.self.now (c.args.call - 1) in
    after-both c.resume.result at c.tear.new.bytes.items c.in_ok-tape.tape.items c.resume.ensures.fresh c.resume.ensures.bytes (left-at c)

pub returns-clause-moment : goal.returns-clause-moment
returns-clause-moment c =
    let past = c.args.self.now in
    let n = c.args.call - 1 in
    let last : c.args.call ≤ length past.entries = c.requires.last in
    let may : may_leave past n c.tear.new.bytes.items c.in_ok-tape.tape.items = moment-at past n c.tear.new.bytes.items c.in_ok-tape.tape.items (omega arith) (left-at c) in
    after-both c.resume.result (may_leave past n) c.tear.new.bytes.items c.in_ok-tape.tape.items c.resume.ensures.fresh c.resume.ensures.bytes may
