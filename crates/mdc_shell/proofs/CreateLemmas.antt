-- What a create does to its file and its tape.
use Rattle.std.proofs.Common.{IsTrue, ◌≡◌, ◌⊎◌, ◌<◌, ℕ, Bool, true, false, IfSome, Result, Ok, Err, OnOk, IsErrOf, List, length, Option, Some, None, arith, refl, sym, ap, subst, ◌∙◌, inl, inr, zero, suc}
use Rattle.std.specs.Option.{ForSome, option_map}
use Rattle.mdc_outside.specs.Disk.{Becomes, File, IsSound, opened}
use Rattle.mdc_outside.specs.Moments.{Beside}
use Rattle.mdc_outside.specs.Outside.{Takes, TakesPart}
use Rattle.page_store.specs.Fresh.{HoldsFresh, IsOfMaking}
use Rattle.page_store.specs.Empty.{IsEmptyDatabase}
use Rattle.page_store.specs.declared.fault.OpenFault.{OpenFault}
use Rattle.page_store.specs.declared.fault.OpenFault.TheVariants as fault
use Rattle.mdc_shell.specs.declared.create.Created.{Created}
use Rattle.mdc_shell.specs.declared.create.Created.TheVariants.{Exists, Made, Unsaid}
use Rattle.mdc_shell.specs.Status.{status_of_created}
use Rattle.session.specs.script.Told.{StaysTold}
use Rattle.mdc_shell.specs.Words.{CreateFile, SpellsLine}
use Rattle.mdc_shell.proofs.Asking.{one_line}
use Rattle.session.proofs.ToldLemmas.{same-told, takes-told, told_then}
use Rattle.mdc_shell.proofs.ToldLemmas.{takes_part-told}
use Rattle.mdc_shell.specs.Create.{Completes, Creates, HoldsEmpty, IsLeftByMaking, IsMadeOfNothing, StaysAsItWas, StaysWhereFull, made_line, exists_line}

-- a file that a failed attach left, which is as it was or made with no byte, is one that a crash could leave before
pub left_by_attach : (extents extent_pages : ℕ) (old new : Option File) (make : Bool) → IfSome old IsSound → Becomes old (λ old new. (new ≡ old) ⊎ (IsTrue make × (new ≡ opened old))) new
    → IsLeftByMaking extents extent_pages old new
left_by_attach extents extent_pages old new make sound becomes before is =
    let B : Option File → Type 0 = λ (f : Option File). Becomes f (λ old new. (new ≡ old) ⊎ (IsTrue make × (new ≡ opened old))) new in
    let S : Option File → Type 0 = λ (f : Option File). IfSome f IsSound in
    let after : B (Some before) = subst B is becomes in
    let whole : IsSound before = subst S is sound in
    let Q : File → Type 0 = λ (f : File). IsOfMaking extents extent_pages before f.bytes in
    let same : Q before = inl whole.image in
    let made : Q (opened before) = inl whole.image in
    (after.0, after.1, elim after.2 [ inl e ↦ subst Q (sym e) same | inr e ↦ subst Q (sym e.1) made ])

-- what a making leaves of a file that an attach opened
pub left_by_making : (extents extent_pages : ℕ) (old half new : Option File) → half ≡ option_map opened old → IsLeftByMaking extents extent_pages half new → IsLeftByMaking extents extent_pages old new
left_by_making extents extent_pages old half new is left before there = left (opened before) (is ∙ ap (option_map opened) there)

-- a file that has a byte is there, so it opens as it was
pub opens_as_it_was : (old new : Option File) → IfSome old IsSound → new ≡ option_map opened old → ForSome old (λ f. 0 < length f.bytes) → new ≡ old
opens_as_it_was None new sound is some = is
opens_as_it_was (Some file) new sound is some = is ∙ ap Some (go file sound (some file refl) file.is_there refl)
  where
    go : (file : File) → IsSound file → 0 < length file.bytes → (there : Bool) → file.is_there ≡ there → opened file ≡ file
    go file sound some true e = rw e refl
    go file sound some false e = absurd (omega (arith, some, ap (λ (f : File). length f.bytes) (sound.absent e)))

-- a file with a byte that a making leaves as an attach opened it is as it was before
pub stays_opened : (old half new : Option File) → IfSome old IsSound → half ≡ option_map opened old → StaysWhereFull half new → StaysWhereFull old new
stays_opened old half new sound is stays before there some =
    let full : ForSome old (λ f. 0 < length f.bytes) = λ other same.
    let e : Some before ≡ Some other = sym there ∙ same in
    let alike : before ≡ other = cc in
    omega (arith, some, ap (λ (f : File). length f.bytes) alike) in
    stays (opened before) (is ∙ ap (option_map opened) there) some ∙ opens_as_it_was old half sound is full

-- how the line of an end was said
abbrev pub SaysEnd : Option (List ℕ) → List ℕ → Option (List ℕ) → Created → Created → Type 0
SaysEnd tape line new end result = ((result ≡ end) × Takes tape line new) ⊎ ((result ≡ Unsaid) × TakesPart tape line new)

-- a create that made a database
pub creates_made : (extents extent_pages : ℕ) (file half_file new_file : Option File) (tape half_tape new_tape : Option (List ℕ)) (result : Created)
    → ForSome file (λ f. length f.bytes ≡ 0) → HoldsEmpty extents extent_pages half_file → new_file ≡ half_file → half_tape ≡ tape → SaysEnd half_tape made_line new_tape Made result
    → Creates extents extent_pages file new_file tape new_tape (status_of_created result)
creates_made extents extent_pages file half_file new_file tape half_tape new_tape result none holds same same_tape said =
    let stands : IsMadeOfNothing extents extent_pages file new_file = (none, subst (HoldsEmpty extents extent_pages) (sym same) holds) in
    elim said [
      | inl all ↦ rw all.0 (record {
        one_of = inl refl;
        made = λ e. (stands, subst (λ (t : Option (List ℕ)). Takes t made_line new_tape) same_tape all.1);
        exists = λ e. absurd (omega (arith, e));
        part = λ e. absurd (omega (arith, e));
        failed = λ e. absurd (omega (arith, e));
        memory = λ e. absurd (omega (arith, e));
      })
      | inr some ↦ rw some.0 (record {
        one_of = inr (inr (inl refl));
        made = λ e. absurd (omega (arith, e));
        exists = λ e. absurd (omega (arith, e));
        part = λ e. inl (stands, subst (λ (t : Option (List ℕ)). TakesPart t made_line new_tape) same_tape some.1);
        failed = λ e. absurd (omega (arith, e));
        memory = λ e. absurd (omega (arith, e));
      })
    ]

-- a create that found a file with a byte
pub creates_exists : (extents extent_pages : ℕ) (file half_file new_file : Option File) (tape half_tape new_tape : Option (List ℕ)) (result : Created)
    → StaysAsItWas file half_file → new_file ≡ half_file → half_tape ≡ tape → SaysEnd half_tape exists_line new_tape Exists result
    → Creates extents extent_pages file new_file tape new_tape (status_of_created result)
creates_exists extents extent_pages file half_file new_file tape half_tape new_tape result stays same same_tape said =
    let still : StaysAsItWas file new_file = (stays.0, same ∙ stays.1) in
    elim said [
      | inl all ↦ rw all.0 (record {
        one_of = inr (inr (inr (inl refl)));
        made = λ e. absurd (omega (arith, e));
        exists = λ e. (still, subst (λ (t : Option (List ℕ)). Takes t exists_line new_tape) same_tape all.1);
        part = λ e. absurd (omega (arith, e));
        failed = λ e. absurd (omega (arith, e));
        memory = λ e. absurd (omega (arith, e));
      })
      | inr some ↦ rw some.0 (record {
        one_of = inr (inr (inl refl));
        made = λ e. absurd (omega (arith, e));
        exists = λ e. absurd (omega (arith, e));
        part = λ e. inr (still, subst (λ (t : Option (List ℕ)). TakesPart t exists_line new_tape) same_tape some.1);
        failed = λ e. absurd (omega (arith, e));
        memory = λ e. absurd (omega (arith, e));
      })
    ]

-- both of what a database that is made keeps
pub both_made : {T E : Type 0} (result : Result T E) (extents extent_pages : ℕ) (file : Option File) → OnOk result (ForSome file (HoldsFresh extents extent_pages))
    → OnOk result (ForSome file (λ f. IsEmptyDatabase extents f.bytes)) → OnOk result (HoldsEmpty extents extent_pages file)
both_made (Ok done) extents extent_pages file fresh empty = λ f is. (fresh f is, empty f is)
both_made (Err e) extents extent_pages file fresh empty = tt

-- a create whose disk failed
pub creates_failed : (extents extent_pages : ℕ) (file new_file : Option File) (tape new_tape : Option (List ℕ)) → new_tape ≡ tape → StaysWhereFull file new_file
    → IsLeftByMaking extents extent_pages file new_file → Creates extents extent_pages file new_file tape new_tape 3
creates_failed extents extent_pages file new_file tape new_tape same full left = record {
  one_of = inr (inl refl);
  made = λ e. absurd (omega (arith, e));
  exists = λ e. absurd (omega (arith, e));
  part = λ e. absurd (omega (arith, e));
  failed = λ _. (same, full, left);
  memory = λ e. absurd (omega (arith, e));
}

-- a database is made of a file with no byte
pub made_of_nothing : (result : Result (Unit {0}) OpenFault) (file : Option File) → result ≡ Ok tt
    → ForSome file (λ f. 0 < length f.bytes → IsErrOf result fault.Exists ⊎ IsErrOf result fault.Device) → ForSome file (λ f. length f.bytes ≡ 0)
made_of_nothing result file is refused = λ before there. none (length before.bytes) (refused before there)
  where
    none : (n : ℕ) → (0 < n → IsErrOf result fault.Exists ⊎ IsErrOf result fault.Device) → n ≡ 0
    none zero only = refl
    none (suc n) only = absurd (elim (only (omega arith)) [ inl e ↦ cc | inr e ↦ cc ])

-- where no byte was there and the line of a database that is made was said, the create is complete
pub completes_made : (file : Option File) (tape new_tape : Option (List ℕ)) (result : Created) → ForSome file (λ f. length f.bytes ≡ 0) → SaysEnd tape made_line new_tape Made result
    → (result ≡ Unsaid → ⊥) → Completes file (status_of_created result)
completes_made file tape new_tape result none said not_unsaid = elim said [
  | inl all ↦ rw all.0 (record { empty = λ before is empty. inl refl; full = λ before is some. absurd (omega (arith, some, none before is)) })
  | inr part ↦ absurd (not_unsaid part.0)
]

-- a tape beside a disk stays where all beside it does
pub tape_stays : (half old : Beside) (half_tape old_tape : Option (List ℕ)) → half ≡ old → half.tape ≡ half_tape → old.tape ≡ old_tape → half_tape ≡ old_tape
tape_stays half old half_tape old_tape same is was = sym is ∙ (ap (λ (b : Beside). b.tape) same ∙ was)

-- a file that a making left is told still
pub left_by_making-told : (extents extent_pages : ℕ) (old mid new : Option File) → IsLeftByMaking extents extent_pages old mid → new ≡ mid → StaysTold old new
left_by_making-told extents extent_pages old mid new left same = λ was is. let after = left was is in (after.0, same ∙ after.1)

-- a tape on which the line of an end was said is told still
pub says_end-told : (tape mid new : Option (List ℕ)) (line : List ℕ) (end result : Created) → mid ≡ tape → SaysEnd mid line new end result → StaysTold tape new
says_end-told tape mid new line end result same said =
    told_then tape mid new (same-told tape mid same) (elim said [ inl all ↦ takes-told mid new line all.1 | inr part ↦ takes_part-told mid new line part.1 ])

-- what is said of one create that the words spell is said of each
pub create_line-one : (words : List (List ℕ)) (path other : List ℕ) (n m k l : ℕ) (Said : ℕ → ℕ → Type 0) → SpellsLine words (CreateFile path n m) → SpellsLine words (CreateFile other k l)
    → Said n m → Said k l
create_line-one words path other n m k l Said first second said =
    let e : CreateFile path n m ≡ CreateFile other k l = one_line words (CreateFile path n m) (CreateFile other k l) first second in
    let extents : n ≡ k = cc in
    let extent_pages : m ≡ l = cc in
    subst (λ (j : ℕ). Said k j) extent_pages (subst (λ (i : ℕ). Said i m) extents said)
