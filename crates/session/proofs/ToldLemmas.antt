-- What calls after one another do to what is told, and to what is taken of a script.
use Rattle.std.proofs.Common.{◌≡◌, ℕ, List, [], ◌++◌, Option, Some, None, refl, sym, ◌∙◌, ap, subst, append_assoc}
use Rattle.std.proofs.lemmas.List.{append-nil}
use Rattle.mdc_outside.specs.Outside.{Takes}
use Rattle.sql_reader.specs.Progress.{Took}
use Rattle.store_api.specs.Calls.{Tells, continued}
use Rattle.store_api.specs.StoreState.{StoreState}
use Rattle.session.specs.script.Told.{StaysTold, TellsMore}

-- one piece on the tape, and then another
pub takes_more : (tape mid new : Option (List ℕ)) (said more : List ℕ) → Takes tape said mid → Takes mid more new → Takes tape (said ++ more) new
takes_more None mid new said more first second =
    let P : Option (List ℕ) → Type 0 = λ t. Takes t more new in
    subst P first second
takes_more (Some tape) mid new said more first second =
    let P : Option (List ℕ) → Type 0 = λ t. Takes t more new in
    subst P first second ∙ ap Some (append_assoc tape said more)

-- nothing said leaves the tape as it was
pub takes_nothing : (tape : Option (List ℕ)) → Takes tape [] tape
takes_nothing None = refl
takes_nothing (Some tape) = ap Some (sym (append-nil tape))

-- nothing taken
pub took_nothing : (script : Option (List ℕ)) (taken : List ℕ) → Took script taken script taken
took_nothing None taken = tt
took_nothing (Some bytes) taken = ([], bytes, refl, refl, sym (append-nil taken))

-- what comes off twice comes off once
pub took_more : (first second third : Option (List ℕ)) (old now new : List ℕ) → Took first old second now → Took second now third new → Took first old third new
took_more None second third old now new a b = tt
took_more (Some bytes) second third old now new a b =
    let rest : List ℕ = a.1 in
    let more : Took (Some rest) now third new = subst (λ o. Took o now third new) a.3 b in
    (a.0 ++ more.0, more.1, a.2 ∙ (ap (λ l. a.0 ++ l) more.2 ∙ sym (append_assoc a.0 more.0 more.1)), more.3, more.4 ∙ (ap (λ l. l ++ more.0) a.4 ∙ append_assoc old a.0 more.0))

-- a tape on which a piece was put is told still
pub takes-told : (tape new : Option (List ℕ)) (piece : List ℕ) → Takes tape piece new → StaysTold tape new
takes-told tape new piece takes = λ was is. (was ++ piece, subst (λ (t : Option (List ℕ)). Takes t piece new) is takes)

-- what is as it was is told still
pub same-told : {A : Type 0} (old new : Option A) → new ≡ old → StaysTold old new
same-told old new same = λ was is. (was, same ∙ is)

-- what is told behind one call and then behind another
pub told_then : {A : Type 0} (old mid new : Option A) → StaysTold old mid → StaysTold mid new → StaysTold old new
told_then old mid new first second = λ was is. let m = first was is in second m.0 m.1

-- the tape behind what was said
pub told_behind : (tape mid : Option (List ℕ)) (piece said : List ℕ) → tape ≡ Some said → Takes tape piece mid → mid ≡ Some (said ++ piece)
told_behind tape mid piece said told takes = subst (λ (t : Option (List ℕ)). Takes t piece mid) told takes

-- a piece that a store tells more
takes-continued : (tape : Option (List ℕ)) (piece : List ℕ) → Takes tape piece (continued piece tape)
takes-continued None piece = refl
takes-continued (Some tape) piece = refl

-- a store that tells a piece puts it on its tape
pub takes-tells : (old new : StoreState) (piece : List ℕ) → Tells piece old new → Takes old.told piece new.told
takes-tells old new piece tells = subst (λ (s : StoreState). Takes old.told piece s.told) (sym tells) (takes-continued old.told piece)

-- ---- some bytes more

pub tells_more-told : (old new : Option (List ℕ)) → TellsMore old new → StaysTold old new
tells_more-told old new tells = takes-told old new tells.0 tells.1

pub same-tells_more : (old new : Option (List ℕ)) → new ≡ old → TellsMore old new
same-tells_more old new same = ([], subst (λ (t : Option (List ℕ)). Takes old [] t) (sym same) (takes_nothing old))

pub tells_more_then : (old mid new : Option (List ℕ)) → TellsMore old mid → TellsMore mid new → TellsMore old new
tells_more_then old mid new first second = (first.0 ++ second.0, takes_more old mid new first.0 second.0 first.1 second.1)
