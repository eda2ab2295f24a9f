-- Lines that are closed one after another, up to the first sum outside BIGINT.
use Rattle.std.proofs.Common.{◌≡◌, ℕ, ◌+◌, ◌<◌, ◌≤◌, List, [], ◌∷◌, ◌++◌, map, length, drop, get_or, Result, Ok, Err, refl, sym, ap, ◌∙◌, subst, arith, append_assoc, add-one, drop-cons, length-drop}
use Rattle.std.specs.Prelude.{IsErrAnd, MatchResult}
use Rattle.std.proofs.lemmas.List.{drop_all}
use Rattle.mdc_ast.specs.declared.bound.BoundOut.{BoundOut}
use Rattle.row_groups.specs.declared.fault.GroupFault.{GroupFault}
use Rattle.row_groups.specs.declared.fault.GroupFault.TheVariants.{Overflow, Memory}
use Rattle.row_groups.specs.declared.line.Line.{Line}
use Rattle.row_groups.specs.declared.line.Shown.{Shown}
use Rattle.row_groups.specs.declared.tally.Tally.{Tally}
use Rattle.row_groups.specs.Adding.{seen}
use Rattle.row_groups.specs.Answers.{AreWide, IsOutgrown, outgrown, outgrown_in, outgrown_sums}

-- what is first of a list is first where others stand behind it
pub front_outgrown : (xs ys : List ℕ) (fault : GroupFault) → IsOutgrown xs fault → IsOutgrown (xs ++ ys) fault
front_outgrown xs ys Memory first = tt
front_outgrown [] ys (Overflow column) first = cc
front_outgrown (x ∷ xs) ys (Overflow column) first = first

-- want of memory says nothing of sums
pub memory_outgrown : (xs : List ℕ) (fault : GroupFault) → fault ≡ Memory → IsOutgrown xs fault
memory_outgrown xs fault is = subst (IsOutgrown xs) (sym is) tt

-- what holds of a fault holds of a result that is this fault
pub match_err_as : {T E : Type 0} (result : Result T E) (fault : E) (P : T → Type 0) (Q : E → Type 0) → IsErrAnd result (λ given. given ≡ fault) → Q fault → MatchResult result P Q
match_err_as (Ok x) fault P Q is holds = absurd is
match_err_as (Err e) fault P Q is holds = subst Q (sym is) holds

nothing : {X : Type 0} (xs : List X) → xs ++ [] ≡ xs
nothing [] = refl
nothing (x ∷ xs) = ap (λ r. x ∷ r) (nothing xs)

-- ---- the places of a line: what is closed, and what is left

pub record ClosesSo (outs : List BoundOut) (all : List Shown) (closed : List Shown) (outs' : List BoundOut) (left : List Shown) : Type 0 where
  pub same : all ≡ closed ++ left
  pub sums : outgrown_in outs all ≡ outgrown_in outs' left
  pub wide : length left ≡ length outs'

pub closes_first : (outs : List BoundOut) (all : List Shown) → length all ≡ length outs → ClosesSo outs all [] outs all
closes_first outs all wide = record { same = refl; sums = refl; wide = wide }

pub closes_next : (outs : List BoundOut) (all closed : List Shown) (out : BoundOut) (outs' : List BoundOut) (shown : Shown) (left : List Shown) → ClosesSo outs all closed (out ∷ outs') (shown ∷ left) → outgrown out shown ≡ []
    → ClosesSo outs all (closed ++ shown ∷ []) outs' left
closes_next outs all closed out outs' shown left so whole = record {
  same = so.same ∙ sym (append_assoc closed (shown ∷ []) left);
  sums = so.sums ∙ ap (λ r. r ++ outgrown_in outs' left) whole;
  wide = omega (arith, so.wide);
}

pub closes_fault : (outs : List BoundOut) (all closed : List Shown) (out : BoundOut) (outs' : List BoundOut) (shown : Shown) (left : List Shown) (fault : GroupFault) → ClosesSo outs all closed (out ∷ outs') (shown ∷ left)
    → IsOutgrown (outgrown out shown) fault → IsOutgrown (outgrown_in outs all) fault
closes_fault outs all closed out outs' shown left fault so first =
    subst (λ columns. IsOutgrown columns fault) (sym so.sums) (front_outgrown (outgrown out shown) (outgrown_in outs' left) fault first)

pub closes_end : (outs : List BoundOut) (all closed left : List Shown) → ClosesSo outs all closed [] left → (closed ≡ all) × (outgrown_in outs all ≡ [])
closes_end outs all closed left so = (sym (so.same ∙ ap (λ r. closed ++ r) (gone left so.wide) ∙ nothing closed), so.sums)
  where
    gone : (xs : List Shown) → length xs ≡ 0 → xs ≡ []
    gone [] e = refl
    gone (x ∷ xs) e = absurd (omega (arith, e))

-- ---- the same of tallies, at the place that the loop comes to

pub closes_begin : (outs : List BoundOut) (all closed left : List Shown) → length all ≡ length outs → closed ≡ [] → left ≡ all → ClosesSo outs all closed outs left
closes_begin outs all closed left wide none same = rw (none, same) (closes_first outs all wide)

closes_at : (outs : List BoundOut) (all closed : List Shown) (i : ℕ) (d : BoundOut) (left rest : List Tally) (tally : Tally) → i < length outs → ClosesSo outs all closed (drop i outs) (map seen left) → left ≡ tally ∷ rest
    → ClosesSo outs all closed (get_or outs i d ∷ drop (i + 1) outs) (seen tally ∷ map seen rest)
closes_at outs all closed i d left rest tally within so is =
    let split : drop i outs ≡ get_or outs i d ∷ drop (i + 1) outs = rw (add-one, drop-cons outs i d) refl in
    subst (λ os. ClosesSo outs all closed os (seen tally ∷ map seen rest)) split (subst (λ (ts : List Tally). ClosesSo outs all closed (drop i outs) (map seen ts)) is so)

pub next_at : (outs : List BoundOut) (all closed closed' : List Shown) (i : ℕ) (d : BoundOut) (left rest : List Tally) (tally : Tally) (shown : Shown) → i < length outs → ClosesSo outs all closed (drop i outs) (map seen left) → left ≡ tally ∷ rest
    → (shown ≡ seen tally) × (outgrown (get_or outs i d) shown ≡ []) → closed' ≡ closed ++ shown ∷ [] → ClosesSo outs all closed' (drop (i + 1) outs) (map seen rest)
next_at outs all closed closed' i d left rest tally shown within so is whole pushed =
    let same : closed ++ seen tally ∷ [] ≡ closed' = ap (λ s. closed ++ s ∷ []) (sym whole.0) ∙ sym pushed in
    subst (λ cs. ClosesSo outs all cs (drop (i + 1) outs) (map seen rest)) same
    (closes_next outs all closed (get_or outs i d) (drop (i + 1) outs) (seen tally) (map seen rest) (closes_at outs all closed i d left rest tally within so is) (ap (outgrown (get_or outs i d)) (sym whole.0) ∙ whole.1))

pub fault_at : (outs : List BoundOut) (all closed : List Shown) (i : ℕ) (d : BoundOut) (left rest : List Tally) (tally : Tally) (fault : GroupFault) → i < length outs → ClosesSo outs all closed (drop i outs) (map seen left) → left ≡ tally ∷ rest
    → IsOutgrown (outgrown (get_or outs i d) (seen tally)) fault → IsOutgrown (outgrown_in outs all) fault
fault_at outs all closed i d left rest tally fault within so is first =
    closes_fault outs all closed (get_or outs i d) (drop (i + 1) outs) (seen tally) (map seen rest) fault (closes_at outs all closed i d left rest tally within so is) first

-- there is a tally for each entry of the list
pub none_at : (outs : List BoundOut) (all closed : List Shown) (i : ℕ) (left : List Tally) → i < length outs → ClosesSo outs all closed (drop i outs) (map seen left) → left ≡ [] → ⊥
none_at outs all closed i left within so none =
    let empty = subst (λ (ts : List Tally). ClosesSo outs all closed (drop i outs) (map seen ts)) none so in
    let wide = empty.wide in
    absurd (omega (arith, wide, length-drop i outs))

pub closed_whole : (outs : List BoundOut) (all closed : List Shown) (i : ℕ) (left : List Tally) → length outs ≤ i → ClosesSo outs all closed (drop i outs) (map seen left) → (closed ≡ all) × (outgrown_in outs all ≡ [])
closed_whole outs all closed i left past so = closes_end outs all closed (map seen left) (subst (λ os. ClosesSo outs all closed os (map seen left)) (drop_all i outs past) so)

-- ---- the lines: what is closed, and what is left

pub record LinesCloseSo (outs : List BoundOut) (all closed left : List Line) : Type 0 where
  pub same : all ≡ closed ++ left
  pub sums : outgrown_sums outs all ≡ outgrown_sums outs left
  pub wide : AreWide outs left

pub lines_first : (outs : List BoundOut) (all : List Line) → AreWide outs all → LinesCloseSo outs all [] all
lines_first outs all wide = record { same = refl; sums = refl; wide = wide }

pub lines_begin : (outs : List BoundOut) (all closed left : List Line) → AreWide outs all → closed ≡ [] → left ≡ all → LinesCloseSo outs all closed left
lines_begin outs all closed left wide none same = rw (none, same) (lines_first outs all wide)

pub lines_at : (outs : List BoundOut) (all closed left rest : List Line) (line : Line) → LinesCloseSo outs all closed left → left ≡ line ∷ rest → LinesCloseSo outs all closed (line ∷ rest)
lines_at outs all closed left rest line so is = subst (LinesCloseSo outs all closed) is so

pub lines_next : (outs : List BoundOut) (all closed : List Line) (line new : Line) (left : List Line) → LinesCloseSo outs all closed (line ∷ left) → new ≡ line → outgrown_in outs line.shows ≡ []
    → LinesCloseSo outs all (closed ++ new ∷ []) left
lines_next outs all closed line new left so is whole = record {
  same = so.same ∙ sym (append_assoc closed (line ∷ []) left) ∙ ap (λ (l : Line). (closed ++ l ∷ []) ++ left) (sym is);
  sums = so.sums ∙ ap (λ r. r ++ outgrown_sums outs left) whole;
  wide = so.wide.1;
}

pub lines_fault : (outs : List BoundOut) (all closed : List Line) (line : Line) (left : List Line) (fault : GroupFault) → LinesCloseSo outs all closed (line ∷ left)
    → IsOutgrown (outgrown_in outs line.shows) fault → IsOutgrown (outgrown_sums outs all) fault
lines_fault outs all closed line left fault so first =
    subst (λ columns. IsOutgrown columns fault) (sym so.sums) (front_outgrown (outgrown_in outs line.shows) (outgrown_sums outs left) fault first)

pub lines_end : (outs : List BoundOut) (all closed : List Line) → LinesCloseSo outs all closed [] → (closed ≡ all) × (outgrown_sums outs all ≡ [])
lines_end outs all closed so = (sym (so.same ∙ nothing closed), so.sums)
