-- Entries that are taken one after the other, and a tree that has them in front.
use Rattle.std.proofs.Common.{◌≡◌, ◌<◌, ◌+◌, ℕ, zero, suc, List, [], ◌∷◌, ◌++◌, Result, Ok, Err, IsErrAnd, refl, ap, arith, sym, ◌∙◌, subst, length, get_or, take, drop, append_assoc}
use Rattle.std.specs.Prelude.{true, Option, None, Some, IfErr}
use Rattle.std.proofs.lemmas.List.{take_more, take-append-drop}
use Rattle.mdc_words.specs.ByteOrder.{Entry, below}
use Rattle.store_api.specs.declared.fault.StoreFault.{StoreFault}
use Rattle.store_api.specs.declared.fault.StoreFault.TheVariants.{Device, Damaged, Memory}
use Rattle.entry_tree.specs.Entries.{AreOfWidth, LiesAboveLast}
use Rattle.store_api.specs.Frame.{NoPage}
use Rattle.store_api.specs.RunsOverPages.{RunsOverPages}
use Rattle.store_api.specs.declared.pages.Pages.{Ghosts}
use Rattle.store_api.proofs.RunsOverPagesLemmas.{runs_memory, runs_wider}
use Rattle.entry_tree.specs.EntryBounds.{Bound, Climbs, Rises}
use Rattle.entry_tree.specs.Forest.{Fits, Forest, leaf_entries}
use Rattle.entry_tree.specs.HeldTrees.{BreaksTree, HoldsTree}
use Rattle.entry_tree.specs.Reading.{entries_from}
use Rattle.entry_tree.proofs.LeafFromLemmas.{Fits-entries}
use Rattle.block_index.specs.Reading.{entries_left}
use Rattle.block_index.proofs.ReadingRunsLemmas.{ReadsTree, reads_broken}
use Rattle.file_check.specs.Looking.{AnyPage}
use Rattle.entry_tree.specs.declared.tree.Tree.{Tree}
use Rattle.file_check.specs.TakingEntries.{IsInNoTree, IsTakingFault}

-- the last of a list, by its place
pub above_last : (x : Entry) (xs : List Entry) (n : ℕ) → n + 1 ≡ length xs → below (get_or xs n []) x ≡ true → LiesAboveLast x xs
above_last x [] n e h = tt
above_last x (y ∷ []) zero e h = h
above_last x (y ∷ []) (suc n) e h = absurd (omega (arith, e))
above_last x (y ∷ z ∷ ys) zero e h = absurd (omega (arith, e))
above_last x (y ∷ z ∷ ys) (suc n) e h = above_last x (z ∷ ys) n (omega (arith, e)) h

-- what rises rises behind its last
climbs_last : (x y : Entry) (ys more : List Entry) (n : ℕ) → n ≡ length ys → Climbs y None (ys ++ x ∷ more) → below (get_or (y ∷ ys) n []) x ≡ true
climbs_last x y [] more zero e h = h.0
climbs_last x y [] more (suc n) e h = absurd (omega (arith, e))
climbs_last x y (z ∷ ys) more zero e h = absurd (omega (arith, e))
climbs_last x y (z ∷ ys) more (suc n) e h = climbs_last x z ys more n (omega (arith, e)) h.2

pub rises_last : (x : Entry) (xs more : List Entry) (n : ℕ) → n + 1 ≡ length xs → Rises None None (xs ++ x ∷ more) → below (get_or xs n []) x ≡ true
rises_last x [] more n e h = absurd (omega (arith, e))
rises_last x (y ∷ ys) more n e h = climbs_last x y ys more n (omega (arith, e)) h.2

-- a list whose last entries don't rise is in no tree, nor is one that goes on
pub no_tree-longer : (xs more : List Entry) → IsInNoTree xs → IsInNoTree (xs ++ more)
no_tree-longer xs more is_in_none rest h = is_in_none (more ++ rest) (subst (Rises None None) (append_assoc xs more rest) h)

pub taking_fault-longer : (tree : Tree) (xs more : List Entry) (fault : StoreFault) → IsTakingFault tree xs fault → IsTakingFault tree (xs ++ more) fault
taking_fault-longer tree xs more Device is = is
taking_fault-longer tree xs more Memory is = tt
taking_fault-longer tree xs more (Damaged damage) is = (is.0, no_tree-longer xs more is.1)

-- entries that were taken up to one, and that one
pub taken_next : (old leaf now next : List Entry) (i : ℕ) (x : Entry) → i < length leaf → x ≡ get_or leaf i [] → now ≡ old ++ take i leaf → next ≡ now ++ x ∷ [] → next ≡ old ++ take (i + 1) leaf
taken_next old leaf now next i x l e n k =
    k ∙ ap (λ (xs : List Entry). xs ++ x ∷ []) n ∙ append_assoc old (take i leaf) (x ∷ []) ∙ ap (λ (y : Entry). old ++ (take i leaf ++ y ∷ [])) e ∙ ap (λ (xs : List Entry). old ++ xs) (sym (take_more leaf i [] l))

-- what stands in front of a leaf's last entries, and the whole leaf
pub taken_whole : (old leaf now : List Entry) (i : ℕ) (x : Entry) → i < length leaf → x ≡ get_or leaf i [] → now ≡ old ++ take i leaf → (now ++ x ∷ []) ++ drop (i + 1) leaf ≡ old ++ leaf
taken_whole old leaf now i x l e n =
    ap (λ (xs : List Entry). xs ++ drop (i + 1) leaf) (taken_next old leaf now (now ++ x ∷ []) i x l e n refl) ∙ append_assoc old (take (i + 1) leaf) (drop (i + 1) leaf) ∙ ap (λ (xs : List Entry). old ++ xs) (take-append-drop (i + 1) leaf)

-- the fault of one entry is that of its leaf, at the exit of the `?`
pub taking_exit : (tree : Tree) (old leaf now : List Entry) (i : ℕ) (x : Entry) (fault : StoreFault) (result : Result (Unit {0}) StoreFault) → i < length leaf → x ≡ get_or leaf i [] → now ≡ old ++ take i leaf
    → IsTakingFault tree (now ++ x ∷ []) fault → IsErrAnd result (λ d. d ≡ fault) → IfErr result (IsTakingFault tree (old ++ leaf))
taking_exit tree old leaf now i x fault (Ok u) l e n is same = tt
taking_exit tree old leaf now i x fault (Err d) l e n is same =
    subst (IsTakingFault tree (old ++ leaf)) (sym same) (subst (λ (xs : List Entry). IsTakingFault tree xs fault) (taken_whole old leaf now i x l e n) (taking_fault-longer tree (now ++ x ∷ []) (drop (i + 1) leaf) fault is))

-- a part of a list of one width

pub widths_taken : (w : ℕ) (xs : List Entry) (i : ℕ) → AreOfWidth w xs → AreOfWidth w (take i xs)
widths_taken w xs zero h = tt
widths_taken w [] (suc i) h = tt
widths_taken w (x ∷ xs) (suc i) h = (h.0, widths_taken w xs i h.1)

-- ---- a walk over all leaves

-- a tree that has entries in front that don't rise doesn't stand
pub none_in_front : (t : Forest) (xs more : List Entry) → IsInNoTree xs → Fits None None [] t → leaf_entries t ≡ xs ++ more → ⊥
none_in_front t xs more is_in_none fits e = is_in_none more (subst (Rises None None) e (Fits-entries None None [] t fits))

-- a call that ended with such a fault
pub taking_runs : {S : Type 0} (g : Ghosts S) (tree : Tree) (old new : S) (xs : List Entry) (fault : StoreFault) → IsTakingFault tree xs fault → ReadsTree g tree old new None
    → ((t : Forest) → HoldsTree g old tree t → (more : List Entry) × (leaf_entries t ≡ xs ++ more)) → ReadsTree g tree old new (Some fault)
taking_runs g tree old new xs Device is run front = absurd is
taking_runs g tree old new xs Memory is run front = runs_memory run
taking_runs g tree old new xs (Damaged damage) is run front =
    reads_broken g tree old new (Damaged damage) (ap Damaged is.0) run (λ t h. let f = front t h in none_in_front t xs f.0 is.1 h.is_tree.fits f.1)

-- any page may come to hand
pub reads_any : {S : Type 0} {g : Ghosts S} {tree : Tree} {old new : S} {fault : Option StoreFault} → ReadsTree g tree old new fault → RunsOverPages g NoPage AnyPage (BreaksTree g old tree) old new fault
reads_any run = runs_wider run (λ p there none. none) (λ p is. tt) (λ damage is. is)

-- a leaf more
pub leaf_walked : (all entries given : List Entry) (low : Entry) (bound next : Bound) → bound ≡ Some low → entries_from low all ≡ given ++ entries_left all next → all ≡ entries ++ entries_left all bound → all ≡ (entries ++ given) ++ entries_left all next
leaf_walked all entries given low bound next is whole e =
    e ∙ ap (λ (b : Bound). entries ++ entries_left all b) is ∙ ap (λ (xs : List Entry). entries ++ xs) whole ∙ sym (append_assoc entries given (entries_left all next))
