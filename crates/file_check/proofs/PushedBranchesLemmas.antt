-- Branches that are put behind those that are left, the last of a node first.
use Rattle.std.proofs.Common.{◌≡◌, ◌≤◌, ◌+◌, ℕ, suc, List, [], ◌∷◌, ◌++◌, length, drop, get_or, ap, arith, sym, ◌∙◌, reverse}
use Rattle.std.specs.Prelude.{Some}
use Rattle.std.proofs.lemmas.List.{reverse-append}
use Rattle.mdc_words.specs.ByteOrder.{Entry}
use Rattle.node_page.specs.Looked.{IsNode}
use Rattle.node_page.specs.Node.{Node, node_of}
use Rattle.node_page.specs.Node.Node.{InnerNode, LeafNode, NoNode}
use Rattle.entry_tree.specs.EntryBounds.{Bound}
use Rattle.file_check.specs.Branches.{IsFitNode, branches_of}
use Rattle.file_check.specs.declared.branches.Branch.{Branch}
use Rattle.file_check.proofs.BranchesLemmas.{branches_at, branches_end}
use Rattle.file_check.proofs.RisingEntriesLemmas.{Rises-rise}

pushed_last : (left more : List Branch) (b : Branch) → more ≡ left ++ b ∷ [] → reverse more ≡ b ∷ reverse left
pushed_last left more b e = ap reverse e ∙ reverse-append left (b ∷ [])

pub pushed_end : (seps : List Entry) (children : List ℕ) (high : Bound) (i page : ℕ) (left more : List Branch) → i ≡ length seps → page ≡ get_or children i 0
    → more ≡ left ++ record { page = page; high = high } ∷ [] → length children ≡ length seps + 1 → reverse more ≡ drop i (branches_of seps children high) ++ reverse left
pushed_end seps children high i page left more is child e many =
    let there : drop i (branches_of seps children high) ≡ record { page = page; high = high } ∷ [] =
    ap (λ (k : ℕ). drop k (branches_of seps children high)) is ∙ branches_end seps children high many
    ∙ ap (λ (p : ℕ). record { page = p; high = high } ∷ []) (sym (child ∙ ap (λ (k : ℕ). get_or children k 0) is)) in
    pushed_last left more (record { page = page; high = high }) e ∙ ap (λ (bs : List Branch). bs ++ reverse left) (sym there)

pub pushed_at : (seps : List Entry) (children : List ℕ) (high : Bound) (i j page : ℕ) (bytes : Entry) (left more old : List Branch) → i ≡ suc j → i ≤ length seps
    → page ≡ get_or children j 0 → bytes ≡ get_or seps j [] → more ≡ left ++ record { page = page; high = Some bytes } ∷ [] → length children ≡ length seps + 1
    → reverse left ≡ drop i (branches_of seps children high) ++ old → reverse more ≡ drop j (branches_of seps children high) ++ old
pushed_at seps children high i j page bytes left more old is within child sep e many so_far =
    let b : Branch = record { page = page; high = Some bytes } in
    let there : drop j (branches_of seps children high) ≡ b ∷ drop (suc j) (branches_of seps children high) =
    branches_at seps children high j many (omega arith)
    ∙ ap (λ (p : ℕ). record { page = p; high = Some (get_or seps j []) } ∷ drop (suc j) (branches_of seps children high)) (sym child)
    ∙ ap (λ (s : Entry). record { page = page; high = Some s } ∷ drop (suc j) (branches_of seps children high)) (sym sep) in
    pushed_last left more b e
    ∙ ap (λ (bs : List Branch). b ∷ bs) (so_far ∙ ap (λ (k : ℕ). drop k (branches_of seps children high) ++ old) is)
    ∙ ap (λ (bs : List Branch). bs ++ old) (sym there)

pub fit-is_node : (width root : ℕ) (low : Bound) (b : Branch) (page : List ℕ) (node : Node) → node_of width page ≡ node → IsFitNode root low b node → IsNode width page node
fit-is_node width root low b page (LeafNode items) is fit = record { form = is; written = λ e. cc; rising = Rises-rise low b.high items fit.1 }
fit-is_node width root low b page (InnerNode seps children) is fit = record { form = is; written = λ e. cc; rising = fit.1 }
fit-is_node width root low b page NoNode is fit = absurd fit
