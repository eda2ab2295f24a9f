-- What the grammar says of a CREATE TABLE and of a CREATE INDEX that is spelled: its names may be given, and it has columns and
-- dimensions, or parts.
use Rattle.std.proofs.Common.{◌≤◌, ℕ, List, [], ◌∷◌, Some, None, subst, inl, inr, length, arith}
use Rattle.std.specs.Prelude.{Bool, IsTrue, true, false, codes}
use Rattle.std.specs.List.{AllByRecursion}
use Rattle.mdc_ast.specs.declared.name.Name.{Name}
use Rattle.mdc_ast.specs.declared.statement.ColumnText.{ColumnText}
use Rattle.mdc_ast.specs.declared.statement.KeyText.{KeyText}
use Rattle.mdc_ast.specs.declared.statement.Stmt.{Stmt}
use Rattle.mdc_ast.specs.declared.statement.Stmt.TheVariants as stmt
use Rattle.mdc_ast.specs.Classes.{AnyName, Class, W, closing, comma, fits, is_name, name_in, opening}
use Rattle.mdc_ast.specs.Grammar.{SpellsIn, blocks_rule, change_rows, clean_rule, column_rule, columns_rule, create_rule, delete_rule, dim_rule, dims_rule, drop_rule, index_rule, insert_rule, key_rule, make_index, name_rule, number_rule, options_rule, other_rule, plan_rule, put_rows, query_rule, reclaim_rule, remove_rows, rollout_rule, sets_rule, setting_rule, statement_rule, table_rule, type_rule, update_rule, value_rule, where_rule, work_rule}
use Rattle.mdc_ast.specs.Phrases.{Both, Closed, Either, Listed, Many, Map, Nothing, One, Perhaps, Phrase, Separated, Then}
use Rattle.mdc_ast.specs.Rules.{Rule, Spelled, behind, choice, closed, forked, listed, nothing, pair, perhaps, seen, separated, stated, token}
use Rattle.mdc_ast.specs.Tokens.{Kind, Number, Stray, Symbol, Text, Token, Word}
use Rattle.mdc_ast.specs.TableLimits.{is_kept_word}
use Rattle.script_engine.proofs.KeptWordsLemmas.{AreKept, IsKeptWord}

-- ---- what a phrase says

-- where the words of the tokens are kept, so holds of what the phrase says, and the words behind it are kept
abbrev Says : {X : Type 0} → Phrase X → (X → Type 0) → Type 0
Says {X} A P = (tokens rest : List Token) (x : X) → A tokens x rest → AreKept tokens → P x × AreKept rest

-- nothing that it says is told
abbrev Anything : {X : Type 0} → X → Type 0
Anything x = Unit {0}

says_nothing : {X : Type 0} (P : X → Type 0) (x : X) → P x → Says (Nothing x) P
says_nothing P x holds tokens rest y h kept = (subst P h.0 holds, subst AreKept h.1 kept)

says_one : {X : Type 0} (P : X → Type 0) (c : Class) (f : Token → X) → ((t : Token) → IsTrue (fits c t.kind) → IsKeptWord t.kind → P (f t)) → Says (One c f) P
says_one P c f each tokens rest x h kept =
    let here : AreKept (h.0 ∷ rest) = subst AreKept h.3 kept in
    (subst P h.2 (each h.0 h.1 here.0), here.1)

says_then : {X : Type 0} (P : X → Type 0) (c : Class) (A : Phrase X) → Says A P → Says (Then c A) P
says_then P c A says tokens rest x h kept =
    let here : AreKept (h.0 ∷ h.1) = subst AreKept h.4 kept in
    says h.1 rest x h.3 here.1

says_both : {X Y : Type 0} (P : X → Type 0) (Q : Y → Type 0) (A : Phrase X) (B : Phrase Y) → Says A P → Says B Q → Says (Both A B) (λ p. P p.0 × Q p.1)
says_both P Q A B first second tokens rest p h kept =
    let front : P p.0 × AreKept h.0 = first tokens h.0 p.0 h.1 kept in
    let back : Q p.1 × AreKept rest = second h.0 rest p.1 h.2 front.1 in
    ((front.0, back.0), back.1)

says_map : {X Y : Type 0} (P : X → Type 0) (Q : Y → Type 0) (f : X → Y) (A : Phrase X) → Says A P → ((x : X) → P x → Q (f x)) → Says (Map f A) Q
says_map P Q f A says turns tokens rest y h kept =
    let inner : P h.0 × AreKept rest = says tokens rest h.0 h.1 kept in
    (subst Q h.2 (turns h.0 inner.0), inner.1)

says_either : {X : Type 0} (P : X → Type 0) (A B : Phrase X) → Says A P → Says B P → Says (Either A B) P
says_either P A B first second tokens rest x h kept = elim h [
  | inl a ↦ first tokens rest x a kept
  | inr b ↦ second tokens rest x b kept
]

says_many : {X : Type 0} (P : X → Type 0) (A : Phrase X) → Says A P → Says (Many A) (AllByRecursion P)
says_many P A says tokens rest [] h kept = (tt, subst AreKept h kept)
says_many P A says tokens rest (x ∷ xs) h kept =
    let first : P x × AreKept h.0 = says tokens h.0 x h.1 kept in
    let others : AllByRecursion P xs × AreKept rest = says_many P A says h.0 rest xs h.2 first.1 in
    ((first.0, others.0), others.1)

-- at least one, and each so
abbrev pub AreSome : {X : Type 0} → (X → Type 0) → List X → Type 0
AreSome P xs = (1 ≤ length xs) × AllByRecursion P xs

says_separated : {X : Type 0} (P : X → Type 0) (c : Class) (A : Phrase X) → Says A P → Says (Separated c A) (AreSome P)
says_separated P c A says =
    says_map (λ p. P p.0 × AllByRecursion P p.1) (AreSome P) _ (Both A (Many (Then c A)))
    (says_both P (AllByRecursion P) A (Many (Then c A)) says (says_many P (Then c A) (says_then P c A says)))
    (λ p h. (omega arith, (h.0, h.1)))

says_closed : {X : Type 0} (P : X → Type 0) (A : Phrase X) (c : Class) → Says A P → Says (Closed A c) P
says_closed P A c says =
    says_map (λ p. P p.0 × Anything p.1) P _ (Both A (Then c (Nothing tt)))
    (says_both P Anything A (Then c (Nothing tt)) says (says_then Anything c (Nothing tt) (says_nothing Anything tt tt)))
    (λ p h. h.0)

says_listed : {X : Type 0} (P : X → Type 0) (A : Phrase X) → Says A P → Says (Listed A) (AreSome P)
says_listed P A says = says_then (AreSome P) opening (Closed (Separated comma A) closing) (says_closed (AreSome P) (Separated comma A) closing (says_separated P comma A says))

says_perhaps : {X : Type 0} (A : Phrase X) → Says A Anything → Says (Perhaps A) Anything
says_perhaps A says = says_either Anything (Map Some A) (Nothing None) (says_map Anything Anything Some A says (λ x h. tt)) (says_nothing Anything None tt)

-- any rule leaves kept words behind it
keeps : {X : Type 0} (rule : Rule X) → Says (Spelled rule) Anything
keeps (nothing x) = says_nothing Anything x tt
keeps (token c f) = says_one Anything c f (λ t fit kept. tt)
keeps (behind c g) = says_then Anything c (Spelled g) (keeps g)
keeps (pair g k) = λ tokens rest p h kept. (tt, (says_both Anything Anything (Spelled g) (Spelled k) (keeps g) (keeps k) tokens rest p h kept).1)
keeps (seen f g) = says_map Anything Anything f (Spelled g) (keeps g) (λ x h. tt)
keeps (choice g k) = says_either Anything (Spelled g) (Spelled k) (keeps g) (keeps k)
keeps (forked w g k) = says_either Anything (Then w (Spelled g)) (Spelled k) (says_then Anything w (Spelled g) (keeps g)) (keeps k)
keeps (perhaps g) = says_perhaps (Spelled g) (keeps g)
keeps (closed g c) = says_closed Anything (Spelled g) c (keeps g)
keeps (separated c g) = λ tokens rest xs h kept. (tt, (says_separated Anything c (Spelled g) (keeps g) tokens rest xs h kept).1)
keeps (listed g) = λ tokens rest xs h kept. (tt, (says_listed Anything (Spelled g) (keeps g) tokens rest xs h kept).1)
keeps (stated s m g) = keeps g

-- ---- CREATE TABLE

-- a word that is kept, and isn't reserved
abbrev pub IsGivenWord : Name → Type 0
IsGivenWord name = IsTrue (is_kept_word name.0) × IsTrue (is_name name.0)

given : (kind : Kind) → IsTrue (fits AnyName kind) → IsKeptWord kind → IsGivenWord (name_in (record { kind = kind; left = 0 }))
given (Word word) fit kept = (kept, fit)
given (Number n) fit kept = cc
given (Text text) fit kept = cc
given (Symbol bytes) fit kept = cc
given Stray fit kept = cc

-- what is written of a new table
pub record IsTableText (name : Name) (columns : List ColumnText) (dims : List (List Name)) : Type 0 where
  pub given : IsGivenWord name
  pub each_given : AreSome (λ column. IsGivenWord column.name) columns
  pub each_some : AreSome (λ dim. 1 ≤ length dim) dims

-- what is written of a new record index: its name is given, and it has a part
abbrev pub IsIndexText : Name → List KeyText → Type 0
IsIndexText name parts = IsGivenWord name × (1 ≤ length parts)

-- so it is of a CREATE TABLE and of a CREATE INDEX
abbrev pub IfTable : Stmt → Type 0
IfTable (stmt.CreateTable name columns dims) = IsTableText name columns dims
IfTable (stmt.CreateIndex name unique table parts) = IsIndexText name parts
IfTable statement = Unit {0}

says_name : Says (Spelled name_rule) IsGivenWord
says_name = says_one IsGivenWord AnyName name_in (λ t fit kept. given t.kind fit kept)

says_column : Says (Spelled column_rule) (λ column. IsGivenWord column.name)
unfolding column_rule
says_column =
    says_map (λ p. (IsGivenWord p.0.0 × Anything p.0.1) × Anything p.1) (λ column. IsGivenWord column.name) _ _
    (says_both (λ q. IsGivenWord q.0 × Anything q.1) Anything _ _ (says_both IsGivenWord Anything _ _ says_name (keeps type_rule)) (keeps options_rule))
    (λ p h. h.0.0)

says_dim : Says (Spelled dim_rule) (λ dim. 1 ≤ length dim)
unfolding dim_rule
says_dim =
    says_either (λ dim. 1 ≤ length dim) _ _
    (λ tokens rest dim h kept. let some : AreSome IsGivenWord dim × AreKept rest = says_listed IsGivenWord (Spelled name_rule) says_name tokens rest dim h kept in (some.0.0, some.1))
    (says_map Anything (λ dim. 1 ≤ length dim) _ _ (keeps name_rule) (λ name h. omega arith))

says_dims : Says (Spelled dims_rule) (AreSome (λ dim. 1 ≤ length dim))
unfolding dims_rule
says_dims =
    let dims : Says (Listed (Spelled dim_rule)) (AreSome (λ dim. 1 ≤ length dim)) = says_listed (λ dim. 1 ≤ length dim) (Spelled dim_rule) says_dim in
    says_either (AreSome (λ dim. 1 ≤ length dim)) _ _ (says_then (AreSome (λ dim. 1 ≤ length dim)) (W (codes "DIMENSIONS")) _ dims) dims

says_table : Says (Spelled table_rule) IfTable
unfolding table_rule
says_table =
    let columns : Says (Listed (Spelled column_rule)) (AreSome (λ column. IsGivenWord column.name)) = says_listed (λ column. IsGivenWord column.name) (Spelled column_rule) says_column in
    let by : Says (Then (W (codes "BY")) (Spelled dims_rule)) (AreSome (λ dim. 1 ≤ length dim)) = says_then (AreSome (λ dim. 1 ≤ length dim)) (W (codes "BY")) (Spelled dims_rule) says_dims in
    let dims = says_then (AreSome (λ dim. 1 ≤ length dim)) (W (codes "ORGANIZE")) (Then (W (codes "BY")) (Spelled dims_rule)) by in
    says_map (λ p. (IsGivenWord p.0.0 × AreSome (λ column. IsGivenWord column.name) p.0.1) × AreSome (λ dim. 1 ≤ length dim) p.1) IfTable _ _
    (says_both (λ q. IsGivenWord q.0 × AreSome (λ column. IsGivenWord column.name) q.1) (AreSome (λ dim. 1 ≤ length dim)) _ _
    (says_both IsGivenWord (AreSome (λ column. IsGivenWord column.name)) _ _ says_name columns) dims)
    (λ p h. record { given = h.0.0; each_given = h.0.1; each_some = h.1 })

-- ---- every other statement

-- a rule whose statements aren't a CREATE TABLE
other : {X : Type 0} (f : X → Stmt) (rule : Rule X) → ((x : X) → IfTable (f x)) → Says (Map f (Spelled rule)) IfTable
other f rule none = says_map Anything IfTable f (Spelled rule) (keeps rule) (λ x h. none x)

says_index : (unique : Bool) → Says (Spelled (index_rule unique)) IfTable
unfolding index_rule
says_index unique =
    let parts : Says (Listed (Spelled key_rule)) (AreSome Anything) = says_listed Anything (Spelled key_rule) (keeps key_rule) in
    let names = says_both IsGivenWord Anything (Spelled name_rule) (Spelled (behind (W (codes "ON")) name_rule)) says_name (keeps (behind (W (codes "ON")) name_rule)) in
    says_then IfTable (W (codes "INDEX")) _
    (says_map (λ p. (IsGivenWord p.0.0 × Anything p.0.1) × AreSome Anything p.1) IfTable (make_index unique) _
    (says_both (λ q. IsGivenWord q.0 × Anything q.1) (AreSome Anything) _ _ names parts) (λ p h. (h.0.0, h.1.0)))

says_create : Says (Spelled create_rule) IfTable
unfolding create_rule
says_create =
    says_either IfTable _ _ (says_then IfTable (W (codes "TABLE")) _ says_table)
    (says_either IfTable _ _ (says_then IfTable (W (codes "UNIQUE")) _ (says_index true))
    (says_index false))

says_drop : Says (Spelled drop_rule) IfTable
unfolding drop_rule
says_drop =
    says_either IfTable _ _ (says_then IfTable (W (codes "TABLE")) _ (other stmt.DropTable name_rule (λ name. tt)))
    (says_then IfTable (W (codes "INDEX")) _ (other stmt.DropIndex name_rule (λ name. tt)))

says_setting : Says (Spelled setting_rule) IfTable
unfolding setting_rule
says_setting =
    says_either IfTable _ _
    (says_then IfTable (W (codes "CURRENT")) _ (says_then IfTable (W (codes "MDC")) _ (says_then IfTable (W (codes "ROLLOUT")) _ (says_then IfTable (W (codes "MODE")) _ (other stmt.SetRollout rollout_rule (λ mode. tt))))))
    (says_either IfTable _ _ (says_then IfTable (W (codes "PLAN")) _ (other stmt.SetPlan plan_rule (λ mode. tt)))
    (says_then IfTable (W (codes "CLEANUP")) _ (says_then IfTable (W (codes "PACE")) _ (other stmt.SetPace number_rule (λ pace. tt)))))

says_clean : Says (Spelled clean_rule) IfTable
unfolding clean_rule
says_clean =
    says_either IfTable _ _ (says_then IfTable (W (codes "TABLE")) _ (other stmt.CleanTable name_rule (λ name. tt)))
    (other stmt.Clean (closed number_rule (W (codes "STEPS"))) (λ steps. tt))

says_blocks : Says (Spelled blocks_rule) IfTable
unfolding blocks_rule
says_blocks = says_then IfTable (W (codes "BLOCKS")) _ (other stmt.ListBlocks name_rule (λ name. tt))

says_reclaim : Says (Spelled reclaim_rule) IfTable
unfolding reclaim_rule
says_reclaim = says_then IfTable (W (codes "TABLE")) _ (other stmt.Reclaim (closed (closed name_rule (W (codes "RECLAIM"))) (W (codes "EXTENTS"))) (λ name. tt))

says_work : (statement : Stmt) → IfTable statement → Says (Spelled (work_rule statement)) IfTable
unfolding work_rule
says_work statement none =
    says_either IfTable _ _ (says_then IfTable (W (codes "WORK")) _ (says_nothing IfTable statement none)) (says_nothing IfTable statement none)

says_other : Says (Spelled other_rule) IfTable
unfolding other_rule
says_other =
    says_either IfTable _ _ (says_then IfTable (W (codes "CREATE")) _ says_create)
    (says_either IfTable _ _ (says_then IfTable (W (codes "DROP")) _ says_drop)
    (says_either IfTable _ _ (says_then IfTable (W (codes "SET")) _ says_setting)
    (says_either IfTable _ _ (says_then IfTable (W (codes "CLEAN")) _ says_clean)
    (says_either IfTable _ _ (says_then IfTable (W (codes "LIST")) _ says_blocks)
    (says_either IfTable _ _ (says_then IfTable (W (codes "REORG")) _ says_reclaim)
    (says_either IfTable _ _ (says_then IfTable (W (codes "BEGIN")) _ (says_nothing IfTable stmt.Begin tt))
    (says_either IfTable _ _ (says_then IfTable (W (codes "COMMIT")) _ (says_work stmt.Commit tt))
    (says_then IfTable (W (codes "ROLLBACK")) _ (says_work stmt.Rollback tt)))))))))

says_insert : Says (Spelled insert_rule) IfTable
unfolding insert_rule
says_insert =
    says_then IfTable (W (codes "INTO")) _
    (other put_rows (pair (pair name_rule columns_rule) (behind (W (codes "VALUES")) (separated comma (listed value_rule)))) (λ p. tt))

says_update : (n : ℕ) → Says (Spelled (update_rule n)) IfTable
unfolding update_rule
says_update n = other change_rows (pair (pair name_rule sets_rule) (where_rule n)) (λ p. tt)

says_delete : (n : ℕ) → Says (Spelled (delete_rule n)) IfTable
unfolding delete_rule
says_delete n = says_then IfTable (W (codes "FROM")) _ (other remove_rows (pair name_rule (where_rule n)) (λ p. tt))

says_statement : (n : ℕ) → Says (SpellsIn n) IfTable
unfolding statement_rule
says_statement n =
    says_either IfTable _ _ (says_then IfTable (W (codes "INSERT")) _ says_insert)
    (says_either IfTable _ _ (other stmt.Query (query_rule n) (λ select. tt))
    (says_either IfTable _ _ (says_then IfTable (W (codes "UPDATE")) _ (says_update n))
    (says_either IfTable _ _ (says_then IfTable (W (codes "DELETE")) _ (says_delete n))
    (says_either IfTable _ _ (says_then IfTable (W (codes "EXPLAIN")) _ (other stmt.Explain (query_rule n) (λ select. tt)))
    says_other))))

-- a statement that is spelled by such tokens
pub spelled_table : (n : ℕ) (tokens rest : List Token) (statement : Stmt) → SpellsIn n tokens statement rest → AreKept tokens → IfTable statement
spelled_table n tokens rest statement spelled kept = (says_statement n tokens rest statement spelled kept).0
