-- What clap makes of words that are no flags.
use Rattle.std.proofs.Common.{◌≡◌, ◌⊎◌, ◌∙◌, true, false, codes, List, [], ◌∷◌, Some, None, refl, sym, ap₂, subst, inl, inr, is_some}
use Rattle.std.specs.Prelude.{nat_eq}
use Rattle.std.specs.List.{All}
use Rattle.std.specs.Str.{bytes_eq}
use Rattle.std.proofs.lemmas.Bool.{cases_Bool, cases_eq, ne_eqb}
use Rattle.std.proofs.lemmas.List.Elements.{All-head, All-tail}
use Rattle.std.proofs.lemmas.Slice.Eq.{bytes_eq-Decides}
use Rattle.clap.specs.Lexer.{long_of, short_of}
use Rattle.clap.specs.Walk.{Text, Walk, finished, nothing_held, settled, walk_from}
use Rattle.clap.specs.Simple.{built, entered, is_simple, names_of, subcommand_of}
use Rattle.clap.specs.Kinds.{Kinds, or_else}
use Rattle.clap.specs.Faults.{check_fault, defaults_fault, entered_fault, fault_of, is_simple_and_free, settle_fault}
use Rattle.clap.specs.declared.error.kind.ErrorKind.TheVariants.{InvalidSubcommand, MissingRequiredArgument, MissingSubcommand, UnknownArgument}
use Rattle.clap.proofs.FaultLemmas.{stopped_fault}
use Rattle.clap.proofs.OnLiterals.{clap_on_literals}
use Rattle.clap.proofs.WalkLemmas.{walk_stopped}
use Rattle.mdc_shell.specs.Found.{Finds, FindsCreate, FindsFile, IsCreateSplit, IsFileSplit, IsSplit}
use Rattle.mdc_shell.specs.Grammar.{mdc_app}
use Rattle.mdc_shell.specs.Words.{IsPlain}

-- a word that is no flag to clap
pub record IsNoFlag (word : Text) : Type 0 where
  pub dashes : bytes_eq word (45 ∷ 45 ∷ []) ≡ false
  pub long : long_of word ≡ None
  pub short : short_of word ≡ None

-- a plain word is no flag
pub no_flag : (word : Text) → IsPlain word → IsNoFlag word
no_flag [] plain = absurd plain
no_flag (x ∷ xs) (inl other) =
    let no : nat_eq x 45 ≡ false = ne_eqb x 45 other in
    record { dashes = rw no refl; long = rw no refl; short = rw no refl }
no_flag (x ∷ []) (inr alone) = elim (cases_eq x 45) [
  | inl e ↦ rw e (record { dashes = refl; long = refl; short = refl })
  | inr n ↦ (let no : nat_eq x 45 ≡ false = ne_eqb x 45 n in record { dashes = rw no refl; long = rw no refl; short = rw no refl })
]
no_flag (x ∷ y ∷ xs) (inr alone) = absurd (cc)

-- clap says exactly what this command line gives
pub mdc_is_free : is_simple_and_free mdc_app ≡ true
mdc_is_free = refl

pub mdc_is_simple : is_simple mdc_app ≡ true
mdc_is_simple = refl

-- the name of a command that takes one file
abbrev pub IsOfFile : Text → Type 0
IsOfFile name = (name ≡ codes "run") ⊎ (name ≡ codes "check")

-- what holds of each such name
by_name : (P : Text → Type 0) → P (codes "run") → P (codes "check") → (name : Text) → IsOfFile name → P name
by_name P run check name (inl is) = subst P (sym is) run
by_name P run check name (inr is) = subst P (sym is) check

-- three words behind `create` are taken
pub create_takes : (a b c : Text) → IsNoFlag a → IsNoFlag b → IsNoFlag c → fault_of mdc_app (codes "create" ∷ a ∷ b ∷ c ∷ []) ≡ []
unfolding clap_on_literals
create_takes a b c one two three = rw (one.dashes, one.long, one.short, two.dashes, two.long, two.short, three.dashes, three.long, three.short) refl

-- one word behind the name of such a command is taken
pub file_takes : (a : Text) → IsNoFlag a → (name : Text) → IsOfFile name → fault_of mdc_app (name ∷ a ∷ []) ≡ []
unfolding clap_on_literals
file_takes a one = by_name (λ name. fault_of mdc_app (name ∷ a ∷ []) ≡ []) (rw (one.dashes, one.long, one.short) refl) (rw (one.dashes, one.long, one.short) refl)

-- three words behind `create` are its values
pub create_finds : (a b c : Text) → IsNoFlag a → IsNoFlag b → IsNoFlag c
    → FindsCreate (codes "create" ∷ a ∷ b ∷ c ∷ []) (subcommand_of mdc_app (codes "create" ∷ a ∷ b ∷ c ∷ []))
unfolding clap_on_literals
create_finds a b c one two three = rw (one.dashes, one.long, one.short, two.dashes, two.long, two.short, three.dashes, three.long, three.short) (record {
  file = a;
  extents = b;
  pages = c;
  are = refl;
  name = refl;
  file_is = refl;
  extents_is = refl;
  pages_is = refl;
})

-- one word behind the name of a command of one file is its value
pub file_finds : (a : Text) → IsNoFlag a → (name : Text) → IsOfFile name → FindsFile name (name ∷ a ∷ []) (subcommand_of mdc_app (name ∷ a ∷ []))
unfolding clap_on_literals
file_finds a one = by_name (λ name. FindsFile name (name ∷ a ∷ []) (subcommand_of mdc_app (name ∷ a ∷ [])))
    (rw (one.dashes, one.long, one.short) (record { file = a; are = refl; name_is = refl; file_is = refl }))
    (rw (one.dashes, one.long, one.short) (record { file = a; are = refl; name_is = refl; file_is = refl }))

-- no word
no_words : fault_of mdc_app [] ≡ MissingSubcommand ∷ []
unfolding clap_on_literals
no_words = refl

-- another word in front
other_word : (w : Text) (rest : List Text) → IsNoFlag w → bytes_eq (codes "create") w ≡ false → bytes_eq (codes "run") w ≡ false → bytes_eq (codes "check") w ≡ false
    → fault_of mdc_app (w ∷ rest) ≡ UnknownArgument ∷ InvalidSubcommand ∷ []
unfolding clap_on_literals
other_word w rest one no_create no_run no_check = rw (no_create, no_run, no_check, one.dashes, one.long, one.short) refl

-- too few words behind `create`
create_none : fault_of mdc_app (codes "create" ∷ []) ≡ MissingRequiredArgument ∷ []
unfolding clap_on_literals
create_none = refl

create_one : (a : Text) → IsNoFlag a → fault_of mdc_app (codes "create" ∷ a ∷ []) ≡ MissingRequiredArgument ∷ []
unfolding clap_on_literals
create_one a one = rw (one.dashes, one.long, one.short) refl

create_two : (a b : Text) → IsNoFlag a → IsNoFlag b → fault_of mdc_app (codes "create" ∷ a ∷ b ∷ []) ≡ MissingRequiredArgument ∷ []
unfolding clap_on_literals
create_two a b one two = rw (one.dashes, one.long, one.short, two.dashes, two.long, two.short) refl

-- no word behind the name of a command of one file
file_none : (name : Text) → IsOfFile name → fault_of mdc_app (name ∷ []) ≡ MissingRequiredArgument ∷ []
unfolding clap_on_literals
file_none = by_name (λ name. fault_of mdc_app (name ∷ []) ≡ MissingRequiredArgument ∷ []) refl refl

-- the kinds at the end of the walk over the words, behind those of the walk
behind : Walk → Kinds → Kinds
behind w first =
    let a = built mdc_app in
    or_else first (or_else (entered_fault a w.stopped) (or_else (settle_fault a.top.rules a.top.args_override_self w.held)
    (or_else (defaults_fault (settled a.top.rules w.held).rows a.top.rules) (check_fault a.top (finished a.top.rules w.held) (is_some (entered a w.stopped))))))

-- where the walk stopped at a subcommand of this name, with these words behind it
stopped_at : Text → List Text → Walk
stopped_at name rest = record (walk_from nothing_held) { stopped = Some (name, rest) }

-- the kinds behind `create`
create_fault : (rest : List Text) → fault_of mdc_app (codes "create" ∷ rest) ≡ behind (stopped_at (codes "create") rest) []
unfolding clap_on_literals behind stopped_at
create_fault rest = ap₂ behind (sym (walk_stopped (built mdc_app).top.rules (names_of (built mdc_app)) (walk_from nothing_held) (codes "create") [] rest))
    (stopped_fault (built mdc_app).top (names_of (built mdc_app)) (walk_from nothing_held) (codes "create", []) rest)

-- the kinds behind the name of a command of one file
file_fault : (rest : List Text) (name : Text) → IsOfFile name → fault_of mdc_app (name ∷ rest) ≡ behind (stopped_at name rest) []
unfolding clap_on_literals behind stopped_at
file_fault rest = by_name (λ name. fault_of mdc_app (name ∷ rest) ≡ behind (stopped_at name rest) [])
    (ap₂ behind (sym (walk_stopped (built mdc_app).top.rules (names_of (built mdc_app)) (walk_from nothing_held) (codes "run") [] rest))
    (stopped_fault (built mdc_app).top (names_of (built mdc_app)) (walk_from nothing_held) (codes "run", []) rest))
    (ap₂ behind (sym (walk_stopped (built mdc_app).top.rules (names_of (built mdc_app)) (walk_from nothing_held) (codes "check") [] rest))
    (stopped_fault (built mdc_app).top (names_of (built mdc_app)) (walk_from nothing_held) (codes "check", []) rest))

-- too many words behind `create`
create_many : (a b c d : Text) (rest : List Text) → IsNoFlag a → IsNoFlag b → IsNoFlag c → IsNoFlag d
    → behind (stopped_at (codes "create") (a ∷ b ∷ c ∷ d ∷ rest)) [] ≡ UnknownArgument ∷ []
unfolding clap_on_literals behind stopped_at
create_many a b c d rest one two three four =
    rw (one.dashes, one.long, one.short, two.dashes, two.long, two.short, three.dashes, three.long, three.short, four.dashes, four.long, four.short) refl

-- too many words behind the name of a command of one file
file_many : (a b : Text) (rest : List Text) → IsNoFlag a → IsNoFlag b → (name : Text) → IsOfFile name → behind (stopped_at name (a ∷ b ∷ rest)) [] ≡ UnknownArgument ∷ []
unfolding clap_on_literals behind stopped_at
file_many a b rest one two = by_name (λ name. behind (stopped_at name (a ∷ b ∷ rest)) [] ≡ UnknownArgument ∷ [])
    (rw (one.dashes, one.long, one.short, two.dashes, two.long, two.short) refl) (rw (one.dashes, one.long, one.short, two.dashes, two.long, two.short) refl)

-- no word is a flag
AreNoFlags : List Text → Type 0
AreNoFlags [] = Unit {0}
AreNoFlags (w ∷ ws) = IsNoFlag w × AreNoFlags ws

no_flags : (words : List Text) → All IsPlain words → AreNoFlags words
unfolding AreNoFlags
no_flags [] all = tt
no_flags (w ∷ ws) all = (no_flag w (All-head IsPlain w ws all), no_flags ws (All-tail IsPlain w ws all))

-- what is refused isn't taken
refused : (faults : Kinds) (k : Rattle.clap.specs.declared.error.kind.ErrorKind.ErrorKind) (ks : Kinds) → faults ≡ k ∷ ks → faults ≡ [] → ⊥
refused faults k ks is none = cc

-- behind `create` three words are taken and no others
create_only : (rest : List Text) → AreNoFlags rest → fault_of mdc_app (codes "create" ∷ rest) ≡ [] → IsCreateSplit (codes "create" ∷ rest)
unfolding AreNoFlags
create_only [] all none = absurd (refused _ _ _ create_none none)
create_only (a ∷ []) all none = absurd (refused _ _ _ (create_one a all.0) none)
create_only (a ∷ b ∷ []) all none = absurd (refused _ _ _ (create_two a b all.0 all.1.0) none)
create_only (a ∷ b ∷ c ∷ []) all none = record { file = a; extents = b; pages = c; are = refl }
create_only (a ∷ b ∷ c ∷ d ∷ rest) all none =
    absurd (refused _ _ _ (create_fault (a ∷ b ∷ c ∷ d ∷ rest) ∙ create_many a b c d rest all.0 all.1.0 all.1.1.0 all.1.1.1.0) none)

-- behind the name of a command of one file one word is taken and no others
file_only : (name : Text) → IsOfFile name → (rest : List Text) → AreNoFlags rest → fault_of mdc_app (name ∷ rest) ≡ [] → IsFileSplit name (name ∷ rest)
unfolding AreNoFlags
file_only name of [] all none = absurd (refused _ _ _ (file_none name of) none)
file_only name of (a ∷ []) all none = record { file = a; are = refl }
file_only name of (a ∷ b ∷ rest) all none = absurd (refused _ _ _ (file_fault (a ∷ b ∷ rest) name of ∙ file_many a b rest all.0 all.1.0 name of) none)

-- words that begin with this name
named : (name w : Text) (rest : List Text) (Split : List Text → Type 0) → bytes_eq name w ≡ true → fault_of mdc_app (w ∷ rest) ≡ [] → (fault_of mdc_app (name ∷ rest) ≡ [] → Split (name ∷ rest)) → Split (w ∷ rest)
named name w rest Split same none split =
    let is : name ≡ w = (bytes_eq-Decides name w).0 same in
    subst (λ (t : Text). Split (t ∷ rest)) is (split (subst (λ (t : Text). fault_of mdc_app (t ∷ rest) ≡ []) (sym is) none))

-- only words of the form of a command line are taken
split_of : (words : List Text) → AreNoFlags words → fault_of mdc_app words ≡ [] → IsSplit words
unfolding AreNoFlags
split_of [] all none = absurd (refused _ _ _ no_words none)
split_of (w ∷ rest) all none = elim (cases_Bool (bytes_eq (codes "create") w)) [
  | inl create ↦ inl (named (codes "create") w rest IsCreateSplit create none (create_only rest all.1))
  | inr no_create ↦ elim (cases_Bool (bytes_eq (codes "run") w)) [
    | inl run ↦ inr (inl (named (codes "run") w rest (IsFileSplit (codes "run")) run none (file_only (codes "run") (inl refl) rest all.1)))
    | inr no_run ↦ elim (cases_Bool (bytes_eq (codes "check") w)) [
      | inl check ↦ inr (inr (named (codes "check") w rest (IsFileSplit (codes "check")) check none (file_only (codes "check") (inr refl) rest all.1)))
      | inr no_check ↦ absurd (refused _ _ _ (other_word w rest all.0 no_create no_run no_check) none)
    ]
  ]
]

-- one word behind the name of a command of one file
found_file : (name : Text) → IsOfFile name → (words : List Text) → AreNoFlags words → IsFileSplit name words → (fault_of mdc_app words ≡ []) × FindsFile name words (subcommand_of mdc_app words)
unfolding AreNoFlags
found_file name of words all s =
    let flags = subst AreNoFlags s.are all in
    subst (λ (ws : List Text). (fault_of mdc_app ws ≡ []) × FindsFile name ws (subcommand_of mdc_app ws)) (sym s.are) (file_takes s.file flags.1.0 name of, file_finds s.file flags.1.0 name of)

-- words of the form of a command line are taken, and clap finds what they say
found_in : (words : List Text) → AreNoFlags words → IsSplit words → (fault_of mdc_app words ≡ []) × Finds words (subcommand_of mdc_app words)
unfolding AreNoFlags
found_in words all (inl s) =
    let P : List Text → Type 0 = λ (ws : List Text). (fault_of mdc_app ws ≡ []) × Finds ws (subcommand_of mdc_app ws) in
    let flags = subst AreNoFlags s.are all in
    subst P (sym s.are) (create_takes s.file s.extents s.pages flags.1.0 flags.1.1.0 flags.1.1.1.0, inl (create_finds s.file s.extents s.pages flags.1.0 flags.1.1.0 flags.1.1.1.0))
found_in words all (inr (inl s)) = let found = found_file (codes "run") (inl refl) words all s in (found.0, inr (inl found.1))
found_in words all (inr (inr s)) = let found = found_file (codes "check") (inr refl) words all s in (found.0, inr (inr found.1))

-- where plain words are taken, clap finds what they say
pub taken_finds : (words : List Text) → All IsPlain words → fault_of mdc_app words ≡ [] → Finds words (subcommand_of mdc_app words)
taken_finds words all none = (found_in words (no_flags words all) (split_of words (no_flags words all) none)).1

-- plain words of the form of a command line are taken
pub split_is_taken : (words : List Text) → All IsPlain words → IsSplit words → fault_of mdc_app words ≡ []
split_is_taken words all split = (found_in words (no_flags words all) split).0
