-- What the words of a command line ask for.
use Rattle.std.proofs.Common.{◌≡◌, ◌⊎◌, ◌≢◌, ◌∙◌, ◌<◌, ◌≤◌, ◌^◌, ℕ, codes, List, [], ◌∷◌, map, length, get_or, Option, Some, None, Result, Ok, Err, MatchOption, refl, sym, ap, subst, inl, inr, arith, option_map, true}
use Rattle.std.specs.List.{All}
use Rattle.std.specs.Result.{OkIff, result_ok}
use Rattle.std.specs.Str.Parse.{AllDigits, ParsesUnsigned, digits_value}
use Rattle.std.proofs.lemmas.List.Elements.{All-cons, All-nil, All-head, All-tail}
use Rattle.std.proofs.lemmas.Str.Parse.{digits_value_short, numerals_by_value, parse_plain, tells_digits}
use Rattle.clap.specs.Words.{App, IsAmong, Row, Text, fault_of, first_of, is_simple, is_simple_and_free, subcommand_of}
use Rattle.clap.specs.declared.error.ErrorKind.{ErrorKind}
use Rattle.clap.specs.declared.error.ErrorKind.TheVariants.{OutOfMemory}
use Rattle.mdc_shell.specs.declared.command.Command.{Command}
use Rattle.mdc_shell.specs.declared.command.Command.TheVariants as command
use Rattle.mdc_shell.specs.Asked.{Asks, AsksCheck, AsksCreate, AsksRun}
use Rattle.mdc_shell.specs.Found.{Finds, FindsCreate, FindsFile, IsSplit, subcommand_in, value_in}
use Rattle.mdc_shell.specs.Grammar.{mdc_app}
use Rattle.mdc_shell.proofs.ClapWords.{mdc_is_free, mdc_is_simple, split_is_taken, taken_finds}
use Rattle.mdc_shell.specs.Words.{CheckFile, CreateFile, IsCheckLine, IsCreateLine, IsNoLine, IsNumeral, IsPath, IsPlain, IsRequest, IsRunFileLine, IsScratchLine, Line, RunFile, RunScratch, SpellsLine}

-- a text without a sign in front is read as its number
pub number_read : {E : Type 0} (text : List ℕ) (r : Result ℕ E) → 0 < length text → length text ≤ 9 → get_or text 0 0 ≢ 48 → get_or text 0 0 ≢ 43 → ParsesUnsigned 32 10 text r
    → MatchOption (result_ok r) ((n : ℕ) → IsNumeral text n → ⊥) (IsNumeral text)
number_read text r some short lead plus parses = go r (parse_plain (numerals_by_value (AllDigits 10) tells_digits) 32 text r parses plus)
  where
    go : {E : Type 0} (r : Result ℕ E) → OkIff r (AllDigits 10 text × (0 < length text) × (digits_value 10 text < 2 ^ 32)) (digits_value 10 text)
        → MatchOption (result_ok r) ((n : ℕ) → IsNumeral text n → ⊥) (IsNumeral text)
    go (Ok n) read = record { digits = read.0.0; some = some; short = short; lead = lead; value = read.1 }
    go (Err e) none = λ n number.
        none (number.digits, number.some, omega (arith, digits_value_short (numerals_by_value (AllDigits 10) tells_digits) text 9 number.digits number.short))

-- two maps, one after the other
pub map_twice : {A B C : Type 0} (f : B → C) (g : A → B) (o : Option A) → option_map f (option_map g o) ≡ option_map (λ x. f (g x)) o
map_twice f g None = refl
map_twice f g (Some x) = refl

-- the value of an argument, by the rows
pub value_found : (first : Option Text) (id : Text) (rows : List Row) (found : Option (Text × List Row)) (text : Text)
    → first ≡ first_of id rows → option_map (λ p. p.1) found ≡ Some rows → value_in id found ≡ Some text → first ≡ Some text
value_found first id rows None text reads is value = absurd (cc)
value_found first id rows (Some p) text reads is value =
    let same : rows ≡ p.1 = cc in
    reads ∙ (ap (first_of id) same ∙ value)

-- two names that clap could find aren't both found
pub one_name : (found : Option (Text × List Row)) (a b : Text) → subcommand_in found ≡ Some a → subcommand_in found ≡ Some b → a ≡ b
one_name found a b first second = let e : Some a ≡ Some b = sym first ∙ second in cc

-- what is true of each mapped element
pub all_mapped : {X Y : Type 0} (P : Y → Type 0) (f : X → Y) (xs : List X) → All (λ x. P (f x)) xs → All P (map f xs)
all_mapped P f [] all = All-nil P
all_mapped P f (x ∷ xs) all = All-cons P (f x) (map f xs) (All-head (λ y. P (f y)) x xs all) (all_mapped P f xs (All-tail (λ y. P (f y)) x xs all))

pub all_unmapped : {X Y : Type 0} (P : Y → Type 0) (f : X → Y) (xs : List X) → All P (map f xs) → All (λ x. P (f x)) xs
all_unmapped P f [] all = All-nil (λ x. P (f x))
all_unmapped P f (x ∷ xs) all = All-cons (λ y. P (f y)) x xs (All-head P (f x) (map f xs) all) (all_unmapped P f xs (All-tail P (f x) (map f xs) all))

-- names of other lengths are other names
other_name : {name other : Text} (n m : ℕ) → length name ≡ n → length other ≡ m → (n ≡ m → ⊥) → name ≡ other → ⊥
other_name n m first second differ same = differ (sym first ∙ (ap length same ∙ second))

-- so no two commands have one name
pub no_create_run : codes "create" ≡ codes "run" → ⊥
no_create_run = other_name 6 3 refl refl (λ e. omega (arith, e))

pub no_create_check : codes "create" ≡ codes "check" → ⊥
no_create_check = other_name 6 5 refl refl (λ e. omega (arith, e))

pub no_run_check : codes "run" ≡ codes "check" → ⊥
no_run_check = other_name 3 5 refl refl (λ e. omega (arith, e))

-- two words aren't four
no_two_and_four : {words : List Text} {a b c d e f : Text} → words ≡ a ∷ b ∷ [] → words ≡ c ∷ d ∷ e ∷ f ∷ [] → ⊥
no_two_and_four {a = a} {b = b} {c = c} {d = d} {e = e} {f = f} two four =
    let same : a ∷ b ∷ [] ≡ c ∷ d ∷ e ∷ f ∷ [] = sym two ∙ four in
    absurd (omega (arith, ap length same))

-- the name in front of a file is one, and so is the file
one_command : {words : List Text} {name other file more : Text} → words ≡ name ∷ file ∷ [] → words ≡ other ∷ more ∷ [] → name ≡ other
one_command {name = name} {other = other} {file = file} {more = more} first second = let e : name ∷ file ∷ [] ≡ other ∷ more ∷ [] = sym first ∙ second in cc

one_file : {words : List Text} {name file other : Text} → words ≡ name ∷ file ∷ [] → words ≡ name ∷ other ∷ [] → file ≡ other
one_file {name = name} {file = file} {other = other} first second = let e : name ∷ file ∷ [] ≡ name ∷ other ∷ [] = sym first ∙ second in cc

-- words that spell none of the commands are no command line
no_line : (words : List Text) → (IsScratchLine words → ⊥) → ((path : Text) → IsRunFileLine words path → ⊥) → ((path : Text) → IsCheckLine words path → ⊥)
    → ((path : Text) (n m : ℕ) → IsCreateLine words path n m → ⊥) → IsNoLine words
no_line words no_run no_file no_check no_create RunScratch spelled = no_run spelled
no_line words no_run no_file no_check no_create (RunFile path) spelled = no_file path spelled
no_line words no_run no_file no_check no_create (CheckFile path) spelled = no_check path spelled
no_line words no_run no_file no_check no_create (CreateFile path n m) spelled = no_create path n m spelled

-- what the values behind `create` ask for, the words do
pub asks_create : (words : List Text) (found : Option (Text × List Row)) (asked : Option Command) (finds : FindsCreate words found)
    → AsksCreate finds.file finds.extents finds.pages asked → Asks words asked
asks_create words found None finds asks = no_line words (λ run. no_two_and_four run finds.are) (λ path line. no_two_and_four line.0 finds.are) (λ path line. no_two_and_four line.0 finds.are)
    (λ path n m line.
    let e : codes "create" ∷ finds.file ∷ finds.extents ∷ finds.pages ∷ [] ≡ codes "create" ∷ path ∷ line.extents_text ∷ line.pages_text ∷ [] = sym finds.are ∙ line.are in
    let file : finds.file ≡ path = cc in
    let extents : finds.extents ≡ line.extents_text = cc in
    let pages : finds.pages ≡ line.pages_text = cc in
    asks n m (rw (file, extents, pages) line.request))
asks_create words found (Some command.RunScratch) finds asks = absurd asks
asks_create words found (Some (command.RunFile path)) finds asks = absurd asks
asks_create words found (Some (command.Check path)) finds asks = absurd asks
asks_create words found (Some (command.Create path shape)) finds asks = record {
  extents_text = finds.extents;
  pages_text = finds.pages;
  are = rw asks.0 finds.are;
  request = rw asks.0 asks.1;
}

-- what the file behind `run` asks for, the words do
pub asks_run : (words : List Text) (found : Option (Text × List Row)) (asked : Option Command) (finds : FindsFile (codes "run") words found)
    → AsksRun finds.file asked → Asks words asked
asks_run words found None finds asks = no_line words (λ run. asks.0 (one_file finds.are run)) (λ path line. asks.1 (subst IsPath (one_file line.0 finds.are) line.1))
    (λ path line. no_run_check (one_command finds.are line.0)) (λ path n m line. no_two_and_four finds.are line.are)
asks_run words found (Some command.RunScratch) finds asks = finds.are ∙ ap (λ t. codes "run" ∷ t ∷ []) asks
asks_run words found (Some (command.RunFile path)) finds asks = (rw asks.0 finds.are, rw asks.0 asks.1)
asks_run words found (Some (command.Check path)) finds asks = absurd asks
asks_run words found (Some (command.Create path shape)) finds asks = absurd asks

-- what the file behind `check` asks for, the words do
pub asks_check : (words : List Text) (found : Option (Text × List Row)) (asked : Option Command) (finds : FindsFile (codes "check") words found)
    → AsksCheck finds.file asked → Asks words asked
asks_check words found None finds asks = no_line words (λ run. no_run_check (one_command run finds.are)) (λ path line. no_run_check (one_command line.0 finds.are))
    (λ path line. asks (subst IsPath (one_file line.0 finds.are) line.1)) (λ path n m line. no_two_and_four finds.are line.are)
asks_check words found (Some command.RunScratch) finds asks = absurd asks
asks_check words found (Some (command.RunFile path)) finds asks = absurd asks
asks_check words found (Some (command.Check path)) finds asks = (rw asks.0 finds.are, rw asks.0 asks.1)
asks_check words found (Some (command.Create path shape)) finds asks = absurd asks

-- a path is plain
path_plain : (word : Text) → IsPath word → IsPlain word
path_plain [] path = absurd path
path_plain (x ∷ xs) path = inl path

-- a numeral is plain
numeral_plain : (text : Text) (n : ℕ) → IsNumeral text n → IsPlain text
numeral_plain [] n number = absurd (omega (arith, number.some))
numeral_plain (x ∷ xs) n number =
    let digit = (tells_digits.parts x xs number.digits).0 in
    inl (λ e. absurd (omega (arith, digit, e)))

-- the words of a command line are plain
file_plain : (name file : Text) → IsPlain name → IsPlain file → All IsPlain (name ∷ file ∷ [])
file_plain name file first plain = All-cons IsPlain name (file ∷ []) first (All-cons IsPlain file [] plain (All-nil IsPlain))

run_plain : (file : Text) → IsPlain file → All IsPlain (codes "run" ∷ file ∷ [])
run_plain file plain = file_plain (codes "run") file (inl (λ e. absurd (omega (arith, e)))) plain

check_plain : (file : Text) → IsPlain file → All IsPlain (codes "check" ∷ file ∷ [])
check_plain file plain = file_plain (codes "check") file (inl (λ e. absurd (omega (arith, e)))) plain

create_plain : (path a b : Text) (n m : ℕ) → IsRequest path a b n m → All IsPlain (codes "create" ∷ path ∷ a ∷ b ∷ [])
create_plain path a b n m is = All-cons IsPlain (codes "create") (path ∷ a ∷ b ∷ []) (inl (λ e. absurd (omega (arith, e))))
    (All-cons IsPlain path (a ∷ b ∷ []) (path_plain path is.names)
    (All-cons IsPlain a (b ∷ []) (numeral_plain a n is.extents_written)
    (All-cons IsPlain b [] (numeral_plain b m is.pages_written) (All-nil IsPlain))))

-- words that aren't plain are no command line
pub no_line_unplain : (words : List Text) → (All IsPlain words → ⊥) → IsNoLine words
no_line_unplain words unplain = no_line words (λ run. unplain (subst (All IsPlain) (sym run) (run_plain (codes "-") (inr refl))))
    (λ path line. unplain (subst (All IsPlain) (sym line.0) (run_plain path (path_plain path line.1))))
    (λ path line. unplain (subst (All IsPlain) (sym line.0) (check_plain path (path_plain path line.1))))
    (λ path n m line. unplain (subst (All IsPlain) (sym line.are) (create_plain path line.extents_text line.pages_text n m line.request)))

-- where clap takes plain words, it finds what they say
pub parsed_finds : (app : App) (words : List Text) (found : Option (Text × List Row)) → app ≡ mdc_app → All IsPlain words
    → (is_simple_and_free app ≡ true → fault_of app words ≡ []) → (is_simple app ≡ true → found ≡ subcommand_of app words) → Finds words found
parsed_finds app words found same plain taken reads =
    let none : fault_of mdc_app words ≡ [] = ap (λ (a : App). fault_of a words) (sym same) ∙ taken (ap is_simple_and_free same ∙ mdc_is_free) in
    let is : found ≡ subcommand_of mdc_app words = reads (ap is_simple same ∙ mdc_is_simple) ∙ ap (λ (a : App). subcommand_of a words) same in
    subst (Finds words) (sym is) (taken_finds words plain none)

-- where clap refuses plain words, and not for want of memory, they don't have the form of a command line
pub refused_is_other : (app : App) (words : List Text) (k : ErrorKind) → app ≡ mdc_app → All IsPlain words
    → (is_simple_and_free app ≡ true → (k ≡ OutOfMemory) ⊎ IsAmong k (fault_of app words)) → (k ≡ OutOfMemory → ⊥) → IsSplit words → ⊥
refused_is_other app words k same plain fails other split =
    let none : fault_of app words ≡ [] = ap (λ (a : App). fault_of a words) same ∙ split_is_taken words plain split in
    elim (fails (ap is_simple_and_free same ∙ mdc_is_free)) [
      | inl memory ↦ other memory
      | inr among ↦ subst (IsAmong k) none among
    ]

-- words are one create line at most
pub record IsSameLine (path other : Text) (extents more extent_pages more_pages : ℕ) : Type 0 where
  pub same_path : path ≡ other
  pub same_extents : extents ≡ more
  pub same_pages : extent_pages ≡ more_pages

pub same_line : (words : List Text) (path other : Text) (n m k l : ℕ) → IsCreateLine words path n k → IsCreateLine words other m l → IsSameLine path other n m k l
same_line words path other n m k l first second =
    let e : codes "create" ∷ path ∷ first.extents_text ∷ first.pages_text ∷ [] ≡ codes "create" ∷ other ∷ second.extents_text ∷ second.pages_text ∷ [] = sym first.are ∙ second.are in
    let extents : first.extents_text ≡ second.extents_text = cc in
    let pages : first.pages_text ≡ second.pages_text = cc in
    record {
      same_path = cc;
      same_extents = first.request.extents_written.value ∙ (ap (digits_value 10) extents ∙ sym second.request.extents_written.value);
      same_pages = first.request.pages_written.value ∙ (ap (digits_value 10) pages ∙ sym second.request.pages_written.value);
    }

-- `-` behind `run` is no path
no_script_file : {words : List Text} {path : Text} → IsScratchLine words → IsRunFileLine words path → ⊥
no_script_file script file = subst IsPath (one_file file.0 script) file.1 refl

-- words spell one command line at most
pub one_line : (words : List Text) (line other : Line) → SpellsLine words line → SpellsLine words other → line ≡ other
one_line words RunScratch RunScratch first second = refl
one_line words RunScratch (RunFile path) first second = absurd (no_script_file first second)
one_line words RunScratch (CheckFile path) first second = absurd (no_run_check (one_command first second.0))
one_line words RunScratch (CreateFile path n m) first second = absurd (no_two_and_four first second.are)
one_line words (RunFile path) RunScratch first second = absurd (no_script_file second first)
one_line words (RunFile path) (RunFile other) first second = ap RunFile (one_file first.0 second.0)
one_line words (RunFile path) (CheckFile other) first second = absurd (no_run_check (one_command first.0 second.0))
one_line words (RunFile path) (CreateFile other n m) first second = absurd (no_two_and_four first.0 second.are)
one_line words (CheckFile path) RunScratch first second = absurd (no_run_check (one_command second first.0))
one_line words (CheckFile path) (RunFile other) first second = absurd (no_run_check (one_command second.0 first.0))
one_line words (CheckFile path) (CheckFile other) first second = ap CheckFile (one_file first.0 second.0)
one_line words (CheckFile path) (CreateFile other n m) first second = absurd (no_two_and_four first.0 second.are)
one_line words (CreateFile path n m) RunScratch first second = absurd (no_two_and_four second first.are)
one_line words (CreateFile path n m) (RunFile other) first second = absurd (no_two_and_four second.0 first.are)
one_line words (CreateFile path n m) (CheckFile other) first second = absurd (no_two_and_four second.0 first.are)
one_line words (CreateFile path n m) (CreateFile other k l) first second =
    let same = same_line words path other n k m l first second in
    rw (same.same_path, same.same_extents, same.same_pages) refl
