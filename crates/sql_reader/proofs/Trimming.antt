-- Each piece has one statement, or none.
use Rattle.std.proofs.Common.{◌≡◌, ◌≢◌, inl, inr, ℕ, true, false, IsTrue, List, [], ◌∷◌, ◌++◌, ◌<◌, ◌≤◌, ◌+◌, ◌-◌, length, take, drop, slice_range, arith, length-append, length-drop, append_assoc, refl, sym, ap, ◌∙◌, subst}
use Rattle.std.proofs.Math.Seq.{drop-append_seam, take-length}
use Rattle.std.proofs.lemmas.List.{append-nil, take_all}
use Rattle.std.proofs.lemmas.Bool.{cases_eq, cases_Bool, both_ways}
use Rattle.mdc_ast.specs.Cutting.{Lacks, BeginsWith, BeginsNoComment, is_blank, Trims}
use Rattle.sql_reader.specs.Standing.{BeginsStatement, StandsFor}
use Rattle.sql_reader.specs.Trim.{IsComment, IsLead, IsOpenComment, StandsBehindLine}
use Rattle.sql_reader.proofs.Pieces.{heads, tails}

-- nothing has no statement
nothing_trims : {statement : List ℕ} → Trims [] statement → statement ≡ []
nothing_trims Trims.nothing = refl

-- a dash is no blank
dash_no_blank : (b : ℕ) → IsTrue (is_blank b) → b ≡ 45 → ⊥
dash_no_blank b blank e = both_ways (is_blank 45) refl (subst (λ x. IsTrue (is_blank x)) e blank)

-- two dashes begin a comment
dashes_begin : (b : ℕ) (rest behind : List ℕ) → BeginsNoComment b rest → b ∷ rest ≡ 45 ∷ 45 ∷ behind → ⊥
dashes_begin b rest behind no_comment e = no_comment (heads e) (subst (BeginsWith 45) (sym (tails e)) refl)

-- the first line feed is at one place
one_line : (inside other rest behind : List ℕ) → Lacks 10 inside → Lacks 10 other → inside ++ 10 ∷ rest ≡ other ++ 10 ∷ behind → rest ≡ behind
one_line [] [] rest behind a b e = tails e
one_line [] (c ∷ other) rest behind a b e = absurd (b.0 (sym (heads e)))
one_line (c ∷ inside) [] rest behind a b e = absurd (a.0 (heads e))
one_line (c ∷ inside) (d ∷ other) rest behind a b e = one_line inside other rest behind a.1 b.1 (tails e)

-- bytes with a line feed don't lack it
has_line : (inside rest : List ℕ) → Lacks 10 (inside ++ 10 ∷ rest) → ⊥
has_line [] rest lacks = lacks.0 refl
has_line (b ∷ inside) rest lacks = has_line inside rest lacks.1

-- behind a blank
behind_blank : {bytes statement : List ℕ} → Trims bytes statement → (b : ℕ) (rest : List ℕ) → bytes ≡ b ∷ rest → IsTrue (is_blank b) → Trims rest statement
behind_blank Trims.nothing b rest e blank = absurd (cc)
behind_blank (Trims.blank {statement = statement} _ trims) b rest e blank = subst (λ r. Trims r statement) (tails e) trims
behind_blank (Trims.comment inside behind lacks trims e') b rest e blank = absurd (dash_no_blank b blank (sym (heads e)))
behind_blank (Trims.open_comment lacks) b rest e blank = absurd (dash_no_blank b blank (sym (heads e)))
behind_blank (Trims.statement {b = c} not_blank no_comment) b rest e blank = absurd (both_ways (is_blank c) not_blank (subst (λ x. IsTrue (is_blank x)) (sym (heads e)) blank))

-- behind a comment
behind_comment : {bytes statement : List ℕ} → Trims bytes statement → (inside rest : List ℕ) → bytes ≡ 45 ∷ 45 ∷ (inside ++ 10 ∷ rest) → Lacks 10 inside → Trims rest statement
behind_comment Trims.nothing inside rest e lacks = absurd (cc)
behind_comment (Trims.blank {b = b} blank trims) inside rest e lacks = absurd (dash_no_blank b blank (heads e))
behind_comment (Trims.comment {statement = statement} other behind without trims e') inside rest e lacks =
    subst (λ r. Trims r statement) (one_line other inside behind rest without lacks (sym e' ∙ tails (tails e))) trims
behind_comment (Trims.open_comment without) inside rest e lacks = absurd (has_line inside rest (subst (Lacks 10) (tails (tails e)) without))
behind_comment (Trims.statement {b = b} {rest = behind} not_blank no_comment) inside rest e lacks = absurd (dashes_begin b behind (inside ++ 10 ∷ rest) no_comment e)

-- an open comment has no statement
in_open_comment : {bytes statement : List ℕ} → Trims bytes statement → (inside : List ℕ) → bytes ≡ 45 ∷ 45 ∷ inside → Lacks 10 inside → statement ≡ []
in_open_comment Trims.nothing inside e lacks = refl
in_open_comment (Trims.blank {b = b} blank trims) inside e lacks = absurd (dash_no_blank b blank (heads e))
in_open_comment (Trims.comment other behind without trims e') inside e lacks = absurd (has_line other behind (subst (Lacks 10) (sym (tails (tails e)) ∙ e') lacks))
in_open_comment (Trims.open_comment without) inside e lacks = refl
in_open_comment (Trims.statement {b = b} {rest = behind} not_blank no_comment) inside e lacks = absurd (dashes_begin b behind inside no_comment e)

-- a statement begins where no blank and no comment does
at_statement : {bytes statement : List ℕ} → Trims bytes statement → (b : ℕ) (rest : List ℕ) → bytes ≡ b ∷ rest → is_blank b ≡ false → BeginsNoComment b rest → statement ≡ b ∷ rest
at_statement Trims.nothing b rest e not_blank no_comment = absurd (cc)
at_statement (Trims.blank {b = c} blank trims) b rest e not_blank no_comment = absurd (both_ways (is_blank b) not_blank (subst (λ x. IsTrue (is_blank x)) (heads e) blank))
at_statement (Trims.comment {bytes = bytes} inside behind lacks trims e') b rest e not_blank no_comment = absurd (dashes_begin b rest bytes no_comment (sym e))
at_statement (Trims.open_comment {inside = inside} lacks) b rest e not_blank no_comment = absurd (dashes_begin b rest inside no_comment (sym e))
at_statement (Trims.statement _ _) b rest e not_blank no_comment = e

-- a piece has one statement
pub one_trims : {piece statement other : List ℕ} → Trims piece statement → Trims piece other → other ≡ statement
one_trims Trims.nothing other = nothing_trims other
one_trims (Trims.blank {b = b} {rest = rest} blank trims) other = one_trims trims (behind_blank other b rest refl blank)
one_trims (Trims.comment inside rest lacks trims e) other = one_trims trims (behind_comment other inside rest (ap (λ l. 45 ∷ 45 ∷ l) e) lacks)
one_trims (Trims.open_comment {inside = inside} lacks) other = in_open_comment other inside refl lacks
one_trims (Trims.statement {b = b} {rest = rest} not_blank no_comment) other = at_statement other b rest refl not_blank no_comment

-- one byte more in a comment
comment_on : {bytes statement : List ℕ} → Trims bytes statement → (b : ℕ) (rest : List ℕ) → bytes ≡ 45 ∷ 45 ∷ rest → b ≢ 10 → Trims (45 ∷ 45 ∷ b ∷ rest) statement
comment_on Trims.nothing b rest e n = absurd (cc)
comment_on (Trims.blank {b = c} blank trims) b rest e n = absurd (dash_no_blank c blank (heads e))
comment_on (Trims.comment inside behind lacks trims e') b rest e n = Trims.comment (b ∷ inside) behind (n, lacks) trims (ap (λ l. b ∷ l) (sym (tails (tails e)) ∙ e'))
comment_on (Trims.open_comment lacks) b rest e n = Trims.open_comment (n, subst (Lacks 10) (tails (tails e)) lacks)
comment_on (Trims.statement {b = c} {rest = behind} not_blank no_comment) b rest e n = absurd (dashes_begin c behind rest no_comment e)

-- the statements of the bytes, of the bytes behind a dash and of the bytes in a comment
record SomeTrims (bytes : List ℕ) : Type 0 where
  pub plain : (statement : List ℕ) × Trims bytes statement
  pub dash : (statement : List ℕ) × Trims (45 ∷ bytes) statement
  pub comment : (statement : List ℕ) × Trims (45 ∷ 45 ∷ bytes) statement

-- one byte more in front
plain_more : (b : ℕ) (bytes : List ℕ) → SomeTrims bytes → (statement : List ℕ) × Trims (b ∷ bytes) statement
plain_more b bytes more = elim (cases_Bool (is_blank b)) [
  | inl blank ↦ (more.plain.0, Trims.blank blank more.plain.1)
  | inr not_blank ↦ elim (cases_eq b 45) [
    | inl e ↦ (more.dash.0, subst (λ x. Trims (x ∷ bytes) more.dash.0) (sym e) more.dash.1)
    | inr not_dash ↦ (b ∷ bytes, Trims.statement not_blank (λ dash _. not_dash dash))
  ]
]

-- the same behind a dash
dash_more : (b : ℕ) (bytes : List ℕ) → SomeTrims bytes → (statement : List ℕ) × Trims (45 ∷ b ∷ bytes) statement
dash_more b bytes more = elim (cases_eq b 45) [
  | inl e ↦ (more.comment.0, subst (λ x. Trims (45 ∷ x ∷ bytes) more.comment.0) (sym e) more.comment.1)
  | inr not_dash ↦ (45 ∷ b ∷ bytes, Trims.statement refl (λ _ dash. not_dash dash))
]

-- the same in a comment
some_comment_more : (b : ℕ) (bytes : List ℕ) → SomeTrims bytes → (statement : List ℕ) × Trims (45 ∷ 45 ∷ b ∷ bytes) statement
some_comment_more b bytes more = elim (cases_eq b 10) [
  | inl e ↦ (more.plain.0, Trims.comment [] bytes tt more.plain.1 (ap (λ x. x ∷ bytes) e))
  | inr not_line ↦ (more.comment.0, comment_on more.comment.1 b bytes refl not_line)
]

-- they have statements
all_trims : (bytes : List ℕ) → SomeTrims bytes
all_trims [] = record {
  plain = ([], Trims.nothing);
  dash = (45 ∷ [], Trims.statement refl (λ _ h. h));
  comment = ([], Trims.open_comment tt);
}
all_trims (b ∷ bytes) = let more = all_trims bytes in record {
  plain = plain_more b bytes more;
  dash = dash_more b bytes more;
  comment = some_comment_more b bytes more;
}

-- each piece has a statement, which may be empty
pub some_trims : (piece : List ℕ) → (statement : List ℕ) × Trims piece statement
some_trims piece = (all_trims piece).plain

-- what stands behind the two dashes of a comment
pub comment_bytes : (bytes : List ℕ) → IsComment bytes → bytes ≡ 45 ∷ 45 ∷ drop 2 bytes
comment_bytes [] is = absurd (omega (arith, is.0))
comment_bytes (b ∷ []) is = absurd (omega (arith, is.0))
comment_bytes (b ∷ c ∷ bytes) is =
    let h0 : b ≡ 45 = is.1 in
    let h1 : c ≡ 45 = is.2 in
    cc

-- bytes that aren't a comment begin none
pub no_comment : (bytes : List ℕ) (b : ℕ) (rest : List ℕ) → (IsComment bytes → ⊥) → bytes ≡ b ∷ rest → BeginsNoComment b rest
no_comment bytes b [] isnt e dash h = h
no_comment bytes b (c ∷ rest) isnt e dash h =
    let two : 1 < length (b ∷ c ∷ rest) = omega arith in
    isnt (subst IsComment (sym e) (two, dash, h))

-- the slice from an index on is what is left there
pub slice_from : (n : ℕ) (bytes : List ℕ) → take (length bytes - n) (drop n bytes) ≡ drop n bytes
slice_from n bytes = take_all (length bytes - n) (drop n bytes) (simp length-drop (omega arith))

-- a byte more before a line feed
pub line_more : (b : ℕ) (bytes behind : List ℕ) → b ≢ 10 → StandsBehindLine bytes behind → StandsBehindLine (b ∷ bytes) behind
line_more b bytes behind n (inside, lacks, e) = (b ∷ inside, (n, lacks), ap (λ l. b ∷ l) e)

-- bytes stand for themselves
pub stands_itself : (bytes : List ℕ) → StandsFor bytes bytes
stands_itself bytes rest statement trims = trims

-- and what stands for what stands for them does
pub stands_then : (bytes between kept : List ℕ) → StandsFor bytes between → StandsFor between kept → StandsFor bytes kept
stands_then bytes between kept first second rest statement trims = first rest statement (second rest statement trims)

-- where nothing follows, they have the statement of what stands for them
pub stands_whole : (bytes kept statement : List ℕ) → StandsFor bytes kept → Trims kept statement → Trims bytes statement
stands_whole bytes kept statement stands trims =
    subst (λ l. Trims l statement) (append-nil bytes) (stands [] statement (subst (λ l. Trims l statement) (sym (append-nil kept)) trims))

-- more bytes follow
pub stands_more : (bytes kept more : List ℕ) → StandsFor bytes kept → StandsFor (bytes ++ more) (kept ++ more)
stands_more bytes kept more stands rest statement trims =
    subst (λ l. Trims l statement) (sym (append_assoc bytes more rest)) (stands (more ++ rest) statement (subst (λ l. Trims l statement) (append_assoc kept more rest) trims))

-- what is behind a blank stands for all
pub behind_blank_stands : (bytes : List ℕ) (b : ℕ) (behind : List ℕ) → bytes ≡ b ∷ behind → is_blank b ≡ true → StandsFor bytes behind
behind_blank_stands bytes b behind e blank rest statement trims = subst (λ l. Trims (l ++ rest) statement) (sym e) (Trims.blank blank trims)

-- and so does what is behind a comment
pub behind_comment_stands : (bytes behind : List ℕ) → IsComment bytes → StandsBehindLine (take (length bytes - 2) (drop 2 bytes)) behind → StandsFor bytes behind
behind_comment_stands bytes behind is (inside, lacks, e) rest statement trims =
    let inner : drop 2 bytes ≡ inside ++ 10 ∷ behind = sym (slice_from 2 bytes) ∙ e in
    let whole : bytes ≡ 45 ∷ 45 ∷ (inside ++ 10 ∷ behind) = comment_bytes bytes is ∙ ap (λ l. 45 ∷ 45 ∷ l) inner in
    subst (λ l. Trims (l ++ rest) statement) (sym whole) (Trims.comment inside (behind ++ rest) lacks trims (append_assoc inside (10 ∷ behind) rest))

-- what is behind a comment is shorter
pub behind_comment_shorter : (bytes behind : List ℕ) → IsComment bytes → StandsBehindLine (take (length bytes - 2) (drop 2 bytes)) behind → length behind < length bytes
behind_comment_shorter bytes behind is (inside, lacks, e) =
    let inner : drop 2 bytes ≡ inside ++ 10 ∷ behind = sym (slice_from 2 bytes) ∙ e in
    let long : length (inside ++ 10 ∷ behind) ≡ length inside + length (10 ∷ behind) = length-append inside (10 ∷ behind) in
    let one : length (10 ∷ behind) ≡ length behind + 1 = omega arith in
    let all : length (drop 2 bytes) ≡ length bytes - 2 = length-drop 2 bytes in
    omega (arith, is.0, ap length inner, long, one, all)

-- bytes in an open comment may be left out
in_comment : (inside rest : List ℕ) {statement : List ℕ} → Lacks 10 inside → Trims (45 ∷ 45 ∷ rest) statement → Trims (45 ∷ 45 ∷ (inside ++ rest)) statement
in_comment [] rest lacks trims = trims
in_comment (b ∷ inside) rest lacks trims = comment_on (in_comment inside rest lacks.1 trims) b (inside ++ rest) refl lacks.0

-- the dashes of an open comment stand for it
pub dashes_stand : (bytes : List ℕ) → IsOpenComment bytes → StandsFor bytes (take 2 bytes)
dashes_stand bytes (inside, e, lacks) =
    subst (λ l. StandsFor l (take 2 l)) (sym e) (λ rest statement trims. in_comment inside rest lacks trims)

-- a lead that begins with two dashes is an open comment
pub lead_open : (bytes : List ℕ) → IsLead bytes → IsComment bytes → IsOpenComment bytes
lead_open bytes (inl none) is = absurd (omega (arith, is.0, ap length none))
lead_open bytes (inr (inl (b, rest, e, not_blank, plain))) is = absurd (dashes_begin b rest (drop 2 bytes) plain (sym e ∙ comment_bytes bytes is))
lead_open bytes (inr (inr is_open)) is = is_open

-- and its piece has no statement
pub lead_none : (bytes : List ℕ) → IsLead bytes → IsComment bytes → Trims bytes []
lead_none bytes lead is =
    let o = lead_open bytes lead is in
    subst (λ l. Trims l []) (sym o.1) (Trims.open_comment o.2)

-- an open comment begins with two dashes
open_begins : (bytes : List ℕ) → IsOpenComment bytes → IsComment bytes
open_begins bytes (inside, e, lacks) = subst IsComment (sym e) (omega arith, refl, refl)

-- any other lead is its piece's statement
pub lead_trims : (bytes : List ℕ) → IsLead bytes → (IsComment bytes → ⊥) → Trims bytes bytes
lead_trims bytes (inl none) isnt = subst (λ l. Trims l l) (sym none) Trims.nothing
lead_trims bytes (inr (inl (b, rest, e, not_blank, plain))) isnt = subst (λ l. Trims l l) (sym e) (Trims.statement not_blank plain)
lead_trims bytes (inr (inr is_open)) isnt = absurd (isnt (open_begins bytes is_open))

-- whatever follows two bytes of a statement, it begins with them
first_begins : (b : ℕ) (rest : List ℕ) → is_blank b ≡ false → BeginsNoComment b rest → 2 < length (b ∷ rest) → BeginsStatement (b ∷ rest)
first_begins b [] not_blank plain two = absurd (omega (arith, two))
first_begins b (c ∷ rest) not_blank plain two = λ more. Trims.statement not_blank plain

-- so does a lead of more than two bytes, where it is no comment
pub lead_begins : (bytes : List ℕ) → IsLead bytes → (IsComment bytes → ⊥) → 2 < length bytes → BeginsStatement bytes
lead_begins bytes (inl none) isnt two = absurd (omega (arith, two, ap length none))
lead_begins bytes (inr (inl (b, rest, e, not_blank, plain))) isnt two =
    subst BeginsStatement (sym e) (first_begins b rest not_blank plain (subst (λ l. 2 < length l) e two))
lead_begins bytes (inr (inr is_open)) isnt two = absurd (isnt (open_begins bytes is_open))

-- the bytes of a suffix stand where it begins
pub suffix_slice : (bytes front suffix : List ℕ) (n : ℕ) → bytes ≡ front ++ suffix → slice_range bytes (length bytes - length suffix) (length bytes - length suffix + n) ≡ take n suffix
suffix_slice bytes front suffix n e =
    let begin : length bytes - length suffix ≡ length front = omega (arith, ap length e, length-append front suffix) in
    let count : length bytes - length suffix + n - (length bytes - length suffix) ≡ n = omega arith in
    ap (λ k. take k (drop (length bytes - length suffix) bytes)) count
    ∙ ap (take n) (ap (λ k. drop k bytes) begin ∙ (ap (drop (length front)) e ∙ drop-append_seam front suffix))

-- all of them, up to the end
pub suffix_rest : (bytes front suffix : List ℕ) → bytes ≡ front ++ suffix → slice_range bytes (length bytes - length suffix) (length bytes) ≡ suffix
suffix_rest bytes front suffix e =
    let fits : length suffix ≤ length bytes = omega (arith, ap length e, length-append front suffix) in
    let end : length bytes ≡ length bytes - length suffix + length suffix = omega (arith, fits) in
    ap (slice_range bytes (length bytes - length suffix)) end ∙ (suffix_slice bytes front suffix (length suffix) e ∙ take-length suffix)

-- a suffix is no longer than all
pub suffix_fits : (bytes front suffix : List ℕ) → bytes ≡ front ++ suffix → length suffix ≤ length bytes
suffix_fits bytes front suffix e = omega (arith, ap length e, length-append front suffix)

-- a suffix behind one byte more
pub suffix_more : (whole bytes front : List ℕ) (b : ℕ) (behind : List ℕ) → whole ≡ front ++ bytes → bytes ≡ b ∷ behind → (before : List ℕ) × (whole ≡ before ++ behind)
suffix_more whole bytes front b behind e is =
    (front ++ b ∷ [], e ∙ (ap (λ l. front ++ l) is ∙ sym (append_assoc front (b ∷ []) behind)))

-- a suffix behind a comment
pub suffix_comment : (whole bytes front behind : List ℕ) → whole ≡ front ++ bytes → IsComment bytes → StandsBehindLine (take (length bytes - 2) (drop 2 bytes)) behind → (before : List ℕ) × (whole ≡ before ++ behind)
suffix_comment whole bytes front behind e is (inside, lacks, f) =
    let inner : drop 2 bytes ≡ inside ++ 10 ∷ behind = sym (slice_from 2 bytes) ∙ f in
    let all : bytes ≡ 45 ∷ 45 ∷ (inside ++ 10 ∷ behind) = comment_bytes bytes is ∙ ap (λ l. 45 ∷ 45 ∷ l) inner in
    let line : List ℕ = 45 ∷ 45 ∷ (inside ++ 10 ∷ []) in
    let same : 45 ∷ 45 ∷ (inside ++ 10 ∷ behind) ≡ line ++ behind = ap (λ l. 45 ∷ 45 ∷ l) (sym (append_assoc inside (10 ∷ []) behind)) in
    (front ++ line, e ∙ (ap (λ l. front ++ l) (all ∙ same) ∙ sym (append_assoc front line behind)))
