-- The verdict of one rule after another: the first that is broken, or that all hold.
use Rattle.std.specs.Prelude.{◌≡◌, ◌≤◌, ◌+◌, ℕ, IfOk, IsTrue, Option, Result, Some, None}
use Rattle.std.proofs.Common.{refl, sym, ap, subst, ◌∙◌, arith, inl, inr}
use Rattle.std.proofs.lemmas.Bool.{cases_lt}
use Rattle.std.proofs.lemmas.Option.{same_Some}
use Rattle.std.proofs.lemmas.Result.{IfOk-weaker}
use Rattle.mdc_words.proofs.FaultsLemmas.{counts_fault_as}
use Rattle.store_api.specs.Causes.{NoDamage}
use Rattle.store_api.specs.Frame.{NoPage}
use Rattle.store_api.specs.RunsOverPages.{RunsOverPages}
use Rattle.store_api.specs.declared.fault.Damage.{Damage}
use Rattle.store_api.specs.declared.fault.StoreFault.{StoreFault}
use Rattle.store_api.specs.declared.fault.StoreFault.TheVariants.{Damaged, Device}
use Rattle.store_api.specs.declared.pages.Pages.{Ghosts}
use Rattle.store_api.specs.declared.shape.Shape.{Shape}
use Rattle.store_api.proofs.RunsOverPagesLemmas.{runs_none, runs_on, runs_then, runs_wider}
use Rattle.table_trees.specs.ToldPages.{PageList}
use Rattle.mdc_sound.specs.Breaks.{BreaksRule, IsFirstBreak}
use Rattle.file_check.specs.Judging.{HoldsUnbroken, IsLowestBreak, Judges, JudgesRule}
use Rattle.file_check.specs.Kept.{NoneBreaksBefore}
use Rattle.file_check.specs.Looking.{AnyPage, Unless, UnlessTold}
use Rattle.file_check.specs.Verdicts.{IsVerdictOf}
use Rattle.file_check.specs.declared.verdict.Verdict.{Verdict}
use Rattle.file_check.proofs.UnlessLemmas.{runs_known}

-- ---- the numbers of rules

-- there are twelve
pub rule_within : (shape : Shape) (pages : PageList) (rule p : ℕ) → BreaksRule shape pages rule p → (1 ≤ rule) × (rule ≤ 12)
rule_within shape pages _ _ (BreaksRule.root none) = (omega arith, omega arith)
rule_within shape pages _ _ (BreaksRule.missing n p whole is behind before) = (omega arith, omega arith)
rule_within shape pages _ _ (BreaksRule.map_page i low none) = (omega arith, omega arith)
rule_within shape pages _ _ (BreaksRule.table t low some none) = (omega arith, omega arith)
rule_within shape pages _ _ (BreaksRule.root_outside t def place low defines is outside) = (omega arith, omega arith)
rule_within shape pages _ _ (BreaksRule.root_no_index t def place owners low defines is shows other) = (omega arith, omega arith)
rule_within shape pages _ _ (BreaksRule.table_name t u a b before low first second same) = (omega arith, omega arith)
rule_within shape pages _ _ (BreaksRule.index_name t u i j before first second same) = (omega arith, omega arith)
rule_within shape pages _ _ (BreaksRule.tree t def place low defines is none) = (omega arith, omega arith)
rule_within shape pages _ _ (BreaksRule.shared t u i j p first second apart) = (omega arith, omega arith)
rule_within shape pages _ _ (BreaksRule.in_none p owners shows used none) = (omega arith, omega arith)
rule_within shape pages _ _ (BreaksRule.outside t i p shows out) = (omega arith, omega arith)
rule_within shape pages _ _ (BreaksRule.not_used t i p owners tree shows not) = (omega arith, omega arith)
rule_within shape pages _ _ (BreaksRule.map_form t def low defines none) = (omega arith, omega arith)
rule_within shape pages _ _ (BreaksRule.map_past t def line shows past) = (omega arith, omega arith)
rule_within shape pages _ _ (BreaksRule.map_other t def line owners shows low holds other) = (omega arith, omega arith)
rule_within shape pages _ _ (BreaksRule.map_lacks t e def owners shows low holds is) = (omega arith, omega arith)
rule_within shape pages _ _ (BreaksRule.row_page t def line j shows low not) = (omega arith, omega arith)
rule_within shape pages _ _ (BreaksRule.row t def line placed shows there not) = (omega arith, omega arith)
rule_within shape pages _ _ (BreaksRule.used_count t def line shows not) = (omega arith, omega arith)
rule_within shape pages _ _ (BreaksRule.idle_count t def line shows not) = (omega arith, omega arith)
rule_within shape pages _ _ (BreaksRule.cell t def line shows not) = (omega arith, omega arith)
rule_within shape pages _ _ (BreaksRule.composite t def low defines none) = (omega arith, omega arith)
rule_within shape pages _ _ (BreaksRule.dimension t i root def dim low defines is at none) = (omega arith, omega arith)
rule_within shape pages _ _ (BreaksRule.record_index t def index low defines is none) = (omega arith, omega arith)
rule_within shape pages _ _ (BreaksRule.numbers t def shows) = (omega arith, omega arith)
rule_within shape pages _ _ (BreaksRule.unique t def index is shows) = (omega arith, omega arith)

module _ (shape : Shape) (pages : PageList) where
  -- none breaks a rule before the first, and where none breaks one of twelve, none is broken
  pub none_yet : NoneBreaksBefore shape pages 1
  none_yet = record { none = λ other p low broken. omega (arith, low, (rule_within shape pages other p broken).0) }

  pub none_at_all : NoneBreaksBefore shape pages 13 → (rule page : ℕ) → BreaksRule shape pages rule page → ⊥
  none_at_all before rule page broken = before.none rule page (omega (arith, (rule_within shape pages rule page broken).1)) broken

  -- one rule more
  pub none_next : (rule : ℕ) → NoneBreaksBefore shape pages rule → ((p : ℕ) → BreaksRule shape pages rule p → ⊥) → NoneBreaksBefore shape pages (rule + 1)
  none_next rule before here = record {
    none = λ other p low broken. elim (cases_lt other rule) [
      | inl early ↦ before.none other p early broken
      | inr late ↦ let same : other ≡ rule = omega (arith, low, late) in here p (subst (λ n. BreaksRule shape pages n p) same broken)
    ];
  }

  -- the first that is broken
  pub first_lowest : (rule page : ℕ) → NoneBreaksBefore shape pages rule → IsLowestBreak (BreaksRule shape pages rule) page → IsFirstBreak shape pages rule page
  first_lowest rule page before broken = record {
    breaks = broken.breaks;
    first = λ other p breaks. elim (cases_lt other rule) [ inl early ↦ absurd (before.none other p early breaks) | inr late ↦ late ];
    lowest = broken.lowest;
  }

  pub first_break : (rule : ℕ) (Holds : Type 0) (found : Option ℕ) (page : ℕ) → found ≡ Some page → NoneBreaksBefore shape pages rule → JudgesRule shape pages rule Holds found → IsFirstBreak shape pages rule page
  first_break rule Holds found page is before judged = first_lowest rule page before (subst (Judges Holds (BreaksRule shape pages rule)) is judged)

-- no page was found
pub holds_unbroken : (Holds : Type 0) (Breaks : ℕ → Type 0) (found : Option ℕ) → ((page : ℕ) → found ≡ Some page → ⊥) → Judges Holds Breaks found → HoldsUnbroken Holds Breaks
holds_unbroken Holds Breaks None none judged = judged
holds_unbroken Holds Breaks (Some page) none judged = absurd (none page refl)

-- ---- one judge after another

-- any pages
abbrev pub AnyPages : PageList → Type 0
AnyPages pages = Unit {0}

-- Judges changed no page, and where this was known before them, that is known behind them.
pub record Learns {S : Type 0} (g : Ghosts S) (Known Next : PageList → Type 0) (old now : S) : Type 0 where
  pub runs : RunsOverPages g NoPage AnyPage NoDamage old now None
  pub same : (g.state now).work ≡ (g.state old).work
  pub next : IsTrue (g.state old).is_told → Known (g.state old).work → Next (g.state old).work

module _ {S : Type 0} {g : Ghosts S} where
  -- none was asked yet
  pub learns_nothing : {Known : PageList → Type 0} {s : S} → Learns g Known Known s s
  learns_nothing = record { runs = runs_none; same = refl; next = λ told known. known }

  -- a judge behind others that ended well
  pub runs_judge : {First Second Breaks : Damage → Type 0} {old mid new : S} → RunsOverPages g NoPage AnyPage First old mid None → RunsOverPages g NoPage AnyPage Second mid new None
      → RunsOverPages g NoPage AnyPage Breaks old new None
  runs_judge first second = runs_then (runs_on first) (runs_on second) (λ p there mine. mine) (λ p is. is) (λ damage b. b)

  module _ {Known Next : PageList → Type 0} {old mid : S} (so_far : Learns g Known Next old mid) where
    -- what it says, of the pages as they were
    pub says_next : (Says : PageList → Type 0) → (IsTrue (g.state mid).is_told → Says (g.state mid).work) → IsTrue (g.state old).is_told → Known (g.state old).work
        → Next (g.state old).work × Says (g.state old).work
    says_next Says says told known = (so_far.next told known, subst Says so_far.same (says (so_far.runs.works.steady.is_told ∙ told)))

    -- and what is known by it
    pub learns_next : {Breaks : Damage → Type 0} {new : S} (Says More : PageList → Type 0) → RunsOverPages g NoPage AnyPage Breaks mid new None → (g.state new).work ≡ (g.state mid).work
        → (IsTrue (g.state mid).is_told → Says (g.state mid).work) → (Next (g.state old).work → Says (g.state old).work → More (g.state old).work) → Learns g Known More old new
    learns_next Says More run same says step = record {
      runs = runs_judge so_far.runs run;
      same = same ∙ so_far.same;
      next = λ told known. (let both = says_next Says says told known in step both.0 both.1);
    }

    -- nothing more is known by one that only ended well
    pub learns_on : {Breaks : Damage → Type 0} {new : S} → RunsOverPages g NoPage AnyPage Breaks mid new None → (g.state new).work ≡ (g.state mid).work → Learns g Known Next old new
    learns_on run same = record { runs = runs_judge so_far.runs run; same = same ∙ so_far.same; next = so_far.next }

    -- one that may have failed rests on what is known
    pub runs_next : {new : S} {fault : Option StoreFault} (Needs : PageList → Type 0) → (Next (g.state old).work → Needs (g.state old).work) → RunsOverPages g NoPage AnyPage (Unless g mid Needs) mid new fault
        → RunsOverPages g NoPage AnyPage (Unless g old Known) old new fault
    runs_next Needs enough run = runs_known Known Needs so_far.runs so_far.same (λ told known. enough (so_far.next told known)) run

    -- the verdict of the rules that are judged later
    pub verdict_behind : (shape : Shape) (result : Result Verdict StoreFault)
        → IfOk result (λ verdict. IsTrue (g.state mid).is_told → Next (g.state mid).work → IsVerdictOf shape (g.state mid).work verdict)
        → IfOk result (λ verdict. IsTrue (g.state old).is_told → Known (g.state old).work → IsVerdictOf shape (g.state old).work verdict)
    verdict_behind shape result later =
        IfOk-weaker result _ _ (λ verdict says told known. (let both = says_next (λ pages. Next pages → IsVerdictOf shape pages verdict) says told known in both.1 both.0)) later

  -- where nothing has to be known, damage is named of pages that aren't told alone
  pub runs_untold : {old new : S} {fault : Option StoreFault} → RunsOverPages g NoPage AnyPage (Unless g old AnyPages) old new fault → RunsOverPages g NoPage AnyPage (UnlessTold g old) old new fault
  runs_untold run = runs_wider run (λ p there mine. mine) (λ p is. is) (λ damage unless told. unless told tt)

  -- such damage is no fault of the store then
  pub damage_untold : {old new : S} (fault : StoreFault) (damage : Damage) → fault ≡ Damaged damage → RunsOverPages g NoPage AnyPage (UnlessTold g old) old new (Some fault) → IsTrue (g.state old).is_told → ⊥
  damage_untold fault damage is run told = run.cause.damaged damage (ap Some is) told

  pub runs_with_verdict : {Breaks : Damage → Type 0} {old new : S} (fault : StoreFault) (damage : Damage) → fault ≡ Damaged damage → RunsOverPages g NoPage AnyPage Breaks old new (Some fault)
      → RunsOverPages g NoPage AnyPage NoDamage old new None
  runs_with_verdict fault damage is run = record {
    works = run.works;
    touches = run.touches;
    brings = run.brings;
    cause = record {
      device = counts_fault_as (λ device. absurd (cc)) (λ device. let same : Damaged damage ≡ Device = sym is ∙ same_Some fault Device device in absurd (cc)) run.cause.device;
      damaged = λ other none. absurd (cc);
    };
  }

  -- and any other fault is handed on
  pub runs_handed_on : {Breaks : Damage → Type 0} {old new : S} (fault other : StoreFault) → fault ≡ other → ((damage : Damage) → other ≡ Damaged damage → ⊥)
      → RunsOverPages g NoPage AnyPage Breaks old new (Some fault) → RunsOverPages g NoPage AnyPage NoDamage old new (Some other)
  runs_handed_on {old = old} {new = new} fault other is not run =
      subst (λ f. RunsOverPages g NoPage AnyPage NoDamage old new (Some f)) is
      (record {
        works = run.works;
        touches = run.touches;
        brings = run.brings;
        cause = record { device = run.cause.device; damaged = λ damage named. not damage (sym is ∙ same_Some fault (Damaged damage) named) };
      })
