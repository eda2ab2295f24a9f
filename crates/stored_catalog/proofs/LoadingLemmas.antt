-- The table pages, read one after the other into the places of a catalog.
use Rattle.std.proofs.Common.{◌≡◌, ◌<◌, ◌+◌, ◌∙◌, ℕ, zero, suc, List, [], ◌∷◌, Option, Some, None, Ok, length, true, inl, inr, refl, ap, arith, sym, subst, length-set, replicate}
use Rattle.std.specs.Prelude.{IsTrue, option_and_then, slice_get, slice_set}
use Rattle.std.specs.List.{AllZip, position_from, range_with_len}
use Rattle.std.proofs.lemmas.Bool.{cases_Bool, cases_eq}
use Rattle.std.proofs.lemmas.Option.{option_and_then_some, same_Some, slice_get_within}
use Rattle.std.proofs.lemmas.Slice.Eq.{bytes_eq-Decides}
use Rattle.mdc_words.proofs.PlacesLemmas.{slice_get-set_other, slice_get-set_same}
use Rattle.mdc_ast.specs.declared.definition.TableDef.{TableDef}
use Rattle.mdc_ast.specs.declared.name.Name.{Name}
use Rattle.mdc_ast.specs.ValidDatabase.{AllDefsDiffer}
use Rattle.mdc_ast.specs.Definitions.{Definitions, def_at, def_named, is_defined, is_same, no_tables, place_of, with_def}
use Rattle.mdc_ast.proofs.DefinitionsLemmas.{differ_put, emptied_too, none_named}
use Rattle.catalog.proofs.PlacesLemmas.{position_from-least}
use Rattle.store_api.specs.Frame.{NoPage, OnlyPage}
use Rattle.store_api.specs.RunsOverPages.{RunsOverPages}
use Rattle.store_api.specs.declared.fault.Damage.{Damage}
use Rattle.store_api.specs.declared.fault.StoreFault.{StoreFault}
use Rattle.store_api.specs.declared.fault.StoreFault.TheVariants.{Damaged}
use Rattle.store_api.specs.declared.pages.Pages.{Ghosts}
use Rattle.store_api.proofs.RunsOverPagesLemmas.{runs_damage, runs_then}
use Rattle.table_page.specs.PageAnswers.{TellsTable}
use Rattle.table_page.specs.TablePage.{IsTablePageOf}
use Rattle.mdc_ast.specs.TableLimits.{IsTableDef}
use Rattle.table_trees.specs.ToldPages.{PageList}
use Rattle.mdc_sound.specs.TablePages.{table_page_at}
use Rattle.mdc_sound.proofs.SpaceRulesLemmas.{range_each}
use Rattle.stored_catalog.specs.StoredDefinitions.{BreaksTablePage, BreaksTablePages, IsAnyTablePage, IsNameTaken, IsNameTwice, IsStoredPlace, IsWithinLimits}

-- ---- one page

-- what a table page was found to have is stored there
pub found_stored : (pages : PageList) (t : ℕ) (page : List ℕ) (def : Option TableDef) → page ≡ table_page_at pages t → TellsTable t page (Ok def) → IsStoredPlace pages t def
found_stored pages t page None same tells = sym same ∙ tells
found_stored pages t page (Some def) same tells = subst (λ p. IsTablePageOf t def p) same tells

-- a definition that has the number of its place is put there as it is
with_number : (t : ℕ) (def : TableDef) → def.number ≡ t → record def { number = t } ≡ def
with_number t def is = subst (λ n. record def { number = n } ≡ def) is refl

pub put_as_it_is : (defs : Definitions) (t : ℕ) (def : TableDef) → IsTableDef t def → with_def defs t def ≡ slice_set defs t (Some def)
put_as_it_is defs t def limits = ap (λ d. slice_set defs t (Some d)) (with_number t def limits.stands)

-- ---- names

-- names of the same bytes are one
pub one_name : (a b : Name) → is_same a b ≡ true → a ≡ b
one_name a b same = ap name_with ((bytes_eq-Decides a.0 b.0).0 same)
  where
    name_with : List ℕ → Name
    name_with bytes = record { 0 = bytes }

-- the definition at the place that a name is found at has that name
found_named : (name : Name) (defs : Definitions) (from i n : ℕ) (def : TableDef) → n ≡ from + i → position_from (is_defined name) from defs ≡ Some n → def_at defs i ≡ Some def → is_same def.name name ≡ true
found_named name [] from i n def is found at = cc
found_named name (None ∷ defs) from zero n def is found at = cc
found_named name (Some first ∷ defs) from zero n def is found at = elim (cases_Bool (is_same first.name name)) [
  | inl hit ↦ subst (λ d. is_same d.name name ≡ true) (same_Some first def at) hit
  | inr miss ↦ absurd (omega (arith, is, position_from-least (is_defined name) (from + 1) defs n (rw miss at found)))
]
found_named name (first ∷ defs) from (suc i) n def is found at = elim (cases_Bool (is_defined name first)) [
  | inl hit ↦ absurd (omega (arith, is, same_Some from n (rw hit at found)))
  | inr miss ↦ found_named name defs (from + 1) i n def (omega (arith, is)) (rw miss at found) at
]

-- a name that a table has already
pub name_taken : (defs : Definitions) (place : Option TableDef) (def holder : TableDef) (n : ℕ) → place ≡ Some def → def_named defs def.name ≡ Some holder → place_of defs def.name ≡ Some holder.number
    → n ≡ holder.number → IsNameTaken defs place (Damaged (record { page = 1 + n; rule = 3 }))
name_taken defs place def holder n is found at same =
    let stands : def_at defs n ≡ Some holder = ap (def_at defs) same ∙ (sym (ap (option_and_then (def_at defs)) at) ∙ found) in record {
      place = n;
      holder = holder;
      mine = def;
      stands = stands;
      is_mine = is;
      same = inl (one_name holder.name def.name (found_named def.name defs 0 n n holder (omega arith) (at ∙ ap Some (sym same)) stands));
      names = refl;
    }

-- a definition whose name none has may be put into any place
pub differ_put_new : (defs : Definitions) (t : ℕ) (def : TableDef) → place_of defs def.name ≡ None → AllDefsDiffer defs → AllDefsDiffer (slice_set defs t (Some def))
differ_put_new defs t def none differ = differ_put defs t (Some def) differ (emptied_too def.name defs t (none_named def.name defs 0 none))

-- ---- the places so far

-- of 16 places, this holds of the first n, and no definition stands in a later one
pub record HoldsBefore (P : ℕ → Option TableDef → Type 0) (n : ℕ) (defs : Definitions) : Type 0 where
  pub count : length defs ≡ 16
  pub each : (u : ℕ) (def : Option TableDef) → u < n → slice_get defs u ≡ Some def → P u def
  pub low : (u : ℕ) (def : TableDef) → slice_get defs u ≡ Some (Some def) → u < n

-- no definition stands among empty places
empty_at : (n u : ℕ) (def : TableDef) → slice_get (replicate n None) u ≡ Some (Some def) → ⊥
empty_at zero u def at = cc
empty_at (suc n) zero def at = cc
empty_at (suc n) (suc u) def at = empty_at n u def at

-- of none
pub holds_of_none : (P : ℕ → Option TableDef → Type 0) → HoldsBefore P 0 no_tables
holds_of_none P = record { count = refl; each = λ u def low at. absurd (omega (arith, low)); low = λ u def at. absurd (empty_at 16 u def at) }

-- of one more, which was put there
pub holds_of_more : (P : ℕ → Option TableDef → Type 0) (n : ℕ) (defs : Definitions) (def : Option TableDef) → n < 16 → HoldsBefore P n defs → P n def → HoldsBefore P (n + 1) (slice_set defs n def)
holds_of_more P n defs def few before is = record {
  count = length-set defs n def ∙ before.count;
  each = λ u other low at. elim (cases_eq u n) [
    | inl e ↦
        let same : def ≡ other = same_Some def other (sym (slice_get-set_same defs n def (omega (arith, few, before.count))) ∙ (ap (slice_get (slice_set defs n def)) (sym e) ∙ at)) in
        subst (λ v. P v other) (sym e) (subst (P n) same is)
    | inr apart ↦ before.each u other (omega (arith, low, apart)) (sym (slice_get-set_other defs n def u apart) ∙ at)
  ];
  low = λ u other at. elim (cases_eq u n) [
    | inl e ↦ omega (arith, e)
    | inr apart ↦ omega (arith, before.low u other (sym (slice_get-set_other defs n def u apart) ∙ at))
  ];
}

-- and of all
pub holds_of_all : (P : ℕ → Option TableDef → Type 0) (n : ℕ) (defs : Definitions) → n ≡ 16 → HoldsBefore P n defs → AllZip P (range_with_len 0 16) defs
holds_of_all P n defs all before = range_each P 0 16 defs before.count (λ i def at.
    let place : i ≡ 0 + i = omega arith in subst (λ u. P u def) place (before.each i def (omega (arith, all, before.count, slice_get_within defs i def at)) at))

-- ---- runs

module _ {S : Type 0} {g : Ghosts S} where
  -- damage of a table page that no call changed was there before
  breaks_before : {old mid : S} (t : ℕ) (damage : Damage) → (g.state mid).work ≡ (g.state old).work → RunsOverPages g NoPage IsAnyTablePage (BreaksTablePages g old) old mid None
      → BreaksTablePage g mid t damage → BreaksTablePage g old t damage
  breaks_before t damage same run (inl lacks) = inl (record { page = lacks.page; rule = lacks.rule; short = omega (arith, lacks.short, ap length same) })
  breaks_before t damage same run (inr none) = inr (record { page = none.page; rule = none.rule; no_table = λ bytes holds. none.no_table bytes (run.touches.others (1 + t) bytes (λ mine. mine) holds) })

  -- one table page more
  pub runs_over_page : {old mid new : S} {fault : Option StoreFault} (t : ℕ) → t < 16 → (g.state mid).work ≡ (g.state old).work → RunsOverPages g NoPage IsAnyTablePage (BreaksTablePages g old) old mid None
      → RunsOverPages g NoPage (OnlyPage (1 + t)) (BreaksTablePage g mid t) mid new fault → RunsOverPages g NoPage IsAnyTablePage (BreaksTablePages g old) old new fault
  runs_over_page t few same first second =
      runs_then first second (λ p there mine. mine) (λ p only. (omega (arith, only), omega (arith, only, few))) (λ damage breaks. (t, few, inl (breaks_before t damage same first breaks)))

  -- a definition whose name an earlier table has: the earlier one's page is named
  pub run_to_taken : {old new : S} (t : ℕ) (defs : Definitions) (def : Option TableDef) (fault : StoreFault) → t < 16 → HoldsBefore IsWithinLimits t defs
      → (IsTrue (g.state old).is_told → HoldsBefore (IsStoredPlace (g.state old).work) t defs) → (IsTrue (g.state old).is_told → IsStoredPlace (g.state old).work t def)
      → IsNameTaken defs def fault → RunsOverPages g NoPage IsAnyTablePage (BreaksTablePages g old) old new None → RunsOverPages g NoPage IsAnyTablePage (BreaksTablePages g old) old new (Some fault)
  run_to_taken {old} {new} t defs def fault few low before found taken run =
      subst (λ f. RunsOverPages g NoPage IsAnyTablePage (BreaksTablePages g old) old new (Some f)) (sym taken.names) (runs_damage run (taken.place, omega (arith, behind, few), inr breaks))
    where
      there : slice_get defs taken.place ≡ Some (Some taken.holder)
      there = option_and_then_some (λ d. d) (slice_get defs taken.place) taken.holder taken.stands (λ place at is. at ∙ ap Some is)

      behind : taken.place < t
      behind = low.low taken.place taken.holder there

      breaks : IsNameTwice g old taken.place (record { page = 1 + taken.place; rule = 3 })
      breaks = record {
        page = refl;
        rule = refl;
        later = t;
        behind = behind;
        within = few;
        twice = λ first second holds other.
            let told = holds.is_told in record {
              def = taken.holder;
              other = taken.mine;
              is_first = subst (IsTablePageOf taken.place taken.holder) holds.bytes_are ((before told).each taken.place (Some taken.holder) behind there);
              is_second = subst (IsTablePageOf t taken.mine) other.bytes_are (subst (IsStoredPlace (g.state old).work t) taken.is_mine (found told));
              same = taken.same;
            };
      }
