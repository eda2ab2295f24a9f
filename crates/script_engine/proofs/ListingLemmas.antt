-- LIST BLOCKS: what it says of a table of ready pages, and that it is answered as lists of rows have it, or as the pages tell.
use Rattle.std.proofs.Common.{◌≡◌, ℕ, List, Option, Some, None, refl, sym, ap, subst, ◌∙◌}
use Rattle.std.specs.Prelude.{if◌then◌else◌, true, length, option_and_then, option_map}
use Rattle.mdc_ast.specs.declared.definition.TableDef.{TableDef}
use Rattle.mdc_ast.specs.declared.name.Name.{Name}
use Rattle.mdc_ast.specs.declared.reply.Outcome.{Outcome}
use Rattle.mdc_ast.specs.declared.reply.Outcome.TheVariants as said
use Rattle.mdc_ast.specs.declared.statement.Stmt.{Stmt}
use Rattle.mdc_ast.specs.declared.statement.Stmt.TheVariants.{ListBlocks}
use Rattle.statement_meaning.specs.Cause.{NoTable, NotBuilt, refusal_of}
use Rattle.statement_meaning.specs.Session.{AgreesWith, Session, listed, listed_of}
use Rattle.statement_meaning.specs.Step.{Answer, Refused}
use Rattle.mdc_ast.specs.Database.{defs_of}
use Rattle.mdc_ast.specs.Definitions.{Definitions, def_at, def_named, place_of}
use Rattle.store_api.specs.Frame.{NoPage}
use Rattle.store_api.specs.RunsOverPages.{RunsOverPages}
use Rattle.store_api.specs.declared.fault.StoreFault.{StoreFault}
use Rattle.store_api.specs.declared.pages.Pages.{Ghosts}
use Rattle.store_api.proofs.RunsOverPagesLemmas.{runs_wider}
use Rattle.extent_map.specs.declared.kind.Kind.{Kind}
use Rattle.block_map.specs.MapLines.{free_blocks, used_blocks}
use Rattle.table_trees.specs.TableTrees.{map_place}
use Rattle.table_trees.specs.TreesBeside.{IsTreePageAt}
use Rattle.table_trees.proofs.ToldPagesLemmas.{tree_of_told}
use Rattle.mdc_sound.specs.StandingTable.{BreaksTable, StandsTable, TableForests, pages_of}
use Rattle.mdc_sound.specs.StandsForDatabase.{PagesStandFor, rootless}
use Rattle.mdc_table.specs.TableReading.{CountsBlocks}
use Rattle.mdc_table.specs.declared.account.Account.{Account}
use Rattle.statement_rows.specs.RowsOfStatement.{AnyPage}
use Rattle.script_engine.specs.Doing.{DoesReady}
use Rattle.script_engine.specs.Listing.{PagesTell, TellsBlocks, blocks_told}
use Rattle.statement_meaning.specs.Built.{are_built}
use Rattle.script_engine.specs.Ready.{AreServed, BreaksDatabase, IsReady}
use Rattle.script_engine.specs.Roles.{Lists, role_of}
use Rattle.script_engine.specs.declared.tables.Tables.{Tables}
use Rattle.script_engine.proofs.StoredDefsLemmas.{def_named-without_roots, same_built, stored_defs, without_roots}
use Rattle.script_engine.proofs.SameWorkLemmas.{ready_same}
use Rattle.script_engine.proofs.ScannedTablesLemmas.{StandsReady, stands_ready}

-- the definition of a name has a place
named_at : (defs : Definitions) (name : Name) (def : TableDef) → def_named defs name ≡ Some def → (place : ℕ) × (def_at defs place ≡ Some def)
named_at defs name def named = go (place_of defs name) named
  where
    go : (found : Option ℕ) → option_and_then (def_at defs) found ≡ Some def → (place : ℕ) × (def_at defs place ≡ Some def)
    go None is = absurd (cc)
    go (Some place) is = (place, is)

-- ---- the blocks of a table

module _ {S : Type 0} (g : Ghosts S) (old : S) (tables : Tables) (name : Name) (def : TableDef) (served : AreServed tables.catalog) (named : def_named tables.catalog name ≡ Some def) where
  -- a table of ready pages stands
  stands_named : IsReady g old tables → StandsReady g tables.shape old def
  stands_named ready = let at = named_at tables.catalog name def named in stands_ready g old tables at.0 def served ready at.1

  -- counting its blocks meets damage where they weren't
  pub runs_account : (new : S) {fault : Option StoreFault} → RunsOverPages g NoPage (IsTreePageAt g old (map_place def)) (BreaksTable g tables.shape old def) old new fault
      → RunsOverPages g NoPage AnyPage (BreaksDatabase g old tables) old new fault
  runs_account new run = runs_wider run (λ p there none. none) (λ p of. tt) (λ damage breaks ready. let st = stands_named ready in breaks.broken st.owners st.forests st.stands)

  -- the counts are those of its block map
  pub tells_account : (account : Account) (outcome : Outcome) → ((owners : List Kind) (forests : TableForests) → StandsTable g tables.shape old def owners forests → CountsBlocks forests.map account)
      → outcome ≡ blocks_told account.used account.free account.pending → IsReady g old tables → TellsBlocks (pages_of g old) def outcome
  tells_account account outcome counts is ready =
      let st = stands_named ready in
      let here = counts st.owners st.forests st.stands in
      let used = length (used_blocks st.forests.map) in
      let free = length (free_blocks st.forests.map) in
      record {
        map_tree = st.forests.map;
        has_map = tree_of_told g old st.stands.told (map_place def) st.forests.map st.stands.trees.held.0;
        tells = is ∙ (ap (λ n. blocks_told n account.free account.pending) here.used ∙ (ap (λ n. blocks_told used n account.pending) here.free ∙ ap (λ n. blocks_told used free n) here.pending));
      }

-- ---- the statement

-- a statement that lists the blocks of a table is LIST BLOCKS of it
is_list : (stmt : Stmt) (name : Name) → role_of stmt ≡ Lists name → stmt ≡ ListBlocks name
is_list (ListBlocks other) name is = cc
is_list stmt name is = absurd (cc)

module _ {S : Type 0} (g : Ghosts S) (old new : S) (tables : Tables) (name : Name) (built : are_built tables.catalog ≡ true) where
  -- what lists of rows answer to it, by the table of that name
  listed_is : (session : Session) (found : Option TableDef) → def_named tables.catalog name ≡ found
      → defs_of session.working ≡ without_roots tables.catalog → listed (defs_of session.working) name ≡ listed_of name (option_map rootless found)
  listed_is session found named defs =
      ap (λ b. if b then listed_of name (def_named (defs_of session.working) name) else Refused (refusal_of NotBuilt)) (same_built session.working tables.catalog defs built)
      ∙ ap (listed_of name) (ap (λ d. def_named d name) defs ∙ (def_named-without_roots tables.catalog name ∙ ap (option_map rootless) named))

  module _ (outcome : Outcome) (absent : def_named tables.catalog name ≡ None → outcome ≡ said.Refused (refusal_of (NoTable name)))
      (tells : (def : TableDef) → def_named tables.catalog name ≡ Some def → IsReady g old tables → TellsBlocks (pages_of g old) def outcome) (ready : IsReady g old tables) where
    -- the outcome agrees with that
    agrees : (found : Option TableDef) → def_named tables.catalog name ≡ found
        → AgreesWith (PagesTell tables.shape (pages_of g old) tables.catalog tables.settings.plan (ListBlocks name)) (listed_of name (option_map rootless found)) outcome
    agrees None named = absent named
    agrees (Some def) named = (def, named, tells def named ready)

    answers : (session : Session) → PagesStandFor tables.shape (pages_of g old) session.working
        → AgreesWith (PagesTell tables.shape (pages_of g old) tables.catalog tables.settings.plan (ListBlocks name)) (listed (defs_of session.working) name) outcome
    answers session stands =
        let defs = stored_defs tables.shape (pages_of g old) tables.catalog session.working ready.stored stands in
        subst (λ (answer : Answer). AgreesWith (PagesTell tables.shape (pages_of g old) tables.catalog tables.settings.plan (ListBlocks name)) answer outcome)
        (sym (listed_is session (def_named tables.catalog name) refl defs)) (agrees (def_named tables.catalog name) refl)

    -- on ready pages it told of them
    pub lists_ready : (stmt : Stmt) → role_of stmt ≡ Lists name → (g.state new).is_told ≡ (g.state old).is_told → (g.state new).work ≡ (g.state old).work
        → DoesReady g old new tables tables stmt outcome
    lists_ready stmt is told same = subst (λ (s : Stmt). DoesReady g old new tables tables s outcome) (sym (is_list stmt name is)) (DoesReady.tells refl (record {
      ready = ready_same g old new tables told same ready;
      leaves = record { pages = same; catalog = refl };
      answers = λ session stands. (listed (defs_of session.working) name, refl, answers session stands);
    }))
