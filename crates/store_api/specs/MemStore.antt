-- What a store in memory is seen as.
use Rattle.std.specs.Prelude.{ℕ, ◌+◌, ◌-◌, min, true, false, List, [], length, take, Some, None}
use Rattle.store_api.specs.declared.mem_store.MemStore.{MemStore}
use Rattle.store_api.specs.StoreState.{StoreState, nothing_beside}
use Rattle.store_api.specs.History.{undone, marked_pages, hand_page}

-- all but the counts and the time
abbrev pub mem_state_of : MemStore → StoreState
mem_state_of s = record {
  is_told = true;
  base = undone s.history.items (take s.base_count s.work.items);
  work = s.work.items;
  marked = marked_pages s.mark s.history.items s.work.items;
  hand = hand_page s.hand s.history.items s.work.items;
  prepared = s.prepared;
  ended = false;
  told = Some s.told.items;
  fetched = Some s.fetched.items;
  file = None;
  beside = nothing_beside;
}

-- a page for each change and each page that was added, and no more than there are
abbrev pub mem_written_of : MemStore → ℕ
mem_written_of s = min (length s.history.items + (length s.work.items - s.base_count)) (length s.work.items)

-- a store of these pages that was just opened
abbrev pub fresh_store : List (List ℕ) → StoreState
fresh_store pages = record {
  is_told = true;
  base = pages;
  work = pages;
  marked = None;
  hand = None;
  prepared = false;
  ended = false;
  told = Some [];
  fetched = Some [];
  file = None;
  beside = nothing_beside;
}
