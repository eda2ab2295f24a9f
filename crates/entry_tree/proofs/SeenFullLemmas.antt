-- What an addition has seen of pages that need not be a tree.
use Rattle.std.proofs.Common.{◌≡◌, ℕ, List, None, subst}
use Rattle.std.specs.Prelude.{Bool, IsTrue, false}
use Rattle.mdc_words.specs.ByteOrder.{Entry}
use Rattle.store_api.specs.Frame.{NoPage}
use Rattle.store_api.specs.RunsOverPages.{RunsOverPages}
use Rattle.store_api.specs.Works.{Steady}
use Rattle.store_api.specs.declared.pages.Pages.{Ghosts}
use Rattle.store_api.specs.declared.shape.Shape.{Shape}
use Rattle.extent_map.specs.Damages.{IfFull}
use Rattle.extent_map.specs.Map.{HoldsMap}
use Rattle.extent_map.specs.declared.fault.SpaceFault.{SpaceFault}
use Rattle.extent_map.specs.declared.fault.SpaceFault.TheVariants.{Full, Store}
use Rattle.extent_map.specs.declared.kind.Kind.{Kind}
use Rattle.extent_map.specs.declared.space_notes.SpaceNotes.{SpaceNotes}
use Rattle.entry_tree.specs.HeldTrees.{BreaksTree, IsTreePage}
use Rattle.entry_tree.specs.Shown.{SeesAsked, SeesFull, SeesWhether}
use Rattle.entry_tree.specs.Standing.{MeetsFull}
use Rattle.entry_tree.specs.declared.tree.Tree.{Tree}
use Rattle.entry_tree.proofs.AddingLemmas.{grows_after, map_after_way}
use Rattle.entry_tree.proofs.ShownLemmas.{leaf_whether}

-- the way down says whether the entry is there
pub whether_seen : {width : ℕ} {work : List (List ℕ)} {root : ℕ} {x : Entry} {leaf at : ℕ} {there : Bool} {asked : ℕ} {is : Bool} → SeesAsked width work root x leaf at there asked → there ≡ is → SeesWhether width work root x is
whether_seen s is = leaf_whether s.seen is

-- it was not, and fewer pages could be claimed than it asks for
pub full_seen : {S : Type 0} {g : Ghosts S} (shape : Shape) (before noted : SpaceNotes) (old mid new : S) (tree : Tree) (x : Entry) (fault : SpaceFault) {leaf at asked : ℕ} {there : Bool} → RunsOverPages g NoPage (IsTreePage g old tree) (BreaksTree g old tree) old mid None
    → (g.state mid).work ≡ (g.state old).work → Steady g mid new → there ≡ false → (IsTrue (g.state old).is_told → SeesAsked tree.width (g.state old).work tree.root x leaf at there asked)
    → IfFull fault (λ cap. (cap ≡ shape.extents) × ((owners : List Kind) → HoldsMap g shape mid owners → MeetsFull g shape before noted mid new owners asked))
    → IfFull fault (λ cap. SeesFull g shape before noted old new tree x)
full_seen {S} {g} shape before noted old mid new tree x (Full cap) {leaf} {at} {asked} run work later absent seen h = record {
  wanted = asked;
  leaf = leaf;
  at = at;
  asked = λ told. subst (λ (b : Bool). SeesAsked tree.width (g.state old).work tree.root x leaf at b asked) absent (seen told);
  meets = λ owners map.
      let m = h.1 owners (map_after_way shape old mid tree owners run map) in
      record { claimed = m.claimed; fewer = m.fewer; claims = m.claims; grows = grows_after shape old mid new m.claimed run.works.steady.is_told work later m.grows; full = m.full };
}
full_seen shape before noted old mid new tree x (Store fault) run work later absent seen h = tt
