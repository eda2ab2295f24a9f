-- A place in a tree: what stands there, and the nodes above it. A change of one place doesn't speak of the rest.
use Rattle.std.specs.Prelude.{◌≡◌, ◌<◌, ◌≤◌, ◌+◌, ◌-◌, ℕ, Bool, true, false, List, [], ◌∷◌, ◌++◌, length, Some, None, ⊤, if◌then◌else◌, slice_index_or as get_or}
use Rattle.mdc_words.specs.ByteOrder.{Entry, below}
use Rattle.node_page.specs.Node.{Node}
use Rattle.entry_tree.specs.EntryBounds.{Bound, AtLeast, Under}
use Rattle.entry_tree.specs.Forest.{Forest, ◌&◌, filled_leaves, heads, leaf_entries, once, times}
use Rattle.entry_tree.specs.Forest.Forest.{Nil, Fork}

-- an inner node less one of its children: what stands before and behind that child
pub record Frame : Type 0 where
  pub page : ℕ
  pub lows : List Entry
  pub left : Forest
  pub highs : List Entry
  pub right : Forest

-- the tree with t below these nodes, the lowest first
abbrev pub plug : List Frame → Forest → Forest
plug [] t = t
plug (f ∷ fs) t = plug fs (Fork f.page (f.lows ++ f.highs) (f.left & (t & f.right)) Nil)

-- the entries before the place
abbrev pub entries_before : List Frame → List Entry
entries_before [] = []
entries_before (f ∷ fs) = entries_before fs ++ leaf_entries f.left

-- the entries behind it
abbrev pub entries_behind : List Frame → List Entry
entries_behind [] = []
entries_behind (f ∷ fs) = leaf_entries f.right ++ entries_behind fs

-- the leaves before the place that hold an entry
abbrev pub leaves_before : List Frame → List (List Entry)
leaves_before [] = []
leaves_before (f ∷ fs) = leaves_before fs ++ filled_leaves f.left

-- and those behind it
abbrev pub leaves_behind : List Frame → List (List Entry)
leaves_behind [] = []
leaves_behind (f ∷ fs) = filled_leaves f.right ++ leaves_behind fs

-- how often a page stands above it or beside it
abbrev pub times_beside : ℕ → List Frame → ℕ
times_beside n [] = 0
times_beside n (f ∷ fs) = once n f.page + (times n f.left + times n f.right) + times_beside n fs

-- the last separator, where there is one
abbrev pub last_or : Bound → List Entry → Bound
last_or low [] = low
last_or low (s ∷ seps) = last_or (Some s) seps

-- the first separator, where there is one
abbrev pub first_or : List Entry → Bound → Bound
first_or [] high = high
first_or (s ∷ seps) high = Some s

-- the low bound of the place, where the whole has this one
abbrev pub low_of : Bound → List Frame → Bound
low_of low [] = low
low_of low (f ∷ fs) = last_or (low_of low fs) f.lows

-- and the high one
abbrev pub high_of : Bound → List Frame → Bound
high_of high [] = high
high_of high (f ∷ fs) = first_or f.highs (high_of high fs)

-- as many trees stand left of each place as separators
abbrev pub AreMatched : List Frame → Type 0
AreMatched [] = ⊤
AreMatched (f ∷ fs) = (length (heads f.left) ≡ length f.lows) × AreMatched fs

-- x belongs below child i of a node: it isn't below the separator before that child, and below the one behind it
pub record IsChildPlace (seps : List Entry) (x : Entry) (i : ℕ) : Type 0 where
  pub within : i ≤ length seps
  pub before : 0 < i → below x (get_or seps (i - 1) []) ≡ false
  pub after : i < length seps → below x (get_or seps i []) ≡ true

-- the page is on the way from the root to where x belongs, so many steps down
pub record IsOnWay (t : Forest) (x : Entry) (page steps : ℕ) : Type 0 where
  pub above : List Frame
  pub here : Forest
  pub whole : t ≡ plug above here
  pub matched : AreMatched above
  pub head : heads here ≡ page ∷ []
  pub deep : length above ≡ steps
  pub low : AtLeast (low_of None above) x
  pub high : Under (high_of None above) x

-- a node above, as a search keeps it: its page, and which of its children is on the way
abbrev pub frame_place : Frame → ℕ × ℕ
frame_place f = (f.page, length f.lows)

-- the nodes above, the lowest first
abbrev pub places : List Frame → List (ℕ × ℕ)
places [] = []
places (f ∷ fs) = frame_place f ∷ places fs

-- the page is on the way of x, with these nodes above it
pub record IsAtPlace (t : Forest) (x : Entry) (stack : List (ℕ × ℕ)) (page : ℕ) : Type 0 where
  pub above : List Frame
  pub here : Forest
  pub whole : t ≡ plug above here
  pub matched : AreMatched above
  pub way : places above ≡ stack
  pub head : heads here ≡ page ∷ []
  pub low : AtLeast (low_of None above) x
  pub high : Under (high_of None above) x

-- how many pages the nodes above ask for: one for each full one without a gap, and one more where these reach the root
abbrev pub run_up : (Node → Bool) → (ℕ → Node) → List (ℕ × ℕ) → ℕ
run_up full nodes [] = 1
run_up full nodes (q ∷ stack) = if full (nodes q.0) then 1 + run_up full nodes stack else 0

-- how many pages an added entry asks for, at this leaf with these nodes above
abbrev pub pages_asked : (Node → Bool) → (ℕ → Node) → List (ℕ × ℕ) → ℕ → ℕ
pages_asked full nodes stack page = if full (nodes page) then 1 + run_up full nodes stack else 0
