-- A page as a head, a body and zeros.
use Rattle.std.specs.Prelude.{ℕ, ◌+◌, List, ◌++◌, length, drop}
use Rattle.store_api.specs.StoreState.{zero_page}
use Rattle.node_page.specs.Node.{node_head}

-- the page of this head and this body, with zeros behind
abbrev pub laid : ℕ → ℕ → ℕ → ℕ → List ℕ → List ℕ
laid mark width n child body = node_head mark width n child ++ (body ++ drop (16 + length body) zero_page)
