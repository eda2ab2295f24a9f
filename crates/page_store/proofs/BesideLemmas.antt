-- What lies beside the pages of a store in a file tells its shape and the attaches of its host.
use Rattle.std.proofs.Common.{◌≡◌, ℕ, Bool, List, Option, Some, ap}
use Rattle.store_api.specs.StoreState.{Beside}
use Rattle.store_api.specs.declared.shape.Shape.{Shape}
use Rattle.page_store.specs.FileStore.{beside_of}

-- beside a store that kept its shape lies the same
pub same_beside : {s t : Shape} (attaches : Option (List (List ℕ × Bool))) → s ≡ t → beside_of s attaches ≡ beside_of t attaches
same_beside attaches same = ap (λ shape. beside_of shape attaches) same

-- the shape is told
pub beside_of-shape : (s t : Shape) (a b : Option (List (List ℕ × Bool))) → beside_of s a ≡ beside_of t b → s ≡ t
beside_of-shape s t a b same = let shown : Some s ≡ Some t = ap (λ (beside : Beside). beside.shape) same in cc

-- so are the attaches
pub beside_of-attaches : (s t : Shape) (a b : Option (List (List ℕ × Bool))) → beside_of s a ≡ beside_of t b → a ≡ b
beside_of-attaches s t a b same = ap (λ (beside : Beside). beside.attaches) same
