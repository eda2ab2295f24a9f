-- Places between byte strings, as a cut of a column has among its keys.
use Rattle.std.specs.Prelude.{◌≡◌, ◌≤◌, ℕ, suc, ◌==◌, Bool, true, false, nat_lt, List, [], ◌∷◌, length, Option, Some, None, IsTrue, if◌then◌else◌}
use Rattle.std.specs.declared.cmp.Ordering.{Ordering}
use Rattle.std.specs.declared.cmp.Ordering.TheVariants.{Less, Equal}
use Rattle.std.specs.Ordering.{is_ge, is_gt, nat_cmp, ordering_then}
use Rattle.mdc_values.specs.declared.value.ColType.{ColType}
use Rattle.mdc_values.specs.declared.value.Value.{Value}
use Rattle.key_codec.specs.Keys.{AreBytes, has_key, part_bytes, part_width}

-- the order of a byte string and a front: equal where it begins with the front
abbrev pub front_order : List ℕ → List ℕ → Ordering
front_order bytes [] = Equal
front_order [] (c ∷ front) = Less
front_order (b ∷ bytes) (c ∷ front) = ordering_then (nat_cmp b c) (front_order bytes front)

-- what is past a place before a front, or behind it
abbrev pub is_past : Bool → Ordering → Bool
is_past true o = is_gt o
is_past false o = is_ge o

-- a byte before the first string behind a front, where there is one, and else the next byte
abbrev pub put_before : ℕ → Option (List ℕ) → Option (List ℕ)
put_before b (Some bytes) = Some (b ∷ bytes)
put_before b None = if b == 255 then None else Some (suc b ∷ [])

-- the first byte string behind all that begin with a front
abbrev pub behind_front : List ℕ → Option (List ℕ)
behind_front [] = None
behind_front (b ∷ front) = put_before b (behind_front front)

-- on which side of blanks a text's place lies: that of its first byte that is no blank
abbrev pub side_of_blanks : Bool → List ℕ → Bool
side_of_blanks behind [] = behind
side_of_blanks behind (b ∷ text) = if b == 32 then side_of_blanks behind text else nat_lt 32 b

-- The values that a test picks are those whose ascending keys lie past a place.
pub record IsEdge (ty : ColType) (picks : Value → Bool) (front : List ℕ) (behind : Bool) : Type 0 where
  pub short : length front ≤ part_width ty
  pub bytes : AreBytes front
  pub past : (value : Value) → IsTrue (has_key ty value)
      → is_past behind (front_order (part_bytes ty false value) front) ≡ picks value
