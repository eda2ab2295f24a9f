-- What one run may tear lies within what another may.
use Rattle.std.proofs.Common.{◌≡◌, ◌<◌, ◌≤◌, ◌+◌, ℕ, length, get_or, inl, inr, arith, ap, ◌∙◌, refl}
use Rattle.mdc_outside.specs.Disk.{Since, IsInNone, IsOutside, torn}
use Rattle.page_file.specs.Runs.{IsWithin, IsCovered}

-- what is covered is within
pub covered_is_within : (allowed since : Since) → IsCovered allowed since → IsWithin allowed since
covered_is_within allowed since covered image left =
    let same : length since.synced ≡ length allowed.synced = ap length covered.synced in
    record {
      no_shorter = omega (arith, same, left.no_shorter);
      no_longer = omega (arith, covered.longest, left.no_longer);
      kept = λ i lt none.
          left.kept i (omega (arith, same, lt)) (covered.outside i lt none) ∙ ap (λ bytes. get_or bytes i 0) covered.synced;
    }

-- each covers itself
pub covers_itself : (since : Since) → IsCovered since since
covers_itself since = record { synced = refl; longest = omega arith; outside = λ i lt none. none }

-- one that covers a cover
pub covers_through : {allowed middle since : Since} → IsCovered allowed middle → IsCovered middle since → IsCovered allowed since
covers_through {allowed} {middle} {since} first second = record {
  synced = second.synced ∙ first.synced;
  longest = omega (arith, first.longest, second.longest);
  outside = λ i lt none. second.outside i (omega (arith, ap length first.synced, lt)) (first.outside i lt none);
}

-- a range more, which is within what is allowed or behind the synced bytes
pub covers_torn : (allowed since : Since) (at count : ℕ) → IsCovered allowed since → at + count ≤ allowed.longest
    → ((i : ℕ) → i < length allowed.synced → IsInNone i allowed.ranges → IsOutside i (record { at = at; count = count }))
    → IsCovered allowed (torn at count since)
covers_torn allowed since at count covered short apart = record {
  synced = covered.synced;
  longest = omega (arith, covered.longest);
  outside = λ i lt none. (apart i lt none, covered.outside i lt none);
}

-- a range within the range that is being written
pub covers_part : (since half : Since) (from total at count : ℕ) → from ≤ at → at + count ≤ from + total
    → IsCovered (torn from total since) half → IsCovered (torn from total since) (torn at count half)
covers_part since half from total at count low high covered =
    covers_torn (torn from total since) half at count covered (omega arith)
    (λ i lt none. elim none.0 [ inl before ↦ inl (omega arith) | inr behind ↦ inr (omega arith) ])

-- a range more covers what was there
pub torn_covers : (at count : ℕ) (since : Since) → IsCovered (torn at count since) since
torn_covers at count since = record { synced = refl; longest = omega arith; outside = λ i lt none. none.1 }
