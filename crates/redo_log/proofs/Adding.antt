-- A record that stands behind those that count: with it the file is formed too.
use Rattle.std.proofs.Common.{◌≡◌, ◌≤◌, ◌<◌, ℕ, suc, IsFalse, List, Option, Some, None, length, arith, refl, ap, sym, subst, ◌∙◌, inl, inr}
use Rattle.std.specs.Prelude.{IsSome}
use Rattle.std.specs.Option.{option_or}
use Rattle.std.specs.List.{All}
use Rattle.std.proofs.lemmas.Bool.{cases_lt, both_ways}
use Rattle.page_file.specs.Layout.{page_start}
use Rattle.redo_journal.specs.Images.{Numbered, AreRising}
use Rattle.redo_journal.specs.Layout.{is_open}
use Rattle.redo_log.specs.Layout.{start_at, end_at, log_end, record_at, newest, IsLaid}
use Rattle.redo_log.specs.Standing.{image_of, journaled, counted_by, count_by, IsFormedBy}
use Rattle.redo_log.proofs.Keeps.{log_within, end_below}
use Rattle.redo_log.proofs.Overlays.{image_of-append}

-- Record n holds these images behind the log, whatever its gate says. The count that page 0 then states is no less, the images
-- are below it, and those of all pages that are new are among them.
pub record Adds (n : ℕ) (images : Numbered) (file : List ℕ) : Type 0 where
  pub record_is : record_at n file ≡ images
  pub start : start_at n file ≡ log_end n file
  pub in_log : end_at n file ≤ 66
  pub in_file : page_start (end_at n file) ≤ length file
  pub rising : AreRising images
  pub named : All (λ image. image.0 < count_by (suc n) file) images
  pub no_less : count_by n file ≤ count_by (suc n) file
  pub grown : (p : ℕ) → count_by n file ≤ p → p < count_by (suc n) file → IsSome (image_of images p)

-- an image of the first n records, or of one more
some_more : (a b c : Option (List ℕ)) → IsSome (option_or a c) → IsSome (option_or a (option_or b c))
some_more None None c some = some
some_more None (Some x) c some = refl
some_more (Some x) b c some = refl

some_new : (a b c : Option (List ℕ)) → IsSome b → IsSome (option_or a (option_or b c))
some_new None None c some = absurd (cc)
some_new None (Some x) c some = refl
some_new (Some x) b c some = refl

-- A file that is formed by n records and has one more behind them is formed by that one too.
pub formed_more : (n : ℕ) (images : Numbered) (bytes : List ℕ) → IsFormedBy n bytes → IsFalse (is_open bytes) → Adds n images bytes → IsFormedBy (suc n) bytes
formed_more n images bytes formed shut adds =
    let no_less : count_by n bytes ≤ count_by (suc n) bytes = adds.no_less in
    let found : (p : ℕ) → image_of (counted_by (suc n) bytes) p ≡ option_or (image_of (journaled bytes) p) (option_or (image_of (record_at n bytes) p) (image_of (newest n bytes) p)) = λ p.
    image_of-append (journaled bytes) (newest (suc n) bytes) p ∙ ap (λ x. option_or (image_of (journaled bytes) p) x) (image_of-append (record_at n bytes) (newest n bytes) p) in
    let low : 2 ≤ log_end n bytes = (log_within n bytes formed).0 in
    record {
      long = formed.long;
      some = omega (arith, formed.some);
      journal = λ opened. absurd (both_ways (is_open bytes) shut opened);
      laid = λ k lt. elim (cases_lt k n) [
        | inl below ↦ formed.laid k below
        | inr last ↦ (let same : n ≡ k = omega arith in subst (λ (m : ℕ). IsLaid m bytes) same (record {
          behind_gates = omega (arith, adds.start);
          behind = λ j before. omega (arith, adds.start, end_below n bytes formed.laid j before);
          in_log = adds.in_log;
          in_file = adds.in_file;
          rising = subst AreRising (sym adds.record_is) adds.rising;
        }))
      ];
      named = λ k lt. elim (cases_lt k n) [
        | inl below ↦ (λ j d less. omega (arith, formed.named k below j d less))
        | inr last ↦ (let same : n ≡ k = omega arith in subst (λ (m : ℕ). All (λ (x : ℕ × List ℕ). x.0 < count_by (suc n) bytes) (record_at m bytes)) same
            (subst (λ (xs : Numbered). All (λ (x : ℕ × List ℕ). x.0 < count_by (suc n) bytes) xs) (sym adds.record_is) adds.named))
      ];
      whole = λ p lt. elim (cases_lt p (count_by n bytes)) [
        | inl old ↦ elim (formed.whole p old) [
          | inl some ↦ inl (subst IsSome (sym (found p)) (some_more (image_of (journaled bytes) p) (image_of (record_at n bytes) p) (image_of (newest n bytes) p)
              (subst IsSome (image_of-append (journaled bytes) (newest n bytes) p) some)))
          | inr whole ↦ inr whole
        ]
        | inr new ↦ inl (subst IsSome (sym (found p)) (some_new (image_of (journaled bytes) p) (image_of (record_at n bytes) p) (image_of (newest n bytes) p)
            (subst (λ (xs : Numbered). IsSome (image_of xs p)) (sym adds.record_is) (adds.grown p new lt))))
      ];
    }
