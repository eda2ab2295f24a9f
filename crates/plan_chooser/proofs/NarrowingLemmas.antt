-- A span more beside others, place by place.
use Rattle.std.proofs.Common.{◌≡◌, ◌∙◌, ℕ, ◌+◌, ◌<◌, ◌≤◌, List, [], ◌∷◌, ◌++◌, Bool, true, false, add-one, ap, drop, drop-cons, get_or, length, refl, sym, take, Some}
use Rattle.std.specs.Prelude.{if◌then◌else◌, remove, slice_get}
use Rattle.std.proofs.lemmas.List.{append_assoc, drop_all, take_all, take_more}
use Rattle.std.proofs.lemmas.Option.{slice_get-get_or}
use Rattle.plan_chooser.specs.declared.column_span.ColumnSpan.{ColumnSpan}
use Rattle.plan_chooser.specs.Narrowing.{is_beside, narrowed, with_span}

-- None of the first spans is of the same column and source, so that a span more goes behind them.
pub record ComesBehind (more : ColumnSpan) (spans : List ColumnSpan) (i : ℕ) : Type 0 where
  pub is : with_span more spans ≡ take i spans ++ with_span more (drop i spans)

module _ (more : ColumnSpan) (spans : List ColumnSpan) (i : ℕ) (one : ColumnSpan) (lt : i < length spans) (there : slice_get spans i ≡ Some one) (behind : ComesBehind more spans i) where
  here : get_or spans i one ≡ one
  here = let same : Some (get_or spans i one) ≡ Some one = sym (slice_get-get_or spans i one lt) ∙ there in cc

  tail : drop i spans ≡ one ∷ drop (i + 1) spans
  tail = rw (drop-cons spans i one lt, here, add-one) refl

  next : (b : Bool) → is_beside one more ≡ b
      → with_span more spans ≡ take i spans ++ (if b then drop (i + 1) spans ++ narrowed one more.span ∷ [] else one ∷ with_span more (drop (i + 1) spans))
  next b is =
      behind.is
      ∙ ap (λ rest. take i spans ++ with_span more rest) tail
      ∙ ap (λ b. take i spans ++ (if b then drop (i + 1) spans ++ narrowed one more.span ∷ [] else one ∷ with_span more (drop (i + 1) spans))) is

  -- the next one isn't of that column and source
  pub comes_behind-more : is_beside one more ≡ false → ComesBehind more spans (i + 1)
  comes_behind-more other = record {
    is = next false other
        ∙ sym (append_assoc (take i spans) (one ∷ []) (with_span more (drop (i + 1) spans)))
        ∙ ap (λ front. front ++ with_span more (drop (i + 1) spans)) (ap (λ x. take i spans ++ x ∷ []) (sym here) ∙ sym (take_more spans i one lt));
  }

  -- the next one is: it is taken out, and put last as what lies in both
  pub narrowed-here : is_beside one more ≡ true → remove spans i ++ narrowed one more.span ∷ [] ≡ with_span more spans
  narrowed-here same =
      sym (next true same
      ∙ sym (append_assoc (take i spans) (drop (i + 1) spans) (narrowed one more.span ∷ []))
      ∙ ap (λ n. (take i spans ++ drop n spans) ++ narrowed one more.span ∷ []) (add-one i))

-- none is
pub none_beside : (more : ColumnSpan) (spans : List ColumnSpan) (i : ℕ) → length spans ≤ i → ComesBehind more spans i → spans ++ more ∷ [] ≡ with_span more spans
none_beside more spans i le behind =
    sym (behind.is ∙ ap (λ rest. take i spans ++ with_span more rest) (drop_all i spans le) ∙ ap (λ front. front ++ more ∷ []) (take_all i spans le))
