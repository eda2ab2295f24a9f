-- Reading all tokens: what they spell, or where they go wrong.
use Rattle.std.proofs.Common.{◌≡◌, Bool, List, [], ◌∷◌, ◌++◌, refl, sym, ap, ◌∙◌, append_assoc, inl, inr}
use Rattle.std.specs.Prelude.{Ok, Err}
use Rattle.std.proofs.lemmas.List.{append-nil}
use Rattle.mdc_ast.specs.Tokens.{Token}
use Rattle.mdc_ast.specs.Classes.{Class}
use Rattle.mdc_ast.specs.Phrases.{Phrase}
use Rattle.sql_reader.specs.Readers.{Reader}
use Rattle.mdc_ast.specs.Places.{FailsAt}
use Rattle.sql_reader.proofs.Exact.{Exact, same_Ok}

module _ {X : Type 0} {A : Phrase X} {a : Reader X} {sa ma : List Class} {ea : Bool} (p : Exact A a sa ma ea) where
  pub whole_sound : (tokens : List Token) (x : X) → a tokens ≡ Ok (x, []) → A tokens x []
  whole_sound tokens x e = p.sound tokens (x, []) e

  -- tokens spell one thing at most
  pub one_spelling : (tokens : List Token) (x y : X) → A tokens x [] → A tokens y [] → x ≡ y
  one_spelling tokens x y h g = ap (λ (o : X × List Token). o.0) (same_Ok (x, []) (y, []) (sym (p.complete tokens x [] h refl) ∙ p.complete tokens y [] g refl))

  -- what is read isn't all
  pub more_behind : (tokens : List Token) (x : X) (t : Token) (rest : List Token) → a tokens ≡ Ok (x, t ∷ rest) → FailsAt A A tokens (t ∷ rest)
  more_behind tokens x t rest e =
      let w = p.took tokens (x, t ∷ rest) e in
      let whole : A (w.front ++ []) x [] = p.sound (w.front ++ []) (x, []) (w.again [] (inr refl)) in
      record {
        front = w.front;
        is = w.is;
        viable = ([], x, whole);
        none = λ v.
            let spelled = p.complete ((w.front ++ t ∷ []) ++ v.0) v.1 [] v.2 refl in
            let read = ap a (append_assoc w.front (t ∷ []) v.0) ∙ w.again (t ∷ v.0) (inl refl) in
            let same : [] ≡ t ∷ v.0 = ap (λ (o : X × List Token). o.1) (same_Ok (v.1, []) (x, t ∷ v.0) (sym spelled ∙ read)) in
            cc;
      }

  -- nothing is read
  pub stops_there : (tokens rest : List Token) → a tokens ≡ Err rest → FailsAt A A tokens rest
  stops_there tokens [] e =
      let s = p.stopped tokens [] e in
      record {
        front = s.front;
        is = s.is;
        viable = (s.last ++ [], s.value, p.sound (s.front ++ (s.last ++ [])) (s.value, []) (s.goes [] refl));
        none = λ x h.
            let spelled = p.complete s.front x [] h refl in
            let read = ap a (sym (append-nil s.front)) ∙ s.again [] refl in
            cc;
      }
  stops_there tokens (t ∷ rest) e =
      let s = p.stopped tokens (t ∷ rest) e in
      record {
        front = s.front;
        is = s.is;
        viable = (s.last ++ [], s.value, p.sound (s.front ++ (s.last ++ [])) (s.value, []) (s.goes [] refl));
        none = λ v.
            let spelled = p.complete ((s.front ++ t ∷ []) ++ v.0) v.1 [] v.2 refl in
            let read = ap a (append_assoc s.front (t ∷ []) v.0) ∙ s.again (t ∷ v.0) refl in
            cc;
      }
