-- One call more.
use Rattle.std.proofs.Common.{◌≡◌, ℕ, ◌+◌, ◌<◌, ◌≤◌, List, [], ◌∷◌, ◌++◌, length, get_or, take, drop, set, Result, sym, refl, ap, ◌∙◌, subst, arith}
use Rattle.std.proofs.lemmas.List.{drop_more, drop-set-lt, length-take-le, take-append-drop, take_more, take_more_set}
use Rattle.quorum.specs.Laws.{Shares}
use Rattle.agreement.specs.Lists.{PanelCall}
use Rattle.agreement.specs.declared.call.Refusal.{Refusal}
use Rattle.agreement.specs.Calls.{Outcome, State, done, run, verdict}
use Rattle.agreement.specs.Promise.{Agreement}
use Rattle.agreement.proofs.Ends.{promise}
use Rattle.panel.specs.Sittings.{Sat, answers_of, final}

final_push : (cs : List PanelCall) (c : PanelCall) (s : State) → final (cs ++ (c ∷ [])) s ≡ (done (verdict c) (final cs s)).after
final_push [] c s = refl
final_push (b ∷ cs) c s = final_push cs c (done (verdict b) s).after

answers_push : (cs : List PanelCall) (c : PanelCall) (s : State) → answers_of (cs ++ (c ∷ [])) s ≡ answers_of cs s ++ ((done (verdict c) (final cs s)).answer ∷ [])
answers_push [] c s = refl
answers_push (b ∷ cs) c s = ap (λ l. (done (verdict b) s).answer ∷ l) (answers_push cs c (done (verdict b) s).after)

module _ (calls : List PanelCall) (i : ℕ) (start here : State) (c d : PanelCall) (o : Outcome) (h : i < length calls) (is : c ≡ get_or calls i d)
    (so : here ≡ final (take i calls) start) (made : o ≡ done (verdict c) here) where
  one_more : take i calls ++ (c ∷ []) ≡ take (i + 1) calls
  one_more = sym (take_more calls i d h ∙ ap (λ x. take i calls ++ (x ∷ [])) (sym is))

  pub final_more : o.after ≡ final (take (i + 1) calls) start
  final_more = ap (λ (x : Outcome). x.after) made ∙ ap (λ t. (done (verdict c) t).after) so ∙ sym (final_push (take i calls) c start) ∙ ap (λ l. final l start) one_more

  pub answers_more : (answers : List (Result ℕ Refusal)) → i < length answers → take i answers ≡ answers_of (take i calls) start
      → take (i + 1) (set answers i o.answer) ≡ answers_of (take (i + 1) calls) start
  answers_more answers long told =
      take_more_set answers i o.answer long
      ∙ ap (λ l. l ++ (o.answer ∷ [])) told
      ∙ ap (λ (x : Outcome). answers_of (take i calls) start ++ (x.answer ∷ [])) (made ∙ ap (done (verdict c)) so)
      ∙ sym (answers_push (take i calls) c start) ∙ ap (λ l. answers_of l start) one_more

-- the rest is left
tail : {A : Type 0} → List A → List A
tail [] = []
tail (x ∷ xs) = xs

pub rest_more : {A : Type 0} (xs ys : List A) (i : ℕ) (y : A) → i < length xs → length xs ≡ length ys → drop i xs ≡ drop i ys → drop (i + 1) (set xs i y) ≡ drop (i + 1) ys
unfolding tail
rest_more xs ys i y h long e = drop-set-lt (i + 1) xs i y (omega arith) ∙ ap tail (sym (drop_more xs i y h) ∙ e ∙ drop_more ys i y (omega arith))

pub sat : {s t : State} → Shares s.size s.enough → (calls : List PanelCall) (i : ℕ) (before answers : List (Result ℕ Refusal)) → i ≤ length calls
    → t ≡ final (take i calls) s → take i answers ≡ answers_of (take i calls) s → drop i answers ≡ drop i before → Sat (take i calls) s t before answers
sat {s} {t} shares calls i before answers h so told rest = record {
  after = so;
  told =
      sym (take-append-drop i answers) ∙ ap (λ l. l ++ drop i answers) told ∙ ap (λ l. answers_of (take i calls) s ++ l) rest
      ∙ ap (λ k. answers_of (take i calls) s ++ drop k before) (sym (length-take-le i calls h));
  agreed = λ e. subst (λ (u : State). Agreement s.size s.enough (run (take i calls) u)) (sym e) (promise s.size s.enough shares s.places (take i calls));
}
