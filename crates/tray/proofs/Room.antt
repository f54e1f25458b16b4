-- A put that finds room.
use Rattle.std.proofs.Common.{◌≡◌, ℕ, ◌<◌, Bool, cond, ltb, List, [], ◌∷◌, ◌++◌, length, ◌∙◌}
use Rattle.std.proofs.lemmas.Bool.{lt-ltb, cond-true}

-- where there are fewer elements than places, what `put` ensures is that the element stands at the end
pub put_appends : {T : Type 0} (xs ys : List T) (x : T) (ok : Bool) (places : ℕ) → length xs < places → ok ≡ ltb (length xs) places
    → ys ≡ cond ok (xs ++ x ∷ []) xs → ys ≡ xs ++ x ∷ []
put_appends xs ys x ok places h test put = put ∙ cond-true ok _ _ (test ∙ lt-ltb (length xs) places h)
