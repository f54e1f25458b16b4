-- What stands at the best place is chosen.
use Rattle.std.proofs.Common.{◌≡◌, ℕ, zero, suc, Bool, not, List, [], ◌∷◌, Some, None, Option, sym, ◌∙◌, arith}
use Rattle.std.proofs.lemmas.Option.{slice_get-get_or, none-some}
use Rattle.tray.specs.Best.{Best, Chosen}
use Rattle.tray.specs.Items.{element}

-- x is preferred to y, and not only as much
abbrev pub beats : {T : Type 0} → (T → T → Bool) → T → T → Bool
beats prefers x y = not (prefers y x)

pub chosen_from_best : {T : Type 0} (prefers : T → T → Bool) (xs : List T) (p : ℕ) (r : Option T) → Best prefers xs (Some p) → r ≡ element xs p → Chosen prefers xs r
chosen_from_best prefers xs p (Some x) b e = (p, b, sym e)
chosen_from_best prefers [] p None b e = absurd (omega (arith, b.0.0, b.0.1))
chosen_from_best prefers (x ∷ xs) zero None b e = absurd (omega (arith, b.0.0))
chosen_from_best prefers (x ∷ xs) (suc i) None b e =
    absurd (none-some _ (e ∙ slice_get-get_or (x ∷ xs) i x (omega (arith, b.0.1))))
