-- Arrays made by a closure that leaves what it captured as it was.
use Rattle.std.proofs.Common.{◌≡◌, ℕ, zero, suc, ◌+◌, ◌<◌, ◌≤◌, List, map, get_or, ◌∙◌, subst, ⊎_elim, arith}
use Rattle.std.proofs.lemmas.Bool.{cases_lt}
use Rattle.std.proofs.lemmas.List.FromFn.{fill_by_all}
use Rattle.std.specs.Array.{IsFromFnResult, IsFromFnResultFrom}
use Rattle.std.specs.Fn.{Called}
use Rattle.std.specs.List.{range_with_len}
use denote.Param.Members.{Mut}

-- the closure gives this at each place
abbrev pub Gives : {F B : Type 0} → Mut F (ℕ × Unit {0}) B → F → (ℕ → B) → Type 0
Gives {F} {B} g f h = (k : ℕ) (y : B) (q : F) → Called g f (k, tt) y q → (q ≡ f) × (y ≡ h k)

given_at : {F B : Type 0} (g : Mut F (ℕ × Unit {0}) B) (f : F) (h : ℕ → B) → Gives g f h →
    (ys : List B) (d : B) (i n j : ℕ) → IsFromFnResultFrom g f ys i n → i ≤ j → j < i + n → get_or ys j d ≡ h j
given_at g f h gives ys d i zero j e a b = absurd (omega arith)
given_at g f h gives ys d i (suc n) j e a b =
    let s = gives i e.1 e.0 e.3 in
    ⊎_elim
    (λ l. given_at g f h gives ys d (i + 1) n j (subst (λ p. IsFromFnResultFrom g p ys (i + 1) n) s.0 e.4) (omega arith) (omega arith))
    (λ l. let t : j ≡ i = omega arith in rw t (e.2.1 d ∙ s.1))
    (cases_lt i j)

-- so the array has it at each place
pub from_fn_is : {F B : Type 0} {g : Mut F (ℕ × Unit {0}) B} {f : F} (h : ℕ → B) (ys : List B) (n : ℕ) (d : B) →
    IsFromFnResult g f ys n → Gives g f h → ys ≡ map h (range_with_len 0 n)
from_fn_is {g = g} {f = f} h ys n d r gives =
    fill_by_all h ys n d r.long (λ k l. given_at g f h gives ys d 0 n k r.each (omega arith) (omega arith))
