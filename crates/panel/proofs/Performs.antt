-- Actions that may be done.
use Rattle.std.proofs.Common.{◌≡◌, ℕ, zero, suc, ◌+◌, ◌<◌, ◌≤◌, Bool, true, List, [], ◌∷◌, length, get_or, take, drop, sym, refl, ap, ◌∙◌, arith}
use Rattle.std.proofs.lemmas.Bool.{and_parts}
use Rattle.std.proofs.lemmas.List.{at_drop_more}
use Rattle.process.specs.Laws.{Lawful}
use Rattle.process.specs.Ranges.{act_fits, every, memory_fits}
use Rattle.process.specs.Rounds.{Step}
use Rattle.process.specs.declared.memory.Action.{Action}
use Rattle.agreement.specs.Worlds.{World, act, performed}

-- one more is done
pub performed_more : (places here p : ℕ) (w v u : World) (acts : List Action) (i : ℕ) (a d : Action) → i < length acts → a ≡ get_or acts i d → here ≡ places
    → performed places p w acts ≡ performed places p v (drop i acts) → u ≡ act here p v a → performed places p w acts ≡ performed places p u (drop (i + 1) acts)
performed_more places here p w v u acts i a d h is room so step =
    so ∙ at_drop_more (performed places p v) acts i d h
    ∙ ap (λ x. performed places p x (drop (i + 1) acts)) (ap (act places p v) (sym is) ∙ ap (λ k. act k p v a) (sym room) ∙ sym step)

pub every_at : {A : Type 0} (test : A → Bool) (xs : List A) (i : ℕ) (d : A) → i < length xs → every test xs ≡ true → test (get_or xs i d) ≡ true
every_at test [] i d h e = absurd (omega arith)
every_at test (x ∷ xs) zero d h e = (and_parts (test x) (every test xs) e).0
every_at test (x ∷ xs) (suc i) d h e = every_at test xs i d (omega arith) (and_parts (test x) (every test xs) e).1

pub every_take : {A : Type 0} (test : A → Bool) (k : ℕ) (xs : List A) → every test xs ≡ true → every test (take k xs) ≡ true
every_take test zero xs e = refl
every_take test (suc k) [] e = refl
every_take test (suc k) (x ∷ xs) e = let p = and_parts (test x) (every test xs) e in rw p.0 (every_take test k xs p.1)

-- so may those of a lawful step of at most 28, where what its ranges rest on holds
pub lawful_fits : {given : Type 0} {p k : ℕ} {s : Step} → Lawful given 9 p k s → k ≤ 28 → given
    → (length s.acts ≤ 32) × ((every (act_fits 9 p) s.acts ≡ true) × (memory_fits 9 p s.memory ≡ true))
lawful_fits l h premise = (omega (arith, l.few), l.ranges premise)
