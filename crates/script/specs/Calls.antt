-- The calls that the words of a line ask for.
use Rattle.std.specs.Prelude.{ℕ, Bool, true, false, cond, List, [], ◌∷◌, Some, None, codes, Option}
use Rattle.agreement.specs.declared.call.Call.{Call}
use Rattle.agreement.specs.declared.call.Call.TheVariants.{Recover, Propose, Look, Deliver, Again, Lose, Crash}
use Rattle.script.specs.declared.row.Row.{Row}
use Rattle.script.specs.Rows.{beyond, entries, row_of}
use Rattle.script.specs.Words.{number}
use Rattle.std.specs.Bool.{then_some}
use Rattle.std.specs.Option.{option_and_then, option_map}
use Rattle.std.specs.Str.{bytes_eq}

-- a call of a script: its list is a row
abbrev pub LineCall : Type 0
LineCall = Call (Row (Option ℕ)) ℕ

-- an epoch, or - for a process that is not trusted
abbrev pub epoch : List ℕ → Option (Option ℕ)
epoch w = cond (bytes_eq w (codes "-")) (Some None) (option_map Some (number w))

-- the first word as a number, and the words after it
abbrev pub number_first : List (List ℕ) → Option (ℕ × List (List ℕ))
number_first [] = None
number_first (w ∷ ws) = option_map (λ n. (n, ws)) (number w)

-- what comes of a number at the front and the words after it
abbrev pub numbered : {X : Type 0} → List (List ℕ) → (ℕ → List (List ℕ) → Option X) → Option X
numbered ws f = option_and_then (λ p. f p.0 p.1) (number_first ws)

-- there are no more words
abbrev pub ended : List (List ℕ) → Bool
ended [] = true
ended (w ∷ ws) = false

-- one thing, and nothing more
abbrev pub last : {X : Type 0} → X → List (List ℕ) → Option X
last x ws = then_some (ended ws) x

-- one number, and nothing more
abbrev pub lone_number : List (List ℕ) → Option ℕ
lone_number ws = numbered ws last

-- a cut and its number, or nothing more
abbrev pub cut : List (List ℕ) → Option (Option ℕ)
cut [] = Some None
cut (w ∷ ws) = cond (bytes_eq w (codes "cut")) (option_map Some (lone_number ws)) None

-- a number, and then a cut or nothing more
abbrev pub cut_number : List (List ℕ) → Option (ℕ × Option ℕ)
cut_number ws = numbered ws (λ n rest. option_map (λ k. (n, k)) (cut rest))

-- a process and a reading
abbrev pub proposal : List (List ℕ) → Option LineCall
proposal ws = numbered ws (λ p rest. option_map (λ v. Propose p v.0 v.1) (cut_number rest))

-- a process and a list
abbrev pub view : List (List ℕ) → Option LineCall
view ws = numbered ws (λ p rest. option_map (Look p (row_of None (entries epoch rest))) (cut (beyond epoch rest)))

-- the call that a name and the words after it are
abbrev pub named_call : List ℕ → List (List ℕ) → Option LineCall
named_call w ws =
    cond (bytes_eq w (codes "recover")) (option_map (λ v. Recover v.0 v.1) (cut_number ws))
    (cond (bytes_eq w (codes "propose")) (proposal ws)
    (cond (bytes_eq w (codes "look")) (view ws)
    (cond (bytes_eq w (codes "deliver")) (option_map (λ v. Deliver v.0 v.1) (cut_number ws))
    (cond (bytes_eq w (codes "again")) (option_map (λ v. Again v.0 v.1) (cut_number ws))
    (cond (bytes_eq w (codes "lose")) (option_map Lose (lone_number ws))
    (cond (bytes_eq w (codes "crash")) (option_map Crash (lone_number ws)) None))))))
