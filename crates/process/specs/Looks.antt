-- What a look at a failure detector's list comes to. The list has, for each process, its epoch, or none where it is not trusted.
use Rattle.std.specs.Prelude.{◌≡◌, ℕ, zero, suc, ◌+◌, ◌-◌, ◌≤◌, max, Bool, true, false, cond, not, ◌&&◌, ◌||◌, List, [], ◌∷◌, ◌++◌, is_some, Some, None, Ok, Err, Option, Result, nat_le, nat_lt, slice_index_or}
use Rattle.std.specs.List.{list_all, list_any}
use Rattle.std.specs.Option.{option_map}
use Rattle.tray.specs.Best.{best_of}
use Rattle.tray.specs.Kinds.{prefers_round}
use Rattle.tray.specs.declared.kinds.Round.{Round}
use Rattle.process.specs.declared.memory.Memory.{Memory}
use Rattle.process.specs.declared.turn.NoRound.{NoRound}
use Rattle.process.specs.Ranges.{any_there}
use Rattle.process.specs.Rounds.{Step, coordinator, enter, still}

-- the epoch of process c
abbrev pub epoch_of : List (Option ℕ) → ℕ → Option ℕ
epoch_of list c = slice_index_or list (c - 1) None

-- every epoch is at most 999,999
abbrev pub epochs_fit : List (Option ℕ) → Bool
epochs_fit list = list_all (any_there (λ k. nat_le k 999999)) list

-- some process is trusted
abbrev pub trusts_some : List (Option ℕ) → Bool
trusts_some list = list_any is_some list

-- a round to go on to: above the present one, at least the one heard of, up to 999,999, its coordinator trusted
abbrev pub may_enter : ℕ → List (Option ℕ) → Memory → ℕ → Bool
may_enter n list m q = nat_lt m.round q && nat_le m.heard q && nat_le q 999999 && is_some (epoch_of list (coordinator n q))

-- the smallest number that passes a test, or none where none passes
abbrev pub Least : (ℕ → Bool) → Option ℕ → Type 0
Least test None = (q : ℕ) → test q ≡ false
Least test (Some q) = (test q ≡ true) × ((k : ℕ) → test k ≡ true → q ≤ k)

-- of the k rounds from start on those that pass a test
abbrev pub candidates : (ℕ → Bool) → ℕ → ℕ → List Round
candidates test start zero = []
candidates test start (suc k) = candidates test start k ++ cond (test (start + k)) (record { number = start + k } ∷ []) []

-- the best of n rounds in a row, in which each process is the coordinator once
abbrev pub next_round : ℕ → List (Option ℕ) → Memory → Option ℕ
next_round n list m =
    option_map (λ q. q.number) (best_of prefers_round (candidates (may_enter n list m) (max (m.round + 1) m.heard) n))

-- the coordinator's epoch is greater than the one noted
abbrev pub newer : Option ℕ → Option ℕ → Bool
newer None now = false
newer (Some k) None = false
newer (Some k) (Some now) = nat_lt k now

-- the coordinator is not trusted, or a higher round was heard of, or the coordinator has recovered since
abbrev pub must_leave : Option ℕ → Memory → Bool
must_leave now m = not (is_some now) || nat_lt m.round m.heard || newer m.epoch now

-- the coordinator's epoch is noted if none was
abbrev pub note : Option ℕ → Memory → Memory
note now m = record m { epoch = cond (is_some m.epoch) m.epoch now }

-- the next round entered, if there is one
abbrev pub go_on : ℕ → ℕ → (List Bool → Bool) → Memory → Option ℕ → Result Step NoRound
go_on n p enough m None = Err (record {})
go_on n p enough m (Some r) = Ok (enter n p enough r (still m))

-- Look: a list that trusts none has no step
unfoldable pub look : ℕ → ℕ → (List Bool → Bool) → List (Option ℕ) → Memory → Result Step NoRound
look n p enough list m =
    cond (trusts_some list)
    (cond (must_leave (epoch_of list (coordinator n m.round)) m)
    (go_on n p enough m (next_round n list m))
    (Ok (still (note (epoch_of list (coordinator n m.round)) m))))
    (Ok (still m))
